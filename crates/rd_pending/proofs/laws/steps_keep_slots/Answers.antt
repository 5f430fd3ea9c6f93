use Rattle.rd_pending.proofs.StepSlots.{new_slots, step_slots}
use Rattle.rd_pending.proofs.laws.steps_keep_slots.Goals as goal

pub returns-clause-new : goal.returns-clause-new
returns-clause-new c = new_slots

pub returns-clause-step : goal.returns-clause-step
returns-clause-step c = step_slots
