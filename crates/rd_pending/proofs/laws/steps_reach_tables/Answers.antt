use Rattle.rd_pending.proofs.Reaching.{first_reached, goes, step_reached}
use Rattle.rd_pending.proofs.laws.steps_reach_tables.Goals as goal

pub returns-clause-new : goal.returns-clause-new
returns-clause-new c = first_reached

pub returns-clause-goes : goal.returns-clause-goes
returns-clause-goes c h call new holds step = goes h holds call new step

pub returns-clause-step : goal.returns-clause-step
returns-clause-step c = step_reached
