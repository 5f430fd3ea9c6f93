use Rattle.rd_pending.specs.Table.{takes}
use Rattle.rd_pending.proofs.Reaching.{step_reached}
use Rattle.rd_pending.proofs.pending.Pending.take.Goals as goal

pub invariant_of-self : goal.invariant_of-self
invariant_of-self c = step_reached c.self.inside.table c.take.new.self (takes c.args.number c.take.result) c.self.invariant c.take.ensures.step

pub returns-clause-reached : goal.returns-clause-reached
returns-clause-reached c = step_reached c.self.inside.table c.take.new.self (takes c.args.number c.take.result) c.self.invariant c.take.ensures.step
