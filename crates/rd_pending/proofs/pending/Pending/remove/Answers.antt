use Rattle.rd_pending.specs.Table.{removes}
use Rattle.rd_pending.proofs.Reaching.{step_reached}
use Rattle.rd_pending.proofs.pending.Pending.remove.Goals as goal

pub invariant_of-self : goal.invariant_of-self
invariant_of-self c = step_reached c.self.inside.table c.remove.new.self (removes c.args.device c.remove.result) c.self.invariant c.remove.ensures

pub returns-clause-reached : goal.returns-clause-reached
returns-clause-reached c = step_reached c.self.inside.table c.remove.new.self (removes c.args.device c.remove.result) c.self.invariant c.remove.ensures
