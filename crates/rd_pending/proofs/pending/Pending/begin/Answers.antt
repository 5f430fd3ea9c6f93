use Rattle.rd_pending.specs.Table.{begins}
use Rattle.rd_pending.proofs.Reaching.{step_reached}
use Rattle.rd_pending.proofs.pending.Pending.begin.Goals as goal

pub invariant_of-self : goal.invariant_of-self
invariant_of-self c = step_reached c.self.inside.table c.begin.new.self (begins c.args.channel c.begin.result) c.self.invariant c.begin.ensures

pub returns-clause-reached : goal.returns-clause-reached
returns-clause-reached c = step_reached c.self.inside.table c.begin.new.self (begins c.args.channel c.begin.result) c.self.invariant c.begin.ensures
