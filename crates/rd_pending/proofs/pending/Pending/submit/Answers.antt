use Rattle.rd_pending.specs.Table.{submits}
use Rattle.rd_pending.proofs.Reaching.{step_reached}
use Rattle.rd_pending.proofs.pending.Pending.submit.Goals as goal

pub invariant_of-self : goal.invariant_of-self
invariant_of-self c = step_reached c.self.inside.table c.submit.new.self (submits c.args.app c.args.target c.args.op c.submit.result) c.self.invariant c.submit.ensures

pub returns-clause-reached : goal.returns-clause-reached
returns-clause-reached c = step_reached c.self.inside.table c.submit.new.self (submits c.args.app c.args.target c.args.op c.submit.result) c.self.invariant c.submit.ensures
