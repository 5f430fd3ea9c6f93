use Rattle.rd_pending.specs.Table.{completes}
use Rattle.rd_pending.proofs.Reaching.{step_reached}
use Rattle.rd_pending.proofs.pending.Pending.complete.Goals as goal

pub invariant_of-self : goal.invariant_of-self
invariant_of-self c = step_reached c.self.inside.table c.complete.new.self (completes c.args.head c.args.body.now c.complete.result) c.self.invariant c.complete.ensures

pub returns-clause-reached : goal.returns-clause-reached
returns-clause-reached c = step_reached c.self.inside.table c.complete.new.self (completes c.args.head c.args.body.now c.complete.result) c.self.invariant c.complete.ensures
