use Rattle.rd_pending.specs.Table.{lives}
use Rattle.rd_pending.proofs.Reaching.{step_reached}
use Rattle.rd_pending.proofs.pending.Pending.live.Goals as goal

pub invariant_of-self : goal.invariant_of-self
invariant_of-self c = step_reached c.self.inside.table c.live.new.self (lives c.args.device c.live.result) c.self.invariant c.live.ensures

pub returns-clause-reached : goal.returns-clause-reached
returns-clause-reached c = step_reached c.self.inside.table c.live.new.self (lives c.args.device c.live.result) c.self.invariant c.live.ensures
