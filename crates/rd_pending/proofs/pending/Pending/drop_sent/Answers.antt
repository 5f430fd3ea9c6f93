use Rattle.rd_pending.specs.Table.{drops_sent}
use Rattle.rd_pending.proofs.Reaching.{step_reached}
use Rattle.rd_pending.proofs.pending.Pending.drop_sent.Goals as goal

pub invariant_of-self : goal.invariant_of-self
invariant_of-self c = step_reached c.self.inside.table c.drop_sent.new.self (drops_sent c.drop_sent.result) c.self.invariant c.drop_sent.ensures

pub returns-clause-reached : goal.returns-clause-reached
returns-clause-reached c = step_reached c.self.inside.table c.drop_sent.new.self (drops_sent c.drop_sent.result) c.self.invariant c.drop_sent.ensures
