use Rattle.rd_pending.specs.Table.{drops}
use Rattle.rd_pending.proofs.Reaching.{step_reached}
use Rattle.rd_pending.proofs.pending.Pending.drop_channel.Goals as goal

pub invariant_of-self : goal.invariant_of-self
invariant_of-self c = step_reached c.self.inside.table c.drop_channel.new.self drops c.self.invariant c.drop_channel.ensures

pub returns-clause-reached : goal.returns-clause-reached
returns-clause-reached c = step_reached c.self.inside.table c.drop_channel.new.self drops c.self.invariant c.drop_channel.ensures
