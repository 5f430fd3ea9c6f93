use Rattle.rd_pending.specs.Table.{sends}
use Rattle.rd_pending.proofs.Reaching.{sent_message, step_reached}
use Rattle.rd_pending.proofs.pending.Pending.outbox.Goals as goal

pub invariant_of-self : goal.invariant_of-self
invariant_of-self c = step_reached c.self.inside.table c.send.new.self (sends c.send.result) c.self.invariant c.send.ensures

pub returns-clause-reached : goal.returns-clause-reached
returns-clause-reached c = step_reached c.self.inside.table c.send.new.self (sends c.send.result) c.self.invariant c.send.ensures

pub returns-clause-message : goal.returns-clause-message
returns-clause-message c = sent_message c.self.inside.table c.send.new.self c.send.result c.self.invariant c.send.ensures
