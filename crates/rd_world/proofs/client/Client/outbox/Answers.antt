use Rattle.rd_client.specs.Core.{sends}
use Rattle.rd_world.proofs.ClientLemmas.{keeps_call}
use Rattle.rd_world.proofs.client.Client.outbox.Goals as goal

pub invariant_of-self : goal.invariant_of-self
invariant_of-self c = keeps_call c.self.inside.core c.outbox.new.self c.self.inside.ids.items (sends c.outbox.ensures.step.0) tt c.outbox.ensures.step.1 c.outbox.ensures.kept c.self.invariant
