use Rattle.rd_client.specs.Core.{hears}
use Rattle.rd_world.proofs.ClientLemmas.{keeps_call}
use Rattle.rd_world.proofs.client.Client.hear.Goals as goal

pub invariant_of-self : goal.invariant_of-self
invariant_of-self c = keeps_call c.self.inside.core c.hear.new.self c.self.inside.ids.items (hears c.args.message.now c.hear.result) tt c.hear.ensures.step c.hear.ensures.kept c.self.invariant
