use Rattle.rd_client.specs.Core.{begins}
use Rattle.rd_world.proofs.ClientLemmas.{keeps_call}
use Rattle.rd_world.proofs.client.Client.begin.Goals as goal

pub invariant_of-self : goal.invariant_of-self
invariant_of-self c = keeps_call c.self.inside.core c.begin.new.self c.self.inside.ids.items (begins c.args.channel) tt c.begin.ensures.step c.begin.ensures.kept c.self.invariant
