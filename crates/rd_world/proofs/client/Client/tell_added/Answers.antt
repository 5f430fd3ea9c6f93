use Rattle.rd_client.specs.Core.{tells_added}
use Rattle.rd_world.proofs.ClientLemmas.{keeps_call}
use Rattle.rd_world.proofs.client.Client.tell_added.Goals as goal

pub invariant_of-self : goal.invariant_of-self
invariant_of-self c = keeps_call c.self.inside.core c.tell_added.new.self c.self.inside.ids.items (tells_added c.args.device c.tell_added.result) tt c.tell_added.ensures.step c.tell_added.ensures.kept c.self.invariant
