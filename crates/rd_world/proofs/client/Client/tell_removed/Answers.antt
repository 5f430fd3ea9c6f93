use Rattle.rd_client.specs.Core.{tells_removed}
use Rattle.rd_world.proofs.ClientLemmas.{keeps_call}
use Rattle.rd_world.proofs.client.Client.tell_removed.Goals as goal

pub invariant_of-self : goal.invariant_of-self
invariant_of-self c = keeps_call c.self.inside.core c.tell_removed.new.self c.self.inside.ids.items (tells_removed c.args.device c.tell_removed.result) tt c.tell_removed.ensures.step c.tell_removed.ensures.kept c.self.invariant
