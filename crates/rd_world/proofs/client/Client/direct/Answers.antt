use Rattle.rd_client.specs.Core.{directs}
use Rattle.rd_world.proofs.ClientLemmas.{keeps_call}
use Rattle.rd_world.proofs.client.Client.direct.Goals as goal

pub invariant_of-self : goal.invariant_of-self
invariant_of-self c = keeps_call c.self.inside.core c.direct.new.self c.self.inside.ids.items (directs c.args.job.now c.args.device c.args.status c.direct.result) tt c.direct.ensures.step c.direct.ensures.kept c.self.invariant
