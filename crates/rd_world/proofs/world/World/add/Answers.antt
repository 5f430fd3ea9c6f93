use Rattle.std.proofs.Common.{subst, sym}
use Rattle.rd_client.specs.Core.{MayTellAdded}
use Rattle.rd_world.specs.World.{WorldState}
use Rattle.rd_world.proofs.StepLemmas.{refreshed_added}
use Rattle.rd_world.proofs.world.World.add.Goals as goal

pub tell_added-requires : goal.tell_added-requires
tell_added-requires c = subst (λ (w : WorldState). MayTellAdded w.client c.args.device) (sym c.in_ok-refresh.ensures) (refreshed_added c.args.self.now c.args.device c.requires)
