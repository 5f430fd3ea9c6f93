use Rattle.std.specs.Prelude.{◌∷◌}
use Rattle.rd_deeds.specs.Talk.{host_ends}
use Rattle.rd_world.proofs.CutLemmas.{drop_stores}
use Rattle.rd_world.proofs.world.World.cut_channel.Given as goal

-- the devices were cut off, and the channel ended
abbrev pub ghost-becoming : goal.ghost-becoming
ghost-becoming a = host_ends a.from.now.0 ∷ drop_stores a.from.now.1.now a.self.now.items
