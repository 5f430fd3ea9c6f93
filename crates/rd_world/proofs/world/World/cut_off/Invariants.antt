use Rattle.std.specs.Prelude.{◌∷◌}
use Rattle.rd_deeds.specs.Talk.{removes}
use Rattle.rd_world.proofs.CutLemmas.{removal_stores}
use Rattle.rd_world.proofs.world.World.cut_off.Given as goal

-- the device was removed, and cut off
abbrev pub ghost-becoming : goal.ghost-becoming
ghost-becoming a = removal_stores a.from.now.1.now a.from.now.0 (removes a.from.now.0 ∷ a.self.now.items)
