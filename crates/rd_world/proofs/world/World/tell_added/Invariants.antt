use Rattle.std.specs.Prelude.{◌∷◌}
use Rattle.rd_deeds.specs.Talk.{adds}
use Rattle.rd_world.proofs.world.World.tell_added.Given as goal

-- the device was added
abbrev pub ghost-becoming : goal.ghost-becoming
ghost-becoming a = adds a.from.now ∷ a.self.now.items
