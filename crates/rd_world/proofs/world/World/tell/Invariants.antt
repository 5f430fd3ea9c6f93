use Rattle.std.specs.Prelude.{◌∷◌}
use Rattle.rd_deeds.specs.Talk.{tells}
use Rattle.rd_world.proofs.world.World.tell.Given as goal

-- the client is told
abbrev pub ghost-becoming : goal.ghost-becoming
ghost-becoming a = tells a.from.now.now ∷ a.self.now.items
