use Rattle.std.specs.Prelude.{◌∷◌}
use Rattle.rd_deeds.specs.Talk.{takes}
use Rattle.rd_world.proofs.world.World.take_outcome.Given as goal

-- the outcome was handed out
abbrev pub ghost-becoming : goal.ghost-becoming
ghost-becoming a = takes a.from.now ∷ a.self.now.items
