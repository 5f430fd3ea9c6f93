use Rattle.std.specs.Prelude.{◌∷◌}
use Rattle.rd_deeds.specs.Talk.{submits}
use Rattle.rd_world.proofs.world.World.issue.Given as goal

-- the request was accepted
abbrev pub ghost-becoming : goal.ghost-becoming
ghost-becoming a = submits a.from.now.0 a.from.now.1 a.from.now.2.now ∷ a.self.now.items
