use Rattle.std.specs.Prelude.{◌∷◌}
use Rattle.rd_deeds.specs.Talk.{host_begins}
use Rattle.rd_world.proofs.world.World.connect.Given as goal

-- the channel began
abbrev pub ghost-becoming : goal.ghost-becoming
ghost-becoming a = host_begins a.from.now ∷ a.self.now.items
