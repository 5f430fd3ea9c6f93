use Rattle.std.specs.Prelude.{◌∷◌}
use Rattle.rd_deeds.specs.Talk.{host_reads}
use Rattle.rd_world.proofs.world.World.host_hear.Given as goal

-- the message was read
abbrev pub ghost-becoming : goal.ghost-becoming
ghost-becoming a = host_reads a.from.now.0 a.from.now.1.now ∷ a.self.now.items
