use Rattle.std.specs.Prelude.{◌∷◌}
use Rattle.rd_deeds.specs.Talk.{host_writes}
use Rattle.rd_world.proofs.world.World.host_send.Given as goal

-- the message was written
abbrev pub ghost-becoming : goal.ghost-becoming
ghost-becoming a = host_writes a.from.now.0 a.from.now.1.now ∷ a.self.now.items
