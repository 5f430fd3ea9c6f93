use Rattle.std.specs.Prelude.{◌∷◌}
use Rattle.rd_deeds.specs.Talk.{client_reads}
use Rattle.rd_world.proofs.world.World.client_hear.Given as goal

-- the message was read
abbrev pub ghost-becoming : goal.ghost-becoming
ghost-becoming a = client_reads a.from.now.0 a.from.now.1.now ∷ a.self.now.items
