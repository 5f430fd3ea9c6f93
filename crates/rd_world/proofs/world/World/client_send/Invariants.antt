use Rattle.std.specs.Prelude.{◌∷◌}
use Rattle.std.specs.Option.{option_map_or}
use Rattle.rd_client.specs.Core.{Outgoing, client_send}
use Rattle.rd_world.specs.Events.{deed_on}
use Rattle.rd_world.proofs.world.World.client_send.Given as goal

-- the message was written
abbrev pub ghost-becoming : goal.ghost-becoming
ghost-becoming a = let deeds = a.self.now.items in option_map_or (λ (o : Outgoing). deed_on a.from.now.0 o ∷ deeds) (client_send a.from.now.1.now).1 deeds
