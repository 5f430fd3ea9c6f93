-- To which devices requests come, and when.
use Rattle.std.specs.Prelude.{◌≡◌, true, false, List}
use Rattle.std.specs.Option.{option_map_or}
use Rattle.rd_served_causes.specs.ActedActed.{state_read}
use Rattle.rd_base.specs.declared.journal.Item.TheVariants.{Came}
use Rattle.rd_client.specs.Order.{is_client_ready}
use Rattle.rd_deeds.specs.Talk.{Deed, client_read, is_removed, stores}

-- A request comes to a device only where that is there for the host: the messages that were read on the request's channel made the client ready, so that it lists its devices there, and the device wasn't removed, or was added again.
abbrev pub ComesThere : List Deed → Deed → Type 0
ComesThere before (stores device (Came key)) =
    (option_map_or is_client_ready (state_read (client_read key.channel before)) false ≡ true) × (is_removed device before ≡ false)
ComesThere before _ = Unit {0}
