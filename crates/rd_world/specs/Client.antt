-- A client's end whose announcements stay short.
use Rattle.std.specs.Prelude.{◌≡◌, ℕ, if◌then◌else◌, List, Option, Some, None, slice_get}
use Rattle.std.specs.Option.{option_and_then}
use Rattle.rd_client.specs.Core.{AreDevices, ClientCoreState, ClientDevice, announces}
use Rattle.rd_world.specs.Opening.{AreShort, ids_of}

-- its announcements are short, and they are a client's devices
pub record StaysShort (c : ClientCoreState) : Type 0 where
  pub short : AreShort (announces c)
  pub devices : AreDevices (announces c)

-- What a program keeps of a client, the ids of its devices beside it.
pub record KeepsClient (c : ClientCoreState) (ids : List ℕ) : Type 0 where
  pub stays : StaysShort c
  pub ids_are : ids ≡ ids_of (announces c)

-- the id of the device at a place, unless the device is removed
abbrev pub listed_at : ClientCoreState → ℕ → Option ℕ
listed_at c place = option_and_then (λ (d : ClientDevice). if d.removed then None else Some (d.announce).id) (slice_get c.devices place)
