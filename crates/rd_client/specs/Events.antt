-- What is done at a client's end on a channel, as events one after another, and where it stands in the order of its messages meanwhile.
use Rattle.std.specs.Prelude.{◌≡◌, ℕ, ◌<◌, ◌^◌, ◌==◌, Bool, true, false, not, List, [], ◌∷◌, length, map, All, IsTrue, is_ok, Ok, Some}
use Rattle.std.specs.List.{AllByRecursion, list_any}
use Rattle.rd_base.specs.Layout.{met}
use Rattle.rd_base.specs.Position.{at_start}
use Rattle.rd_core.specs.Order.{IsStand}
use Rattle.rd_devices.specs.declared.list.Announce.{Announce}
use Rattle.rd_hello.specs.Moves.{Move, reads, writes}
use Rattle.rd_irp.specs.Completion.{completion_head}
use Rattle.rd_client.specs.Core.{AreDevices, ClientCall, ClientCoreState, ClientDevice, ClientStep, KeepsClientChannel, Outgoing, announces, hears, may_be_asked, sends}
use Rattle.rd_client.specs.Order.{ClientStanding, ClientTelling, client_part, is_client_ready}

-- an event at a client's end: a call of it, or a completion of one of its devices is written, which never waits in its outbox
pub data ClientEvent : Type 0 where
  calls : ClientCall → ClientEvent
  completes : List ℕ → ClientEvent

-- The moves of a call: a message is read that is heard without a fault, and one is written that is handed out.
abbrev pub client_call_moves : ClientCall → List Move
client_call_moves (hears message (Ok heard)) = reads message ∷ []
client_call_moves (sends (Some o)) = writes o.message ∷ []
client_call_moves _ = []

abbrev pub client_event_moves : ClientEvent → List Move
client_event_moves (calls call) = client_call_moves call
client_event_moves (completes bytes) = writes bytes ∷ []

-- a completion of a device may be written where nothing waits in its outbox, and a request may have come
pub record MayComplete (c : ClientCoreState) (bytes : List ℕ) : Type 0 where
  pub none_waits : (c.core).outbox ≡ []
  pub asked : IsTrue (may_be_asked (c.core).shake)
  pub completion : IsTrue (is_ok (met completion_head (at_start bytes)))

-- An event that begins no channel: the client before it, and after it.
abbrev pub ClientEventStep : ClientCoreState → ClientEvent → ClientCoreState → Type 0
ClientEventStep old (calls call) new = KeepsClientChannel call × ClientStep old call new
ClientEventStep old (completes bytes) new = MayComplete old bytes × (new ≡ old)

-- Such events lead from one client to another.
abbrev pub ClientEvents : ClientCoreState → List ClientEvent → ClientCoreState → Type 0
ClientEvents old [] new = new ≡ old
ClientEvents old (event ∷ events) new = (next : ClientCoreState) × ClientEventStep old event next × ClientEvents next events new

-- the messages that wait to be sent, and their moves
abbrev pub waiting_messages : ClientCoreState → List (List ℕ)
waiting_messages c = map (λ (o : Outgoing). o.message) (c.core).outbox

abbrev pub client_waiting_moves : ClientCoreState → List Move
client_waiting_moves c = map writes (waiting_messages c)

-- the numbers of a device are in the ranges of their fields, and its DOS name fills its field
abbrev pub IsWritableDevice : Announce → Type 0
IsWritableDevice a = (a.kind < 2 ^ 32) × (a.id < 2 ^ 32) × (length a.dos ≡ 8)

abbrev pub AreWritable : List Announce → Type 0
AreWritable devices = All IsWritableDevice devices

-- a device as it is announced, but for its data
abbrev pub without_data : Announce → Announce
without_data a = record a { body = [] }

-- no device is told of
abbrev pub untold : ClientTelling
untold = record { lists = false; told = [] }

-- the client's devices, and which of them are gone when the channel begins
module _ (devices : List Announce) (gone : ℕ → Bool) where
  -- what is told when all that waits is written: before the client is ready nothing, and no device is removed or added; then those that aren't removed
  abbrev pub IsTold : Bool → ClientTelling → List ClientDevice → Type 0
  IsTold false t marked = (t ≡ untold) × AllByRecursion (λ (d : ClientDevice). d.removed ≡ gone (d.announce).id) marked
  IsTold true t marked = (t.lists ≡ false) × AllByRecursion (λ (d : ClientDevice). list_any (λ id. id == (d.announce).id) t.told ≡ not d.removed) marked

  -- A client stands here in the order of its messages: what waits to be sent may be written, and comes to this telling.
  pub record ClientStandsAt (s : ClientStanding) (c : ClientCoreState) : Type 0 where
    pub telling : ClientTelling
    pub stand : IsStand (client_part devices gone) s (c.core).shake (waiting_messages c) telling
    pub told : IsTold (is_client_ready (c.core).shake) telling c.devices
    -- only their data may have changed
    pub same : map without_data (announces c) ≡ map without_data devices
    pub are : AreDevices (announces c)
    pub writable : AreWritable devices
