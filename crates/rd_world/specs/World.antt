-- Both sides of a session in one state: a host with its applications, a client with its devices and its hands, and the bytes between them. The recording is no
-- part of it: what both sides did tells it.
use Rattle.std.specs.Prelude.{ℕ, zero, Bool, false, true, suc, ◌+◌, ◌-◌, ◌%◌, ◌^◌, ◌&&◌, nat_lt, if◌then◌else◌, List, [], ◌∷◌, ◌++◌, length, map, reverse, take, drop, Option, Some, None}
use Rattle.std.specs.List.{list_any}
use Rattle.std.specs.Map.{lookup}
use Rattle.std.specs.Ordering.{nat_cmp}
use Rattle.std.specs.BTreeMap.{insert_entry, is_at}
use Rattle.std.specs.Option.{option_map_or, unwrap_or}
use Rattle.rd_base.specs.declared.journal.Item.{Item}
use Rattle.rd_base.specs.declared.journal.Item.TheVariants.{Ran}
use Rattle.rd_base.specs.declared.journal.Key.{Key}
use Rattle.rd_chunk.specs.Carrier.{carrier_of}
use Rattle.rd_chunk.specs.Frames.{data_of, is_last, size_of}
use Rattle.rd_client.specs.Core.{ClientCoreState}
use Rattle.rd_drive.specs.declared.plan.Job.{Job}
use Rattle.rd_irp.specs.declared.op.Op.{Op}
use Rattle.rd_pending.specs.declared.calls.Handle.{Handle}
use Rattle.rd_pending.specs.Table.{TableState}
use Rattle.rd_printer.specs.Cache.{CacheState, bytes_cmp}
use Rattle.rd_script.specs.declared.outcome.Outcome.{Outcome}
use Rattle.rd_station.specs.Station.{StationState, is_key}
use Rattle.rd_declared.specs.Devices.{PrinterNames}
use Rattle.rd_declared.specs.declared.device.SessionDevice.{SessionDevice}
use Rattle.rd_deeds.specs.Host.{HostSide}
use Rattle.rd_deeds.specs.Talk.{Deed, host_writes, stores}

-- What an application asks for by a line: the name of its handle, the device of a line that opens it, and the operation.
pub record Asked : Type 0 where
  pub handle : List ℕ
  pub device : Option ℕ
  pub op : Op

-- An application: what all its lines ask for, in order; to how many of them the script has come; the number of the request whose outcome it awaits, which the
-- line after those with an outcome asked for; what its handles hold; and the outcomes, a line each.
pub record ApplicationState : Type 0 where
  pub asks : List Asked
  pub queued : ℕ
  pub awaits : Option ℕ
  pub handles : List (List ℕ × Handle)
  pub outcomes : List Outcome

abbrev pub new_application : ApplicationState
new_application = record { asks = []; queued = 0; awaits = None; handles = []; outcomes = [] }

-- One direction of a channel: the bytes that its reader handled since its last message, and how many it handled on the channel, modulo 2^64; what it read
-- and didn't handle yet; what is under way; and whether the channel ended.
pub record WayState : Type 0 where
  pub part : List ℕ
  pub taken : ℕ
  pub unhandled : List ℕ
  pub pipe : List ℕ
  pub ended : Bool

abbrev pub new_way : WayState
new_way = record { part = []; taken = 0; unhandled = []; pipe = []; ended = false }

-- a job that the client keeps back, since its station is full; what was read after it isn't handled before it has gone
pub record Kept : Type 0 where
  pub device : ℕ
  pub job : Job

pub record WorldState : Type 0 where
  -- the script's settings
  pub moment : ℕ
  pub piece : ℕ
  -- where the draws stand
  pub draws : ℕ
  -- the two ends
  pub client : ClientCoreState
  pub side : HostSide
  pub stations : List (ℕ × StationState SessionDevice)
  pub printers : List (ℕ × PrinterNames)
  pub cache : CacheState
  pub applications : List (ℕ × ApplicationState)
  -- the job that each hand holds, and its device
  pub hands : List (Option (ℕ × Job))
  -- the bytes that are under way, and what their readers did with those that came
  pub to_client : WayState
  pub to_host : WayState
  pub kept : Option Kept
  -- how many channels began
  pub channels : ℕ
  -- the numbers of the lines that did nothing
  pub idle : List ℕ
  -- what both sides did, the newest first: a history, of which a program keeps nothing
  pub deeds : List Deed

-- ---- messages of a stream

-- the first frame of a stream, and what stands after it, where it is whole
abbrev pub first_frame : List ℕ → Option (List ℕ × List ℕ)
first_frame bytes =
    if nat_lt (length bytes) 12 then None
    else (if nat_lt (length bytes) (size_of bytes + 4) then None
    else Some (take (size_of bytes + 4) bytes, drop (size_of bytes + 4) bytes))

-- with the first frame of a stream, before which these data came: the message where it is the last one, else what goes on with it
abbrev pub joined_by : List ℕ → Option (List ℕ × List ℕ) → (List ℕ → List ℕ → Option (List ℕ × List ℕ)) → Option (List ℕ × List ℕ)
joined_by joined None on = None
joined_by joined (Some (frame, rest)) on = if is_last frame then Some (joined ++ data_of frame, rest) else on (joined ++ data_of frame) rest

-- the first message of a stream of frames, of which these data came before, and what stands after it, where it is whole; at most so many frames are
-- looked at
abbrev pub message_in : ℕ → List ℕ → List ℕ → Option (List ℕ × List ℕ)
message_in zero joined bytes = None
message_in (suc most) joined bytes = joined_by joined (first_frame bytes) (message_in most)

abbrev pub first_message : List ℕ → Option (List ℕ × List ℕ)
first_message bytes = message_in (length bytes) [] bytes

-- ---- one direction

-- a message goes on its way
abbrev pub carrying : WayState → List ℕ → WayState
carrying y message = record y { pipe = y.pipe ++ carrier_of message }

-- the reader reads so many bytes
abbrev pub having_read : ℕ → WayState → WayState
having_read n y = record y { unhandled = y.unhandled ++ take n y.pipe; pipe = drop n y.pipe }

-- a count of bytes, modulo 2^64
abbrev pub byte_count : ℕ → ℕ
byte_count n = n % 2 ^ 64

-- it handles the first message of what it read, if one is whole, else all that it read
abbrev pub handling_by : WayState → Option (List ℕ × List ℕ) → WayState × Option (List ℕ)
handling_by y None = (record y { part = y.part ++ y.unhandled; taken = byte_count (y.taken + length y.unhandled); unhandled = [] }, None)
handling_by y (Some (message, rest)) = (record y { part = []; taken = byte_count (y.taken + (length y.unhandled - length rest)); unhandled = rest }, Some message)

abbrev pub handling : WayState → WayState × Option (List ℕ)
handling y = handling_by y (first_message (y.part ++ y.unhandled))

-- so many messages may be whole, and one more
abbrev pub most_messages : WayState → ℕ
most_messages y = length y.part + length y.unhandled + 1

-- the channel ends: what is under way and what isn't handled is gone
abbrev pub ending : WayState → WayState
ending y = record y { unhandled = []; pipe = []; ended = true }

-- ---- lookups

abbrev pub station_at : WorldState → ℕ → Option (StationState SessionDevice)
station_at w device = lookup (is_at (nat_cmp device)) w.stations

-- what a station stored beyond so many entries, the newest first
abbrev pub stored_beyond : ℕ → ℕ → StationState SessionDevice → List Deed
stored_beyond count device s = map (stores device) (reverse (drop count s.journal))

abbrev pub with_station : WorldState → ℕ → StationState SessionDevice → WorldState
with_station w device s =
    let count = option_map_or (λ (old : StationState SessionDevice). length old.journal) (station_at w device) 0 in
    record w { stations = insert_entry nat_cmp w.stations device s; deeds = stored_beyond count device s ++ w.deeds }

-- an end did this
abbrev pub with_deed : WorldState → Deed → WorldState
with_deed w deed = record w { deeds = deed ∷ w.deeds }

abbrev pub application_at : WorldState → ℕ → ApplicationState
application_at w a = unwrap_or (lookup (is_at (nat_cmp a)) w.applications) new_application

abbrev pub with_application : WorldState → ℕ → ApplicationState → WorldState
with_application w a application = record w { applications = insert_entry nat_cmp w.applications a application }

-- the handle that a name holds
abbrev pub handle_named : ApplicationState → List ℕ → Option Handle
handle_named a name = lookup (is_at (bytes_cmp name)) a.handles

-- the host's table
abbrev pub with_table : WorldState → TableState → WorldState
with_table w t = record w { side = record w.side { table = t } }

-- ---- what is sent

-- a message of the host goes on its way
abbrev pub host_sends : WorldState → List ℕ → WorldState
host_sends w message = with_deed (record w { to_client = carrying w.to_client message }) (host_writes w.channels message)

-- a message of the client, by what the client does with it
abbrev pub client_sends : WorldState → Deed → List ℕ → WorldState
client_sends w deed message = with_deed (record w { to_host = carrying w.to_host message }) deed

-- ---- the journals

-- each device's journal, by the device's id
abbrev pub journals_in : WorldState → List (ℕ × List Item)
journals_in w = map (λ (e : ℕ × StationState SessionDevice). let s = e.1 in (e.0, s.journal)) w.stations

-- whether an entry says that the request of a key found no memory when it ran
abbrev pub starves_at : Key → Item → Bool
starves_at key (Ran k moment starved parked) = starved && is_key k key
starves_at key _ = false

-- whether one of the journals says so
abbrev pub starved_in : List (ℕ × List Item) → Key → Bool
starved_in journals key = list_any (λ (j : ℕ × List Item). list_any (starves_at key) j.1) journals

-- the runs that found no memory
abbrev pub marks_of : WorldState → Key → Bool
marks_of w = starved_in (journals_in w)
