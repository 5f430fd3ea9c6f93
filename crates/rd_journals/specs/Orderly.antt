-- What holds of a world at each point between two events: each station is as its journal says, which is what the deeds tell; each key that came was read;
-- and while no channel is open nothing is under way, or to be written.
use Rattle.std.specs.Prelude.{◌≡◌, ℕ, suc, ◌<◌, List, [], length, filter, reverse, Option, Some, None}
use Rattle.std.specs.Map.{lookup}
use Rattle.std.specs.Ordering.{nat_cmp}
use Rattle.std.specs.BTreeMap.{is_at}
use Rattle.rd_base.specs.declared.journal.Key.{Key}
use Rattle.rd_base.specs.Lawful.{IsBelow}
use Rattle.rd_client.specs.Core.{Outgoing, job_of}
use Rattle.rd_drive.specs.declared.plan.Job.{Job}
use Rattle.rd_hello.specs.declared.end_fault.EndFault.{EndFault}
use Rattle.rd_irp.specs.declared.request.Request.{Request}
use Rattle.rd_station.specs.Memory.{NamesKey}
use Rattle.rd_station.specs.Station.{StationState}
use Rattle.rd_deeds.specs.Talk.{Deed, EachAfter, client_read, is_request, journal, request_at}
use Rattle.rd_world.specs.World.{Kept, WorldState}
use Rattle.rd_declared.specs.declared.device.SessionDevice.{SessionDevice}
use Rattle.rd_journals.specs.Reads.{ComesRead, IsGiven}
use Rattle.rd_journals.specs.Stations.{IsOn}

-- a device has this station
abbrev pub HasStation : List (ℕ × StationState SessionDevice) → ℕ → StationState SessionDevice → Type 0
HasStation stations d s = lookup (is_at (nat_cmp d)) stations ≡ Some s

-- the channel that is open, or else the one that begins next
abbrev pub current : Option ℕ → ℕ → ℕ
current None channels = suc channels
current (Some c) channels = channels

-- a job that may come next: it is of a request that was read, and its key is above all that are named
pub record IsNext (stations : List (ℕ × StationState SessionDevice)) (channels asked : ℕ) (deeds : List Deed) (device : ℕ) (job : Job) : Type 0 where
  pub channel : job.key.channel ≡ channels
  pub index : job.key.index < asked
  pub above : (d : ℕ) (s : StationState SessionDevice) → HasStation stations d s → (key : Key) → NamesKey s.journal key → IsBelow key job.key
  pub request : Request
  pub read : request_at (client_read channels deeds) job.key.index ≡ Some request
  pub device_is : device ≡ request.device
  pub job_is : job ≡ job_of request channels job.key.index

-- nothing is under way or to be written, and no job is kept back
pub record IsShut (own requests : List (List ℕ)) (answers : List Outgoing) (to_client to_host : List ℕ) (kept : Option Kept) : Type 0 where
  pub own_none : own ≡ []
  pub requests_none : requests ≡ []
  pub answers_none : answers ≡ []
  pub to_client_none : to_client ≡ []
  pub to_host_none : to_host ≡ []
  pub kept_none : kept ≡ None

-- each device's station is on its channel, and its journal is what the deeds tell; what is named was read
pub record AreHeld (at : ℕ → ℕ) (channels asked : ℕ) (stations : List (ℕ × StationState SessionDevice)) (deeds : List Deed) : Type 0 where
  pub tied : (d : ℕ) (s : StationState SessionDevice) → HasStation stations d s → reverse (journal d deeds) ≡ s.journal
  pub on : (d : ℕ) (s : StationState SessionDevice) → HasStation stations d s → IsOn (at d) s
  pub named : (d : ℕ) (s : StationState SessionDevice) → HasStation stations d s → (key : Key) → NamesKey s.journal key → IsGiven channels asked key
  pub none : (d : ℕ) → lookup (is_at (nat_cmp d)) stations ≡ None → journal d deeds ≡ []
  pub reads : EachAfter ComesRead deeds

pub record AreOrdered (stations : List (ℕ × StationState SessionDevice)) (deeds : List Deed) (channels client_channel asked : ℕ) (fault : Option EndFault) (answers : List Outgoing) (opened : Option ℕ) (own requests : List (List ℕ)) (to_client to_host : List ℕ) (kept : Option Kept) : Type 0 where
  pub held : AreHeld (λ d. current opened channels) channels asked stations deeds
  pub counted : fault ≡ None → length (filter is_request (client_read channels deeds)) ≡ asked
  pub unread : (c : ℕ) → channels < c → client_read c deeds ≡ []
  pub same_channel : client_channel ≡ channels
  pub same_opened : (c : ℕ) → opened ≡ Some c → c ≡ channels
  pub kept_next : (k : Kept) → kept ≡ Some k → IsNext stations channels asked deeds k.device k.job
  pub shut : opened ≡ None → IsShut own requests answers to_client to_host kept

abbrev pub Orderly : WorldState → Type 0
Orderly w = AreOrdered w.stations w.deeds w.channels (w.client).channel (w.client).asked ((w.client).core).fault ((w.client).core).outbox ((w.side).table).channel (((w.side).core).core).outbox ((w.side).table).outbox (w.to_client).pipe (w.to_host).pipe w.kept

-- the same while a channel is open
abbrev pub OrderlyOn : ℕ → WorldState → Type 0
OrderlyOn c w = Orderly w × (((w.side).table).channel ≡ Some c)
