-- What a client said of its devices, and will have said once all that waits is written; and that each request that never comes is refused behind it.
use Rattle.std.specs.Prelude.{◌≡◌, ℕ, ◌<◌, ◌≤◌, ◌^◌, ◌&&◌, not, true, Bool, List, [], ◌∷◌, length, Option, Some, None}
use Rattle.std.specs.List.{AllByRecursion}
use Rattle.rd_base.specs.Statuses.{no_such_device}
use Rattle.rd_base.specs.declared.journal.Key.{Key}
use Rattle.rd_client.specs.Core.{ClientCoreState, Outgoing, announces, has_device, is_gone}
use Rattle.rd_client.specs.Order.{is_client_ready}
use Rattle.rd_devices.specs.declared.list.Announce.{Announce}
use Rattle.rd_irp.specs.declared.completion.Head.{Head}
use Rattle.rd_refused.specs.JournalsOrderly.{HasStation}
use Rattle.rd_refused.specs.Refused.{RefusesDirectly}
use Rattle.rd_script.specs.declared.line.Line.{Line}
use Rattle.rd_script.specs.declared.line.Line.TheVariants as line
use Rattle.rd_script.specs.declared.line.NumberedLine.{NumberedLine}
use Rattle.rd_station.specs.Station.{StationState, held}
use Rattle.rd_deeds.specs.Talk.{Deed, EachAfter, client_wrote, head_in}
use Rattle.rd_deeds.specs.Told.{is_said_gone, worn_entries}
use Rattle.rd_world.specs.World.{WorldState}
use Rattle.rd_declared.specs.declared.device.SessionDevice.{SessionDevice}

-- ---- the devices of lines

-- the number of a device that a line declares has room in its field
unfoldable pub DeclaresInRoom : Line → Type 0
DeclaresInRoom (line.Drive device name) = device < 2 ^ 32
DeclaresInRoom (line.DriveFold device name) = device < 2 ^ 32
DeclaresInRoom (line.Printer device name driver printer) = device < 2 ^ 32
DeclaresInRoom _ = Unit {0}

-- the same of each of these lines
abbrev pub DeclareInRoom : List NumberedLine → Type 0
DeclareInRoom lines = AllByRecursion (λ (l : NumberedLine). DeclaresInRoom l.line) lines

-- the numbers of an announcement have room in their fields
abbrev pub HasRoomToAnnounce : Announce → Type 0
HasRoomToAnnounce a = (a.kind < 2 ^ 32) × (a.id < 2 ^ 32)

-- ---- what is said

-- what was written on a channel once all that waits was
abbrev pub written_then : List Outgoing → List (List ℕ) → List (List ℕ)
written_then [] older = older
written_then (o ∷ others) older = written_then others (o.message ∷ older)

-- whether the host was last told by a client that a device is there
abbrev pub is_told_by : ClientCoreState → ℕ → Bool
is_told_by c device = is_client_ready (c.core).shake && (has_device c device && not (is_gone c device))

-- what is said of each device is what the marks of a client say that is ready; before it is nothing was said
abbrev pub SaysMarks : ClientCoreState → List (List ℕ) → Type 0
SaysMarks c messages = (device : ℕ) → is_said_gone device messages ≡ not (is_told_by c device)

-- A message that answers a key says that there is no such device, and stands behind what says that its device is gone.
abbrev pub RefusesGone : Option Key → List ℕ → List (List ℕ) → Type 0
RefusesGone None message older = Unit {0}
RefusesGone (Some key) message older = (h : Head) × (head_in message ≡ Some h) × (h.status ≡ no_such_device) × (is_said_gone h.device older ≡ true)

abbrev pub AllRefuse : List Outgoing → List (List ℕ) → Type 0
AllRefuse [] older = Unit {0}
AllRefuse (o ∷ others) older = RefusesGone o.answers o.message older × AllRefuse others (o.message ∷ older)

-- What a client said is what its marks say, and what it refused, or will, it refused behind that; its devices have stations, and their numbers can be written.
pub record AreSaying (clt : ClientCoreState) (stations : List (ℕ × StationState SessionDevice)) (channels : ℕ) (opened : Option ℕ) (deeds : List Deed) : Type 0 where
  pub room : AllByRecursion HasRoomToAnnounce (announces clt)
  pub stationed : (d : ℕ) → has_device clt d ≡ true → (s : StationState SessionDevice) × HasStation stations d s
  pub marks : (c : ℕ) → opened ≡ Some c → SaysMarks clt (written_then (clt.core).outbox (client_wrote channels deeds))
  pub out : AllRefuse (clt.core).outbox (client_wrote channels deeds)
  pub each : EachAfter RefusesDirectly deeds

abbrev pub IsSaying : WorldState → Type 0
IsSaying w = AreSaying w.client w.stations w.channels ((w.side).table).channel w.deeds

-- a device that the host was last told of has a live station
abbrev pub AreLive : ClientCoreState → List (ℕ × StationState SessionDevice) → Option ℕ → Type 0
AreLive clt stations opened = (c : ℕ) → opened ≡ Some c → (d : ℕ) (s : StationState SessionDevice) → HasStation stations d s → is_told_by clt d ≡ true → s.live ≡ true

abbrev pub IsLiveIn : WorldState → Type 0
IsLiveIn w = AreLive w.client w.stations ((w.side).table).channel

-- a station's journal has room, and it holds few jobs
abbrev pub KeepsRoom : StationState SessionDevice → Type 0
KeepsRoom s = (length s.journal < worn_entries) × (length (held s) ≤ 128)

abbrev pub AllKeepRoom : List (ℕ × StationState SessionDevice) → Type 0
AllKeepRoom stations = (d : ℕ) (s : StationState SessionDevice) → HasStation stations d s → KeepsRoom s
