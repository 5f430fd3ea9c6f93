-- What holds of a whole session of a script that came to its end: how its recording, its journals and its report belong together. What a reader believes
-- is said of what both sides did; that this is what the script's session comes to is said beside it.
use Rattle.std.specs.Prelude.{◌≡◌, ◌⊎◌, ℕ, false, true, List, [], ◌∷◌, ◌++◌, filter, filter_map, if◌then◌else◌, length, map, reverse, IfSome, Some, All}
use Rattle.std.specs.List.{flat_map}
use Rattle.std.specs.Map.{lookup}
use Rattle.std.specs.Option.{option_map_or}
use Rattle.std.specs.Ordering.{nat_cmp}
use Rattle.std.specs.BTreeMap.{is_at}
use Rattle.rd_base.specs.declared.journal.Item.{Item}
use Rattle.rd_base.specs.History.{History}
use Rattle.rd_base.specs.Lawful.{RunsAt, named_key}
use Rattle.rd_drive.specs.Replies.{AreToldBy, last_state_by, replies_by}
use Rattle.rd_irp.specs.declared.completion.Reply.{Reply}
use Rattle.rd_irp.specs.declared.request.Request.{Request}
use Rattle.rd_irp.specs.Fits.{kind_of}
use Rattle.rd_irp.specs.Written.{completion_bytes}
use Rattle.rd_printer.specs.Cache.{by_bytes}
use Rattle.rd_script.specs.declared.line.NumberedLine.{NumberedLine}
use Rattle.rd_script.specs.declared.outcome.Outcomes.{Outcomes}
use Rattle.rd_script.specs.declared.script.Script.{Script}
use Rattle.rd_script.specs.Report.{report_of}
use Rattle.rd_station.specs.Station.{StationState}
use Rattle.rd_world.specs.Acts.{AreActed, AreSaid, Tells, act_by, cache_after, control_by, first_control_of, is_settle, is_settled_host, left_open, notices_on, of_channel, tellings_on, waiting_keys}
use Rattle.rd_world.specs.Control.{Control, Telling, controlled}
use Rattle.rd_declared.specs.Devices.{Declared, device_cut, device_step}
use Rattle.rd_declared.specs.declared.device.SessionDevice.{SessionDevice}
use Rattle.rd_declared.specs.declared.device.SessionDevice.TheVariants as session
use Rattle.rd_deeds.specs.Joining.{AreJoined, Joins}
use Rattle.rd_world.specs.Lines.{HaveOutcomes, submitted}
use Rattle.rd_world.specs.Recording.{IsRecorded, client_id, host_stand, recording_of_deeds, request_of}
use Rattle.rd_world.specs.Report.{outcomes_of}
use Rattle.rd_declared.specs.Declaring.{declared_devices}
use Rattle.rd_world.specs.Run.{WorldRun, world_of}
use Rattle.rd_deeds.specs.Talk.{Deed, EachAfter, Has, answered, asked, client_read, client_wrote, completes, has_ended, host_read, host_wrote, is_request, journal, open_channel, request_at, stores}
use Rattle.rd_deeds.specs.Told.{CompletesWith, IsHeeded, Replies}
use Rattle.rd_world.specs.World.{WorldState, journals_in}

-- ---- the journals

-- the replies that a device's journal gives, from the device's beginning on
abbrev pub replies_in : List (ℕ × Declared) → List Deed → Replies
replies_in devices deeds device items =
    option_map_or (λ (d : Declared). replies_by device_step device_cut (request_of deeds) d.state items) (lookup (is_at (nat_cmp device)) devices) []

-- the key that the entry names is of a request that stands on the wire and names the device
abbrev pub IsOfDevice : List Deed → ℕ → Item → Type 0
IsOfDevice deeds device entry =
    IfSome (named_key entry) (λ key. (r : Request) × (request_at (host_wrote key.channel deeds) key.index ≡ Some r) × (r.device ≡ device))

-- An entry that names a key is stored while that key's channel is open.
abbrev pub IsStoredOpen : List Deed → Deed → Type 0
IsStoredOpen before (stores device entry) = IfSome (named_key entry) (λ key. open_channel before ≡ Some key.channel)
IsStoredOpen before deed = Unit {0}

-- The books hold one journal of each device. Its keys are requests of that device, and its entries stand while their channels are open; it ran at the
-- session's moment, and the marks of its runs are those of the device.
pub record AreJournals (moment : ℕ) (devices : List (ℕ × Declared)) (books : List (ℕ × History)) (deeds : List Deed) : Type 0 where
  pub each : map {B = ℕ × List Item} (λ (b : ℕ × History). (b.0, (b.1).items)) books ≡ map (λ (d : ℕ × Declared). (d.0, reverse (journal d.0 deeds))) devices
  pub named : (device : ℕ) → All (IsOfDevice deeds device) (journal device deeds)
  pub on_open : EachAfter IsStoredOpen deeds
  pub still_clock : (device : ℕ) → All (RunsAt moment) (journal device deeds)
  pub marked : All (λ (d : ℕ × Declared). AreToldBy device_step device_cut (request_of deeds) (d.1).state (reverse (journal d.0 deeds))) devices

-- ---- what the client tells

-- a completion is what this project's writer writes of the reply with which it completes its request: its pads are zeros, and nothing stands after it
abbrev pub IsPlain : List Deed → Deed → Type 0
IsPlain before (completes key message) = (r : Request) (reply : Reply) → request_at (client_read key.channel before) key.index ≡ Some r → CompletesWith r reply message
    → message ≡ completion_bytes (kind_of r.op) (record { device = r.device; completion = r.completion; status = reply.status }) reply.body
IsPlain before deed = Unit {0}

-- What may have been still to be written when a channel ended: with it no request there was passed over, but for the last. It tells no more of devices
-- than was done.
pub record IsLeftOver (devices : List (ℕ × Declared)) (told : List (ℕ × Telling)) (replies : Replies) (c : ℕ) (deeds : List Deed) (rest : List Deed) : Type 0 where
  pub heeded : IsHeeded replies c deeds rest
  pub tells : AreSaid (Tells devices deeds c) (of_channel c told) (tellings_on c (rest ++ deeds)) true

-- Each completion is written plainly. On a channel that didn't end all requests are read, and each is completed; on one that ended none was passed over,
-- but for the last, by some messages that may have been still to be written.
pub record AllTold (devices : List (ℕ × Declared)) (told : List (ℕ × Telling)) (replies : Replies) (deeds : List Deed) : Type 0 where
  pub plain : EachAfter IsPlain deeds
  pub all_read : (c : ℕ) → has_ended c deeds ≡ false → client_read c deeds ≡ host_wrote c deeds
  pub all_completed : (c device id : ℕ) → has_ended c deeds ≡ false → asked c device id deeds ≡ answered c device id deeds
  pub heeded : (c : ℕ) → has_ended c deeds ≡ true → (rest : List Deed) × IsLeftOver devices told replies c deeds rest

-- A channel is still, by what the control lines told so far: all was sent, told, replied to, read and heard there, and what wasn't completed waits.
pub record IsStill (devices : List (ℕ × Declared)) (control : Control) (deeds : List Deed) (c : ℕ) : Type 0 where
  pub sent : filter is_request (host_wrote c deeds) ≡ submitted c deeds
  pub owed : option_map_or is_settled_host (host_stand deeds c) false ≡ true
  pub tells : length (tellings_on c deeds) ≡ length (of_channel c control.told)
  pub notices : length (notices_on c deeds) ≡ length (of_channel c control.notices)
  pub read : client_read c deeds ≡ host_wrote c deeds
  pub heard : host_read c deeds ≡ client_wrote c deeds
  pub completed : (device id index : ℕ) → Has index (asked c device id deeds)
      → Has index (answered c device id deeds) ⊎ Has (record { channel = c; index = index }) (waiting_keys devices deeds)

-- what the control lines come to at each `settle` line
abbrev pub at_settles : Control → List NumberedLine → List Control
at_settles c [] = []
at_settles c (l ∷ ls) = (if is_settle l.line then c ∷ [] else []) ++ at_settles (controlled c l.number l.line) ls

-- What a `settle` line leaves: after what the control lines before it did, and before the next act of one, there was a point at which the open channel, if
-- there was one, was still. Which application lines were issued by then isn't said.
abbrev pub WasStill : List (ℕ × Declared) → List Deed → Control → Type 0
WasStill devices deeds control =
    (later before : List Deed) × (deeds ≡ later ++ before) × (length (filter_map act_by before) ≡ length control.acts)
    × IfSome (open_channel before) (IsStill devices control before)

-- ---- the report

-- the finished documents of a device, under its id, where it is a printer
abbrev pub by_device : ℕ → SessionDevice → List (ℕ × List (List ℕ))
by_device device (session.Drive s) = []
by_device device (session.Printer s) = (device, s.finished) ∷ []

-- the finished documents of a printer, as its journal leaves it
abbrev pub documents_of : List Deed → ℕ × Declared → List (ℕ × List (List ℕ))
documents_of deeds d = by_device d.0 (last_state_by device_step device_cut (request_of deeds) (d.1).state (reverse (journal d.0 deeds)))

-- The output is the report. Its documents are those that the journals leave, and its cache is what the notices leave.
pub record IsReported (devices : List (ℕ × Declared)) (script : Script) (told : Outcomes) (books : List (ℕ × History)) (text : List ℕ) (deeds : List Deed) : Type 0 where
  pub output : text ≡ report_of script told books
  pub documents : told.documents.entries ≡ flat_map (documents_of deeds) devices
  pub cache : by_bytes told.cache.entries ≡ cache_after deeds

-- ---- the run

-- the finished documents of the printers of a world
abbrev pub printed_in : ℕ × StationState SessionDevice → List (ℕ × List (List ℕ))
printed_in e = let s = e.1 in by_device e.0 s.device

-- What a report tells of a world: the outcomes of its lines and those that did nothing, the finished documents, and what is kept for printers.
pub record TellsWorld (world : WorldState) (told : Outcomes) : Type 0 where
  pub lines : told.lines.entries ≡ outcomes_of world
  pub idle : told.idle.items ≡ world.idle
  pub documents : told.documents.entries ≡ flat_map printed_in world.stations
  pub cache : by_bytes told.cache.entries ≡ world.cache

-- the journals in books
abbrev pub journals_of : List (ℕ × History) → List (ℕ × List Item)
journals_of books = map {B = ℕ × List Item} (λ (b : ℕ × History). (b.0, (b.1).items)) books

-- This is what the script's session comes to: a world that has these journals, in which the runs that the journals mark so found no memory, and in which
-- both sides did this; and this is told of it.
pub record IsRun (script : Script) (books : List (ℕ × History)) (told : Outcomes) (deeds : List Deed) : Type 0 where
  pub world : WorldState
  pub run : WorldRun script.lines world
  pub did : world.deeds ≡ deeds
  pub stored : journals_of books ≡ journals_in world
  pub tells : TellsWorld world told

-- ---- the whole

-- The moment of a script's session: what its last clock line says.
abbrev pub world_moment : List NumberedLine → ℕ
world_moment lines = (world_of lines).moment

-- A session of a script that came to its end: this recording, these journals and outcomes, and this output came of it.
pub record IsWholeSession (script : Script) (recording : List ℕ) (books : List (ℕ × History)) (told : Outcomes) (output : List ℕ)
    : Type 0 where
  -- what both sides did, the newest first
  pub deeds : List Deed
  pub devices : List (ℕ × Declared)
  pub devices_are : devices ≡ declared_devices (map (λ (l : NumberedLine). l.line) script.lines)
  pub wire : IsRecorded devices recording deeds
  pub journals : AreJournals (world_moment script.lines) devices books deeds
  -- what the joining law takes of it, and what the law says of it
  pub joined : AreJoined client_id (replies_in devices deeds) deeds
  pub joins : Joins client_id (replies_in devices deeds) deeds
  pub outcomes : HaveOutcomes devices script.lines told.lines.entries deeds
  pub report : IsReported devices script told books output deeds
  pub control_lines : AreActed devices script.lines told.idle.items deeds
  pub at_end : let by_lines = control_by devices script.lines in IfSome (left_open devices deeds by_lines) (IsStill devices by_lines deeds)
  pub settles : All (WasStill devices deeds) (at_settles (first_control_of devices) script.lines)
  pub tells : AllTold devices (control_lines.control).told (replies_in devices deeds) deeds
  pub run : IsRun script books told deeds

-- ---- a session that was cut off

-- what was written of its recording is a beginning of what the session of the script comes to, where some runs found no memory
pub record IsCutOff (lines : List NumberedLine) (written : List ℕ) : Type 0 where
  pub world : WorldState
  pub run : WorldRun lines world
  pub rest : List ℕ
  pub recorded : recording_of_deeds world.deeds ≡ written ++ rest

-- the books hold the first of these journals, in their order, and no others
abbrev pub StoresSome : List (ℕ × List Item) → List (ℕ × History) → Type 0
StoresSome journals books = (rest : List (ℕ × List Item)) × (journals ≡ journals_of books ++ rest)
