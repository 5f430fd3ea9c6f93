-- The session of a script: its lines one after the other, and draws among what can happen.
use Rattle.std.specs.Prelude.{◌≡◌, ℕ, zero, suc, ◌+◌, ◌*◌, ◌^◌, ◌/◌, ◌%◌, ◌==◌, ◌&&◌, Bool, false, not, max, if◌then◌else◌, List, [], ◌∷◌, ◌++◌, length, map, filter_map, fold, replicate, Option, Some, None, slice_get, min}
use Rattle.std.specs.List.{flat_map, list_any, range_with_len}
use Rattle.std.specs.Option.{option_and_then, option_map, option_map_or, unwrap_or}
use Rattle.std.specs.Map.{lookup}
use Rattle.std.specs.Ordering.{nat_cmp}
use Rattle.std.specs.BTreeMap.{insert_entry, is_at}
use Rattle.rd_base.specs.declared.journal.Key.{Key}
use Rattle.rd_base.specs.declared.journal.Item.{Item}
use Rattle.rd_base.specs.declared.journal.Item.TheVariants.{Ran}
use Rattle.rd_base.specs.Lawful.{sends}
use Rattle.rd_client.specs.Core as client
use Rattle.rd_irp.specs.declared.op.Op.{Op}
use Rattle.rd_irp.specs.declared.op.Op.TheVariants as op
use Rattle.rd_printer.specs.declared.notice.Notice.{Notice}
use Rattle.rd_printer.specs.declared.notice.Notice.TheVariants as notice
use Rattle.rd_script.specs.declared.line.Errand.{Errand}
use Rattle.rd_script.specs.declared.line.Errand.TheVariants as errand
use Rattle.rd_script.specs.declared.line.Line.{Line}
use Rattle.rd_script.specs.declared.line.Line.TheVariants as line
use Rattle.rd_script.specs.declared.line.NumberedLine.{NumberedLine}
use Rattle.rd_station.specs.Station.{StationState, new_station}
use Rattle.rd_declared.specs.Devices.{Declared, PrinterNames, announce_of, dos_name, zero_text}
use Rattle.rd_declared.specs.declared.device.SessionDevice.{SessionDevice}
use Rattle.rd_deeds.specs.Host.{new_side}
use Rattle.rd_world.specs.World.{ApplicationState, Asked, WorldState, application_at, marks_of, ending, new_application, new_way, with_application}
use Rattle.rd_world.specs.Events.{Event, act, add, apply_job, client_has_message, client_read, client_send, collect, connect, drop_channel, host_has_message, host_read, host_send, is_channel_open, is_empty, is_enabled, issue, remove, take_job, tell}
use Rattle.rd_declared.specs.Declaring.{declared_devices}

-- ---- the draws

-- the next number of the draws, and the place of a choice among so many
abbrev pub next_draw : ℕ → ℕ
next_draw x = (x * 6364136223846793005 + 1442695040888963407) % 2 ^ 64

abbrev pub picked : ℕ → ℕ → ℕ
picked x choices = (x / 2 ^ 33) % choices

-- what settling may draw: an event, or a read of a pipe, whose count is drawn too
pub data NextStep : Type 0 where
  event : Event → NextStep
  reads_client reads_host : NextStep

abbrev pub where_true : Bool → NextStep → List NextStep
where_true b c = if b then c ∷ [] else []

-- the applications, the devices and the hands by their numbers
abbrev pub application_ids : WorldState → List ℕ
application_ids w = map (λ (e : ℕ × ApplicationState). e.0) w.applications

abbrev pub device_ids : WorldState → List ℕ
device_ids w = map (λ (e : ℕ × StationState SessionDevice). e.0) w.stations

abbrev pub hand_numbers : WorldState → List ℕ
hand_numbers w = map suc (range_with_len 0 (length w.hands))

abbrev pub takes_of : WorldState → ℕ → List NextStep
takes_of w device = flat_map (λ hand. where_true (is_enabled w (take_job device hand)) (event (take_job device hand))) (hand_numbers w)

-- what can happen by itself, in its order
abbrev pub choices : WorldState → List NextStep
choices w =
    flat_map (λ a. where_true (is_enabled w (issue a)) (event (issue a))) (application_ids w)
    ++ where_true (host_has_message w) (event host_send)
    ++ where_true (is_enabled w (client_read (length (w.to_client).pipe))) reads_client
    ++ where_true (client_has_message w) (event client_send)
    ++ flat_map (λ device. where_true (is_enabled w (collect device)) (event (collect device))) (device_ids w)
    ++ where_true (is_enabled w (host_read (length (w.to_host).pipe))) reads_host
    ++ flat_map (takes_of w) (device_ids w)
    ++ flat_map (λ hand. where_true (is_enabled w (apply_job hand)) (event (apply_job hand))) (hand_numbers w)

-- how many bytes a read takes: one, and a further draw
abbrev pub drawn_count : WorldState → List ℕ → ℕ
drawn_count w pipe = 1 + picked w.draws (min (max 1 w.piece) (length pipe))

abbrev pub drawing : WorldState → WorldState
drawing w = record w { draws = next_draw w.draws }

-- how many messages the host has to send
abbrev pub host_count : WorldState → ℕ
host_count w = length (((w.side).core).core).outbox + length ((w.side).table).outbox

abbrev pub is_quiet : WorldState → Bool
is_quiet w = not (host_has_message w) && not (client_has_message w) && is_empty (w.to_client).pipe && is_empty (w.to_host).pipe

-- the runs that find no memory
module _ (starves : Key → Bool) where
  -- what comes of a choice
  abbrev pub chosen : WorldState → NextStep → WorldState
  chosen w (event e) = act starves w e
  chosen w reads_client = let x = drawing w in act starves x (client_read (drawn_count x (x.to_client).pipe))
  chosen w reads_host = let x = drawing w in act starves x (host_read (drawn_count x (x.to_host).pipe))

  -- a draw among choices, and on; where there is none the world is settled
  abbrev pub settles_by : WorldState → List NextStep → (WorldState → Option WorldState) → Option WorldState
  settles_by w [] on = Some w
  settles_by w (c ∷ cs) on =
      let x = drawing w in
      on (chosen x (unwrap_or (slice_get (c ∷ cs) (picked x.draws (length (c ∷ cs)))) c))

  -- Draws until nothing can happen by itself; at most so many. Where that is too few there is no such world.
  abbrev pub settled : ℕ → WorldState → Option WorldState
  settled zero w = None
  settled (suc most) w = settles_by w (choices w) (settled most)

  -- ---- all of one kind at once

  -- an event again and again, while it can happen; at most so often
  abbrev pub while_enabled : ℕ → Event → WorldState → WorldState
  while_enabled zero e w = w
  while_enabled (suc most) e w = if is_enabled w e then while_enabled most e (act starves w e) else w

  abbrev pub all_host_sends : WorldState → WorldState
  all_host_sends w = while_enabled (host_count w) host_send w

  abbrev pub all_client_sends : WorldState → WorldState
  all_client_sends w = while_enabled (length ((w.client).core).outbox) client_send w

  -- an event, where it can happen
  abbrev pub when_enabled : Event → WorldState → WorldState
  when_enabled e w = if is_enabled w e then act starves w e else w

  abbrev pub client_reads_all : WorldState → WorldState
  client_reads_all w = when_enabled (client_read (length (w.to_client).pipe)) w

  abbrev pub host_reads_all : WorldState → WorldState
  host_reads_all w = when_enabled (host_read (length (w.to_host).pipe)) w

  -- rounds of both ends, until nothing is to be sent or read; at most so many
  abbrev pub rounds : ℕ → WorldState → Option WorldState
  rounds zero w = None
  rounds (suc most) w = if is_quiet w then Some w else rounds most (host_reads_all (client_reads_all (all_client_sends (all_host_sends w))))

-- ---- the lines

-- GENERIC_READ, all that can be shared, and FILE_OPEN: what an `open` asks for
abbrev pub open_op : List ℕ → Op
open_op path = op.Create 0x8000_0000 0 0 7 1 0 path

abbrev pub asked_on_handle : List ℕ → Op → Asked
asked_on_handle handle o = record { handle = handle; device = None; op = o }

abbrev pub on_device : List ℕ → ℕ → Op → Asked
on_device handle device o = record { handle = handle; device = Some device; op = o }

-- the application of a line and what it asks for, if it is one's
unfoldable pub asked_by : Line → Option (ℕ × Asked)
asked_by (line.Open a handle device path) = Some (a, on_device handle device (open_op path))
asked_by (line.Create a handle device path disposition access share options attributes) =
    Some (a, on_device handle device (op.Create access 0 attributes share disposition options path))
asked_by (line.Close a handle) = Some (a, asked_on_handle handle op.Close)
asked_by (line.Read a handle offset len) = Some (a, asked_on_handle handle (op.Read offset len))
asked_by (line.Write a handle offset bytes) = Some (a, asked_on_handle handle (op.Write offset bytes))
asked_by (line.Query a handle class) = Some (a, asked_on_handle handle (op.QueryFile class))
asked_by (line.Set a handle class bytes) = Some (a, asked_on_handle handle (op.SetFile class bytes))
asked_by (line.Volume a handle class) = Some (a, asked_on_handle handle (op.QueryVolume class))
asked_by (line.SetVolume a handle class bytes) = Some (a, asked_on_handle handle (op.SetVolume class bytes))
asked_by (line.Dir a handle class initial path) = Some (a, asked_on_handle handle (op.QueryDir class initial path))
asked_by (line.Lock a handle operation wait ranges) = Some (a, asked_on_handle handle (op.Lock operation wait ranges))
asked_by (line.Control a handle code output bytes) = Some (a, asked_on_handle handle (op.Control output code bytes))
asked_by (line.Notify a handle tree filters) = Some (a, asked_on_handle handle (op.Notify tree filters))
asked_by _ = None

-- one line more of an application, by its number
abbrev pub asking : List (ℕ × ApplicationState) → ℕ × Asked → List (ℕ × ApplicationState)
asking applications asked =
    let application = unwrap_or (lookup (is_at (nat_cmp asked.0)) applications) new_application in
    insert_entry nat_cmp applications asked.0 (record application { asks = application.asks ++ asked.1 ∷ [] })

-- what the lines of each application ask for
abbrev pub applications_of : List Line → List (ℕ × ApplicationState)
applications_of lines = fold asking [] (filter_map asked_by lines)

-- a line of an application may be issued after the others of that one
abbrev pub queueing : WorldState → ℕ → WorldState
queueing w a =
    let application = application_at w a in
    with_application w a (record application { queued = application.queued + 1 })

-- the notice of a `cache` line: names with a zero unit, no PnP name
unfoldable pub notice_of : Line → Option Notice
notice_of (line.CacheAdd port driver printer bytes) = Some (notice.Add (dos_name port) [] (zero_text driver) (zero_text printer) bytes)
notice_of (line.CacheUpdate printer bytes) = Some (notice.Update (zero_text printer) bytes)
notice_of (line.CacheDelete printer) = Some (notice.Delete (zero_text printer))
notice_of (line.CacheRename old new) = Some (notice.Rename (zero_text old) (zero_text new))
notice_of _ = None

-- The event of a `do` line; of `send`, `answer`, `read` and `back` the one that has to be possible.
abbrev pub event_of : WorldState → Errand → Event
event_of w (errand.Issue a) = issue a
event_of w errand.Send = host_send
event_of w errand.Read = client_read (length (w.to_client).pipe)
event_of w (errand.Take device hand) = take_job device hand
event_of w (errand.Apply hand) = apply_job hand
event_of w (errand.Collect device) = collect device
event_of w errand.Answer = client_send
event_of w errand.Back = host_read (length (w.to_host).pipe)

-- a line that did nothing
abbrev pub idles : WorldState → ℕ → WorldState
idles w number = record w { idle = w.idle ++ number ∷ [] }

-- the most steps that a settling and the rounds of a channel's begin are given
pub record Most : Type 0 where
  pub draws : ℕ
  pub rounds : ℕ

-- the runs that find no memory, and the most steps
module _ (starves : Key → Bool) (most : Most) where
  -- what comes of a `do` line, where its event can happen
  abbrev pub does : WorldState → Errand → WorldState
  does w errand.Send = all_host_sends starves w
  does w errand.Answer = all_client_sends starves w
  does w e = act starves w (event_of w e)

  -- an event of a line, where it can happen; else the line did nothing
  abbrev pub by_event : WorldState → ℕ → Event → WorldState
  by_event w number e = if is_enabled w e then act starves w e else idles w number

  abbrev pub connects_on : WorldState → Option WorldState
  connects_on w = rounds starves most.rounds (act starves w connect)

  -- what a control line does; any other does nothing, and its queue or its setting was seen to before
  unfoldable pub controls : WorldState → ℕ → Line → Option WorldState
  controls w number line.Settle = settled starves most.draws w
  controls w number (line.Remove device) = Some (by_event w number (remove device))
  controls w number (line.Add device) = Some (by_event w number (add device))
  controls w number line.Drop = Some (by_event w number drop_channel)
  controls w number line.Connect = if is_enabled w connect then connects_on w else Some (idles w number)
  controls w number (line.Do e) = Some (if is_enabled w (event_of w e) then does w e else idles w number)
  controls w number l = Some (option_map_or (λ n. by_event w number (tell n)) (notice_of l) w)

  -- a line: an application's is queued, and any other does what it says
  abbrev pub plays_line : WorldState → NumberedLine → Option WorldState
  plays_line w l = option_map_or (λ (asked : ℕ × Asked). Some (queueing w asked.0)) (asked_by l.line) (controls w l.number l.line)

  abbrev pub plays : List NumberedLine → WorldState → Option WorldState
  plays [] w = Some w
  plays (l ∷ ls) w = option_and_then (plays ls) (plays_line w l)

-- ---- the beginning and the end

-- the settings that a line gives
unfoldable pub setting : WorldState → Line → WorldState
setting w (line.Seed number) = record w { draws = number }
setting w (line.Clock moment) = record w { moment = moment }
setting w (line.Piece most) = record w { piece = most }
setting w (line.Workers count) = record w { hands = replicate count None }
setting w _ = w

abbrev pub station_of : ℕ × Declared → ℕ × StationState SessionDevice
station_of e = (e.0, new_station (e.1).state)

-- the printers among devices, with their names
abbrev pub printers_of : List (ℕ × Declared) → List (ℕ × PrinterNames)
printers_of devices = filter_map (λ (e : ℕ × Declared). option_map (λ names. (e.0, names)) (e.1).printer) devices

-- a session before its first channel
abbrev pub new_world : List (ℕ × Declared) → List (ℕ × ApplicationState) → WorldState
new_world devices applications = record {
  moment = 0;
  piece = 4096;
  draws = 0;
  client = client.new_client (map (λ (e : ℕ × Declared). announce_of [] e.1) devices);
  side = new_side 1;
  stations = map station_of devices;
  printers = printers_of devices;
  cache = [];
  applications = applications;
  hands = replicate 1 None;
  to_client = ending new_way;
  to_host = ending new_way;
  kept = None;
  channels = 0;
  idle = [];
  deeds = [];
}

-- the session that lines begin
abbrev pub world_of : List NumberedLine → WorldState
world_of lines = let ls = map (λ (l : NumberedLine). l.line) lines in fold setting (new_world (declared_devices ls) (applications_of ls)) ls

-- whether an entry says that a request on a channel was left waiting, whose completion wasn't handed out
abbrev pub is_left_parked : List Item → ℕ → Item → Bool
is_left_parked journal channel (Ran key moment starved parked) = parked && (key.channel == channel && not (list_any (sends key) journal))
is_left_parked journal channel _ = false

-- whether some device has such a request of the last channel
abbrev pub some_left : WorldState → Bool
some_left w =
    list_any (λ (e : ℕ × StationState SessionDevice). let s = e.1 in list_any (is_left_parked s.journal w.channels) s.journal) w.stations

-- after the last settling a channel on which a request waits is dropped, and what is queued then is issued
abbrev pub ends_session : (Key → Bool) → Most → WorldState → Option WorldState
ends_session starves most w = if is_channel_open w && some_left w then settled starves most.draws (act starves w drop_channel) else Some w

-- The session of a script's lines, in which these runs find no memory: a channel begins, the lines are played, and the session settles. There is none
-- where so few draws and rounds don't do.
abbrev pub run_of : Most → (Key → Bool) → List NumberedLine → Option WorldState
run_of most starves lines =
    let begun = connects_on starves most (world_of lines) in
    option_and_then (ends_session starves most)
    (option_and_then (settled starves most.draws) (option_and_then (plays starves most lines) begun))

-- The session of a script's lines comes to this world, where the runs find no memory of which its journals say so.
abbrev pub WorldRun : List NumberedLine → WorldState → Type 0
WorldRun lines w = (most : Most) × (run_of most (marks_of w) lines ≡ Some w)
