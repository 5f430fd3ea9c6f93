-- What can happen in a session, when it can, and what comes of it.
use Rattle.std.specs.Prelude.{◌≡◌, ℕ, ◌+◌, ◌-◌, ◌==◌, ◌&&◌, Bool, true, false, not, nat_lt, nat_le, if◌then◌else◌, List, [], ◌∷◌, ◌++◌, length, map, take, drop, fold, Option, Some, None, is_some, is_none, Result, Ok, Err, slice_get}
use Rattle.std.specs.Map.{lookup}
use Rattle.std.specs.Option.{option_and_then, option_map_or}
use Rattle.std.specs.Ordering.{nat_cmp}
use Rattle.std.specs.BTreeMap.{is_at}
use Rattle.rd_base.specs.declared.journal.Key.{Key}
use Rattle.rd_client.specs.Core as client
use Rattle.rd_client.specs.Core.{ClientCoreState, Outgoing, client_begin}
use Rattle.rd_client.specs.Order.{is_client_ready}
use Rattle.rd_drive.specs.declared.plan.Job.{Job}
use Rattle.rd_drive.specs.Stepped.{Stepped, ran_step}
use Rattle.rd_irp.specs.declared.op.Op.{Op}
use Rattle.rd_irp.specs.declared.op.Op.TheVariants as op
use Rattle.rd_irp.specs.Written.{completion_bytes}
use Rattle.rd_pending.specs.declared.calls.Handle.{Handle}
use Rattle.rd_pending.specs.declared.calls.SubmitNo.{SubmitNo}
use Rattle.rd_pending.specs.declared.calls.SubmitNo.TheVariants as submit_no
use Rattle.rd_pending.specs.declared.calls.Target.{Target}
use Rattle.rd_pending.specs.declared.calls.Target.TheVariants as target
use Rattle.rd_pending.specs.Table as table
use Rattle.rd_pending.specs.Table.{TableState}
use Rattle.rd_printer.specs.declared.notice.Notice.{Notice}
use Rattle.rd_script.specs.declared.outcome.Outcome.TheVariants as outcome
use Rattle.rd_script.specs.declared.outcome.Refusal.{Refusal}
use Rattle.rd_script.specs.declared.outcome.Refusal.TheVariants as refusal
use Rattle.rd_station.specs.declared.answers.Completion.{Completion}
use Rattle.rd_station.specs.declared.answers.Given.{Given}
use Rattle.rd_station.specs.declared.answers.Given.TheVariants as given
use Rattle.rd_station.specs.Station as station
use Rattle.rd_station.specs.Station.{StationState}
use Rattle.rd_host.specs.Order.{is_host_ready}
use Rattle.rd_declared.specs.Devices.{PrinterNames, device_cut, device_step, printer_data}
use Rattle.rd_declared.specs.declared.device.SessionDevice.{SessionDevice}
use Rattle.rd_deeds.specs.Host.{begins_on, ends_channel, next_message, side_sends, tells_of}
use Rattle.rd_deeds.specs.Talk.{Deed, adds, client_writes, completes, host_begins, host_ends, removes, submits, tells}
use Rattle.rd_world.specs.World.{ApplicationState, Asked, WorldState, application_at, client_sends, ending, handle_named, host_sends, marks_of, new_way, having_read, station_at, with_application, with_deed, with_station, with_table}
use Rattle.rd_world.specs.Hearing.{all_take, announcing, client_handles_all, ends_line, host_handles_all, next_asked, tries_kept, with_client}

-- an event; a device and a hand by their numbers, a hand counted from 1, and a read by how many bytes it takes
pub data Event : Type 0 where
  issue : ℕ → Event
  host_send : Event
  client_read : ℕ → Event
  client_send : Event
  collect : ℕ → Event
  host_read : ℕ → Event
  take_job : ℕ → ℕ → Event
  apply_job : ℕ → Event
  remove add : ℕ → Event
  drop_channel connect : Event
  tell : Notice → Event

-- ---- when it can happen

abbrev pub is_channel_open : WorldState → Bool
is_channel_open w = is_some ((w.side).table).channel

-- a channel is ready
abbrev pub is_ready : WorldState → Bool
is_ready w = is_channel_open w && is_client_ready ((w.client).core).shake

abbrev pub is_empty : {A : Type 0} → List A → Bool
is_empty [] = true
is_empty (x ∷ xs) = false

-- whether the host, and whether the client, has a message that can be sent, the client before all completions
abbrev pub host_has_message : WorldState → Bool
host_has_message w = is_some (next_message w.side)

abbrev pub client_has_message : WorldState → Bool
client_has_message w = not (is_empty ((w.client).core).outbox)

-- what a hand holds: nothing where there is no such hand
abbrev pub hand_at : WorldState → ℕ → Option (Option (ℕ × Job))
hand_at w hand = if hand == 0 then None else slice_get w.hands (hand - 1)

abbrev pub is_hand_free : WorldState → ℕ → Bool
is_hand_free w hand = option_map_or is_none (hand_at w hand) false

abbrev pub is_hand_full : WorldState → ℕ → Bool
is_hand_full w hand = option_map_or is_some (hand_at w hand) false

-- whether a job of a device waits for a hand, and whether it has a completion
abbrev pub job_waits : WorldState → ℕ → Bool
job_waits w device = option_map_or (λ (s : StationState SessionDevice). not (is_empty s.waiting)) (station_at w device) false

abbrev pub has_completion : WorldState → ℕ → Bool
has_completion w device = option_map_or (λ (s : StationState SessionDevice). not (is_empty s.ready)) (station_at w device) false

abbrev pub is_read : List ℕ → ℕ → Bool
is_read pipe n = nat_lt 0 n && nat_le n (length pipe)

abbrev pub may_issue : ApplicationState → Bool
may_issue a = nat_lt (length a.outcomes) a.queued && is_none a.awaits

abbrev pub is_enabled : WorldState → Event → Bool
is_enabled w (issue a) = may_issue (application_at w a)
is_enabled w host_send = host_has_message w
is_enabled w (client_read n) = is_read (w.to_client).pipe n && is_none w.kept
is_enabled w client_send = client_has_message w
is_enabled w (collect device) = not (client_has_message w) && has_completion w device
is_enabled w (host_read n) = is_read (w.to_host).pipe n
is_enabled w (take_job device hand) = is_hand_free w hand && job_waits w device
is_enabled w (apply_job hand) = is_hand_full w hand
is_enabled w (remove device) = is_ready w && (client.has_device w.client device && not (client.is_gone w.client device))
is_enabled w (add device) = is_ready w && client.is_gone w.client device
is_enabled w drop_channel = is_channel_open w
is_enabled w connect = not (is_channel_open w)
is_enabled w (tell n) = is_channel_open w && is_host_ready (((w.side).core).core).shake

-- ---- what comes of it

-- why a line is refused; want of memory is no answer of the definition
abbrev pub refusal_of : SubmitNo → Refusal
refusal_of submit_no.NoChannel = refusal.NoChannel
refusal_of submit_no.NoDevice = refusal.NoDevice
refusal_of (submit_no.StaleHandle was now) = refusal.StaleHandle
refusal_of (submit_no.Full held) = refusal.Full
refusal_of (submit_no.Worn count) = refusal.Worn
refusal_of submit_no.Memory = refusal.NoChannel

-- what a line names: the device that it opens a file of, or what its handle holds
abbrev pub target_of : ApplicationState → Asked → Option Target
target_of a asked = option_map_or (λ device. Some (target.Device device)) asked.device (option_map_or (λ (h : Handle). Some (target.Handle h)) (handle_named a asked.handle) None)

-- an application's line asked for this, and its request is accepted, or the line is refused at once
abbrev pub comes_of_asking : WorldState → ℕ → Op → Target → TableState × Result ℕ SubmitNo → WorldState
comes_of_asking w a asked named (t, Ok number) =
    let application = application_at w a in
    with_application (with_deed (with_table w t) (submits a named asked)) a (record application { awaits = Some number })
comes_of_asking w a asked named (t, Err cause) = ends_line w a (outcome.Refused (refusal_of cause)) None

-- it asks for this of what its words name, if they name something
abbrev pub asks : WorldState → ℕ → Op → Option Target → WorldState
asks w a asked (Some named) = comes_of_asking w a asked named (table.submit (w.side).table a named asked)
asks w a asked None = ends_line w a (outcome.Refused refusal.NoHandle) None

abbrev pub issues_next : WorldState → ℕ → Option Asked → WorldState
issues_next w a None = w
issues_next w a (Some asked) = asks w a asked.op (target_of (application_at w a) asked)

-- an application issues its next line
abbrev pub issues : WorldState → ℕ → WorldState
issues w a = issues_next w a (next_asked (application_at w a))

-- the host sends the message that is next
abbrev pub host_sends_next : WorldState → WorldState
host_sends_next w = option_map_or (host_sends (record w { side = side_sends w.side })) (next_message w.side) w

-- what the client does with a message of its own, on a channel: it completes a request, or writes it
abbrev pub deed_on : ℕ → Outgoing → Deed
deed_on channel o = option_map_or (λ key. completes key o.message) o.answers (client_writes channel o.message)

abbrev pub own_deed : WorldState → Outgoing → Deed
own_deed w o = deed_on w.channels o

abbrev pub client_sends_first : WorldState → ClientCoreState × Option Outgoing → WorldState
client_sends_first w (c, None) = w
client_sends_first w (c, Some o) = client_sends (with_client w c) (own_deed w o) o.message

abbrev pub client_sends_next : WorldState → WorldState
client_sends_next w = client_sends_first w (client.client_send w.client)

-- the bytes of a device's completion
abbrev pub completion_message : ℕ → Completion → List ℕ
completion_message device c = completion_bytes c.kind (record { device = device; completion = c.completion; status = (c.reply).status }) (c.reply).body

abbrev pub collects_from : WorldState → ℕ → StationState SessionDevice × Option Completion → WorldState
collects_from w device (s, None) = w
collects_from w device (s, Some c) = let bytes = completion_message device c in tries_kept (client_sends (with_station w device s) (completes c.key bytes) bytes) device

-- a completion of a device is collected and sent, and a job that was kept back is tried again
abbrev pub collects : WorldState → ℕ → WorldState
collects w device = option_map_or (λ (s : StationState SessionDevice). collects_from w device (station.collect s)) (station_at w device) w

-- a hand holds this, or nothing
abbrev pub with_hand : WorldState → ℕ → Option (ℕ × Job) → WorldState
with_hand w hand held = record w { hands = take (hand - 1) w.hands ++ held ∷ drop hand w.hands }

abbrev pub takes_job_from : WorldState → ℕ → ℕ → StationState SessionDevice × Given → WorldState
takes_job_from w device hand (s, given.Job job) = with_hand (with_station w device s) hand (Some (device, job))
takes_job_from w device hand (s, given.Nothing) = w
takes_job_from w device hand (s, given.Over) = w

abbrev pub takes_job : WorldState → ℕ → ℕ → WorldState
takes_job w device hand = option_map_or (λ (s : StationState SessionDevice). takes_job_from w device hand (station.take s)) (station_at w device) w

abbrev pub is_close : Op → Bool
is_close op.Close = true
is_close _ = false

-- The runs for which no memory is found; a Close needs none.
module _ (starves : Key → Bool) where
  -- what a job comes to at a device, or nothing where no memory is found for it
  abbrev pub came_of : WorldState → Job → SessionDevice → Stepped SessionDevice
  came_of w job s = ran_step device_step s job.key job.file job.op w.moment (starves job.key && not (is_close job.op))

  -- the job of a device that a hand holds is run, unless its station has it no more
  abbrev pub applies_at : WorldState → ℕ → ℕ → Job → Option (StationState SessionDevice) → WorldState
  applies_at w hand device job None = with_hand w hand None
  applies_at w hand device job (Some s) = with_hand (with_station w device (station.apply s job w.moment (came_of w job s.device)).0) hand None

  abbrev pub applies_held : WorldState → ℕ → Option (ℕ × Job) → WorldState
  applies_held w hand None = w
  applies_held w hand (Some (device, job)) = applies_at w hand device job (station_at w device)

  -- a hand's job is run at the moment of the session
  abbrev pub applies_job : WorldState → ℕ → WorldState
  applies_job w hand = applies_held w hand (option_and_then (λ held. held) (hand_at w hand))

-- The client tells that a device is gone, which is cut off at its station.
abbrev pub removing : WorldState → ℕ → WorldState
removing w device =
    let told = with_deed (with_client w (client.tell_removed w.client device)) (removes device) in
    option_map_or (λ (s : StationState SessionDevice). with_station told device (station.remove s (device_cut s.device).state).0) (station_at told device) told

-- A job of it that was kept back is tried again.
abbrev pub removes_device : WorldState → ℕ → WorldState
removes_device w device = tries_kept (removing w device) device

-- the data of a printer's announcement is that of what is kept for it now
abbrev pub refreshing : WorldState → ℕ → WorldState
refreshing w device =
    option_map_or (λ (names : PrinterNames). with_client w (client.refresh w.client device (printer_data w.cache names))) (lookup (is_at (nat_cmp device)) w.printers) w

abbrev pub adds_device : WorldState → ℕ → WorldState
adds_device w device =
    let fresh = refreshing w device in
    announcing (with_deed (with_client fresh (client.tell_added fresh.client device)) (adds device)) device

abbrev pub dropping : WorldState → ℕ → WorldState
dropping w device =
    option_map_or (λ (s : StationState SessionDevice). with_station w device (station.drop_channel s (device_cut s.device).state)) (station_at w device) w

-- The channel ends: nothing is under way or to be sent or handled any more, no job is kept back, and each device that is there is cut off.
abbrev pub cutting : WorldState → WorldState
cutting w =
    let cut = fold dropping w (map (λ (e : ℕ × StationState SessionDevice). e.0) w.stations) in
    record (with_deed cut (host_ends cut.channels)) {
      side = ends_channel cut.side;
      client = record cut.client { core = record (cut.client).core { outbox = [] } };
      to_client = ending cut.to_client;
      to_host = ending cut.to_host;
      kept = None;
    }

-- The applications take what came of their requests then.
abbrev pub drops : WorldState → WorldState
drops w = all_take (cutting w)

-- a channel begins
abbrev pub connects : WorldState → WorldState
connects w =
    let fresh = fold refreshing w (map (λ (e : ℕ × PrinterNames). e.0) w.printers) in
    let channel = w.channels + 1 in
    record (with_deed fresh (host_begins channel)) {
      channels = channel;
      client = client_begin fresh.client channel;
      side = begins_on w.side channel;
      to_client = new_way;
      to_host = new_way;
    }

-- the host tells the client of a printer
abbrev pub telling_of : WorldState → Notice → WorldState
telling_of w n = with_deed (record w { side = tells_of w.side n }) (tells n)

-- what comes of an event that can happen, where these runs find no memory
abbrev pub act : (Key → Bool) → WorldState → Event → WorldState
act starves w (issue a) = issues w a
act starves w host_send = host_sends_next w
act starves w (client_read n) = client_handles_all (record w { to_client = having_read n w.to_client })
act starves w client_send = client_sends_next w
act starves w (collect device) = collects w device
act starves w (host_read n) = host_handles_all (record w { to_host = having_read n w.to_host })
act starves w (take_job device hand) = takes_job w device hand
act starves w (apply_job hand) = applies_job starves w hand
act starves w (remove device) = removes_device w device
act starves w (add device) = adds_device w device
act starves w drop_channel = drops w
act starves w connect = connects w
act starves w (tell n) = telling_of w n

-- One step of a session: an event that can happen, and what comes of it. The journals tell which run found no memory.
abbrev pub WorldStep : WorldState → Event → WorldState → Type 0
WorldStep old e new = (is_enabled old e ≡ true) × (new ≡ act (marks_of new) old e)
