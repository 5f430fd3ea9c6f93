-- What each event adds to the recording.
use Rattle.std.proofs.Common.{◌≡◌, ℕ, ◌+◌, zero, suc, length, sym, ◌∙◌, ap, refl, ◌++◌, ◌∷◌, [], List, map, reverse, Bool, Some, None, Option, Ok, Err, Result, true, false, append-nil}
use Rattle.std.proofs.lemmas.Grind.{flat_map-append}
use Rattle.std.proofs.lemmas.List.{reverse-append}
use Rattle.std.specs.Prelude.{codes, drop, fold, if◌then◌else◌, is_some, ◌==◌}
use Rattle.std.specs.List.{flat_map}
use Rattle.std.specs.Map.{lookup}
use Rattle.std.specs.Ordering.{nat_cmp}
use Rattle.std.specs.BTreeMap.{is_at}
use Rattle.std.specs.Option.{option_and_then, option_map_or}
use Rattle.rd_base.specs.declared.journal.Item.{Item}
use Rattle.rd_base.specs.declared.journal.Key.{Key}
use Rattle.rd_client.specs.Core as client
use Rattle.rd_client.specs.Core.{ClientCoreState, Outgoing, client_hear, listed}
use Rattle.rd_client.specs.declared.heard.Heard.{Heard}
use Rattle.rd_client.specs.declared.heard.Heard.TheVariants as heard
use Rattle.rd_devices.specs.declared.list.Announce.{Announce}
use Rattle.rd_drive.specs.declared.plan.Job.{Job}
use Rattle.rd_hello.specs.declared.client.ClientState.{ClientState}
use Rattle.rd_hello.specs.declared.end_fault.EndFault.{EndFault}
use Rattle.rd_irp.specs.declared.op.Op.{Op}
use Rattle.rd_pending.specs.declared.calls.Handle.{Handle}
use Rattle.rd_pending.specs.declared.calls.SubmitNo.{SubmitNo}
use Rattle.rd_pending.specs.declared.calls.Taken.{Taken}
use Rattle.rd_pending.specs.declared.calls.TakeNo.{TakeNo}
use Rattle.rd_pending.specs.declared.calls.Target.{Target}
use Rattle.rd_pending.specs.Table as table
use Rattle.rd_pending.specs.Table.{TableState}
use Rattle.rd_script.specs.declared.outcome.Outcome.{Outcome}
use Rattle.rd_script.specs.declared.outcome.Outcome.TheVariants as outcome
use Rattle.rd_script.specs.declared.outcome.Refusal.TheVariants as refusal
use Rattle.rd_station.specs.declared.answers.Completion.{Completion}
use Rattle.rd_station.specs.declared.answers.Given.{Given}
use Rattle.rd_station.specs.declared.answers.Given.TheVariants as given
use Rattle.rd_station.specs.declared.refusals.PutWhy.{PutWhy}
use Rattle.rd_station.specs.declared.refusals.PutWhy.TheVariants as why
use Rattle.rd_station.specs.Station as station
use Rattle.rd_station.specs.Station.{StationState}
use Rattle.rd_declared.specs.declared.device.SessionDevice.{SessionDevice}
use Rattle.rd_declared.specs.Devices.{PrinterNames, device_cut, printer_data}
use Rattle.rd_world.specs.Events as event
use Rattle.rd_world.specs.Events.{Event, act, adds_device, applies_at, applies_held, applies_job, asks, came_of, client_sends_first, client_sends_next, collects_from, comes_of_asking, completion_message, connects, cutting, dropping, drops, hand_at, host_sends_next, issues, issues_next, refreshing, refusal_of, removes_device, removing, takes_job, takes_job_from, target_of}
use Rattle.rd_world.specs.Hearing.{after_opening, all_take, announcing, client_handles, client_handles_all, client_handles_first, client_hears, ends_line, given_handle, heard_by_client, host_handles, host_handles_all, host_handles_first, host_hears, next_asked, put_at, put_by, putting, refused_put, reported_outcome, takes_awaited, takes_from, takes_outcome, tries, tries_kept, with_client, with_outcome}
use Rattle.rd_deeds.specs.Host.{next_message, side_sends}
use Rattle.rd_world.specs.Recording.{entries_by, recording_entry_bytes, recording_of_deeds}
use Rattle.rd_world.specs.Step.{client_entries, host_entries, recorded_by}
use Rattle.rd_deeds.specs.Talk as deed
use Rattle.rd_deeds.specs.Talk.{Deed}
use Rattle.rd_world.specs.World.{ApplicationState, Asked, Kept, WayState, WorldState, application_at, client_sends, handling, having_read, host_sends, most_messages, station_at, with_application, with_deed, with_station, with_table}

-- ---- deeds

-- the bytes of a deed stand at the end
pub recording_more : (d : Deed) (ds : List Deed) → recording_of_deeds (d ∷ ds) ≡ recording_of_deeds ds ++ flat_map recording_entry_bytes (entries_by d)
recording_more d ds =
    let entries : List Deed → List ℕ = λ (xs : List Deed). flat_map recording_entry_bytes (flat_map entries_by xs) in
    ap (λ (xs : List Deed). codes "RDRREC01" ++ entries xs) (reverse-append (d ∷ []) ds)
    ∙ ap (λ xs. codes "RDRREC01" ++ flat_map recording_entry_bytes xs) (flat_map-append entries_by (reverse ds) (d ∷ []))
    ∙ ap (λ (xs : List ℕ). codes "RDRREC01" ++ xs) (flat_map-append recording_entry_bytes (flat_map entries_by (reverse ds)) (flat_map entries_by (d ∷ [])))
    ∙ ap (λ xs. codes "RDRREC01" ++ (entries (reverse ds) ++ flat_map recording_entry_bytes xs)) (append-nil (entries_by d))

-- one without entries adds nothing
pub quiet_deed : (d : Deed) (ds : List Deed) → entries_by d ≡ [] → recording_of_deeds (d ∷ ds) ≡ recording_of_deeds ds
quiet_deed d ds none =
    recording_more d ds ∙ ap (λ xs. recording_of_deeds ds ++ flat_map recording_entry_bytes xs) none ∙ append-nil (recording_of_deeds ds)

-- entries of a journal add nothing
pub quiet_stores : (device : ℕ) (items : List Item) (ds : List Deed) → recording_of_deeds (map (deed.stores device) items ++ ds) ≡ recording_of_deeds ds
quiet_stores device [] ds = refl
quiet_stores device (item ∷ items) ds = quiet_deed (deed.stores device item) (map (deed.stores device) items ++ ds) refl ∙ quiet_stores device items ds

-- ---- what leaves the recording as it is

abbrev recorded : WorldState → List ℕ
recorded w = recording_of_deeds w.deeds

quiet_option : {X : Type 0} (w : WorldState) (f : X → WorldState) (o : Option X) → ((x : X) → recorded (f x) ≡ recorded w)
    → recorded (option_map_or f o w) ≡ recorded w
quiet_option w f None quiet = refl
quiet_option w f (Some x) quiet = quiet x

quiet_fold : {X : Type 0} (f : WorldState → X → WorldState) → ((w : WorldState) (x : X) → recorded (f w x) ≡ recorded w) → (xs : List X) (w : WorldState)
    → recorded (fold f w xs) ≡ recorded w
quiet_fold f quiet [] w = refl
quiet_fold f quiet (x ∷ xs) w = quiet_fold f quiet xs (f w x) ∙ quiet w x

with_station_quiet : (w : WorldState) (device : ℕ) (s : StationState SessionDevice) → recorded (with_station w device s) ≡ recorded w
with_station_quiet w device s =
    let count : ℕ = option_map_or (λ (old : StationState SessionDevice). length old.journal) (station_at w device) 0 in
    quiet_stores device (reverse (drop count s.journal)) w.deeds

-- ---- what the client hears

announcing_quiet : (w : WorldState) (device : ℕ) → recorded (announcing w device) ≡ recorded w
announcing_quiet w device =
    quiet_option w (λ (s : StationState SessionDevice). with_station w device (station.announce s).0) (station_at w device)
    (λ (s : StationState SessionDevice). with_station_quiet w device (station.announce s).0)

refused_put_quiet : (w : WorldState) (device : ℕ) (job : Job) (cause : PutWhy) → recorded (refused_put w device job cause) ≡ recorded w
refused_put_quiet w device job why.Gone = refl
refused_put_quiet w device job (why.Full held) = refl
refused_put_quiet w device job (why.Worn count) = refl
refused_put_quiet w device job (why.Duplicate key) = refl
refused_put_quiet w device job why.Memory = refl

put_by_quiet : (w : WorldState) (device : ℕ) (job : Job) (p : StationState SessionDevice × Option PutWhy) → recorded (put_by w device job p) ≡ recorded w
put_by_quiet w device job (s, None) = with_station_quiet w device s
put_by_quiet w device job (s, Some cause) = refused_put_quiet w device job cause

put_at_quiet : (w : WorldState) (device : ℕ) (job : Job) (o : Option (StationState SessionDevice)) → recorded (put_at w device job o) ≡ recorded w
put_at_quiet w device job None = refl
put_at_quiet w device job (Some s) = put_by_quiet w device job (station.put s job)

putting_quiet : (w : WorldState) (device : ℕ) (job : Job) → recorded (putting w device job) ≡ recorded w
putting_quiet w device job = put_at_quiet w device job (station_at w device)

after_opening_quiet : (shake : ClientState) (w : WorldState) → recorded (after_opening shake w) ≡ recorded w
after_opening_quiet shake w = by (client.becomes_ready shake ((w.client).core).shake)
  where
    by : (b : Bool) → recorded (if b then fold (λ x (a : Announce). announcing x a.id) w (listed w.client) else w) ≡ recorded w
    by true = quiet_fold (λ (x : WorldState) (a : Announce). announcing x a.id) (λ (x : WorldState) (a : Announce). announcing_quiet x a.id) (listed w.client) w
    by false = refl

heard_by_client_quiet : (shake : ClientState) (w : WorldState) (r : Result Heard EndFault) → recorded (heard_by_client shake w r) ≡ recorded w
heard_by_client_quiet shake w (Err fault) = refl
heard_by_client_quiet shake w (Ok heard.Nothing) = after_opening_quiet shake w
heard_by_client_quiet shake w (Ok (heard.Ask device job)) = putting_quiet w device job
heard_by_client_quiet shake w (Ok (heard.Print n)) = refl

client_hears_quiet : (w : WorldState) (message : List ℕ) → recorded (client_hears w message) ≡ recorded w
client_hears_quiet w message =
    let said = client_hear w.client message in
    heard_by_client_quiet ((w.client).core).shake (record w { client = said.0; deeds = deed.client_reads w.channels message ∷ w.deeds }) said.1
    ∙ quiet_deed (deed.client_reads w.channels message) w.deeds refl

client_handles_first_quiet : (w : WorldState) (p : WayState × Option (List ℕ)) (on : WorldState → WorldState) → ((x : WorldState)
    → recorded (on x) ≡ recorded x)
    → recorded (client_handles_first w p on) ≡ recorded w
client_handles_first_quiet w (y, None) on quiet = refl
client_handles_first_quiet w (y, Some message) on quiet =
    quiet (client_hears (record w { to_client = y }) message) ∙ client_hears_quiet (record w { to_client = y }) message

client_handles_quiet : (most : ℕ) (w : WorldState) → recorded (client_handles most w) ≡ recorded w
client_handles_quiet zero w = refl
client_handles_quiet (suc most) w = by (is_some w.kept) (client_handles_quiet most)
  where
    by : (b : Bool) → ((x : WorldState) → recorded (client_handles most x) ≡ recorded x)
        → recorded (if b then w else client_handles_first w (handling w.to_client) (client_handles most)) ≡ recorded w
    by true quiet = refl
    by false quiet = client_handles_first_quiet w (handling w.to_client) (client_handles most) quiet

client_handles_all_quiet : (w : WorldState) → recorded (client_handles_all w) ≡ recorded w
client_handles_all_quiet w = client_handles_quiet (most_messages w.to_client) w

tries_quiet : (w : WorldState) (device : ℕ) (o : Option Kept) → recorded (tries w device o) ≡ recorded w
tries_quiet w device None = refl
tries_quiet w device (Some k) = by (k.device == device)
  where
    by : (b : Bool) → recorded (if b then client_handles_all (putting (record w { kept = None }) k.device k.job) else w) ≡ recorded w
    by true = client_handles_all_quiet (putting (record w { kept = None }) k.device k.job) ∙ putting_quiet (record w { kept = None }) k.device k.job
    by false = refl

tries_kept_quiet : (w : WorldState) (device : ℕ) → recorded (tries_kept w device) ≡ recorded w
tries_kept_quiet w device = tries_quiet w device w.kept

-- ---- what the host hears, and the applications take

host_hears_quiet : (w : WorldState) (message : List ℕ) → recorded (host_hears w message) ≡ recorded w
host_hears_quiet w message = quiet_deed (deed.host_reads w.channels message) w.deeds refl

host_handles_first_quiet : (w : WorldState) (p : WayState × Option (List ℕ)) (on : WorldState → WorldState) → ((x : WorldState) → recorded (on x) ≡ recorded x)
    → recorded (host_handles_first w p on) ≡ recorded w
host_handles_first_quiet w (y, None) on quiet = refl
host_handles_first_quiet w (y, Some message) on quiet =
    quiet (host_hears (record w { to_host = y }) message) ∙ host_hears_quiet (record w { to_host = y }) message

host_handles_quiet : (most : ℕ) (w : WorldState) → recorded (host_handles most w) ≡ recorded w
host_handles_quiet zero w = refl
host_handles_quiet (suc most) w = host_handles_first_quiet w (handling w.to_host) (host_handles most) (host_handles_quiet most)

ends_line_quiet : (w : WorldState) (a : ℕ) (o : Outcome) (given : Option Handle) → recorded (ends_line w a o given) ≡ recorded w
ends_line_quiet w a o given = by (next_asked (application_at w a))
  where
    by : (asked : Option Asked) → recorded (option_map_or (λ x. with_application w a (with_outcome (application_at w a) o given x)) asked w) ≡ recorded w
    by None = refl
    by (Some x) = refl

takes_from_quiet : (w : WorldState) (a number : ℕ) (p : TableState × Result Taken TakeNo) → recorded (takes_from w a number p) ≡ recorded w
takes_from_quiet w a number (t, Err cause) = refl
takes_from_quiet w a number (t, Ok taken) =
    ends_line_quiet (with_deed (with_table w t) (deed.takes number)) a (reported_outcome taken.outcome) (given_handle taken)
    ∙ quiet_deed (deed.takes number) w.deeds refl

takes_awaited_quiet : (w : WorldState) (a : ℕ) (o : Option ℕ) → recorded (takes_awaited w a o) ≡ recorded w
takes_awaited_quiet w a None = refl
takes_awaited_quiet w a (Some number) = takes_from_quiet w a number (table.take (w.side).table number)

takes_outcome_quiet : (w : WorldState) (a : ℕ) → recorded (takes_outcome w a) ≡ recorded w
takes_outcome_quiet w a = takes_awaited_quiet w a (application_at w a).awaits

all_take_quiet : (w : WorldState) → recorded (all_take w) ≡ recorded w
all_take_quiet w = quiet_fold takes_outcome takes_outcome_quiet (map (λ (e : ℕ × ApplicationState). e.0) w.applications) w

host_handles_all_quiet : (w : WorldState) → recorded (host_handles_all w) ≡ recorded w
host_handles_all_quiet w = all_take_quiet (host_handles (most_messages w.to_host) w) ∙ host_handles_quiet (most_messages w.to_host) w

-- ---- quiet events

comes_of_asking_quiet : (w : WorldState) (a : ℕ) (o : Op) (named : Target) (p : TableState × Result ℕ SubmitNo)
    → recorded (comes_of_asking w a o named p) ≡ recorded w
comes_of_asking_quiet w a o named (t, Ok number) = quiet_deed (deed.submits a named o) w.deeds refl
comes_of_asking_quiet w a o named (t, Err cause) = ends_line_quiet w a (outcome.Refused (refusal_of cause)) None

asks_quiet : (w : WorldState) (a : ℕ) (o : Op) (named : Option Target) → recorded (asks w a o named) ≡ recorded w
asks_quiet w a o (Some named) = comes_of_asking_quiet w a o named (table.submit (w.side).table a named o)
asks_quiet w a o None = ends_line_quiet w a (outcome.Refused refusal.NoHandle) None

issues_next_quiet : (w : WorldState) (a : ℕ) (o : Option Asked) → recorded (issues_next w a o) ≡ recorded w
issues_next_quiet w a None = refl
issues_next_quiet w a (Some asked) = asks_quiet w a asked.op (target_of (application_at w a) asked)

issues_quiet : (w : WorldState) (a : ℕ) → recorded (issues w a) ≡ recorded w
issues_quiet w a = issues_next_quiet w a (next_asked (application_at w a))

takes_job_from_quiet : (w : WorldState) (device hand : ℕ) (p : StationState SessionDevice × Given) → recorded (takes_job_from w device hand p) ≡ recorded w
takes_job_from_quiet w device hand (s, given.Job job) = with_station_quiet w device s
takes_job_from_quiet w device hand (s, given.Nothing) = refl
takes_job_from_quiet w device hand (s, given.Over) = refl

takes_job_quiet : (w : WorldState) (device hand : ℕ) → recorded (takes_job w device hand) ≡ recorded w
takes_job_quiet w device hand =
    quiet_option w (λ (s : StationState SessionDevice). takes_job_from w device hand (station.take s)) (station_at w device)
    (λ (s : StationState SessionDevice). takes_job_from_quiet w device hand (station.take s))

module _ (starves : Key → Bool) where
  applies_at_quiet : (w : WorldState) (hand device : ℕ) (job : Job) (o : Option (StationState SessionDevice))
      → recorded (applies_at starves w hand device job o) ≡ recorded w
  applies_at_quiet w hand device job None = refl
  applies_at_quiet w hand device job (Some s) = with_station_quiet w device (station.apply s job w.moment (came_of starves w job s.device)).0

  applies_held_quiet : (w : WorldState) (hand : ℕ) (o : Option (ℕ × Job)) → recorded (applies_held starves w hand o) ≡ recorded w
  applies_held_quiet w hand None = refl
  applies_held_quiet w hand (Some (device, job)) = applies_at_quiet w hand device job (station_at w device)

  applies_job_quiet : (w : WorldState) (hand : ℕ) → recorded (applies_job starves w hand) ≡ recorded w
  applies_job_quiet w hand = applies_held_quiet w hand (option_and_then (λ held. held) (hand_at w hand))

removing_quiet : (w : WorldState) (device : ℕ) → recorded (removing w device) ≡ recorded w
removing_quiet w device =
    let told : WorldState = with_deed (with_client w (client.tell_removed w.client device)) (deed.removes device) in
    quiet_option told (λ (s : StationState SessionDevice). with_station told device (station.remove s (device_cut s.device).state).0) (station_at told device)
    (λ (s : StationState SessionDevice). with_station_quiet told device (station.remove s (device_cut s.device).state).0)
    ∙ quiet_deed (deed.removes device) w.deeds refl

removes_device_quiet : (w : WorldState) (device : ℕ) → recorded (removes_device w device) ≡ recorded w
removes_device_quiet w device = tries_kept_quiet (removing w device) device ∙ removing_quiet w device

refreshing_quiet : (w : WorldState) (device : ℕ) → recorded (refreshing w device) ≡ recorded w
refreshing_quiet w device =
    quiet_option w (λ (names : PrinterNames). with_client w (client.refresh w.client device (printer_data w.cache names)))
    (lookup (is_at (nat_cmp device)) w.printers) (λ (names : PrinterNames). refl)

adds_device_quiet : (w : WorldState) (device : ℕ) → recorded (adds_device w device) ≡ recorded w
adds_device_quiet w device =
    let fresh : WorldState = refreshing w device in
    announcing_quiet (with_deed (with_client fresh (client.tell_added fresh.client device)) (deed.adds device)) device
    ∙ quiet_deed (deed.adds device) fresh.deeds refl ∙ refreshing_quiet w device

dropping_quiet : (w : WorldState) (device : ℕ) → recorded (dropping w device) ≡ recorded w
dropping_quiet w device =
    quiet_option w (λ (s : StationState SessionDevice). with_station w device (station.drop_channel s (device_cut s.device).state)) (station_at w device)
    (λ (s : StationState SessionDevice). with_station_quiet w device (station.drop_channel s (device_cut s.device).state))

-- ---- events that write

-- a deed that writes, after what adds nothing
written_more : (w x : WorldState) (d : Deed) → recorded x ≡ recorded w
    → recording_of_deeds (d ∷ x.deeds) ≡ recorded w ++ flat_map recording_entry_bytes (entries_by d)
written_more w x d quiet = recording_more d x.deeds ∙ ap (λ (bytes : List ℕ). bytes ++ flat_map recording_entry_bytes (entries_by d)) quiet

nothing_more : (w : WorldState) → recorded w ≡ recorded w ++ []
nothing_more w = sym (append-nil (recorded w))

host_sends_recorded : (w : WorldState) → recorded (host_sends_next w) ≡ recorded w ++ recorded_by w event.host_send
host_sends_recorded w = by (next_message w.side)
  where
    by : (o : Option (List ℕ))
        → recorded (option_map_or (host_sends (record w { side = side_sends w.side })) o w) ≡ recorded w ++ option_map_or host_entries o []
    by None = nothing_more w
    by (Some message) = written_more w w (deed.host_writes w.channels message) refl

-- a message of the client, whatever it does with it
own_deed_recorded : (w : WorldState) (channel : ℕ) (message : List ℕ) (o : Option Key)
    → recording_of_deeds (option_map_or (λ key. deed.completes key message) o (deed.client_writes channel message) ∷ w.deeds)
    ≡ recorded w ++ client_entries message
own_deed_recorded w channel message None = written_more w w (deed.client_writes channel message) refl
own_deed_recorded w channel message (Some key) = written_more w w (deed.completes key message) refl

client_sends_recorded : (w : WorldState) → recorded (client_sends_next w) ≡ recorded w ++ recorded_by w event.client_send
client_sends_recorded w = by (client.client_send w.client)
  where
    by : (p : ClientCoreState × Option Outgoing)
        → recorded (client_sends_first w p) ≡ recorded w ++ option_map_or (λ (o : Outgoing). client_entries o.message) p.1 []
    by (c, None) = nothing_more w
    by (c, Some o) = own_deed_recorded w w.channels o.message o.answers

collects_from_recorded : (w : WorldState) (device : ℕ) (p : StationState SessionDevice × Option Completion)
    → recorded (collects_from w device p) ≡ recorded w ++ option_map_or (λ (c : Completion). client_entries (completion_message device c)) p.1 []
collects_from_recorded w device (s, None) = nothing_more w
collects_from_recorded w device (s, Some c) =
    let bytes : List ℕ = completion_message device c in
    tries_kept_quiet (client_sends (with_station w device s) (deed.completes c.key bytes) bytes) device
    ∙ written_more w (with_station w device s) (deed.completes c.key bytes) (with_station_quiet w device s)

collects_recorded : (w : WorldState) (device : ℕ) → recorded (event.collects w device) ≡ recorded w ++ recorded_by w (event.collect device)
collects_recorded w device = by (station_at w device)
  where
    by : (o : Option (StationState SessionDevice))
        → recorded (option_map_or (λ (s : StationState SessionDevice). collects_from w device (station.collect s)) o w)
        ≡ recorded w ++ option_map_or (λ (c : Completion). client_entries (completion_message device c))
        (option_map_or (λ (s : StationState SessionDevice). (station.collect s).1) o None) []
    by None = nothing_more w
    by (Some s) = collects_from_recorded w device (station.collect s)

drops_recorded : (w : WorldState) → recorded (drops w) ≡ recorded w ++ recorded_by w event.drop_channel
drops_recorded w =
    let devices : List ℕ = map (λ (e : ℕ × StationState SessionDevice). e.0) w.stations in
    let cut : WorldState = fold dropping w devices in
    all_take_quiet (cutting w) ∙ written_more w cut (deed.host_ends cut.channels) (quiet_fold dropping dropping_quiet devices w)

connects_recorded : (w : WorldState) → recorded (connects w) ≡ recorded w ++ recorded_by w event.connect
connects_recorded w =
    let devices : List ℕ = map (λ (e : ℕ × PrinterNames). e.0) w.printers in
    written_more w (fold refreshing w devices) (deed.host_begins (w.channels + 1)) (quiet_fold refreshing refreshing_quiet devices w)

-- ---- each event

pub event_recorded : (starves : Key → Bool) (w : WorldState) (e : Event)
    → recording_of_deeds (act starves w e).deeds ≡ recording_of_deeds w.deeds ++ recorded_by w e
event_recorded starves w (event.issue a) = issues_quiet w a ∙ nothing_more w
event_recorded starves w event.host_send = host_sends_recorded w
event_recorded starves w (event.client_read n) = client_handles_all_quiet (record w { to_client = having_read n w.to_client }) ∙ nothing_more w
event_recorded starves w event.client_send = client_sends_recorded w
event_recorded starves w (event.collect device) = collects_recorded w device
event_recorded starves w (event.host_read n) = host_handles_all_quiet (record w { to_host = having_read n w.to_host }) ∙ nothing_more w
event_recorded starves w (event.take_job device hand) = takes_job_quiet w device hand ∙ nothing_more w
event_recorded starves w (event.apply_job hand) = applies_job_quiet starves w hand ∙ nothing_more w
event_recorded starves w (event.remove device) = removes_device_quiet w device ∙ nothing_more w
event_recorded starves w (event.add device) = adds_device_quiet w device ∙ nothing_more w
event_recorded starves w event.drop_channel = drops_recorded w
event_recorded starves w event.connect = connects_recorded w
event_recorded starves w (event.tell n) = quiet_deed (deed.tells n) w.deeds refl ∙ nothing_more w
