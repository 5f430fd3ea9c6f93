-- In each world that lines come to, nothing was wrong at either end of the open channel, and what is on its way there is what it should be.
use Rattle.std.proofs.Common.{◌≡◌, ◌≢◌, ◌⊎◌, ◌∙◌, refl, sym, ap, subst, inl, inr, ℕ, ◌+◌, ◌<◌, ◌≤◌, ◌^◌, ◌&&◌, ◌==◌, arith, Bool, true, false, not, List, [], ◌∷◌, ◌++◌, length, map, fold, Some, None, Option, Result, Ok, Err, is_some, is_ok}
use Rattle.std.specs.Prelude.{filter, if◌then◌else◌, cond}
use Rattle.std.specs.List.{AllByRecursion}
use Rattle.std.specs.Map.{lookup, remove_entry}
use Rattle.std.specs.Ordering.{nat_cmp}
use Rattle.std.specs.BTreeMap.{is_at}
use Rattle.std.specs.Option.{IfSome, option_map_or}
use Rattle.std.proofs.lemmas.List.{length-map}
use Rattle.std.proofs.lemmas.List.Sums.{count_by-le-length, length-filter}
use Rattle.std.proofs.lemmas.List.Elements.{recursion_from_All}
use Rattle.rd_base.specs.declared.journal.Key.{Key}
use Rattle.rd_base.specs.declared.status.Status.{Status}
use Rattle.rd_base.specs.Layout.{met}
use Rattle.rd_base.specs.Position.{at_start}
use Rattle.rd_base.specs.Statuses as status
use Rattle.rd_base.specs.Statuses.{no_such_device}
use Rattle.rd_client.proofs.KeptLemmas.{same_announces, some_list_fits}
use Rattle.rd_client.proofs.ListingLemmas.{list_countable}
use Rattle.rd_client.proofs.OwnLemmas.{completion_met}
use Rattle.rd_client.proofs.TellingLemmas.{refreshed_same, writable_same}
use Rattle.rd_client.specs.Core as client
use Rattle.rd_client.specs.Core.{ClientCoreState, ClientDevice, Outgoing, announce_in, announces, client_hear, is_device, is_present, listed, listed_one, plain, refresh}
use Rattle.rd_client.specs.declared.heard.Heard.{Heard}
use Rattle.rd_client.specs.declared.heard.Heard.TheVariants.{Nothing, Ask, Print}
use Rattle.rd_client.specs.Events.{AreWritable, IsWritableDevice, without_data}
use Rattle.rd_controls.proofs.ReadyLemmas.{client_kept}
use Rattle.rd_core.specs.Core.{CoreState}
use Rattle.rd_core.specs.Hearing as hearing
use Rattle.rd_host.specs.Core as host
use Rattle.rd_devices.specs.declared.list.Announce.{Announce}
use Rattle.rd_devices.specs.DeviceList.{list_bytes}
use Rattle.rd_devices.specs.Removal.{removal_bytes}
use Rattle.rd_drive.specs.declared.plan.Job.{Job}
use Rattle.rd_drive.specs.Ranged.{IsReplyInRange}
use Rattle.rd_hello.specs.declared.client.ClientState.{ClientState}
use Rattle.rd_hello.specs.declared.client.ClientState.TheVariants as client_state
use Rattle.rd_hello.specs.declared.end_fault.EndFault.{EndFault}
use Rattle.rd_hello.specs.declared.host.HostState.{HostState}
use Rattle.rd_hello.specs.declared.host.HostState.TheVariants as host_state
use Rattle.rd_host.specs.Core.{HostCoreState, host_hear, host_hear_made, host_side}
use Rattle.rd_host.specs.declared.act.Act.{Act}
use Rattle.rd_host.specs.declared.act.Act.TheVariants as act
use Rattle.rd_host.specs.Order.{is_host_ready}
use Rattle.rd_host.specs.Served.{is_served_type}
use Rattle.rd_irp.proofs.WrittenLemmas.{request_spelled}
use Rattle.rd_irp.specs.Completion.{completion_head}
use Rattle.rd_irp.specs.declared.request.Request.{Request}
use Rattle.rd_irp.specs.Fits.{kind_of}
use Rattle.rd_irp.specs.Written.{request_bytes}
use Rattle.rd_journals.proofs.CameLemmas.{fines, was_ready}
use Rattle.rd_journals.proofs.CompletionLemmas.{lost_ranged, ready_completes, runs_good}
use Rattle.rd_journals.proofs.DeclaredLemmas.{bounded_fit}
use Rattle.rd_journals.proofs.RunLemmas.{behind_orderly}
use Rattle.rd_journals.proofs.WorkLemmas.{behind_working}
use Rattle.rd_journals.specs.Jobs.{AreWorking, FitsCompletion}
use Rattle.rd_journals.specs.Orderly.{Orderly}
use Rattle.rd_pending.proofs.Effects as effects
use Rattle.rd_pending.proofs.MapLemmas.{free_within}
use Rattle.rd_pending.specs.declared.calls.Taken.{Taken}
use Rattle.rd_pending.specs.declared.calls.TakeNo.{TakeNo}
use Rattle.rd_pending.specs.declared.calls.SubmitNo.{SubmitNo}
use Rattle.rd_pending.specs.Table as table
use Rattle.rd_pending.specs.Table.{TableState, accept, device_in, file_in, max_slots, next_id, submit_refusal}
use Rattle.rd_printer.specs.Notice.{notice_bytes}
use Rattle.rd_script.specs.declared.line.NumberedLine.{NumberedLine}
use Rattle.rd_station.specs.declared.answers.Completion.{Completion}
use Rattle.rd_station.specs.declared.refusals.PutWhy.{PutWhy}
use Rattle.rd_station.specs.declared.refusals.PutWhy.TheVariants as why
use Rattle.rd_station.specs.Station as station
use Rattle.rd_station.specs.Station.{StationState}
use Rattle.rd_controls.proofs.RunsAskedLemmas.{tellable_lines}
use Rattle.rd_controls.proofs.RunsInsides.{AreOwn, IsInside, Outside, added_inside, all_dropped_inside, all_refreshed_inside, applied_inside, hears_inside, put_inside, removed_inside, stationed}
use Rattle.rd_controls.proofs.RunsKeysOn.{all_dropped_client, sent_on}
use Rattle.rd_controls.proofs.RunsKeysOnLemmas.{collected_on}
use Rattle.rd_controls.proofs.RunsParts.{IsBehind, MayBe, Part, by_parts, accepts, adds_one, announced_by, applies_one, begins, client_gets, client_hears_one, client_keeps_part, client_sends_one, collects_one, cut_by, done, draws_one, ends, hands_out, host_gets, host_hears_one, host_keeps_part, host_sends_one, idle_one, queues_one, refreshed_by, refuses, removes_one, takes_one, tells_one, told_added, told_removed, tries_one}
use Rattle.rd_controls.proofs.RunsReaching.{both}
use Rattle.rd_controls.proofs.RunsSizeLemmas.{ClientFits, data_few, refreshed_fits}
use Rattle.rd_controls.proofs.RunsStanding.{needs_open, open_inside, shut_now, is_off}
use Rattle.rd_controls.proofs.RunsTogether.{Knows, knows}
use Rattle.rd_controls.proofs.RunsBeginningLemmas.{Unset, begins_as}
use Rattle.rd_controls.proofs.RunsTrafficLemmas.{Traffic, client_reads_here, client_writes_here, completes_here, host_reads_here, host_writes_here, no_traffic, traffic}
use Rattle.rd_controls.proofs.RunsWayLemmas.{one_read}
use Rattle.rd_controls.specs.RunsPremises.{RunPremises}
use Rattle.rd_controls.proofs.RunsBelowLemmas.{channel_is}
use Rattle.rd_hello.specs.Hello.{hello_bytes}
use Rattle.rd_hello.specs.Own.{host_announce}
use Rattle.rd_deeds.specs.HostDeeds.{side_of}
use Rattle.rd_declared.specs.Printers.{AreShortNames}
use Rattle.rd_deeds.proofs.Messages.{head_read, request_read}
use Rattle.rd_deeds.proofs.Written.{sound_side}
use Rattle.rd_declared.specs.declared.device.SessionDevice.{SessionDevice}
use Rattle.rd_declared.specs.Devices.{Declared, PrinterNames, printer_data}
use Rattle.rd_world.specs.Events.{applies_at, client_has_message, completion_message, deed_on, is_channel_open, is_empty, is_ready, refreshing}
use Rattle.rd_world.specs.Hearing.{after_opening, announcing, client_hears, heard_by_client, is_device_told, put_at, put_by, putting, refused_put, with_client}
use Rattle.rd_deeds.specs.Host.{HostSide, admits, forgets, hears, host_heard, lived, sent_from, side_sends}
use Rattle.rd_declared.specs.Declaring.{bare_lines, declared_devices}
use Rattle.rd_world.specs.Recording.{announced_of, client_id}
use Rattle.rd_world.specs.Run.{world_of}
use Rattle.rd_world.proofs.ShortLemmas.{announces_first}
use Rattle.rd_deeds.specs.Talk.{Deed, adds, client_read, client_reads, client_writes, client_wrote, completes, host_read, host_wrote, is_request, open_channel, removes, request_at, request_in, stores}
use Rattle.rd_world.specs.World.{Asked, Kept, WorldState, station_at, with_deed, with_station}
use Rattle.rd_orders.proofs.MeetingLemmas.{MeetsAs, asked_ready, client_alike, client_heard, client_reads_first, client_sent, client_sent_past, client_waits, host_heard_one, host_sent, host_told, lives_ready, one_asked, other_table, ready_is}
use Rattle.rd_orders.proofs.PhaseLemmas.{AsksReady, announces as host_announces}
use Rattle.rd_orders.proofs.SayingLemmas.{SaysToClient, SaysToHost, completion_says, list_says, notice_says, removal_says, request_says}

-- ---- the invariant

-- The host has its ClientId, a client's devices are as they were declared but for their data, and on the open channel both ends meet.
pub record MeetsFor (devices : List Announce) (c : ClientCoreState) (s : HostSide) (opened : Option ℕ) (channels : ℕ) (t : Traffic) : Type 0 where
  pub number : (s.core).client ≡ 1
  pub same : map without_data (announces c) ≡ map without_data devices
  pub now : opened ≡ Some channels → MeetsAs c s t

abbrev pub Meets : List Announce → WorldState → Type 0
Meets devices w = MeetsFor devices w.client w.side (open_channel w.deeds) w.channels (traffic w.channels w.deeds)

-- ---- what a client does by itself

own_traffic : (x : ℕ) (more deeds : List Deed) → AreOwn more → traffic x (more ++ deeds) ≡ traffic x deeds
own_traffic x [] deeds own = refl
own_traffic x (stores device item ∷ more) deeds own = own_traffic x more deeds own.1
own_traffic x (removes device ∷ more) deeds own = own_traffic x more deeds own.1
own_traffic x (adds device ∷ more) deeds own = own_traffic x more deeds own.1
own_traffic x (deed ∷ more) deeds own = absurd own.0

-- what was written and read is as it was
pub inside_traffic : (w v : WorldState) → IsInside w v → (x : ℕ) → traffic x v.deeds ≡ traffic x w.deeds
inside_traffic w v i x = ap (traffic x) i.deeds ∙ own_traffic x i.more w.deeds i.own

inside_meets : (devices : List Announce) (w v : WorldState) → IsInside w v → MeetsFor devices v.client w.side (open_channel w.deeds) w.channels (traffic w.channels w.deeds) → Meets devices v
inside_meets devices w v i m =
    subst (λ (o : Outside). MeetsFor devices v.client o.side (open_channel v.deeds) o.channels (traffic o.channels v.deeds)) (sym i.same)
    (subst (λ (o : Option ℕ). MeetsFor devices v.client w.side o w.channels (traffic w.channels v.deeds)) (sym (open_inside w v i))
    (subst (MeetsFor devices v.client w.side (open_channel w.deeds) w.channels) (sym (inside_traffic w v i w.channels)) m))

-- where it leaves the client as it was
quietly : (devices : List Announce) (w v : WorldState) → IsInside w v → v.client ≡ w.client → Meets devices w → Meets devices v
quietly devices w v i same m = inside_meets devices w v i (subst (λ (c : ClientCoreState). MeetsFor devices c w.side (open_channel w.deeds) w.channels (traffic w.channels w.deeds)) (sym same) m)

goes_on : (devices : List Announce) {c d : ClientCoreState} {s r : HostSide} {opened : Option ℕ} {channels : ℕ} {t u : Traffic} → (r.core).client ≡ (s.core).client
    → map without_data (announces d) ≡ map without_data (announces c) → (opened ≡ Some channels → MeetsAs c s t → MeetsAs d r u) → MeetsFor devices c s opened channels t → MeetsFor devices d r opened channels u
goes_on devices number same now m = record { number = number ∙ m.number; same = same ∙ m.same; now = λ is. now is (m.now is) }

-- ---- what becomes of a client

-- a job is put at its station, or answered by a status that isn't success
abbrev pub IsPut : ClientCoreState → ℕ → Job → ClientCoreState → Type 0
IsPut c device job d = (d ≡ c) ⊎ ((st : Status) × (st.0 ≢ 0) × (d ≡ client.direct c job device st))

refused_client : (w : WorldState) (device : ℕ) (job : Job) (cause : PutWhy) → IsPut w.client device job (refused_put w device job cause).client
refused_client w device job why.Gone = inr (by (is_device_told w device))
  where
    by : (b : Bool) → (st : Status) × (st.0 ≢ 0) × (client.direct w.client job device (if b then status.insufficient_resources else no_such_device) ≡ client.direct w.client job device st)
    by true = (status.insufficient_resources, (λ e. cc e), refl)
    by false = (no_such_device, (λ e. cc e), refl)
refused_client w device job (why.Full held) = inl refl
refused_client w device job (why.Worn count) = inr (status.insufficient_resources, (λ e. cc e), refl)
refused_client w device job (why.Duplicate key) = inl refl
refused_client w device job why.Memory = inl refl

pub put_client : (w : WorldState) (device : ℕ) (job : Job) → IsPut w.client device job (putting w device job).client
put_client w device job = at (station_at w device)
  where
    by : (r : StationState SessionDevice × Option PutWhy) → IsPut w.client device job (put_by w device job r).client
    by (s, None) = inl refl
    by (s, Some cause) = refused_client w device job cause

    at : (o : Option (StationState SessionDevice)) → IsPut w.client device job (put_at w device job o).client
    at None = inr (no_such_device, (λ e. cc e), refl)
    at (Some s) = by (station.put s job)

pub announced_client : (w : WorldState) (device : ℕ) (o : Option (StationState SessionDevice)) → (announced_by w device o).client ≡ w.client
announced_client w device None = refl
announced_client w device (Some s) = refl

all_announced : (devices : List Announce) (w : WorldState) → (fold (λ x (a : Announce). announcing x a.id) w devices).client ≡ w.client
all_announced [] w = refl
all_announced (a ∷ devices) w = all_announced devices (announcing w a.id) ∙ announced_client w a.id (station_at w a.id)

opened_client : (shake : ClientState) (w : WorldState) → (after_opening shake w).client ≡ w.client
opened_client shake w = by (client.becomes_ready shake ((w.client).core).shake)
  where
    by : (b : Bool) → (if b then fold (λ x (a : Announce). announcing x a.id) w (listed w.client) else w).client ≡ w.client
    by true = all_announced (listed w.client) w
    by false = refl

-- what is heard leaves a client as it was, or asks for a job
abbrev pub IsHeardTo : ClientCoreState → Result Heard EndFault → ClientCoreState → Type 0
IsHeardTo c (Ok (Ask device job)) d = IsPut c device job d
IsHeardTo c r d = d ≡ c

pub heard_client : (shake : ClientState) (w : WorldState) (r : Result Heard EndFault) → IsHeardTo w.client r (heard_by_client shake w r).client
heard_client shake w (Err fault) = refl
heard_client shake w (Ok Nothing) = opened_client shake w
heard_client shake w (Ok (Ask device job)) = put_client w device job
heard_client shake w (Ok (Print n)) = refl

pub cut_client : (w : WorldState) (device : ℕ) (o : Option (StationState SessionDevice)) → (cut_by w device o).client ≡ w.client
cut_client w device None = refl
cut_client w device (Some s) = refl

pub applied_client : (starves : Key → Bool) (w : WorldState) (hand device : ℕ) (job : Job) (o : Option (StationState SessionDevice)) → (applies_at starves w hand device job o).client ≡ w.client
applied_client starves w hand device job None = refl
applied_client starves w hand device job (Some s) = refl

refreshed_announces : (w : WorldState) (device : ℕ) (o : Option PrinterNames) → map without_data (announces (refreshed_by w device o).client) ≡ map without_data (announces w.client)
refreshed_announces w device None = refl
refreshed_announces w device (Some names) = refreshed_same device (printer_data w.cache names) (w.client).devices

all_refreshed_announces : (devices : List ℕ) (w : WorldState) → map without_data (announces (fold refreshing w devices).client) ≡ map without_data (announces w.client)
all_refreshed_announces [] w = refl
all_refreshed_announces (device ∷ devices) w =
    all_refreshed_announces devices (refreshing w device) ∙ refreshed_announces w device (lookup (is_at (nat_cmp device)) w.printers)

refreshed_core : (w : WorldState) (device : ℕ) (o : Option PrinterNames) → ((refreshed_by w device o).client).core ≡ (w.client).core
refreshed_core w device None = refl
refreshed_core w device (Some names) = refl

-- ---- the host's ClientId

sent_number : (s : HostSide) → ((side_sends s).core).client ≡ (s.core).client
sent_number s = by ((s.core).core).outbox
  where
    by : (o : List (List ℕ)) → ((sent_from s o).core).client ≡ (s.core).client
    by [] = refl
    by (m ∷ ms) = refl

hear_number : (h : HostCoreState) (m : List ℕ) → ((host_hear h m).0).client ≡ h.client
hear_number h m = by (hearing.hear host_side h.core m)
  where
    by : (r : CoreState HostState (List ℕ) × Result (Option Act) EndFault) → ((host_hear_made h r).0).client ≡ h.client
    by (after, Err fault) = refl
    by (after, Ok None) = refl
    by (after, Ok (Some a)) = refl

admitted_number : (s : HostSide) (a : Announce) → ((admits s a).core).client ≡ (s.core).client
admitted_number s a = by (is_served_type a.kind)
  where
    by : (b : Bool) → ((if b then lived s a.id (table.live s.table a.id) else record s { core = host.reply s.core a.id status.not_supported }).core).client ≡ (s.core).client
    by true = refl
    by false = refl

all_admitted_number : (devices : List Announce) (s : HostSide) → ((fold admits s devices).core).client ≡ (s.core).client
all_admitted_number [] s = refl
all_admitted_number (a ∷ devices) s = all_admitted_number devices (admits s a) ∙ admitted_number s a

all_forgot_number : (ids : List ℕ) (s : HostSide) → ((fold forgets s ids).core).client ≡ (s.core).client
all_forgot_number [] s = refl
all_forgot_number (id ∷ ids) s = all_forgot_number ids (forgets s id)

heard_number : (s : HostSide) (m : List ℕ) → ((hears s m).core).client ≡ (s.core).client
heard_number s m = by (host_hear s.core m).1 ∙ hear_number s.core m
  where
    x : HostSide
    x = record s { core = (host_hear s.core m).0 }

    by : (r : Result Act EndFault) → ((host_heard x r).core).client ≡ (x.core).client
    by (Err fault) = refl
    by (Ok act.Nothing) = refl
    by (Ok (act.Announced devices)) = all_admitted_number devices x
    by (Ok (act.Removed ids)) = all_forgot_number ids x
    by (Ok (act.Complete head bytes)) = refl

-- ---- lists that are written

few_of : (p : ClientDevice → Bool) (ds : List ClientDevice) → length (map announce_in (filter p ds)) ≤ length (map announce_in ds)
few_of p ds = omega (arith, length-map (filter p ds) announce_in, length-map ds announce_in, length-filter p ds, count_by-le-length p ds)

writable_of : (p : ClientDevice → Bool) (ds : List ClientDevice) → AllByRecursion IsWritableDevice (map announce_in ds) → AllByRecursion IsWritableDevice (map announce_in (filter p ds))
writable_of p [] all = tt
writable_of p (d ∷ ds) all = go (p d) (writable_of p ds all.1)
  where
    go : (b : Bool) → AllByRecursion IsWritableDevice (map announce_in (filter p ds)) → AllByRecursion IsWritableDevice (map announce_in (cond b (d ∷ filter p ds) (filter p ds)))
    go true rest = (all.0, rest)
    go false rest = rest

-- some of a client's devices are announced by a message that says so
pub some_say : (devices : List Announce) → AreWritable devices → (c : ClientCoreState) → ClientFits c → map without_data (announces c) ≡ map without_data devices → (p : ClientDevice → Bool)
    → SaysToHost (list_bytes (map announce_in (filter p c.devices)))
some_say devices writable c fits same p =
    let are = fits.kept.devices in
    list_says (map announce_in (filter p c.devices)) (omega (arith, few_of p c.devices, are.few))
    (writable_of p c.devices (writable_same (announces c) devices same (recursion_from_All IsWritableDevice devices writable)))
    (list_countable (map announce_in (filter p c.devices)) (some_list_fits p c.devices are))

-- a printer's data is short
named_one : (P : PrinterNames → Type 0) (device : ℕ) (es : List (ℕ × PrinterNames)) → AllByRecursion (λ (e : ℕ × PrinterNames). P e.1) es → IfSome (lookup (is_at (nat_cmp device)) es) P
named_one P device [] all = tt
named_one P device (e ∷ es) all = by (is_at (nat_cmp device) e.0) (named_one P device es all.1)
  where
    by : (b : Bool) → IfSome (lookup (is_at (nat_cmp device)) es) P → IfSome (cond b (Some e.1) (lookup (is_at (nat_cmp device)) es)) P
    by true later = all.0
    by false later = later

pub refreshed_ends : (w : WorldState) (device : ℕ) (names : Option PrinterNames) → ClientFits w.client → AllByRecursion (λ (e : ℕ × PrinterNames). AreShortNames e.1) w.printers
    → lookup (is_at (nat_cmp device)) w.printers ≡ names → ClientFits (refreshed_by w device names).client
refreshed_ends w device None fits short is = fits
refreshed_ends w device (Some own) fits short is =
    refreshed_fits w.client fits device (printer_data w.cache own) (data_few w.cache own (subst (λ (o : Option PrinterNames). IfSome o AreShortNames) is (named_one AreShortNames device w.printers short)))

-- ---- requests that were read

none_at : (ms : List (List ℕ)) (k : ℕ) (r : Request) → filter is_request ms ≡ [] → request_at ms k ≡ Some r → ⊥
none_at [] k r none is = cc is
none_at (m ∷ ms) k r none is = by (is_request m) none is (none_at ms k r)
  where
    by : (b : Bool) → (if b then m ∷ filter is_request ms else filter is_request ms) ≡ []
        → (if b && length (filter is_request ms) == k then request_in m else request_at ms k) ≡ Some r
        → (filter is_request ms ≡ [] → request_at ms k ≡ Some r → ⊥) → ⊥
    by true none is later = cc none
    by false none is later = later none is

module _ (lines : List NumberedLine) (starves : Key → Bool) (premises : RunPremises lines) (declared : List (ℕ × Declared)) (devices : List Announce) (writable : AreWritable devices) where
  -- what is known of a world
  pub record IsKnown (w : WorldState) : Type 0 where
    pub knows : Knows w
    pub ordered : Orderly w
    pub working : AreWorking FitsCompletion IsReplyInRange declared w.stations w.hands w.deeds

  -- where a request was read on the open channel the client is ready
  read_ready : (w : WorldState) → open_channel w.deeds ≡ Some w.channels → Meets devices w → (k : ℕ) (r : Request) → request_at (client_read w.channels w.deeds) k ≡ Some r
      → ((w.client).core).shake ≡ client_state.Ready
  read_ready w is m k r read = asked_ready w.client w.side (traffic w.channels w.deeds) (m.now is) (λ none. none_at (client_read w.channels w.deeds) k r none read)

  -- a client that keeps a job back is ready
  pub kept_ready : (w : WorldState) → IsKnown w → Meets devices w → (k : Kept) → w.kept ≡ Some k → ((w.client).core).shake ≡ client_state.Ready
  kept_ready w i m k kept =
      let is = needs_open lines starves w (tries_one k) kept tt i.knows.stands in
      let next = i.ordered.kept_next k kept in
      read_ready w is m k.job.key.index next.request next.read

  -- so is one of which a device has a completion
  pub record Collects (w : WorldState) (device : ℕ) (c : Completion) : Type 0 where
    pub ready : ((w.client).core).shake ≡ client_state.Ready
    pub head : is_ok (met completion_head (at_start (completion_message device c))) ≡ true
    pub channel : c.key.channel ≡ w.channels

  pub collects_ready : (w : WorldState) → IsKnown w → Meets devices w → (device : ℕ) (s after : StationState SessionDevice) (c : Completion) → open_channel w.deeds ≡ Some w.channels → station_at w device ≡ Some s
      → station.collect s ≡ (after, Some c) → Collects w device c
  collects_ready w i m device s after c is there made =
      let own = ready_completes declared w i.ordered i.working device s there c (was_ready s after c made) in
      let channel : c.key.channel ≡ w.channels = (collected_on w.channels s (i.knows.on.held device s there) after c made).0 in
      let head = head_read _ (completion_message device c) own.completes.head in
      record {
        ready = read_ready w is m c.key.index own.request (subst (λ (x : ℕ). request_at (client_read x w.deeds) c.key.index ≡ Some own.request) channel own.read);
        head = ap is_ok head.1;
        channel = channel;
      }

  -- ---- part by part

  -- what comes of a job that is put
  put_meets : (c d : ClientCoreState) (s : HostSide) (t : Traffic) (device : ℕ) (job : Job) → (c.core).shake ≡ client_state.Ready → IsPut c device job d → MeetsAs c s t → MeetsAs d s t
  put_meets c d s t device job ready (inl same) m = subst (λ (x : ClientCoreState). MeetsAs x s t) (sym same) m
  put_meets c d s t device job ready (inr (st, some, is)) m =
      subst (λ (x : ClientCoreState). MeetsAs x s t) (sym is)
      (client_waits c s t m (client.direct c job device st) _ ready (completion_says (client.direct_bytes job device st) (completion_met (kind_of job.op) _)) refl)

  put_same : (c d : ClientCoreState) (device : ℕ) (job : Job) → IsPut c device job d → announces d ≡ announces c
  put_same c d device job (inl same) = ap announces same
  put_same c d device job (inr (st, some, is)) = ap announces is

  heard_meets : (c d : ClientCoreState) (s : HostSide) (t : Traffic) (a : Result Heard EndFault) → AsksReady (c, a) → IsHeardTo c a d → MeetsAs c s t → MeetsAs d s t
  heard_meets c d s t (Err fault) asks same m = subst (λ (x : ClientCoreState). MeetsAs x s t) (sym same) m
  heard_meets c d s t (Ok Nothing) asks same m = subst (λ (x : ClientCoreState). MeetsAs x s t) (sym same) m
  heard_meets c d s t (Ok (Ask device job)) ready put m = put_meets c d s t device job ready put m
  heard_meets c d s t (Ok (Print n)) asks same m = subst (λ (x : ClientCoreState). MeetsAs x s t) (sym same) m

  heard_same : (c d : ClientCoreState) (a : Result Heard EndFault) → IsHeardTo c a d → announces d ≡ announces c
  heard_same c d (Err fault) same = ap announces same
  heard_same c d (Ok Nothing) same = ap announces same
  heard_same c d (Ok (Ask device job)) put = put_same c d device job put
  heard_same c d (Ok (Print n)) same = ap announces same

  -- a message of the client's own goes on its way, by whichever deed
  own_meets : (c : ClientCoreState) (s : HostSide) (channel : ℕ) (deeds : List Deed) (o : Outgoing) → IfSome o.answers (λ (key : Key). key.channel ≡ channel)
      → MeetsFor devices c s (open_channel deeds) channel (record (traffic channel deeds) { client_wrote = o.message ∷ client_wrote channel deeds })
      → MeetsFor devices c s (open_channel (deed_on channel o ∷ deeds)) channel (traffic channel (deed_on channel o ∷ deeds))
  own_meets c s channel deeds o on m = by o.answers on
    where
      by : (a : Option Key) → IfSome a (λ (key : Key). key.channel ≡ channel)
          → MeetsFor devices c s (open_channel (option_map_or (λ key. completes key o.message) a (client_writes channel o.message) ∷ deeds)) channel (traffic channel (option_map_or (λ key. completes key o.message) a (client_writes channel o.message) ∷ deeds))
      by None on = subst (MeetsFor devices c s (open_channel deeds) channel) (sym (client_writes_here channel deeds o.message)) m
      by (Some key) on = subst (MeetsFor devices c s (open_channel deeds) channel) (sym (completes_here channel deeds o.message key on)) m

  sent_same : (c after : ClientCoreState) (o : Outgoing) → client.client_send c ≡ (after, Some o) → announces after ≡ announces c
  sent_same c after o made = ap (λ (r : ClientCoreState × Option Outgoing). announces r.0) (sym made)

  pub none_waits : (w : WorldState) → client_has_message w ≡ false → ((w.client).core).outbox ≡ []
  none_waits w quiet = by ((w.client).core).outbox quiet
    where
      by : (os : List Outgoing) → not (is_empty os) ≡ false → os ≡ []
      by [] e = refl
      by (o ∷ os) e = absurd (cc e)

  begun_table : (t : TableState) (channel : ℕ) → (((table.begin t channel).0).lives ≡ t.lives) × (((table.begin t channel).0).outbox ≡ t.outbox)
  begun_table t channel = by (is_some t.channel)
    where
      by : (b : Bool) → (((if◌then◌else◌ {A = TableState × Bool} b (t, false) (record t { channel = Some channel; below = channel + 1; asked = 0; begun = 0 }, true)).0).lives ≡ t.lives)
          × (((if◌then◌else◌ {A = TableState × Bool} b (t, false) (record t { channel = Some channel; below = channel + 1; asked = 0; begun = 0 }, true)).0).outbox ≡ t.outbox)
      by true = (refl, refl)
      by false = (refl, refl)

  pub ready_now : (w : WorldState) (b : Bool) → (is_ready w && b) ≡ true → ((w.client).core).shake ≡ client_state.Ready
  ready_now w b can = ready_is ((w.client).core).shake (both (is_channel_open w) _ (both (is_ready w) b can).0).1

  pub served_is : (h : HostState) → is_host_ready h ≡ true → h ≡ host_state.Ready
  served_is host_state.Ready e = refl
  served_is h e = absurd (cc e)

  pub meets_step : (w : WorldState) (p : Part) → IsKnown w → Knows (done starves w p) → MayBe lines starves w p → Meets devices w → Meets devices (done starves w p)
  meets_step w (accepts a asked named t number) i k (reached, may, next, target, made) m =
      let (fits, range, unrefused) = k.stands.host.may.0 in
      let free : submit_refusal (w.side).table named ≡ None = subst (λ (x : HostSide). submit_refusal x.table named ≡ None) i.knows.stands.host.is unrefused in
      let effect = effects.submits (w.side).table a named asked.op free in
      let is : t ≡ accept (w.side).table named asked.op = sym (ap (λ (r : TableState × Result ℕ SubmitNo). r.0) made) ∙ effect.new in
      let small : next_id (w.side).table < 2 ^ 32 = omega (arith, free_within 0 ((w.side).table).slots, effect.few) in
      let r : Request = record { device = device_in named; file = file_in named; completion = next_id (w.side).table; op = asked.op } in
      let says : SaysToClient (request_bytes r) = request_says (request_bytes r) r (request_read r 0 (request_bytes r) (request_spelled r fits.fits range.op range.device range.file small)) in
      goes_on devices refl refl (λ opened x. one_asked w.client w.side (traffic w.channels w.deeds) x t (request_bytes r)
      (lives_ready w.client w.side (traffic w.channels w.deeds) x (λ none. let absent : table.life_of (w.side).table (device_in named) ≡ None = ap (λ (es : List (ℕ × ℕ)). lookup (is_at (nat_cmp (device_in named))) es) none in cc (absent, effect.present)))
      says (ap (λ (x : TableState). x.outbox) is)) m
  meets_step w (refuses a asked cause) i k may m = m
  meets_step w (hands_out a number t taken next) i k (waits, is, made) m = by next
    where
      effect : effects.Takes (w.side).table number
      effect = effects.takes (w.side).table number (ap (λ (r : TableState × Result Taken TakeNo). is_ok r.1) made)

      same : t ≡ record (w.side).table { untaken = remove_entry (is_at (nat_cmp number)) ((w.side).table).untaken }
      same = sym (ap (λ (r : TableState × Result Taken TakeNo). r.0) made) ∙ effect.new

      own : MeetsFor devices w.client (record w.side { table = t }) (open_channel w.deeds) w.channels (traffic w.channels w.deeds)
      own = goes_on devices refl refl (λ opened x. other_table w.client w.side (traffic w.channels w.deeds) x t (ap (λ (x : TableState). x.lives) same) (ap (λ (x : TableState). x.outbox) same)) m

      by : (o : Option Asked) → Meets devices (done starves w (hands_out a number t taken o))
      by None = own
      by (Some asked) = own
  meets_step w (host_sends_one message) i k next m =
      subst (MeetsFor devices w.client (side_sends w.side) (open_channel w.deeds) w.channels) (sym (host_writes_here w.channels w.deeds message))
      (goes_on devices (sent_number w.side) refl (λ opened x. host_sent w.client w.side (traffic w.channels w.deeds) x message next) m)
  meets_step w (host_gets n) i k may m = m
  meets_step w host_keeps_part i k may m = m
  meets_step w (host_hears_one message rest) i k found m =
      let is = needs_open lines starves w (host_hears_one message rest) found tt i.knows.stands in
      let read = one_read (client_wrote w.channels w.deeds) (host_read w.channels w.deeds) w.to_host ((i.knows.carries).moving is).1 message rest found in
      subst (MeetsFor devices w.client (hears w.side message) (open_channel w.deeds) w.channels) (sym (host_reads_here w.channels w.deeds message))
      (goes_on devices (heard_number w.side message) refl (λ opened x. host_heard_one w.client w.side (traffic w.channels w.deeds) x message read.waiting read.told) m)
  meets_step w (tells_one n) i k ((l, has, said), can) m =
      let tellable = tellable_lines lines premises.notable l n has said in
      goes_on devices refl refl (λ opened x. host_told w.client w.side (traffic w.channels w.deeds) x (notice_bytes n)
      (served_is (((w.side).core).core).shake (both (is_channel_open w) _ can).1) (notice_says n tellable.writable tellable.port)) m
  meets_step w begins i k can m =
      let stand = i.knows.stands in
      let off : open_channel w.deeds ≡ None = shut_now w stand (is_off (is_channel_open w) can) in
      let fresh : WorldState = fold refreshing w (map (λ (e : ℕ × PrinterNames). e.0) w.printers) in
      let inside = all_refreshed_inside (map (λ (e : ℕ × PrinterNames). e.0) w.printers) w in
      let none : traffic (w.channels + 1) fresh.deeds ≡ no_traffic = inside_traffic w fresh inside (w.channels + 1) ∙ i.knows.carries.later (w.channels + 1) (omega arith) in
      let closed = (sound_side client_id w.deeds stand.host.may).slots.closed (channel_is client_id w.deeds stand.host.may ∙ off) in
      let table_is : (side_of client_id w.deeds).table ≡ (w.side).table = ap (λ (x : HostSide). x.table) stand.host.is in
      let begun = begun_table (w.side).table (w.channels + 1) in
      let lives : ((table.begin (w.side).table (w.channels + 1)).0).lives ≡ [] = begun.0 ∙ ap (λ (x : TableState). x.lives) (sym table_is) ∙ closed.1 in
      let asked : ((table.begin (w.side).table (w.channels + 1)).0).outbox ≡ [] = begun.1 ∙ ap (λ (x : TableState). x.outbox) (sym table_is) ∙ closed.2 in
      record {
        number = m.number;
        same = all_refreshed_announces (map (λ (e : ℕ × PrinterNames). e.0) w.printers) w ∙ m.same;
        now = λ is. subst (MeetsAs (done starves w begins).client (done starves w begins).side) (sym none) (record {
          client_fine = refl;
          host_fine = refl;
          down = [];
          up = [];
          told_down = refl;
          told_up = refl;
          phase = (ap (λ (n : ℕ). hello_bytes (host_announce n) ∷ ((table.begin (w.side).table (w.channels + 1)).0).outbox) m.number ∙ ap (λ (ms : List (List ℕ)). host_announces ∷ ms) asked, refl);
          early = λ early. record { lives = lives; outbox = asked; unasked = refl };
        });
      }
  meets_step w ends i k is m =
      let ids : List ℕ = map (λ (e : ℕ × StationState SessionDevice). e.0) w.stations in
      record {
        number = ap (λ (o : Outside). ((o.side).core).client) (all_dropped_inside ids w).same ∙ m.number;
        same = ap (λ (c : ClientCoreState). map without_data (announces c)) (all_dropped_client ids w) ∙ m.same;
        now = λ opened. absurd (cc opened);
      }
  meets_step w (client_sends_one after o) i k made m =
      own_meets after w.side w.channels w.deeds o ((sent_on w.channels w.client after o i.knows.on.outbox made).0).0
      (goes_on devices refl (ap (map without_data) (sent_same w.client after o made)) (λ opened x. client_sent w.client w.side (traffic w.channels w.deeds) x after o made) m)
  meets_step w (client_gets n) i k may m = m
  meets_step w client_keeps_part i k may m = m
  meets_step w (client_hears_one message rest) i k (kept, found) m =
      let is = needs_open lines starves w (client_hears_one message rest) (kept, found) tt i.knows.stands in
      let read = one_read (host_wrote w.channels w.deeds) (client_read w.channels w.deeds) w.to_client ((i.knows.carries).moving is).0 message rest found in
      let lists = some_say devices writable w.client i.knows.fits.ends m.same is_present in
      let x : WorldState = record w { to_client = record w.to_client { part = []; taken = _; unhandled = rest } } in
      let heard = client_hear w.client message in
      let y : WorldState = with_deed (with_client x heard.0) (client_reads w.channels message) in
      let to = heard_client ((w.client).core).shake y heard.1 in
      inside_meets devices (with_deed x (client_reads w.channels message)) (done starves w (client_hears_one message rest)) (hears_inside x message)
      (subst (MeetsFor devices (client_hears x message).client w.side (open_channel w.deeds) w.channels) (sym (client_reads_here w.channels w.deeds message))
      (goes_on devices refl (ap (map without_data) (heard_same heard.0 (client_hears x message).client heard.1 to ∙ ap (map announce_in) (client_kept w.client message).devices))
      (λ opened z. heard_meets heard.0 (client_hears x message).client w.side _ heard.1
      (client_reads_first w.client w.side (traffic w.channels w.deeds) z message read.waiting read.told lists).asks to
      (client_heard w.client w.side (traffic w.channels w.deeds) z message read.waiting read.told lists)) m))
  meets_step w (tries_one kept) i k is m =
      let x : WorldState = record w { kept = None } in
      let put = put_client x kept.device kept.job in
      inside_meets devices x (done starves w (tries_one kept)) (put_inside x kept.device kept.job)
      (goes_on devices refl (ap (map without_data) (put_same w.client _ kept.device kept.job put))
      (λ opened z. put_meets w.client _ w.side _ kept.device kept.job (kept_ready w i m kept is) put z) m)
  meets_step w (collects_one device st after c) i k (reached, quiet, there, made) m =
      let is = needs_open lines starves w (collects_one device st after c) (reached, quiet, there, made) tt i.knows.stands in
      let own = collects_ready w i m device st after c is there made in
      let y : WorldState = with_station w device after in
      let before : Meets devices y = quietly devices w y (stationed w device after) refl m in
      subst (MeetsFor devices w.client w.side (open_channel y.deeds) w.channels) (sym (completes_here w.channels y.deeds (completion_message device c) c.key own.channel))
      (goes_on devices refl refl (λ opened x. client_sent_past w.client w.side (traffic w.channels y.deeds) x (completion_message device c) own.ready (none_waits w quiet) (completion_says (completion_message device c) own.head)) before)
  meets_step w (takes_one device hand st after job) i k may m = quietly devices w (with_station w device after) (stationed w device after) refl m
  meets_step w (applies_one hand device job o) i k may m =
      quietly devices w (done starves w (applies_one hand device job o)) (applied_inside starves w hand device job o) (applied_client starves w hand device job o) m
  meets_step w (removes_one device o) i k (can, there) m =
      inside_meets devices w (done starves w (removes_one device o)) (removed_inside w device o)
      (subst (λ (c : ClientCoreState). MeetsFor devices c w.side (open_channel w.deeds) w.channels (traffic w.channels w.deeds)) (sym (cut_client (told_removed w device) device o))
      (goes_on devices refl (ap (map without_data) (same_announces device true (w.client).devices))
      (λ opened x. client_waits w.client w.side (traffic w.channels w.deeds) x (client.tell_removed w.client device) (plain (removal_bytes (device ∷ []))) (ready_now w _ can) (removal_says device) refl) m))
  meets_step w (adds_one device names o) i k (can, printer, there) m =
      let fresh : ClientCoreState = (refreshed_by w device names).client in
      let same : map without_data (announces fresh) ≡ map without_data (announces w.client) = refreshed_announces w device names in
      let core : fresh.core ≡ (w.client).core = refreshed_core w device names in
      inside_meets devices w (done starves w (adds_one device names o)) (added_inside w device names o)
      (subst (λ (c : ClientCoreState). MeetsFor devices c w.side (open_channel w.deeds) w.channels (traffic w.channels w.deeds)) (sym (announced_client (told_added (refreshed_by w device names) device) device o))
      (goes_on devices refl (ap (map without_data) (same_announces device false fresh.devices) ∙ same)
      (λ opened x. client_waits fresh w.side (traffic w.channels w.deeds) (client_alike w.client w.side (traffic w.channels w.deeds) x fresh core) (client.tell_added fresh device) (plain (list_bytes (listed_one fresh device)))
      (ap (λ e. e.shake) core ∙ ready_now w _ can) (some_say devices writable fresh (refreshed_ends w device names i.knows.fits.ends (i.knows.fits.names) printer) (same ∙ m.same) (is_device device)) refl) m))
  meets_step w (queues_one a) i k may m = m
  meets_step w (idle_one number) i k may m = m
  meets_step w draws_one i k may m = m

-- ---- every world

module _ (lines : List NumberedLine) (starves : Key → Bool) (premises : RunPremises lines) (writable : AreWritable (announced_of (declared_devices (bare_lines lines)))) where
  abbrev pub declares : List (ℕ × Declared)
  declares = declared_devices (bare_lines lines)

  pub behind_known : (w : WorldState) → IsBehind lines starves w → IsKnown lines starves premises declares (announced_of declares) writable w
  behind_known w behind =
      let fit = bounded_fit lines premises.bounded in
      record {
        knows = knows lines starves premises w behind;
        ordered = (behind_orderly lines starves w fit behind).0;
        working = behind_working FitsCompletion IsReplyInRange lost_ranged runs_good lines starves w fit behind (fines lines starves premises w behind);
      }

  meets_first : Meets (announced_of declares) (world_of lines)
  meets_first = begins_as lines (λ (u : Unset). MeetsFor (announced_of declares) u.client u.side (open_channel u.deeds) u.channels (traffic u.channels u.deeds))
      (record { number = refl; same = ap (map without_data) (announces_first (announced_of declares)); now = λ is. absurd (cc is) })

  -- nothing was wrong at either end, and what is on its way is what it should be
  pub behind_meets : (w : WorldState) → IsBehind lines starves w → Meets (announced_of declares) w
  behind_meets = by_parts lines starves (Meets (announced_of declares)) meets_first
      (λ w p before after may m. meets_step lines starves premises declares (announced_of declares) writable w p (behind_known w before) (knows lines starves premises (done starves w p) after) may m)
