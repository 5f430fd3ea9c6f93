-- In each world that lines come to, what a client holds, keeps back or answers itself came on the channel that began last.
use Rattle.std.proofs.Common.{◌≡◌, ◌∙◌, refl, sym, ap, subst, inl, inr, ℕ, ◌+◌, Bool, true, false, List, [], ◌∷◌, ◌++◌, map, fold, Some, None, Option, Result, Ok, Err}
use Rattle.std.specs.Prelude.{if◌then◌else◌}
use Rattle.std.specs.List.{AllByRecursion}
use Rattle.std.specs.Map.{lookup}
use Rattle.std.specs.Ordering.{nat_cmp}
use Rattle.std.specs.BTreeMap.{insert_entry, is_at}
use Rattle.std.specs.Option.{IfSome, option_map_or, option_to_list}
use Rattle.std.proofs.lemmas.Bool.{cases_eq}
use Rattle.rd_base.specs.declared.journal.Key.{Key}
use Rattle.rd_base.specs.declared.status.Status.{Status}
use Rattle.rd_base.specs.Statuses as status
use Rattle.rd_base.specs.Statuses.{no_such_device}
use Rattle.rd_client.specs.Core as client
use Rattle.rd_client.specs.Core.{ClientCoreState, HostSays, Outgoing, client_hear, client_hear_made, client_opened, client_side, listed, notices, plain, replies, requests}
use Rattle.rd_client.specs.declared.heard.Heard.{Heard}
use Rattle.rd_client.specs.declared.heard.Heard.TheVariants.{Nothing, Ask, Print}
use Rattle.rd_core.specs.Core.{CoreState}
use Rattle.rd_core.specs.Hearing as hearing
use Rattle.rd_core.specs.Hearing.{Meaning, messages_of}
use Rattle.rd_devices.specs.declared.list.Announce.{Announce}
use Rattle.rd_devices.specs.DeviceList.{list_bytes}
use Rattle.rd_drive.proofs.AllLemmas.{all_append}
use Rattle.rd_drive.specs.declared.plan.Job.{Job}
use Rattle.rd_hello.specs.declared.client.ClientState.{ClientState}
use Rattle.rd_hello.specs.declared.hello.Hello.{Hello}
use Rattle.rd_hello.specs.Hello.{hello_bytes}
use Rattle.rd_irp.specs.declared.completion.Body.TheVariants.{Fault}
use Rattle.rd_irp.specs.Fits.{kind_of}
use Rattle.rd_hello.specs.declared.end_fault.EndFault.{EndFault}
use Rattle.rd_pending.proofs.MapLemmas.{beside, inserted}
use Rattle.rd_script.specs.declared.line.NumberedLine.{NumberedLine}
use Rattle.rd_station.specs.declared.refusals.PutWhy.{PutWhy}
use Rattle.rd_station.specs.declared.refusals.PutWhy.TheVariants as why
use Rattle.rd_station.specs.Station as station
use Rattle.rd_station.specs.Station.{StationState, put_refusal, put_unless}
use Rattle.rd_runs.proofs.BeginningLemmas.{Unset, begins_as, first_idle}
use Rattle.rd_runs.proofs.FileNumbers.{IsSafe, completion_safe, hello_safe, list_safe, removal_safe}
use Rattle.rd_runs.proofs.IdleLemmas.{cut_idle}
use Rattle.rd_runs.proofs.Insides.{IsInside, Outside, added_inside, all_dropped_inside, hears_inside, put_inside, removed_inside}
use Rattle.rd_runs.proofs.KeysOnLemmas.{HeldOn, all_mapped, announced_on, applied_on, collected_on, idle_on, put_on, removed_on, took_on}
use Rattle.rd_runs.proofs.Parts.{MayBe, Part, accepts, adds_one, announced_by, applies_one, begins, client_gets, client_hears_one, client_keeps_part, client_sends_one, collects_one, cut_by, done, draws_one, ends, hands_out, host_gets, host_hears_one, host_keeps_part, host_sends_one, idle_one, queues_one, refreshed_by, refuses, removes_one, takes_one, tells_one, told_added, told_removed, tries_one}
use Rattle.rd_runs.proofs.Standing.{Stands, is_off, shut_now}
use Rattle.rd_declared.specs.declared.device.SessionDevice.{SessionDevice}
use Rattle.rd_declared.specs.Devices.{PrinterNames, device_cut}
use Rattle.rd_world.specs.Events.{came_of, dropping, is_channel_open, refreshing}
use Rattle.rd_world.specs.Hearing.{after_opening, announcing, answers_directly, client_hears, heard_by_client, is_device_told, put_at, put_by, putting, refused_put, with_client}
use Rattle.rd_declared.specs.Declaring.{declared_devices}
use Rattle.rd_world.specs.Run.{world_of}
use Rattle.rd_deeds.specs.Talk.{client_reads}
use Rattle.rd_world.specs.World.{Kept, WorldState, station_at, with_deed, with_station}

-- A message of the client answers a request of the channel, if it answers one; and where it is a completion, its body begins in bytes.
abbrev pub AnswersOn : ℕ → Outgoing → Type 0
AnswersOn c o = IfSome o.answers (λ (key : Key). key.channel ≡ c) × IsSafe o.message

pub record AreOn (c : ℕ) (clt : ClientCoreState) (kept : Option Kept) (stations : List (ℕ × StationState SessionDevice)) : Type 0 where
  pub channel : clt.channel ≡ c
  pub outbox : AllByRecursion (AnswersOn c) (clt.core).outbox
  pub back : IfSome kept (λ (k : Kept). ((k.job).key).channel ≡ c)
  pub held : (d : ℕ) (s : StationState SessionDevice) → lookup (is_at (nat_cmp d)) stations ≡ Some s → HeldOn c s

-- ---- what a client hears

module _ (c : ℕ) where
  core_on : (e : CoreState ClientState Outgoing) (bytes : List ℕ) → AllByRecursion (AnswersOn c) e.outbox → AllByRecursion (AnswersOn c) ((hearing.hear client_side e bytes).0).outbox
  core_on e bytes all = unless e.fault
    where
      by : (m : Meaning ClientState HostSays) → AllByRecursion (AnswersOn c) ((hearing.hear_said client_side e m).0).outbox
      by (hearing.wrong fault) = all
      by hearing.nothing = all
      by (hearing.opens row) =
          all_append (AnswersOn c) e.outbox (map plain (messages_of row)) all (all_mapped (AnswersOn c) plain IsSafe (λ m safe. (tt, safe)) (messages_of row) (each (option_to_list row.first ++ option_to_list row.second)))
        where
          each : (hs : List Hello) → AllByRecursion IsSafe (map hello_bytes hs)
          each [] = tt
          each (h ∷ hs) = (hello_safe h, each hs)
      by (hearing.says a) = all

      unless : (o : Option EndFault) → AllByRecursion (AnswersOn c) ((hearing.hear_unless client_side e bytes o).0).outbox
      unless (Some fault) = all
      unless None = by (hearing.said client_side e.shake bytes)

  -- what is heard asks for a job of the channel, if it asks for one
  abbrev HeardOn : Result Heard EndFault → Type 0
  HeardOn (Ok (Ask device job)) = (job.key).channel ≡ c
  HeardOn r = Unit {0}

  made_on : (clt : ClientCoreState) → clt.channel ≡ c → (r : CoreState ClientState Outgoing × Result (Option HostSays) EndFault) → AllByRecursion (AnswersOn c) (r.0).outbox
      → (((client_hear_made clt r).0).channel ≡ c) × AllByRecursion (AnswersOn c) (((client_hear_made clt r).0).core).outbox × HeardOn (client_hear_made clt r).1
  made_on clt on (after, Err fault) all = (on, all, tt)
  made_on clt on (after, Ok None) all = by (client.becomes_ready (clt.core).shake after.shake)
    where
      by : (b : Bool) → let now : ClientCoreState = (if b then client.with_outgoing (record clt { core = after }) (plain (list_bytes (listed clt))) else record clt { core = after }) in
          (now.channel ≡ c) × AllByRecursion (AnswersOn c) (now.core).outbox × Unit {0}
      by true = (on, all_append (AnswersOn c) after.outbox (plain (list_bytes (listed clt)) ∷ []) all ((tt, list_safe (listed clt)), tt), tt)
      by false = (on, all, tt)
  made_on clt on (after, Ok (Some (requests r))) all = (on, all, on)
  made_on clt on (after, Ok (Some (replies r))) all = (on, all, tt)
  made_on clt on (after, Ok (Some (notices n))) all = (on, all, tt)

  -- ---- what comes of it

  abbrev pub On : WorldState → Type 0
  On w = AreOn c w.client w.kept w.stations

  stationed_on : (w : WorldState) (d : ℕ) (s : StationState SessionDevice) → HeldOn c s → On w → On (with_station w d s)
  stationed_on w d s held on = record {
    channel = on.channel;
    outbox = on.outbox;
    back = on.back;
    held = λ e x there. elim (cases_eq e d) [
      | inl same ↦
          let own : lookup (is_at (nat_cmp e)) (insert_entry nat_cmp w.stations d s) ≡ Some s = rw same (inserted d s w.stations) in
          let is : s ≡ x = cc (own, there) in
          subst (HeldOn c) is held
      | inr other ↦ on.held e x (sym (beside d s e other w.stations) ∙ there)
    ];
  }

  announced_by_on : (w : WorldState) (d : ℕ) (o : Option (StationState SessionDevice)) → station_at w d ≡ o → On w → On (announced_by w d o)
  announced_by_on w d None there on = on
  announced_by_on w d (Some s) there on = stationed_on w d (station.announce s).0 (announced_on c s (on.held d s there)) on

  all_announced_on : (devices : List Announce) (w : WorldState) → On w → On (fold (λ x (a : Announce). announcing x a.id) w devices)
  all_announced_on [] w on = on
  all_announced_on (a ∷ devices) w on = all_announced_on devices (announcing w a.id) (announced_by_on w a.id (station_at w a.id) refl on)

  cut_by_on : (w : WorldState) (d : ℕ) (o : Option (StationState SessionDevice)) → station_at w d ≡ o → On w → On (cut_by w d o)
  cut_by_on w d None there on = on
  cut_by_on w d (Some s) there on = stationed_on w d (station.remove s (device_cut s.device).state).0 (removed_on c s (on.held d s there) (device_cut s.device).state) on

  direct_on : (w : WorldState) (d : ℕ) (job : Job) (st : Status) → (job.key).channel ≡ c → On w → On (answers_directly w d job st)
  direct_on w d job st own on = record {
    channel = on.channel;
    outbox = all_append (AnswersOn c) ((w.client).core).outbox (_ ∷ []) on.outbox ((own, completion_safe (kind_of job.op) (record { device = d; completion = job.completion; status = st }) Fault), tt);
    back = on.back;
    held = on.held;
  }

  refused_on : (w : WorldState) (d : ℕ) (job : Job) → (job.key).channel ≡ c → On w → (cause : PutWhy) → On (refused_put w d job cause)
  refused_on w d job own on why.Gone = direct_on w d job (if is_device_told w d then status.insufficient_resources else no_such_device) own on
  refused_on w d job own on (why.Full held) = record { channel = on.channel; outbox = on.outbox; back = own; held = on.held }
  refused_on w d job own on (why.Worn count) = direct_on w d job status.insufficient_resources own on
  refused_on w d job own on (why.Duplicate key) = on
  refused_on w d job own on why.Memory = on

  putting_on : (w : WorldState) (d : ℕ) (job : Job) → (job.key).channel ≡ c → On w → On (putting w d job)
  putting_on w d job own on = at (station_at w d) refl
    where
      by : (s : StationState SessionDevice) → station_at w d ≡ Some s → (o : Option PutWhy) → On (put_by w d job (put_unless s job o))
      by s there None = stationed_on w d (put_unless s job None).0 (put_on c s (on.held d s there) job own None) on
      by s there (Some cause) = refused_on w d job own on cause

      at : (o : Option (StationState SessionDevice)) → station_at w d ≡ o → On (put_at w d job o)
      at None there = direct_on w d job no_such_device own on
      at (Some s) there = by s there (put_refusal s job)

  opening_on : (shake : ClientState) (w : WorldState) → On w → On (after_opening shake w)
  opening_on shake w on = by (client.becomes_ready shake ((w.client).core).shake)
    where
      by : (b : Bool) → On (if b then fold (λ x (a : Announce). announcing x a.id) w (listed w.client) else w)
      by true = all_announced_on (listed w.client) w on
      by false = on

  heard_on : (shake : ClientState) (w : WorldState) (r : Result Heard EndFault) → HeardOn r → On w → On (heard_by_client shake w r)
  heard_on shake w (Err fault) own on = on
  heard_on shake w (Ok Nothing) own on = opening_on shake w on
  heard_on shake w (Ok (Ask d job)) own on = putting_on w d job own on
  heard_on shake w (Ok (Print n)) own on = record { channel = on.channel; outbox = on.outbox; back = on.back; held = on.held }

  hears_on : (w : WorldState) (message : List ℕ) → On w → On (client_hears w message)
  hears_on w message on =
      let heard = client_hear w.client message in
      let made = made_on w.client on.channel (hearing.hear client_side (w.client).core message) (core_on (w.client).core message on.outbox) in
      heard_on ((w.client).core).shake (with_deed (with_client w heard.0) (client_reads w.channels message)) heard.1 made.2
      (record { channel = made.0; outbox = made.1; back = on.back; held = on.held })

  refreshed_on : (w : WorldState) (d : ℕ) (o : Option PrinterNames) → On w → On (refreshed_by w d o)
  refreshed_on w d None on = on
  refreshed_on w d (Some names) on = record { channel = on.channel; outbox = on.outbox; back = on.back; held = on.held }

-- ---- what leaves some of it alone

pub refreshed_kept : (w : WorldState) (d : ℕ) (o : Option PrinterNames) → ((refreshed_by w d o).kept ≡ w.kept) × ((refreshed_by w d o).stations ≡ w.stations)
refreshed_kept w d None = (refl, refl)
refreshed_kept w d (Some names) = (refl, refl)

pub all_refreshed_kept : (devices : List ℕ) (w : WorldState) → ((fold refreshing w devices).kept ≡ w.kept) × ((fold refreshing w devices).stations ≡ w.stations)
all_refreshed_kept [] w = (refl, refl)
all_refreshed_kept (d ∷ devices) w =
    let one = refreshed_kept w d (lookup (is_at (nat_cmp d)) w.printers) in
    let others = all_refreshed_kept devices (refreshing w d) in
    (others.0 ∙ one.0, others.1 ∙ one.1)

dropped_client : (w : WorldState) (d : ℕ) (o : Option (StationState SessionDevice))
    → (option_map_or (λ (s : StationState SessionDevice). with_station w d (station.drop_channel s (device_cut s.device).state)) o w).client ≡ w.client
dropped_client w d None = refl
dropped_client w d (Some s) = refl

pub all_dropped_client : (devices : List ℕ) (w : WorldState) → (fold dropping w devices).client ≡ w.client
all_dropped_client [] w = refl
all_dropped_client (d ∷ devices) w = all_dropped_client devices (dropping w d) ∙ dropped_client w d (station_at w d)

-- ---- every world

abbrev pub OnNow : WorldState → Type 0
OnNow w = On w.channels w

-- where the channel is the same
still_on : (w v : WorldState) → IsInside w v → On w.channels v → OnNow v
still_on w v i on = subst (λ (n : ℕ). On n v) (sym (ap (λ (o : Outside). o.channels) i.same)) on

pub sent_on : (c : ℕ) (clt after : ClientCoreState) (o : Outgoing) → AllByRecursion (AnswersOn c) (clt.core).outbox → client.client_send clt ≡ (after, Some o)
    → AnswersOn c o × (after.channel ≡ clt.channel) × AllByRecursion (AnswersOn c) (after.core).outbox
sent_on c clt after o all made = by (clt.core).outbox refl
  where
    by : (os : List Outgoing) → (clt.core).outbox ≡ os → AnswersOn c o × (after.channel ≡ clt.channel) × AllByRecursion (AnswersOn c) (after.core).outbox
    by [] is = let none : (client.client_send clt).1 ≡ None = rw is refl in absurd (cc (none, ap (λ (r : ClientCoreState × Option Outgoing). r.1) made))
    by (first ∷ os) is =
        let now : ClientCoreState = record clt { core = record clt.core { outbox = os } } in
        let one : client.client_send clt ≡ (now, Some first) = rw is refl in
        let both = subst (AllByRecursion (AnswersOn c)) is all in
        let same : first ≡ o = (let both : Some first ≡ Some o = ap (λ (r : ClientCoreState × Option Outgoing). r.1) (sym one ∙ made) in cc) in
        let left : now ≡ after = ap (λ (r : ClientCoreState × Option Outgoing). r.0) (sym one ∙ made) in (
          subst (AnswersOn c) same both.0,
          sym (ap (λ (x : ClientCoreState). x.channel) left),
          subst (λ (x : ClientCoreState). AllByRecursion (AnswersOn c) (x.core).outbox) left both.1,
        )

module _ (lines : List NumberedLine) (starves : Key → Bool) where
  pub on_first : OnNow (world_of lines)
  on_first = begins_as lines (λ (u : Unset). AreOn u.channels u.client u.kept u.stations) (record {
    channel = refl;
    outbox = tt;
    back = tt;
    held = λ d s there. idle_on 0 s (first_idle (declared_devices (map (λ (l : NumberedLine). l.line) lines)) d s there);
  })

  pub on_step : (w : WorldState) (p : Part) → Stands w → MayBe lines starves w p → OnNow w → OnNow (done starves w p)
  on_step w (accepts a asked named t number) stand may on = on
  on_step w (refuses a asked cause) stand may on = on
  on_step w (hands_out a number t taken None) stand may on = on
  on_step w (hands_out a number t taken (Some asked)) stand may on = on
  on_step w (host_sends_one message) stand may on = on
  on_step w (host_gets n) stand may on = on
  on_step w host_keeps_part stand may on = on
  on_step w (host_hears_one message rest) stand may on = on
  on_step w (tells_one n) stand may on = on
  on_step w begins stand can on =
      let shut = stand.shut (shut_now w stand (is_off (is_channel_open w) can)) in
      let same = all_refreshed_kept (map (λ (e : ℕ × PrinterNames). e.0) w.printers) w in
      let fresh : WorldState = fold refreshing w (map (λ (e : ℕ × PrinterNames). e.0) w.printers) in
      record {
        channel = refl;
        outbox = tt;
        back = subst (λ (o : Option Kept). IfSome o (λ (k : Kept). ((k.job).key).channel ≡ w.channels + 1)) (sym (same.0 ∙ shut.kept_none)) tt;
        held = λ d s there. idle_on (w.channels + 1) s (shut.idle d s (ap (λ (es : List (ℕ × StationState SessionDevice)). lookup (is_at (nat_cmp d)) es) (sym same.1) ∙ there));
      }
  on_step w ends stand is on =
      let devices : List ℕ = map (λ (e : ℕ × StationState SessionDevice). e.0) w.stations in
      let cut : WorldState = fold dropping w devices in
      let i = all_dropped_inside devices w in
      let channels : cut.channels ≡ w.channels = ap (λ (o : Outside). o.channels) i.same in
      record {
        channel = ap (λ (x : ClientCoreState). x.channel) (all_dropped_client devices w) ∙ on.channel ∙ sym channels;
        outbox = tt;
        back = tt;
        held = λ d s there. idle_on cut.channels s (cut_idle w d s there);
      }
  on_step w (client_sends_one after o) stand made on =
      let sent = sent_on w.channels w.client after o on.outbox made in
      record { channel = sent.1 ∙ on.channel; outbox = sent.2; back = on.back; held = on.held }
  on_step w (client_gets n) stand may on = on
  on_step w client_keeps_part stand may on = on
  on_step w (client_hears_one message rest) stand may on =
      let x : WorldState = record w { to_client = record w.to_client { part = []; taken = _; unhandled = rest } } in
      still_on (with_deed x (client_reads w.channels message)) (done starves w (client_hears_one message rest)) (hears_inside x message) (hears_on w.channels x message on)
  on_step w (tries_one k) stand kept on =
      let x : WorldState = record w { kept = None } in
      let own : ((k.job).key).channel ≡ w.channels = subst (λ (o : Option Kept). IfSome o (λ (k : Kept). ((k.job).key).channel ≡ w.channels)) kept on.back in
      still_on x (done starves w (tries_one k)) (put_inside x k.device k.job)
      (putting_on w.channels x k.device k.job own (record { channel = on.channel; outbox = on.outbox; back = tt; held = on.held }))
  on_step w (collects_one device s after x) stand (reached, quiet, there, made) on =
      stationed_on w.channels w device after (collected_on w.channels s (on.held device s there) after x made).1 on
  on_step w (takes_one device hand s after job) stand (free, there, made) on =
      stationed_on w.channels w device after (took_on w.channels s (on.held device s there) after job made) on
  on_step w (applies_one hand device job None) stand may on = on
  on_step w (applies_one hand device job (Some s)) stand (holds, there) on =
      let came = came_of starves w job s.device in
      stationed_on w.channels w device (station.apply s job w.moment came).0 (applied_on w.channels s (on.held device s there) job w.moment came) on
  on_step w (removes_one device o) stand (can, there) on =
      still_on w (done starves w (removes_one device o)) (removed_inside w device o)
      (cut_by_on w.channels (told_removed w device) device o there
      (record { channel = on.channel; outbox = all_append (AnswersOn w.channels) ((w.client).core).outbox (_ ∷ []) on.outbox ((tt, removal_safe (device ∷ [])), tt); back = on.back; held = on.held }))
  on_step w (adds_one device names o) stand (can, printer, there) on =
      let fresh : WorldState = refreshed_by w device names in
      let now = refreshed_on w.channels w device names on in
      let same = refreshed_kept w device names in
      still_on w (done starves w (adds_one device names o)) (added_inside w device names o)
      (announced_by_on w.channels (told_added fresh device) device o (ap (λ (es : List (ℕ × StationState SessionDevice)). lookup (is_at (nat_cmp device)) es) same.1 ∙ there)
      (record { channel = now.channel; outbox = all_append (AnswersOn w.channels) ((fresh.client).core).outbox (_ ∷ []) now.outbox ((tt, list_safe (client.listed_one fresh.client device)), tt); back = now.back; held = now.held }))
  on_step w (queues_one a) stand may on = on
  on_step w (idle_one number) stand may on = on
  on_step w draws_one stand may on = on
