-- In each world that lines come to no station is over, so what waits there can be taken.
use Rattle.std.proofs.Common.{◌≡◌, ◌∙◌, refl, sym, ap, subst, ℕ, Bool, true, false, cond, List, [], ◌∷◌, map, fold, Some, None, Option, Result, Ok, Err}
use Rattle.std.specs.Prelude.{find, if◌then◌else◌, nat_le}
use Rattle.std.specs.Map.{lookup}
use Rattle.std.specs.Ordering.{nat_cmp}
use Rattle.std.specs.BTreeMap.{is_at}
use Rattle.std.specs.Option.{IfSome, option_map_or}
use Rattle.rd_base.specs.declared.journal.Key.{Key}
use Rattle.rd_client.specs.Core as client
use Rattle.rd_client.specs.Core.{client_hear, listed}
use Rattle.rd_client.specs.declared.heard.Heard.{Heard}
use Rattle.rd_client.specs.declared.heard.Heard.TheVariants.{Nothing, Ask, Print}
use Rattle.rd_devices.specs.declared.list.Announce.{Announce}
use Rattle.rd_drive.specs.declared.plan.Job.{Job}
use Rattle.rd_drive.specs.Device.{is_parked}
use Rattle.rd_drive.specs.Stepped.{Stepped}
use Rattle.rd_hello.specs.declared.client.ClientState.{ClientState}
use Rattle.rd_hello.specs.declared.end_fault.EndFault.{EndFault}
use Rattle.rd_irp.specs.Fits.{kind_of}
use Rattle.rd_told.proofs.RunsBeginningLemmas.{Unset, begins_as}
use Rattle.rd_told.proofs.RunsParts.{MayBe, Part, accepts, adds_one, announced_by, applies_one, begins, by_parts, client_gets, client_hears_one, client_keeps_part, client_sends_one, collects_one, cut_by, done, draws_one, ends, hands_out, host_gets, host_hears_one, host_keeps_part, host_sends_one, idle_one, queues_one, reached_behind, refreshed_by, refuses, removes_one, takes_one, tells_one, told_added, told_removed, tries_one}
use Rattle.rd_told.specs.RunsMoves.{Reached}
use Rattle.rd_script.specs.declared.line.NumberedLine.{NumberedLine}
use Rattle.rd_station.specs.declared.answers.Applied.{Applied}
use Rattle.rd_station.specs.declared.answers.Applied.TheVariants as applied
use Rattle.rd_station.specs.declared.answers.Completion.{Completion}
use Rattle.rd_station.specs.declared.answers.Given.{Given}
use Rattle.rd_station.specs.declared.answers.Given.TheVariants as given
use Rattle.rd_station.specs.declared.held.InHand.{InHand}
use Rattle.rd_station.specs.declared.refusals.AnnounceNo.{AnnounceNo}
use Rattle.rd_station.specs.declared.refusals.AnnounceNo.TheVariants as refused
use Rattle.rd_station.specs.declared.refusals.PutWhy.{PutWhy}
use Rattle.rd_station.specs.declared.refusals.PutWhy.TheVariants as why
use Rattle.rd_station.specs.Station as station
use Rattle.rd_station.specs.Station.{StationState, is_key}
use Rattle.rd_declared.specs.declared.device.SessionDevice.{SessionDevice}
use Rattle.rd_declared.specs.Devices.{Declared, PrinterNames, device_cut}
use Rattle.rd_world.specs.Events.{came_of, dropping, refreshing}
use Rattle.rd_world.specs.Hearing.{after_opening, announcing, heard_by_client, put_at, put_by, putting, refused_put, with_client}
use Rattle.rd_declared.specs.Declaring.{declared_devices}
use Rattle.rd_world.specs.Run.{station_of}
use Rattle.rd_deeds.specs.Talk.{client_reads}
use Rattle.rd_world.specs.World.{WorldState, station_at, with_deed, with_station}
use Rattle.rd_ended.proofs.Remaining.{put_at_each}

abbrev Of : Type 0
Of = StationState SessionDevice

-- ---- no call ends a session

announced_on : (s : Of) → (station.announce s).0.ended ≡ s.ended
announced_on s = by s.live (nat_le station.max_entries (station.entry_count s))
  where
    by : (a b : Bool) → (cond {A = Of × Result (Unit {0}) AnnounceNo} a (s, Err refused.Live) (cond b (s, Err (refused.Worn (station.entry_count s))) (record s { live = true }, Ok tt))).0.ended ≡ s.ended
    by true b = refl
    by false true = refl
    by false false = refl

put_on : (s : Of) (job : Job) → (station.put s job).0.ended ≡ s.ended
put_on s job = by (station.put_refusal s job)
  where
    by : (o : Option PutWhy) → (station.put_unless s job o).0.ended ≡ s.ended
    by None = refl
    by (Some cause) = refl

took_on : (s : Of) → (station.take s).0.ended ≡ s.ended
took_on s = by s.ended s.waiting
  where
    by : (b : Bool) (jobs : List Job) → (cond {A = Of × Given} b (s, given.Over) (station.take_first s jobs)).0.ended ≡ s.ended
    by true jobs = refl
    by false [] = refl
    by false (job ∷ jobs) = refl

ran_on : (s : Of) (job : Job) (moment : ℕ) (came : Stepped SessionDevice) → (station.apply s job moment came).0.ended ≡ s.ended
ran_on s job moment came = by (find (λ (t : InHand). is_key t.key job.key) s.taken)
  where
    by : (o : Option InHand) → (station.apply_from s job moment came o).0.ended ≡ s.ended
    by None = refl
    by (Some t) = hand t.removed
      where
        hand : (b : Bool) → (cond {A = Of × Applied} b (station.cancelled_in_hand s t (kind_of job.op), applied.Cancelled) (station.ran s t (kind_of job.op) moment came, cond (is_parked came.answer) applied.Parked applied.Ran)).0.ended ≡ s.ended
        hand true = refl
        hand false = refl

collected_on : (s : Of) → (station.collect s).0.ended ≡ s.ended
collected_on s = by s.ready
  where
    by : (cs : List Completion) → (station.collect_first s cs).0.ended ≡ s.ended
    by [] = refl
    by (c ∷ cs) = refl

removed_on : (s : Of) (cut : SessionDevice) → (station.remove s cut).0.ended ≡ s.ended
removed_on s cut = live s.live refl
  where
    live : (l : Bool) → s.live ≡ l → (station.remove s cut).0.ended ≡ s.ended
    live true is = rw is refl
    live false is = rw is refl

dropped_on : (s : Of) (cut : SessionDevice) → (station.drop_channel s cut).ended ≡ s.ended
dropped_on s cut = live s.live refl
  where
    live : (l : Bool) → s.live ≡ l → (station.drop_channel s cut).ended ≡ s.ended
    live true is = rw is refl
    live false is = rw is refl

-- ---- worlds

abbrev pub AreGoing : List (ℕ × Of) → Type 0
AreGoing es = (d : ℕ) → IfSome (lookup (is_at (nat_cmp d)) es) (λ (s : Of). s.ended ≡ false)

abbrev Going : WorldState → Type 0
Going w = AreGoing w.stations

station_goes : (w : WorldState) (d : ℕ) (s after : Of) → station_at w d ≡ Some s → after.ended ≡ s.ended → Going w → Going (with_station w d after)
station_goes w d s after there same g =
    let old : s.ended ≡ false = subst (λ (o : Option Of). IfSome o (λ (x : Of). x.ended ≡ false)) there (g d) in
    put_at_each (λ (q : ℕ) (o : Option Of). IfSome o (λ (x : Of). x.ended ≡ false)) d after w.stations (same ∙ old) g

announced_goes : (w : WorldState) (d : ℕ) (o : Option Of) → station_at w d ≡ o → Going w → Going (announced_by w d o)
announced_goes w d None there g = g
announced_goes w d (Some s) there g = station_goes w d s (station.announce s).0 there (announced_on s) g

all_announced : (devices : List Announce) (w : WorldState) → Going w → Going (fold (λ x (a : Announce). announcing x a.id) w devices)
all_announced [] w g = g
all_announced (a ∷ devices) w g = all_announced devices (announcing w a.id) (announced_goes w a.id (station_at w a.id) refl g)

put_goes : (w : WorldState) (d : ℕ) (job : Job) → Going w → Going (putting w d job)
put_goes w d job g = at (station_at w d) refl
  where
    refuses : (cause : PutWhy) → Going (refused_put w d job cause)
    refuses why.Gone = g
    refuses (why.Full held) = g
    refuses (why.Worn count) = g
    refuses (why.Duplicate key) = g
    refuses why.Memory = g

    by : (s : Of) → station_at w d ≡ Some s → (r : Of × Option PutWhy) → (r.0).ended ≡ s.ended → Going (put_by w d job r)
    by s there (after, None) same = station_goes w d s after there same g
    by s there (after, Some cause) same = refuses cause

    at : (o : Option Of) → station_at w d ≡ o → Going (put_at w d job o)
    at None there = g
    at (Some s) there = by s there (station.put s job) (put_on s job)

opened_goes : (shake : ClientState) (w : WorldState) → Going w → Going (after_opening shake w)
opened_goes shake w g = by (client.becomes_ready shake ((w.client).core).shake)
  where
    by : (b : Bool) → Going (if b then fold (λ x (a : Announce). announcing x a.id) w (listed w.client) else w)
    by true = all_announced (listed w.client) w g
    by false = g

heard_goes : (shake : ClientState) (w : WorldState) (r : Result Heard EndFault) → Going w → Going (heard_by_client shake w r)
heard_goes shake w (Err fault) g = g
heard_goes shake w (Ok Nothing) g = opened_goes shake w g
heard_goes shake w (Ok (Ask device job)) g = put_goes w device job g
heard_goes shake w (Ok (Print n)) g = g

cut_goes : (w : WorldState) (d : ℕ) (o : Option Of) → station_at w d ≡ o → Going w → Going (cut_by w d o)
cut_goes w d None there g = g
cut_goes w d (Some s) there g = station_goes w d s (station.remove s (device_cut s.device).state).0 there (removed_on s (device_cut s.device).state) g

all_dropped : (devices : List ℕ) (w : WorldState) → Going w → Going (fold dropping w devices)
all_dropped [] w g = g
all_dropped (d ∷ devices) w g = all_dropped devices (dropping w d) (one (station_at w d) refl)
  where
    one : (o : Option Of) → station_at w d ≡ o → Going (option_map_or (λ (s : Of). with_station w d (station.drop_channel s (device_cut s.device).state)) o w)
    one None there = g
    one (Some s) there = station_goes w d s (station.drop_channel s (device_cut s.device).state) there (dropped_on s (device_cut s.device).state) g

refreshed_same : (w : WorldState) (d : ℕ) (o : Option PrinterNames) → (refreshed_by w d o).stations ≡ w.stations
refreshed_same w d None = refl
refreshed_same w d (Some names) = refl

all_refreshed : (devices : List ℕ) (w : WorldState) → (fold refreshing w devices).stations ≡ w.stations
all_refreshed [] w = refl
all_refreshed (d ∷ devices) w = all_refreshed devices (refreshing w d) ∙ refreshed_same w d (lookup (is_at (nat_cmp d)) w.printers)

first_going : (devices : List (ℕ × Declared)) → AreGoing (map station_of devices)
first_going [] d = tt
first_going (e ∷ devices) d = by (is_at (nat_cmp d) e.0) (first_going devices d)
  where
    by : (b : Bool) → IfSome (lookup (is_at (nat_cmp d)) (map station_of devices)) (λ (s : Of). s.ended ≡ false)
        → IfSome (cond b (Some (station_of e).1) (lookup (is_at (nat_cmp d)) (map station_of devices))) (λ (s : Of). s.ended ≡ false)
    by true later = refl
    by false later = later

module _ (lines : List NumberedLine) (starves : Key → Bool) where
  step : (w : WorldState) (p : Part) → MayBe lines starves w p → Going w → Going (done starves w p)
  step w (accepts a asked named t number) may g = g
  step w (refuses a asked cause) may g = g
  step w (hands_out a number t taken None) may g = g
  step w (hands_out a number t taken (Some asked)) may g = g
  step w (host_sends_one message) may g = g
  step w (host_gets n) may g = g
  step w host_keeps_part may g = g
  step w (host_hears_one message rest) may g = g
  step w (tells_one notice) may g = g
  step w begins may g = subst AreGoing (sym (all_refreshed (map (λ (e : ℕ × PrinterNames). e.0) w.printers) w)) g
  step w ends may g = all_dropped (map (λ (e : ℕ × Of). e.0) w.stations) w g
  step w (client_sends_one after o) may g = g
  step w (client_gets n) may g = g
  step w client_keeps_part may g = g
  step w (client_hears_one message rest) may g =
      let heard = client_hear w.client message in
      let x : WorldState = record w { to_client = record w.to_client { part = []; taken = _; unhandled = rest } } in
      heard_goes ((w.client).core).shake (with_deed (with_client x heard.0) (client_reads w.channels message)) heard.1 g
  step w (tries_one kept) may g = put_goes (record w { kept = None }) kept.device kept.job g
  step w (collects_one device s after c) (reached, idle, there, made) g =
      station_goes w device s after there (ap (λ (r : Of × Option Completion). (r.0).ended) (sym made) ∙ collected_on s) g
  step w (takes_one device hand s after job) (free, there, made) g =
      station_goes w device s after there (ap (λ (r : Of × Given). (r.0).ended) (sym made) ∙ took_on s) g
  step w (applies_one hand device job None) (holds, there) g = g
  step w (applies_one hand device job (Some s)) (holds, there) g =
      station_goes w device s (station.apply s job w.moment (came_of starves w job s.device)).0 there (ran_on s job w.moment (came_of starves w job s.device)) g
  step w (removes_one device o) (can, there) g = cut_goes (told_removed w device) device o there g
  step w (adds_one device names o) (can, is, there) g =
      let fresh : WorldState = refreshed_by w device names in
      let same : fresh.stations ≡ w.stations = refreshed_same w device names in
      announced_goes (told_added fresh device) device o (ap (λ (es : List (ℕ × Of)). lookup (is_at (nat_cmp device)) es) same ∙ there) (subst AreGoing (sym same) g)
  step w (queues_one a) may g = g
  step w (idle_one number) may g = g
  step w draws_one may g = g

  pub stations_go : (w : WorldState) → Reached lines starves w → AreGoing w.stations
  stations_go w r =
      by_parts lines starves Going (begins_as lines (λ (u : Unset). AreGoing u.stations) (first_going (declared_devices (map (λ (l : NumberedLine). l.line) lines))))
      (λ x p before after may g. step x p may g) w (reached_behind lines starves w r)
