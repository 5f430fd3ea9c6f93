-- In each world that lines come to, what can be collected at a station is of a message's size.
use Rattle.std.proofs.Common.{◌≡◌, ◌∙◌, refl, sym, ap, subst, inl, inr, ℕ, Bool, true, false, cond, List, [], ◌∷◌, map, fold, Some, None, Option, Result, Ok, Err}
use Rattle.std.specs.Prelude.{if◌then◌else◌, not, ◌&&◌}
use Rattle.std.specs.List.{AllByRecursion}
use Rattle.std.specs.Map.{lookup}
use Rattle.std.specs.Ordering.{nat_cmp}
use Rattle.std.specs.BTreeMap.{insert_entry, is_at}
use Rattle.std.specs.Option.{option_map_or}
use Rattle.std.proofs.lemmas.Bool.{cases_eq}
use Rattle.rd_base.specs.declared.journal.Key.{Key}
use Rattle.rd_client.specs.Core as client
use Rattle.rd_client.specs.Core.{client_hear, listed}
use Rattle.rd_client.specs.declared.heard.Heard.{Heard}
use Rattle.rd_client.specs.declared.heard.Heard.TheVariants.{Nothing, Ask, Print}
use Rattle.rd_devices.specs.declared.list.Announce.{Announce}
use Rattle.rd_drive.specs.declared.plan.Job.{Job}
use Rattle.rd_hello.specs.declared.client.ClientState.{ClientState}
use Rattle.rd_hello.specs.declared.end_fault.EndFault.{EndFault}
use Rattle.rd_pending.proofs.MapLemmas.{beside, inserted}
use Rattle.rd_script.specs.declared.line.NumberedLine.{NumberedLine}
use Rattle.rd_station.specs.declared.refusals.PutWhy.{PutWhy}
use Rattle.rd_station.specs.declared.refusals.PutWhy.TheVariants as why
use Rattle.rd_station.specs.Station as station
use Rattle.rd_station.specs.Station.{StationState, put_refusal, put_unless}
use Rattle.rd_runs.specs.Premises.{AreBounded, DeviceFits}
use Rattle.rd_runs.proofs.BeginningLemmas.{Unset, begins_as}
use Rattle.rd_runs.proofs.KeysOn.{all_refreshed_kept, refreshed_kept}
use Rattle.rd_runs.proofs.Parts.{IsBehind, MayBe, Part, accepts, adds_one, announced_by, applies_one, begins, by_parts, client_gets, client_hears_one, client_keeps_part, client_sends_one, collects_one, done, draws_one, ends, hands_out, host_gets, host_hears_one, host_keeps_part, host_sends_one, idle_one, queues_one, reached_behind, refreshed_by, refuses, removes_one, takes_one, tells_one, told_added, tries_one}
use Rattle.rd_runs.proofs.SendingLemmas.{StationSends, announced_sends, applied_sends, came_sends, collected_sends, dropped_sends, put_sends, removed_sends, sendable_fits, took_sends}
use Rattle.rd_runs.proofs.Sizes.{AreCompletionsFit}
use Rattle.rd_declared.specs.declared.device.SessionDevice.{SessionDevice}
use Rattle.rd_declared.specs.Devices.{Declared, PrinterNames, device_cut}
use Rattle.rd_world.specs.Events.{came_of, dropping, is_close}
use Rattle.rd_world.specs.Hearing.{announcing, heard_by_client, put_at, put_by, putting, refused_put, with_client}
use Rattle.rd_declared.specs.Declaring.{declared_devices}
use Rattle.rd_world.specs.Run.{station_of}
use Rattle.rd_deeds.specs.Talk.{client_reads}
use Rattle.rd_world.specs.World.{WorldState, station_at, with_deed, with_station}

-- each station's device is within its bounds, and what is ready can be sent
abbrev pub AllSend : List (ℕ × StationState SessionDevice) → Type 0
AllSend stations = (d : ℕ) (s : StationState SessionDevice) → lookup (is_at (nat_cmp d)) stations ≡ Some s → StationSends s

-- ---- one station

put_station : (stations : List (ℕ × StationState SessionDevice)) (d : ℕ) (s : StationState SessionDevice) → StationSends s → AllSend stations → AllSend (insert_entry nat_cmp stations d s)
put_station stations d s own all e x there = elim (cases_eq e d) [
  | inl same ↦
      let found : lookup (is_at (nat_cmp e)) (insert_entry nat_cmp stations d s) ≡ Some s = rw same (inserted d s stations) in
      let is : s ≡ x = cc (found, there) in
      subst StationSends is own
  | inr other ↦ all e x (sym (beside d s e other stations) ∙ there)
]

announced_all_send : (w : WorldState) (d : ℕ) (o : Option (StationState SessionDevice)) → station_at w d ≡ o → AllSend w.stations → AllSend (announced_by w d o).stations
announced_all_send w d None there all = all
announced_all_send w d (Some s) there all = put_station w.stations d (station.announce s).0 (announced_sends s (all d s there)) all

each_announced : (devices : List Announce) (w : WorldState) → AllSend w.stations → AllSend (fold (λ x (a : Announce). announcing x a.id) w devices).stations
each_announced [] w all = all
each_announced (a ∷ devices) w all = each_announced devices (announcing w a.id) (announced_all_send w a.id (station_at w a.id) refl all)

put_all_send : (w : WorldState) (d : ℕ) (job : Job) → AllSend w.stations → AllSend (putting w d job).stations
put_all_send w d job all = at (station_at w d) refl
  where
    refused : (cause : PutWhy) → AllSend (refused_put w d job cause).stations
    refused why.Gone = all
    refused (why.Full held) = all
    refused (why.Worn count) = all
    refused (why.Duplicate key) = all
    refused why.Memory = all

    by : (s : StationState SessionDevice) → station_at w d ≡ Some s → (o : Option PutWhy) → AllSend (put_by w d job (put_unless s job o)).stations
    by s there None = put_station w.stations d (put_unless s job None).0 (put_sends s (all d s there) job None) all
    by s there (Some cause) = refused cause

    at : (o : Option (StationState SessionDevice)) → station_at w d ≡ o → AllSend (put_at w d job o).stations
    at None there = all
    at (Some s) there = by s there (put_refusal s job)

heard_all_send : (shake : ClientState) (w : WorldState) (r : Result Heard EndFault) → AllSend w.stations → AllSend (heard_by_client shake w r).stations
heard_all_send shake w (Err fault) all = all
heard_all_send shake w (Ok Nothing) all = by (client.becomes_ready shake ((w.client).core).shake)
  where
    by : (b : Bool) → AllSend (if b then fold (λ x (a : Announce). announcing x a.id) w (listed w.client) else w).stations
    by true = each_announced (listed w.client) w all
    by false = all
heard_all_send shake w (Ok (Ask d job)) all = put_all_send w d job all
heard_all_send shake w (Ok (Print n)) all = all

one_dropped : (w : WorldState) (d : ℕ) → AllSend w.stations → AllSend (dropping w d).stations
one_dropped w d all = by (station_at w d) refl
  where
    by : (o : Option (StationState SessionDevice)) → station_at w d ≡ o
        → AllSend (option_map_or (λ (s : StationState SessionDevice). with_station w d (station.drop_channel s (device_cut s.device).state)) o w).stations
    by None there = all
    by (Some s) there = put_station w.stations d (station.drop_channel s (device_cut s.device).state) (dropped_sends s (all d s there)) all

each_dropped : (devices : List ℕ) (w : WorldState) → AllSend w.stations → AllSend (fold dropping w devices).stations
each_dropped [] w all = all
each_dropped (d ∷ devices) w all = each_dropped devices (dropping w d) (one_dropped w d all)

same_stations : (old new : List (ℕ × StationState SessionDevice)) → new ≡ old → AllSend old → AllSend new
same_stations old new same all = subst AllSend (sym same) all

first_send : (devices : List (ℕ × Declared)) → AllByRecursion (λ (e : ℕ × Declared). DeviceFits (e.1).state) devices → AllSend (map station_of devices)
first_send [] fits d x there = absurd (cc there)
first_send (e ∷ devices) fits d x there = by (is_at (nat_cmp d) e.0) there (first_send devices fits.1 d x)
  where
    by : (b : Bool) → cond b (Some (station_of e).1) (lookup (is_at (nat_cmp d)) (map station_of devices)) ≡ Some x → (lookup (is_at (nat_cmp d)) (map station_of devices) ≡ Some x → StationSends x)
        → StationSends x
    by true found later = let is : (station_of e).1 ≡ x = cc found in subst StationSends is (record { device = fits.0; ready = tt })
    by false found later = later found

-- ---- all worlds

module _ (lines : List NumberedLine) (starves : Key → Bool) (bounded : AreBounded lines) where
  step : (w : WorldState) (p : Part) → MayBe lines starves w p → AllSend w.stations → AllSend (done starves w p).stations
  step w (accepts a asked named t number) may all = all
  step w (refuses a asked cause) may all = all
  step w (hands_out a number t taken None) may all = all
  step w (hands_out a number t taken (Some asked)) may all = all
  step w (host_sends_one message) may all = all
  step w (host_gets n) may all = all
  step w host_keeps_part may all = all
  step w (host_hears_one message rest) may all = all
  step w (tells_one n) may all = all
  step w begins may all = same_stations w.stations _ (all_refreshed_kept (map (λ (e : ℕ × PrinterNames). e.0) w.printers) w).1 all
  step w ends may all = each_dropped (map (λ (e : ℕ × StationState SessionDevice). e.0) w.stations) w all
  step w (client_sends_one after o) may all = all
  step w (client_gets n) may all = all
  step w client_keeps_part may all = all
  step w (client_hears_one message rest) may all =
      let x : WorldState = record w { to_client = record w.to_client { part = []; taken = _; unhandled = rest } } in
      let heard = client_hear x.client message in
      heard_all_send ((x.client).core).shake (with_deed (with_client x heard.0) (client_reads x.channels message)) heard.1 all
  step w (tries_one k) may all = put_all_send (record w { kept = None }) k.device k.job all
  step w (collects_one device s after c) (reached, quiet, there, made) all = put_station w.stations device after (collected_sends s (all device s there) after c made).1 all
  step w (takes_one device hand s after job) (free, there, made) all = put_station w.stations device after (took_sends s (all device s there) after job made) all
  step w (applies_one hand device job None) may all = all
  step w (applies_one hand device job (Some s)) (holds, there) all =
      let own = all device s there in
      put_station w.stations device (station.apply s job w.moment (came_of starves w job s.device)).0
      (applied_sends s own job w.moment (came_of starves w job s.device) (came_sends s.device job.key job.file job.op w.moment (starves job.key && not (is_close job.op)) own.device)) all
  step w (removes_one device None) may all = all
  step w (removes_one device (Some s)) (can, there) all = put_station w.stations device (station.remove s (device_cut s.device).state).0 (removed_sends s (all device s there)) all
  step w (adds_one device names o) (can, printer, there) all =
      let fresh : WorldState = refreshed_by w device names in
      let same = (refreshed_kept w device names).1 in
      announced_all_send (told_added fresh device) device o (ap (λ (es : List (ℕ × StationState SessionDevice)). lookup (is_at (nat_cmp device)) es) same ∙ there) (same_stations w.stations fresh.stations same all)
  step w (queues_one a) may all = all
  step w (idle_one number) may all = all
  step w draws_one may all = all

  all_send : (w : WorldState) → IsBehind lines starves w → AllSend w.stations
  all_send =
      by_parts lines starves (λ w. AllSend w.stations)
      (begins_as lines (λ (u : Unset). AllSend u.stations) (first_send (declared_devices (map (λ (l : NumberedLine). l.line) lines)) bounded)) (λ w p before after may all. step w p may all)

  -- what can be collected is of a message's size
  pub completions_fit : AreCompletionsFit lines starves
  completions_fit w r device s after c there made =
      sendable_fits c.kind (record { device = device; completion = c.completion; status = (c.reply).status }) (c.reply).body (collected_sends s (all_send w (reached_behind lines starves w r) device s there) after c made).0
