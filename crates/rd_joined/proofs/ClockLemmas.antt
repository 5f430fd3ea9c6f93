-- Every run of a session is at its moment.
use Rattle.std.proofs.Common.{◌≡◌, refl, subst, ℕ, Bool, true, false, List, [], ◌∷◌, ◌++◌, map, fold, Some, None, Option, Result, Ok, Err}
use Rattle.std.specs.Prelude.{find, if◌then◌else◌, nat_le, not}
use Rattle.std.specs.Map.{lookup}
use Rattle.std.specs.Ordering.{nat_cmp}
use Rattle.std.specs.BTreeMap.{is_at}
use Rattle.std.specs.Option.{IfSome, option_map_or}
use Rattle.rd_base.specs.declared.journal.Item.{Item}
use Rattle.rd_base.specs.declared.journal.Item.TheVariants.{Came, Cancelled, Cut, Ran, Sent}
use Rattle.rd_base.specs.declared.journal.Key.{Key}
use Rattle.rd_base.specs.declared.journal.Cause.{Cause}
use Rattle.rd_base.specs.declared.journal.Cause.TheVariants.{Dropped, Removed}
use Rattle.rd_client.specs.Core as client
use Rattle.rd_client.specs.Core.{client_hear, listed}
use Rattle.rd_client.specs.declared.heard.Heard.{Heard}
use Rattle.rd_client.specs.declared.heard.Heard.TheVariants.{Nothing, Ask, Print}
use Rattle.rd_devices.specs.declared.list.Announce.{Announce}
use Rattle.rd_drive.specs.declared.plan.Job.{Job}
use Rattle.rd_drive.specs.Stepped.{Stepped}
use Rattle.rd_hello.specs.declared.client.ClientState.{ClientState}
use Rattle.rd_hello.specs.declared.end_fault.EndFault.{EndFault}
use Rattle.rd_journals.specs.RunsMoves.{Reached}
use Rattle.rd_journals.proofs.RunsBeginningLemmas.{Unset, begins_as}
use Rattle.rd_journals.proofs.RunsParts.{MayBe, Part, accepts, adds_one, applies_one, begins, by_parts, client_gets, client_hears_one, client_keeps_part, client_sends_one, collects_one, done, draws_one, ends, hands_out, host_gets, host_hears_one, host_keeps_part, host_sends_one, idle_one, queues_one, reached_behind, refreshed_by, refuses, removes_one, takes_one, tells_one, told_added, told_removed, tries_one}
use Rattle.rd_journals.proofs.RunsRoomLemmas.{OfAll}
use Rattle.rd_script.specs.declared.line.NumberedLine.{NumberedLine}
use Rattle.rd_station.specs.declared.answers.Completion.{Completion}
use Rattle.rd_station.specs.declared.answers.Given.{Given}
use Rattle.rd_station.specs.declared.answers.Given.TheVariants as given
use Rattle.rd_station.specs.declared.held.InHand.{InHand}
use Rattle.rd_station.specs.declared.refusals.PutWhy.{PutWhy}
use Rattle.rd_station.specs.declared.refusals.PutWhy.TheVariants as why
use Rattle.rd_station.specs.Station as station
use Rattle.rd_station.specs.Station.{StationState, is_key}
use Rattle.rd_station.specs.declared.refusals.AnnounceNo.{AnnounceNo}
use Rattle.rd_station.specs.declared.refusals.AnnounceNo.TheVariants as no
use Rattle.rd_declared.specs.declared.device.SessionDevice.{SessionDevice}
use Rattle.rd_declared.specs.Devices.{Declared, PrinterNames, device_cut}
use Rattle.rd_world.specs.Events.{came_of, dropping, refreshing}
use Rattle.rd_world.specs.Hearing.{announcing, heard_by_client, put_at, put_by, putting, refused_put, with_client}
use Rattle.rd_declared.specs.Declaring.{bare_lines, declared_devices}
use Rattle.rd_world.specs.Run.{station_of, world_of}
use Rattle.rd_deeds.specs.Talk.{client_reads}
use Rattle.rd_world.specs.World.{Asked, WorldState, station_at, with_deed, with_station}
use Rattle.std.specs.List.{AllByRecursion}
use Rattle.rd_base.specs.Lawful.{RunsAt}
use Rattle.rd_joined.proofs.CutLemmas.{AllOf, Of, found, put_station}

-- ---- a station

module _ (m : ℕ) where
  abbrev AtMoment : Of → Type 0
  AtMoment s = AllByRecursion (RunsAt m) s.journal

  one_more : (items : List Item) (x : Item) → RunsAt m x → AllByRecursion (RunsAt m) items → AllByRecursion (RunsAt m) (items ++ x ∷ [])
  one_more [] x own all = (own, tt)
  one_more (y ∷ items) x own all = (all.0, one_more items x own all.1)

  cut_more : (items : List Item) (cause : Cause) (jobs : List Job) → AllByRecursion (RunsAt m) items → AllByRecursion (RunsAt m) (items ++ Cut cause ∷ map (λ (job : Job). Cancelled job.key) jobs)
  cut_more [] cause jobs all = (tt, cancelled jobs)
    where
      cancelled : (js : List Job) → AllByRecursion (RunsAt m) (map (λ (job : Job). Cancelled job.key) js)
      cancelled [] = tt
      cancelled (job ∷ js) = (tt, cancelled js)
  cut_more (y ∷ items) cause jobs all = (all.0, cut_more items cause jobs all.1)

  either : {R : Type 0} (b : Bool) (x y : Of × R) → AtMoment x.0 → AtMoment y.0 → AtMoment (if b then x else y).0
  either true x y first second = first
  either false x y first second = second

  announced : (s : Of) → AtMoment s → AtMoment (station.announce s).0
  announced s at = by s.live (nat_le station.max_entries (station.entry_count s))
    where
      by : (a b : Bool) → AtMoment (if◌then◌else◌ {A = Of × Result (Unit {0}) AnnounceNo} a (s, Err no.Live) (if b then (s, Err (no.Worn (station.entry_count s))) else (record s { live = true }, Ok tt))).0
      by true b = at
      by false true = at
      by false false = at

  put_at_moment : (s : Of) (job : Job) → AtMoment s → AtMoment (station.put s job).0
  put_at_moment s job at = by (station.put_refusal s job)
    where
      by : (o : Option PutWhy) → AtMoment (station.put_unless s job o).0
      by None = one_more s.journal (Came job.key) tt at
      by (Some cause) = at

  taken : (s : Of) → AtMoment s → AtMoment (station.take s).0
  taken s at = either s.ended (s, given.Over) (station.take_first s s.waiting) at (by s.waiting)
    where
      by : (jobs : List Job) → AtMoment (station.take_first s jobs).0
      by [] = at
      by (job ∷ jobs) = at

  collected : (s : Of) → AtMoment s → AtMoment (station.collect s).0
  collected s at = by s.ready
    where
      by : (cs : List Completion) → AtMoment (station.collect_first s cs).0
      by [] = at
      by (c ∷ cs) = one_more s.journal (Sent c.key) tt at

  applied_at : (s : Of) (job : Job) (moment : ℕ) (came : Stepped SessionDevice) → moment ≡ m → AtMoment s → AtMoment (station.apply s job moment came).0
  applied_at s job moment came now at = by (find (λ (t : InHand). is_key t.key job.key) s.taken)
    where
      by : (o : Option InHand) → AtMoment (station.apply_from s job moment came o).0
      by None = at
      by (Some t) = either t.removed _ _ (one_more s.journal (Cancelled t.key) tt at) (one_more s.journal (Ran t.key moment _ _) now at)

  removed : (s : Of) (cut : SessionDevice) → AtMoment s → AtMoment (station.remove s cut).0
  removed s cut at = either (not s.live) _ _ at (cut_more s.journal Removed s.waiting at)

  dropped : (s : Of) (cut : SessionDevice) → AtMoment s → AtMoment (station.drop_channel s cut)
  dropped s cut at = by s.live refl
    where
      by : (b : Bool) → s.live ≡ b → AtMoment (station.drop_channel s cut)
      by true e = rw e (cut_more s.journal Dropped [] at)
      by false e = rw e at

  -- ---- a world

  abbrev Clocked : WorldState → Type 0
  Clocked w = AllOf AtMoment w × (w.moment ≡ m)

  called : (w : WorldState) (device : ℕ) (f : Of → Of) → ((s : Of) → AtMoment s → AtMoment (f s)) → Clocked w → (o : Option Of) → IfSome o AtMoment
      → Clocked (option_map_or (λ (s : Of). with_station w device (f s)) o w)
  called w device f keeps is None own = is
  called w device f keeps is (Some s) own = (put_station AtMoment w device (f s) (keeps s own) is.0, is.1)

  all_dropped : (devices : List ℕ) (w : WorldState) → Clocked w → Clocked (fold dropping w devices)
  all_dropped [] w is = is
  all_dropped (device ∷ devices) w is =
      all_dropped devices (dropping w device)
      (called w device (λ s. station.drop_channel s (device_cut s.device).state) (λ s at. dropped s (device_cut s.device).state at) is (station_at w device) (found AtMoment w device is.0))

  refreshed : (w : WorldState) (device : ℕ) (o : Option PrinterNames) → Clocked w → Clocked (refreshed_by w device o)
  refreshed w device None is = is
  refreshed w device (Some names) is = is

  all_refreshed : (devices : List ℕ) (w : WorldState) → Clocked w → Clocked (fold refreshing w devices)
  all_refreshed [] w is = is
  all_refreshed (device ∷ devices) w is = all_refreshed devices (refreshing w device) (refreshed w device (lookup (is_at (nat_cmp device)) w.printers) is)

  all_announced : (devices : List Announce) (w : WorldState) → Clocked w → Clocked (fold (λ (x : WorldState) (a : Announce). announcing x a.id) w devices)
  all_announced [] w is = is
  all_announced (a ∷ devices) w is =
      all_announced devices (announcing w a.id) (called w a.id (λ s. (station.announce s).0) announced is (station_at w a.id) (found AtMoment w a.id is.0))

  refused_keeps : (w : WorldState) (device : ℕ) (job : Job) (cause : PutWhy) → Clocked w → Clocked (refused_put w device job cause)
  refused_keeps w device job why.Gone is = is
  refused_keeps w device job (why.Full held) is = is
  refused_keeps w device job (why.Worn count) is = is
  refused_keeps w device job (why.Duplicate key) is = is
  refused_keeps w device job why.Memory is = is

  put_keeps : (w : WorldState) (device : ℕ) (job : Job) → Clocked w → Clocked (putting w device job)
  put_keeps w device job is = at (station_at w device) (found AtMoment w device is.0)
    where
      by : (r : Of × Option PutWhy) → AtMoment r.0 → Clocked (put_by w device job r)
      by (s, None) own = (put_station AtMoment w device s own is.0, is.1)
      by (s, Some cause) own = refused_keeps w device job cause is

      at : (o : Option Of) → IfSome o AtMoment → Clocked (put_at w device job o)
      at None own = is
      at (Some s) own = by (station.put s job) (put_at_moment s job own)

  heard_keeps : (shake : ClientState) (w : WorldState) (r : Result Heard EndFault) → Clocked w → Clocked (heard_by_client shake w r)
  heard_keeps shake w (Err fault) is = is
  heard_keeps shake w (Ok Nothing) is = by (client.becomes_ready shake ((w.client).core).shake)
    where
      by : (b : Bool) → Clocked (if b then fold (λ (x : WorldState) (a : Announce). announcing x a.id) w (listed w.client) else w)
      by true = all_announced (listed w.client) w is
      by false = is
  heard_keeps shake w (Ok (Ask device job)) is = put_keeps w device job is
  heard_keeps shake w (Ok (Print notice)) is = is

-- ---- parts

module _ (lines : List NumberedLine) (starves : Key → Bool) (m : ℕ) where
  step : (w : WorldState) (p : Part) → MayBe lines starves w p → Clocked m w → Clocked m (done starves w p)
  step w (accepts a asked named t number) may is = is
  step w (refuses a asked cause) may is = is
  step w (hands_out a number t taken next) may is = by next
    where
      by : (o : Option Asked) → Clocked m (done starves w (hands_out a number t taken o))
      by None = is
      by (Some asked) = is
  step w (host_sends_one message) may is = is
  step w (host_gets k) may is = is
  step w host_keeps_part may is = is
  step w (host_hears_one message rest) may is = is
  step w (tells_one notice) may is = is
  step w begins may is = all_refreshed m (map (λ (e : ℕ × PrinterNames). e.0) w.printers) w is
  step w ends may is = all_dropped m (map (λ (e : ℕ × Of). e.0) w.stations) w is
  step w (client_sends_one after o) may is = is
  step w (client_gets k) may is = is
  step w client_keeps_part may is = is
  step w (client_hears_one message rest) may is =
      let x : WorldState = record w { to_client = record w.to_client { part = []; taken = _; unhandled = rest } } in
      let heard = client_hear x.client message in
      heard_keeps m ((x.client).core).shake (with_deed (with_client x heard.0) (client_reads x.channels message)) heard.1 is
  step w (tries_one kept) may is = put_keeps m (record w { kept = None }) kept.device kept.job is
  step w (collects_one device s after completion) (reached, idle, there, made) is =
      let own : AtMoment m s = subst (λ (o : Option Of). IfSome o (AtMoment m)) there (found (AtMoment m) w device is.0) in
      let next : AtMoment m after = subst (λ (r : Of × Option Completion). AtMoment m r.0) made (collected m s own) in
      (put_station (AtMoment m) w device after next is.0, is.1)
  step w (takes_one device hand s after job) (free, there, made) is =
      let own : AtMoment m s = subst (λ (o : Option Of). IfSome o (AtMoment m)) there (found (AtMoment m) w device is.0) in
      let next : AtMoment m after = subst (λ (r : Of × Given). AtMoment m r.0) made (taken m s own) in
      (put_station (AtMoment m) w device after next is.0, is.1)
  step w (applies_one hand device job o) (holds, there) is = by o (subst (λ (x : Option Of). IfSome x (AtMoment m)) there (found (AtMoment m) w device is.0))
    where
      by : (x : Option Of) → IfSome x (AtMoment m) → Clocked m (done starves w (applies_one hand device job x))
      by None own = is
      by (Some s) own =
          (put_station (AtMoment m) w device (station.apply s job w.moment (came_of starves w job s.device)).0 (applied_at m s job w.moment (came_of starves w job s.device) is.1 own) is.0, is.1)
  step w (removes_one device o) (can, there) is =
      called m (told_removed w device) device (λ s. (station.remove s (device_cut s.device).state).0) (λ s at. removed m s (device_cut s.device).state at) is o
      (subst (λ (x : Option Of). IfSome x (AtMoment m)) there (found (AtMoment m) w device is.0))
  step w (adds_one device names o) (can, printers, there) is =
      called m (told_added (refreshed_by w device names) device) device (λ s. (station.announce s).0) (announced m) (refreshed m w device names is) o
      (subst (λ (x : Option Of). IfSome x (AtMoment m)) there (found (AtMoment m) w device is.0))
  step w (queues_one a) may is = is
  step w (idle_one number) may is = is
  step w draws_one may is = is

module _ (lines : List NumberedLine) (starves : Key → Bool) where
  none_ran : (m : ℕ) (devices : List (ℕ × Declared)) → OfAll (AtMoment m) (map station_of devices)
  none_ran m [] = tt
  none_ran m (e ∷ devices) = (tt, none_ran m devices)

  -- the journal of each station, so, and what was done
  pub clocked : (w : WorldState) → Reached lines starves w → AllOf (λ (s : Of). AllByRecursion (RunsAt (world_of lines).moment) s.journal) w
  clocked w r =
      let m : ℕ = (world_of lines).moment in
      let begin : OfAll (AtMoment m) (world_of lines).stations = begins_as lines (λ (u : Unset). OfAll (AtMoment m) u.stations) (none_ran m (declared_devices (bare_lines lines))) in
      (by_parts lines starves (Clocked m) (begin, refl) (λ x p before after may is. step lines starves m x p may is) w (reached_behind lines starves w r)).0
