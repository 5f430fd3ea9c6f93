-- What the calls of stations come to in a session.
use Rattle.std.proofs.Common.{◌≡◌, ◌≢◌, ℕ, zero, suc, arith, sym, subst, ◌∙◌, ap, refl, length, ◌++◌, ◌∷◌, [], List, map, reverse, drop, Bool, Some, None, Option, true, false, slice_get, append-nil}
use Rattle.std.specs.Map.{lookup}
use Rattle.std.specs.Ordering.{nat_cmp}
use Rattle.std.specs.BTreeMap.{insert_entry, is_at}
use Rattle.rd_base.specs.declared.journal.Item.{Item}
use Rattle.rd_base.specs.declared.journal.Item.TheVariants.{Sent}
use Rattle.rd_drive.specs.declared.plan.Job.{Job}
use Rattle.std.specs.Prelude.{if◌then◌else◌}
use Rattle.rd_station.specs.Station.{StationCall, StationState, StationStep, applies, collect, collect_first, collects, take, take_first, takes}
use Rattle.rd_declared.specs.Devices.{device_cuts, device_parked, device_runs}
use Rattle.rd_declared.specs.declared.device.SessionDevice.{SessionDevice}
use Rattle.std.specs.List.Sorted.{IsStrictlySortedBy}
use Rattle.std.specs.Map.{keys_of}
use Rattle.std.specs.List.{AllByRecursion}
use Rattle.std.specs.declared.cmp.Ordering.TheVariants.{Less}
use Rattle.rd_station.specs.declared.answers.Given.{Given}
use Rattle.rd_station.specs.declared.answers.Given.TheVariants as given
use Rattle.rd_drive.specs.Device.{CompletesKind}
use Rattle.rd_station.specs.declared.answers.Completion.{Completion}
use Rattle.rd_station.proofs.Calls.{reached_kept}
use Rattle.std.specs.Option.{option_and_then, option_map_or}
use Rattle.std.specs.Prelude.{All}
use Rattle.std.proofs.lemmas.List.Elements.{All-head, All-tail}
use Rattle.std.proofs.lemmas.Bool.Decides.{nat_tests}
use Rattle.std.proofs.lemmas.Cmp.{nat_cmp_total}
use Rattle.std.specs.declared.cmp.Ordering.{Ordering}
use Rattle.std.specs.declared.cmp.Ordering.TheVariants.{Equal, Greater}
use Rattle.rd_base.specs.declared.journal.Key.{Key}
use Rattle.std.specs.List.{list_any}
use Rattle.std.specs.Prelude.{◌&&◌, IfSome, IsTrue}
use Rattle.std.proofs.Common.{inl, inr}
use Rattle.std.proofs.lemmas.Bool.{cases_Bool}
use Rattle.rd_client.specs.Core.{ClientDevice, MayTellAdded, is_device, is_gone, refresh, refreshed}
use Rattle.rd_declared.specs.Devices.{PrinterNames, printer_data}
use Rattle.rd_world.specs.Run.{new_world}
use Rattle.rd_world.specs.Step.{next_completion}
use Rattle.rd_drive.specs.Planned.{Planned}
use Rattle.rd_printer.proofs.EntryLemmas.{lookup-inserted}
use Rattle.rd_station.specs.declared.answers.Applied.{Applied}
use Rattle.rd_declared.specs.Marks.{AgreesAt, MarksAgree}
use Rattle.rd_world.specs.Keys.{station_journals}
use Rattle.rd_world.proofs.KeysLemmas.{applied_as}
use Rattle.rd_world.specs.Events.{applies_at, applies_held, applies_job, collects_from, takes_job_from, collects as collecting, completion_message, refreshing, hand_at, takes_job, with_hand}
use Rattle.rd_world.specs.Hearing.{tries_kept}
use Rattle.rd_world.specs.Stations.{AreStations, IsPlaceOf, IsReachedBy, StepsAt}
use Rattle.rd_world.proofs.StationsLemmas.{equal_cmp, turned_cmp}
use Rattle.rd_deeds.specs.Talk.{Deed, completes, stores}
use Rattle.rd_world.specs.World.{WorldState, client_sends, stored_beyond, with_station}

-- ---- what is stored

drop_front : (xs ys : List Item) → drop (length xs) (xs ++ ys) ≡ ys
drop_front [] ys = refl
drop_front (x ∷ xs) ys = drop_front xs ys

-- what was stored beyond a journal, where these entries were
pub stored_more : (device : ℕ) (old new more : List Item) → new ≡ old ++ more → map (stores device) (reverse (drop (length old) new)) ≡ map (stores device) (reverse more)
stored_more device old new more is = ap (λ (x : List Item). map (stores device) (reverse x)) (ap (drop (length old)) is ∙ drop_front old more)

-- ---- a call at a place

-- a call at the place of a device is one of its station
pub record Steps (w : WorldState) (device : ℕ) (s : StationState SessionDevice) (call : StationCall) (new : List (ℕ × StationState SessionDevice)) : Type 0 where
  pub after : StationState SessionDevice
  pub step : StationStep device_runs device_parked device_cuts s call after
  pub new_is : new ≡ insert_entry nat_cmp w.stations device after

pub steps_of : (w : WorldState) (device place : ℕ) (s : StationState SessionDevice) (call : StationCall) (new : List (ℕ × StationState SessionDevice))
    → slice_get w.stations place ≡ Some (device, s) → StepsAt w.stations place call new → Steps w device s call new
steps_of w device place s call new at steps =
    let same : Some (steps.id, steps.before) ≡ Some (device, s) = sym steps.there ∙ at in
    let both : (steps.id, steps.before) ≡ (device, s) = cc in
    let id : steps.id ≡ device = ap (λ (e : ℕ × StationState SessionDevice). e.0) both in
    let before : steps.before ≡ s = ap (λ (e : ℕ × StationState SessionDevice). e.1) both in
    record {
      after = steps.after;
      step = subst (λ (x : StationState SessionDevice). StationStep device_runs device_parked device_cuts x call steps.after) before steps.step;
      new_is = steps.put_back ∙ ap (λ (x : ℕ). insert_entry nat_cmp w.stations x steps.after) id;
    }

-- ---- a station that stays as it is

module _ {X : Type 0} where
  above_at : (k : ℕ) (es : List (ℕ × X)) (i l : ℕ) (v : X) → AllByRecursion (λ m. nat_cmp k m ≡ Less) (keys_of es) → slice_get es i ≡ Some (l, v) → nat_cmp k l ≡ Less
  above_at k [] i l v all at = absurd (cc at)
  above_at k (e ∷ es) zero l v all at =
      let same : e ≡ (l, v) = cc in
      subst (λ (x : ℕ × X). nat_cmp k x.0 ≡ Less) same all.0
  above_at k (e ∷ es) (suc i) l v all at = above_at k es i l v all.1 at

  -- what stands there, put there again, changes nothing
  pub insert_there : (es : List (ℕ × X)) (i k : ℕ) (v : X) → IsStrictlySortedBy nat_cmp (keys_of es) → slice_get es i ≡ Some (k, v) → insert_entry nat_cmp es k v ≡ es
  unfolding IsStrictlySortedBy
  insert_there [] i k v rise at = absurd (cc at)
  insert_there (e ∷ es) zero k v rise at =
      let same : e ≡ (k, v) = cc in
      ap (λ (x : ℕ × X). insert_entry nat_cmp (x ∷ es) k v) same ∙ rw (equal_cmp k k refl) (ap (λ (x : ℕ × X). x ∷ es) (sym same))
  insert_there (e ∷ es) (suc i) k v rise at =
      rw (turned_cmp e.0 k (above_at e.0 es i k v rise.0 at)) (ap (λ (l : List (ℕ × X)). e ∷ l) (insert_there es i k v rise.1 at))

-- ---- a station in its place

with_station_is : (w : WorldState) (device : ℕ) (s after : StationState SessionDevice) (more : List Item) → lookup (is_at (nat_cmp device)) w.stations ≡ Some s → after.journal ≡ s.journal ++ more
    → with_station w device after ≡ record w { stations = insert_entry nat_cmp w.stations device after; deeds = map (stores device) (reverse more) ++ w.deeds }
with_station_is w device s after more there journal =
    let es : List (ℕ × StationState SessionDevice) = insert_entry nat_cmp w.stations device after in
    ap (λ (o : Option (StationState SessionDevice)). record w { stations = es; deeds = stored_beyond (option_map_or (λ (old : StationState SessionDevice). length old.journal) o 0) device after ++ w.deeds }) there
    ∙ ap (λ (ds : List Deed). record w { stations = es; deeds = ds ++ w.deeds }) (stored_more device s.journal after.journal more journal)

-- ---- a hand takes a job

take_journal : (s after : StationState SessionDevice) (answer : Given) → take s ≡ (after, answer) → after.journal ≡ s.journal
take_journal s after answer e = by s.ended e
  where
    first : (jobs : List Job) → take_first s jobs ≡ (after, answer) → after.journal ≡ s.journal
    first [] t = sym (ap (λ (x : StationState SessionDevice × Given). (x.0).journal) t)
    first (j ∷ js) t = sym (ap (λ (x : StationState SessionDevice × Given). (x.0).journal) t)

    by : (b : Bool) → (if b then (s, given.Over) else take_first s s.waiting) ≡ (after, answer) → after.journal ≡ s.journal
    by true t = sym (ap (λ (x : StationState SessionDevice × Given). (x.0).journal) t)
    by false t = first s.waiting t

-- it takes one
pub took_job : (w : WorldState) (device place hand : ℕ) (job : Job) (new : List (ℕ × StationState SessionDevice))
    → IsPlaceOf w.stations device (Some place) → StepsAt w.stations place (takes (given.Job job)) new
    → record w { stations = new; hands = (with_hand w hand (Some (device, job))).hands } ≡ takes_job w device hand
took_job w device place hand job new (s, at, there) steps =
    let made = steps_of w device place s (takes (given.Job job)) new at steps in
    let take_is : take s ≡ (made.after, given.Job job) = made.step in
    let journal : made.after.journal ≡ s.journal ++ [] = take_journal s made.after (given.Job job) take_is ∙ sym (append-nil s.journal) in
    let to : WorldState → WorldState = λ (x : WorldState). with_hand x hand (Some (device, job)) in
    ap (λ (es : List (ℕ × StationState SessionDevice)). to (record w { stations = es })) made.new_is
    ∙ ap to (sym (with_station_is w device s made.after [] there journal))
    ∙ sym (ap (λ (o : Option (StationState SessionDevice)). option_map_or (λ (x : StationState SessionDevice). takes_job_from w device hand (take x)) o w) there ∙ ap (takes_job_from w device hand) take_is)

-- it takes none
none_taken : (s after : StationState SessionDevice) (answer : Given) → take s ≡ (after, answer) → ((job : Job) → answer ≢ given.Job job) → after ≡ s
none_taken s after answer e other = by s.ended e
  where
    first : (jobs : List Job) → take_first s jobs ≡ (after, answer) → after ≡ s
    first [] t = sym (ap (λ (x : StationState SessionDevice × Given). x.0) t)
    first (j ∷ js) t = absurd (other j (sym (ap (λ (x : StationState SessionDevice × Given). x.1) t)))

    by : (b : Bool) → (if b then (s, given.Over) else take_first s s.waiting) ≡ (after, answer) → after ≡ s
    by true t = sym (ap (λ (x : StationState SessionDevice × Given). x.0) t)
    by false t = first s.waiting t

nothing_from : (w : WorldState) (device hand : ℕ) (s : StationState SessionDevice) (answer : Given) → ((job : Job) → answer ≢ given.Job job) → takes_job_from w device hand (s, answer) ≡ w
nothing_from w device hand s (given.Job job) other = absurd (other job refl)
nothing_from w device hand s given.Nothing other = refl
nothing_from w device hand s given.Over other = refl

pub took_none : (w : WorldState) (device place hand : ℕ) (answer : Given) (new : List (ℕ × StationState SessionDevice)) → AreStations w.stations
    → IsPlaceOf w.stations device (Some place) → StepsAt w.stations place (takes answer) new → ((job : Job) → answer ≢ given.Job job)
    → record w { stations = new } ≡ takes_job w device hand
took_none w device place hand answer new are (s, at, there) steps other =
    let made = steps_of w device place s (takes answer) new at steps in
    let take_is : take s ≡ (made.after, answer) = made.step in
    let stations : new ≡ w.stations =
    made.new_is ∙ ap (insert_entry nat_cmp w.stations device) (none_taken s made.after answer take_is other) ∙ insert_there w.stations place device s are.rise at in
    ap (λ (es : List (ℕ × StationState SessionDevice)). record w { stations = es }) stations
    ∙ sym (ap (λ (o : Option (StationState SessionDevice)). option_map_or (λ (x : StationState SessionDevice). takes_job_from w device hand (take x)) o w) there
    ∙ ap (takes_job_from w device hand) take_is ∙ nothing_from w device hand made.after answer other)

-- ---- a completion is collected

collect_journal : (s after : StationState SessionDevice) (c : Completion) → collect s ≡ (after, Some c) → (after.journal ≡ s.journal ++ Sent c.key ∷ []) × ((rest : List Completion) × (s.ready ≡ c ∷ rest))
collect_journal s after c e = by s.ready e
  where
    by : (cs : List Completion) → collect_first s cs ≡ (after, Some c) → (after.journal ≡ s.journal ++ Sent c.key ∷ []) × ((rest : List Completion) × (cs ≡ c ∷ rest))
    by [] told =
        let no : None ≡ Some c = ap (λ (x : StationState SessionDevice × Option Completion). x.1) told in
        absurd (cc no)
    by (d ∷ ds) told =
        let some : Some d ≡ Some c = ap (λ (x : StationState SessionDevice × Option Completion). x.1) told in
        let same : d ≡ c = cc in
        let journal : s.journal ++ Sent d.key ∷ [] ≡ after.journal = ap (λ (x : StationState SessionDevice × Option Completion). (x.0).journal) told in
        (sym journal ∙ ap (λ (x : Completion). s.journal ++ Sent x.key ∷ []) same, (ds, ap (λ (x : Completion). x ∷ ds) same))

-- it is sent, and a job that was kept back is tried again
pub collected : (w : WorldState) (device place : ℕ) (c : Completion) (new : List (ℕ × StationState SessionDevice))
    → IsPlaceOf w.stations device (Some place) → StepsAt w.stations place (collects (Some c)) new
    → collecting w device ≡ tries_kept (client_sends (record w { stations = new; deeds = stores device (Sent c.key) ∷ w.deeds }) (completes c.key (completion_message device c)) (completion_message device c)) device
collected w device place c new (s, at, there) steps =
    let made = steps_of w device place s (collects (Some c)) new at steps in
    let is : collect s ≡ (made.after, Some c) = made.step in
    let bytes = completion_message device c in
    let to : WorldState → WorldState = λ (x : WorldState). tries_kept (client_sends x (completes c.key bytes) bytes) device in
    ap (λ (o : Option (StationState SessionDevice)). option_map_or (λ (x : StationState SessionDevice). collects_from w device (collect x)) o w) there
    ∙ ap (collects_from w device) is
    ∙ ap to (with_station_is w device s made.after (Sent c.key ∷ []) there (collect_journal s made.after c is).0)
    ∙ sym (ap (λ (es : List (ℕ × StationState SessionDevice)). to (record w { stations = es; deeds = stores device (Sent c.key) ∷ w.deeds })) made.new_is)

-- which completion is collected next
pub next_collected : (w : WorldState) (device place : ℕ) (c : Completion) (new : List (ℕ × StationState SessionDevice))
    → IsPlaceOf w.stations device (Some place) → StepsAt w.stations place (collects (Some c)) new → next_completion w device ≡ Some c
next_collected w device place c new (s, at, there) steps =
    let made = steps_of w device place s (collects (Some c)) new at steps in
    ap (λ (o : Option (StationState SessionDevice)). option_map_or (λ (x : StationState SessionDevice). (collect x).1) o None) there
    ∙ ap (λ (x : StationState SessionDevice × Option Completion). x.1) made.step

pub none_collected : (w : WorldState) (device place : ℕ) (new : List (ℕ × StationState SessionDevice))
    → IsPlaceOf w.stations device (Some place) → StepsAt w.stations place (collects None) new → next_completion w device ≡ None
none_collected w device place new (s, at, there) steps =
    let made = steps_of w device place s (collects None) new at steps in
    ap (λ (o : Option (StationState SessionDevice)). option_map_or (λ (x : StationState SessionDevice). (collect x).1) o None) there
    ∙ ap (λ (x : StationState SessionDevice × Option Completion). x.1) made.step

-- nothing is collected
nothing_collected : (s after : StationState SessionDevice) → collect s ≡ (after, None) → after ≡ s
nothing_collected s after e = by s.ready e
  where
    by : (cs : List Completion) → collect_first s cs ≡ (after, None) → after ≡ s
    by [] told = sym (ap (λ (x : StationState SessionDevice × Option Completion). x.0) told)
    by (d ∷ ds) told =
        let no : Some d ≡ None = ap (λ (x : StationState SessionDevice × Option Completion). x.1) told in
        absurd (cc no)

pub collected_none : (w : WorldState) (device place : ℕ) (new : List (ℕ × StationState SessionDevice)) → AreStations w.stations
    → IsPlaceOf w.stations device (Some place) → StepsAt w.stations place (collects None) new → collecting w device ≡ record w { stations = new }
collected_none w device place new are (s, at, there) steps =
    let made = steps_of w device place s (collects None) new at steps in
    let is : collect s ≡ (made.after, None) = made.step in
    let stations : new ≡ w.stations = made.new_is ∙ ap (insert_entry nat_cmp w.stations device) (nothing_collected s made.after is) ∙ insert_there w.stations place device s are.rise at in
    ap (λ (o : Option (StationState SessionDevice)). option_map_or (λ (x : StationState SessionDevice). collects_from w device (collect x)) o w) there
    ∙ ap (collects_from w device) is ∙ sym (ap (λ (es : List (ℕ × StationState SessionDevice)). record w { stations = es }) stations)

holds_of_all : {A : Type 0} (P : A → Type 0) (xs : List A) (i : ℕ) (x : A) → All P xs → slice_get xs i ≡ Some x → P x
holds_of_all P [] i x all at = absurd (cc at)
holds_of_all P (y ∷ ys) zero x all at =
    let same : y ≡ x = cc in
    subst P same (All-head P y ys all)
holds_of_all P (y ∷ ys) (suc i) x all at = holds_of_all P ys i x (All-tail P y ys all) at

-- what is collected can be written
pub collected_fits : (w : WorldState) (device place : ℕ) (c : Completion) (new : List (ℕ × StationState SessionDevice)) → AreStations w.stations
    → IsPlaceOf w.stations device (Some place) → StepsAt w.stations place (collects (Some c)) new → CompletesKind c.kind c.reply
collected_fits w device place c new are (s, at, there) steps =
    let made = steps_of w device place s (collects (Some c)) new at steps in
    let is : collect s ≡ (made.after, Some c) = made.step in
    let (rest, ready) = (collect_journal s made.after c is).1 in
    let kept = reached_kept device_runs device_parked device_cuts s (holds_of_all (λ (e : ℕ × StationState SessionDevice). IsReachedBy e.1) w.stations place (device, s) are.reached at) in
    All-head (λ (x : Completion). CompletesKind x.kind x.reply) c rest (subst (All (λ (x : Completion). CompletesKind x.kind x.reply)) ready kept.ready)

-- the same of stations alone
pub fits_at : (stations : List (ℕ × StationState SessionDevice)) (device place : ℕ) (c : Completion) (new : List (ℕ × StationState SessionDevice)) → AreStations stations
    → IsPlaceOf stations device (Some place) → StepsAt stations place (collects (Some c)) new → CompletesKind c.kind c.reply
fits_at stations device place c new are at steps = collected_fits (record (new_world [] []) { stations = stations }) device place c new are at steps

-- ---- a hand's job is run

module _ {X Y : Type 0} (P : Y → Type 0) (f : ℕ × X → Y) where
  -- what holds of all holds of what was put in
  pub all_inserted : (es : List (ℕ × X)) (k : ℕ) (v : X) → ((l : ℕ) → P (f (l, v)) → P (f (k, v))) → All P (map f (insert_entry nat_cmp es k v)) → P (f (k, v))
  all_inserted [] k v same all = All-head P (f (k, v)) [] all
  all_inserted (e ∷ es) k v same all = go (nat_cmp k e.0) refl (all_inserted es k v same)
    where
      go : (o : Ordering) → nat_cmp k e.0 ≡ o → (All P (map f (insert_entry nat_cmp es k v)) → P (f (k, v))) → P (f (k, v))
      go Less less on = All-head P (f (k, v)) (map f (e ∷ es)) (rw less at all)
      go Equal equal on = same e.0 (All-head P (f (e.0, v)) (map f es) (rw equal at all))
      go Greater greater on = on (All-tail P (f e) (map f (insert_entry nat_cmp es k v)) (rw greater at all))

nat_exact : (x y : ℕ) → nat_cmp x y ≡ Equal → x ≡ y
nat_exact x y e = grind (arith, nat_tests)

-- what a journal stored since it had so many entries, by its device's station among these, before these deeds
abbrev pub stored_since : ℕ → ℕ → List (ℕ × StationState SessionDevice) → List Deed → List Deed
stored_since device count stations deeds =
    option_map_or (λ (s : StationState SessionDevice). stored_beyond count device s ++ deeds) (lookup (is_at (nat_cmp device)) stations) deeds

pub applied : (w : WorldState) (device place hand count : ℕ) (planned : Planned) (answer : Applied) (new : List (ℕ × StationState SessionDevice))
    → IsPlaceOf w.stations device (Some place) → StepsAt w.stations place (applies planned w.moment answer) new
    → hand_at w hand ≡ Some (Some (device, planned.job)) → ((s : StationState SessionDevice) → slice_get w.stations place ≡ Some (device, s) → count ≡ length s.journal)
    → (starves : Key → Bool) → MarksAgree starves (station_journals new)
    → record w { stations = new; hands = (with_hand w hand None).hands; deeds = stored_since device count new w.deeds } ≡ applies_job starves w hand
applied w device place hand count planned answer new (s, at, there) steps held counted starves agrees =
    let made = steps_of w device place s (applies planned w.moment answer) new at steps in
    let P : ℕ × List Item → Type 0 = λ (j : ℕ × List Item). All (AgreesAt starves) j.1 in
    let all : All P (station_journals (insert_entry nat_cmp w.stations device made.after)) = subst (λ (es : List (ℕ × StationState SessionDevice)). All P (station_journals es)) made.new_is agrees in
    let own : All (AgreesAt starves) made.after.journal =
    all_inserted P (λ (e : ℕ × StationState SessionDevice). let t = e.1 in (e.0, t.journal)) w.stations device made.after (λ l p. p) all in
    let is = applied_as s made.after planned w.moment answer made.step starves own in
    let found : lookup (is_at (nat_cmp device)) new ≡ Some made.after = ap (lookup (is_at (nat_cmp device))) made.new_is ∙ lookup-inserted nat_cmp_total nat_exact device made.after w.stations in
    let count_is : count ≡ length s.journal = counted s at in
    let empty : WorldState → WorldState = λ (x : WorldState). with_hand x hand None in
    let deeds : List Deed → List (ℕ × StationState SessionDevice) → WorldState = λ (ds : List Deed) (es : List (ℕ × StationState SessionDevice)). record w { stations = es; hands = (with_hand w hand None).hands; deeds = ds } in
    ap (λ (o : Option (StationState SessionDevice)). deeds (option_map_or (λ (x : StationState SessionDevice). stored_beyond count device x ++ w.deeds) o w.deeds) new) found
    ∙ ap (λ (n : ℕ). deeds (stored_beyond n device made.after ++ w.deeds) new) count_is
    ∙ ap (deeds (stored_beyond (length s.journal) device made.after ++ w.deeds)) made.new_is
    ∙ sym (ap (λ (o : Option (Option (ℕ × Job))). applies_held starves w hand (option_and_then (λ held. held) o)) held
    ∙ ap (applies_at starves w hand device planned.job) there
    ∙ ap (λ (x : StationState SessionDevice). empty (with_station w device x)) (sym is)
    ∙ ap (λ (o : Option (StationState SessionDevice)). empty (record w {
      stations = insert_entry nat_cmp w.stations device made.after;
      deeds = stored_beyond (option_map_or (λ (old : StationState SessionDevice). length old.journal) o 0) device made.after ++ w.deeds;
    })) there)

-- a job whose device has no station isn't run
pub applied_nowhere : (w : WorldState) (device hand : ℕ) (job : Job) → lookup (is_at (nat_cmp device)) w.stations ≡ None → hand_at w hand ≡ Some (Some (device, job))
    → (starves : Key → Bool) → record w { hands = (with_hand w hand None).hands } ≡ applies_job starves w hand
applied_nowhere w device hand job none held starves =
    sym (ap (λ (o : Option (Option (ℕ × Job))). applies_held starves w hand (option_and_then (λ held. held) o)) held ∙ ap (applies_at starves w hand device job) none)

-- ---- a request is refused

-- the same, where the parts of what is left are told apart
pub applied_to : (w x : WorldState) (device place hand : ℕ) (job : Job) (before : List Item) (planned : Planned) (answer : Applied) (new : List (ℕ × StationState SessionDevice)) (hands : List (Option (ℕ × Job)))
    (deeds : List Deed) → w ≡ x → IsPlaceOf w.stations device (Some place) → StepsAt w.stations place (applies planned w.moment answer) new → planned.job ≡ job
    → Some (device, job) ≡ option_and_then (λ held. held) (hand_at w hand) → IfSome (slice_get w.stations place) (λ e. (e.1).journal ≡ before)
    → hands ≡ (with_hand w hand None).hands → deeds ≡ stored_since device (length before) new w.deeds → (starves : Key → Bool) → MarksAgree starves (station_journals new)
    → record w { stations = new; hands = hands; deeds = deeds } ≡ applies_job starves x hand
applied_to w x device place hand job before planned answer new hands deeds same at steps own held journal hands_are deeds_are starves agrees =
    let full : hand_at w hand ≡ Some (Some (device, planned.job)) = held_there (hand_at w hand) device planned.job (ap (λ (j : Job). Some (device, j)) own ∙ held) in
    rw (hands_are, deeds_are) (applied w device place hand (length before) planned answer new at steps full
    (λ s there. ap length (sym (subst (λ (o : Option (ℕ × StationState SessionDevice)). IfSome o (λ e. (e.1).journal ≡ before)) there journal))) starves agrees)
    ∙ ap (λ (v : WorldState). applies_job starves v hand) same
  where
    held_there : (o : Option (Option (ℕ × Job))) (d : ℕ) (j : Job) → Some (d, j) ≡ option_and_then (λ held. held) o → o ≡ Some (Some (d, j))
    held_there None d j e = absurd (cc e)
    held_there (Some None) d j e = absurd (cc e)
    held_there (Some (Some k)) d j e = ap (λ (o : Option (ℕ × Job)). Some o) (sym e)

-- ---- a device is added

gone_one : (device other : ℕ) (body : List ℕ) (d : ClientDevice) → (is_device other (refreshed device body d) && (refreshed device body d).removed) ≡ (is_device other d && d.removed)
gone_one device other body d = elim (cases_Bool (is_device device d)) [
  | inl same ↦ rw same refl
  | inr apart ↦ rw apart refl
]

gone_all : (device other : ℕ) (body : List ℕ) (ds : List ClientDevice)
    → list_any (λ d. is_device other d && d.removed) (map (refreshed device body) ds) ≡ list_any (λ d. is_device other d && d.removed) ds
gone_all device other body [] = refl
gone_all device other body (d ∷ ds) = cc (gone_one device other body d, gone_all device other body ds)

-- a device that may be added may be so when its data is refreshed
pub refreshed_added : (w : WorldState) (device : ℕ) → MayTellAdded w.client device → MayTellAdded (refreshing w device).client device
refreshed_added w device may = go (lookup (is_at (nat_cmp device)) w.printers) refl
  where
    go : (o : Option PrinterNames) → lookup (is_at (nat_cmp device)) w.printers ≡ o → MayTellAdded (refreshing w device).client device
    go None none = rw none may
    go (Some names) some =
        let gone : is_gone (refresh w.client device (printer_data w.cache names)) device ≡ is_gone w.client device = gone_all device device (printer_data w.cache names) (w.client).devices in
        rw some (may.0, subst IsTrue (sym gone) may.1)

-- ---- nothing is recorded

pub nothing_more : (bytes : List ℕ) → bytes ≡ bytes ++ []
nothing_more bytes = sym (append-nil bytes)
