-- Which stations are live, and where devices are cut off.
use Rattle.std.proofs.Common.{◌≡◌, ◌⊎◌, ◌∙◌, refl, sym, ap, subst, inl, inr, ℕ, ◌==◌, ◌||◌, Bool, true, false, cond, not, arith, eqb-true, List, [], ◌∷◌, ◌++◌, map, reverse, fold, Some, None, Option, append-nil, append_assoc}
use Rattle.std.specs.Prelude.{filter, if◌then◌else◌}
use Rattle.std.specs.List.{AllByRecursion, list_any}
use Rattle.std.specs.List.Sorted.{IsStrictlySortedBy}
use Rattle.std.specs.Map.{lookup}
use Rattle.std.specs.Option.{option_map_or}
use Rattle.std.specs.Ordering.{match_ordering, nat_cmp}
use Rattle.std.specs.declared.cmp.Ordering.{Ordering}
use Rattle.std.specs.declared.cmp.Ordering.TheVariants.{Equal, Greater, Less}
use Rattle.std.specs.BTreeMap.{insert_entry, is_at}
use Rattle.std.proofs.lemmas.Bool.Decides.{nat_tests}
use Rattle.rd_base.specs.declared.journal.Cause.TheVariants.{Dropped, Removed}
use Rattle.rd_base.specs.declared.journal.Item.{Item}
use Rattle.rd_base.specs.declared.journal.Item.TheVariants.{Came, Cut}
use Rattle.rd_base.specs.declared.journal.Key.{Key}
use Rattle.rd_rest.proofs.ControlsNumbers.{reverse_cons}
use Rattle.rd_rest.proofs.JournalsHeldLemmas.{has_elsewhere, has_here, stored_deeds}
use Rattle.rd_station.specs.Station as station
use Rattle.rd_station.specs.Station.{StationState}
use Rattle.rd_world.specs.Acts.{IsCutThere, IsDone, cut_last, there_at}
use Rattle.rd_declared.specs.Devices.{Declared, device_cut}
use Rattle.rd_world.specs.Events.{dropping}
use Rattle.rd_deeds.specs.Talk.{Deed, EachAfter, Has, host_ends, is_removed, removes, stores}
use Rattle.rd_world.specs.World.{WorldState, station_at, with_station}
use Rattle.rd_declared.specs.declared.device.SessionDevice.{SessionDevice}

abbrev pub Of : Type 0
Of = StationState SessionDevice

-- ---- deeds

-- a deed that may come after any others of which nothing is left to be done
abbrev pub IsPlainDeed : Deed → Type 0
IsPlainDeed (host_ends channel) = ⊥
IsPlainDeed (removes device) = ⊥
IsPlainDeed (stores device (Cut cause)) = ⊥
IsPlainDeed (stores device (Came key)) = ⊥
IsPlainDeed deed = Unit {0}

abbrev pub IsPlainItem : Item → Type 0
IsPlainItem (Cut cause) = ⊥
IsPlainItem (Came key) = ⊥
IsPlainItem item = Unit {0}

-- each device was cut off where it is to be, and nothing is left to be done
pub record AreCut (devices : List (ℕ × Declared)) (deeds : List Deed) : Type 0 where
  pub there : EachAfter (IsCutThere devices) deeds
  pub all : IsDone deeds

module _ (devices : List (ℕ × Declared)) where
  plain_there : (before : List Deed) (x : Deed) → IsDone before → IsPlainDeed x → IsCutThere devices before x
  plain_there (removes d ∷ before) x done plain = absurd done
  plain_there (stores d (Cut Dropped) ∷ before) x done plain = absurd (cc done)
  plain_there before (host_ends c) done plain = absurd plain
  plain_there before (stores d (Cut cause)) done plain = absurd plain
  plain_there before (stores d (Came key)) done plain = absurd plain
  plain_there before x done plain = tt

  came_there : (before : List Deed) (d : ℕ) (key : Key) → IsDone before → is_removed d before ≡ false → IsCutThere devices before (stores d (Came key))
  came_there (removes e ∷ before) d key done there = absurd done
  came_there (stores e (Cut Dropped) ∷ before) d key done there = absurd (cc done)
  came_there before d key done there = there

  -- a channel ends where no device is to be cut off, or the last that were cut off are those that are there
  ends_there : (before : List Deed) (c : ℕ) → (IsDone before ⊎ ((d : ℕ) × (earlier : List Deed) × (before ≡ stores d (Cut Dropped) ∷ earlier))) → reverse (cut_last before) ≡ there_at devices before
      → IsCutThere devices before (host_ends c)
  ends_there (removes e ∷ before) c (inl done) same = absurd done
  ends_there (removes e ∷ before) c (inr (d, earlier, is)) same = absurd (cc is)
  ends_there before c done same = same

  dropped_there : (before : List Deed) (d : ℕ) → (IsDone before ⊎ ((e : ℕ) × (earlier : List Deed) × (before ≡ stores e (Cut Dropped) ∷ earlier))) → IsCutThere devices before (stores d (Cut Dropped))
  dropped_there (removes e ∷ before) d (inl done) = absurd done
  dropped_there (removes e ∷ before) d (inr (f, earlier, is)) = absurd (cc is)
  dropped_there (stores e (Cut Dropped) ∷ before) d done = tt
  dropped_there before d done = tt

  plain_done : (x : Deed) (before : List Deed) → IsPlainDeed x → IsDone (x ∷ before)
  plain_done (removes d) before plain = absurd plain
  plain_done (stores d (Cut cause)) before plain = absurd plain
  plain_done x before plain = tt

  pub plain_cut : (x : Deed) (deeds : List Deed) → IsPlainDeed x → AreCut devices deeds → AreCut devices (x ∷ deeds)
  plain_cut x deeds plain is = record { there = (plain_there deeds x is.all plain, is.there); all = plain_done x deeds plain }

  plain_item : (d : ℕ) (x : Item) → IsPlainItem x → IsPlainDeed (stores d x)
  plain_item d (Cut cause) plain = absurd plain
  plain_item d (Came key) plain = absurd plain
  plain_item d x plain = tt

  pub plain_stores : (d : ℕ) (items : List Item) (deeds : List Deed) → ((x : Item) → Has x items → IsPlainItem x) → AreCut devices deeds → AreCut devices (map (stores d) items ++ deeds)
  plain_stores d [] deeds plain is = is
  plain_stores d (x ∷ items) deeds plain is =
      plain_cut (stores d x) (map (stores d) items ++ deeds) (plain_item d x (plain x (inl refl))) (plain_stores d items deeds (λ y has. plain y (inr has)) is)

  pub came_cut : (d : ℕ) (key : Key) (deeds : List Deed) → is_removed d deeds ≡ false → AreCut devices deeds → AreCut devices (stores d (Came key) ∷ deeds)
  came_cut d key deeds there is = record { there = (came_there deeds d key is.all there, is.there); all = tt }

  -- a device that is removed is cut off at once
  pub removed_cut : (d : ℕ) (deeds : List Deed) → AreCut devices deeds → AreCut devices (stores d (Cut Removed) ∷ removes d ∷ deeds)
  removed_cut d deeds is = record { there = (refl, (removed_there deeds is.all, is.there)); all = refl }
    where
      removed_there : (before : List Deed) → IsDone before → IsCutThere devices before (removes d)
      removed_there (removes e ∷ before) done = absurd done
      removed_there (stores e (Cut Dropped) ∷ before) done = absurd (cc done)
      removed_there before done = tt

  -- devices are cut off one after the other, and then the channel ends
  dropped_all : (ds : List ℕ) (deeds : List Deed) → AreCut devices deeds
      → EachAfter (IsCutThere devices) (map (λ (d : ℕ). stores d (Cut Dropped)) ds ++ deeds) × (IsDone (map (λ (d : ℕ). stores d (Cut Dropped)) ds ++ deeds) ⊎ ((d : ℕ) × (earlier : List Deed) × (map (λ (e : ℕ). stores e (Cut Dropped)) ds ++ deeds ≡ stores d (Cut Dropped) ∷ earlier)))
  dropped_all [] deeds is = (is.there, inl is.all)
  dropped_all (d ∷ ds) deeds is =
      let rest = dropped_all ds deeds is in
      ((dropped_there (map (λ (e : ℕ). stores e (Cut Dropped)) ds ++ deeds) d rest.1, rest.0), inr (d, map (λ (e : ℕ). stores e (Cut Dropped)) ds ++ deeds, refl))

  last_cut : (ds : List ℕ) (deeds : List Deed) → IsDone deeds → cut_last (map (λ (d : ℕ). stores d (Cut Dropped)) ds ++ deeds) ≡ ds
  last_cut [] deeds done = none deeds done
    where
      none : (before : List Deed) → IsDone before → cut_last before ≡ []
      none (stores d (Cut Dropped) ∷ before) is = absurd (cc is)
      none before is = refl
  last_cut (d ∷ ds) deeds done = ap (λ (xs : List ℕ). d ∷ xs) (last_cut ds deeds done)

  still_there : (ds : List ℕ) (deeds : List Deed) (device : ℕ) → is_removed device (map (λ (d : ℕ). stores d (Cut Dropped)) ds ++ deeds) ≡ is_removed device deeds
  still_there [] deeds device = refl
  still_there (d ∷ ds) deeds device = still_there ds deeds device

  pub ended_cut : (ds : List ℕ) (deeds : List Deed) (c : ℕ) → reverse ds ≡ there_at devices deeds → AreCut devices deeds → AreCut devices (host_ends c ∷ map (λ (d : ℕ). stores d (Cut Dropped)) ds ++ deeds)
  ended_cut ds deeds c same is =
      let all = dropped_all ds deeds is in
      record {
        there = (
          ends_there (map (λ (d : ℕ). stores d (Cut Dropped)) ds ++ deeds) c all.1
              (ap reverse (last_cut ds deeds is.all) ∙ same ∙ sym (there_same (map (λ (d : ℕ × Declared). d.0) devices))),
          all.0,
        );
        all = tt;
      }
    where
      there_same : (ids : List ℕ) → filter (λ device. not (is_removed device (map (λ (d : ℕ). stores d (Cut Dropped)) ds ++ deeds))) ids ≡ filter (λ device. not (is_removed device deeds)) ids
      there_same [] = refl
      there_same (k ∷ ids) = rw (still_there ds deeds k, there_same ids) refl

-- ---- keys of stations

weaker : (j k : ℕ) (ns : List ℕ) → nat_cmp j k ≡ Less → AllByRecursion (λ (n : ℕ). nat_cmp k n ≡ Less) ns → AllByRecursion (λ (n : ℕ). nat_cmp j n ≡ Less) ns
weaker j k [] less above = tt
weaker j k (n ∷ ns) less above =
    let next : nat_cmp k n ≡ Less = above.0 in
    let own : nat_cmp j n ≡ Less = grind (arith, nat_tests, less, next) in
    (own, weaker j k ns less above.1)

module _ {X : Type 0} where
  higher : (k : ℕ) (es : List (ℕ × X)) → AllByRecursion (λ (n : ℕ). nat_cmp k n ≡ Less) (map (λ (e : ℕ × X). e.0) es) → lookup (is_at (nat_cmp k)) es ≡ None
  higher k [] above = refl
  higher k (e ∷ es) above =
      let less : nat_cmp k e.0 ≡ Less = above.0 in
      let apart : is_at (nat_cmp k) e.0 ≡ false = grind (arith, nat_tests, less) in
      rw apart (higher k es above.1)

  pub same_keys : (es : List (ℕ × X)) (k : ℕ) (old new : X) → IsStrictlySortedBy nat_cmp (map (λ (e : ℕ × X). e.0) es) → lookup (is_at (nat_cmp k)) es ≡ Some old
      → map (λ (e : ℕ × X). e.0) (insert_entry nat_cmp es k new) ≡ map (λ (e : ℕ × X). e.0) es
  unfolding IsStrictlySortedBy
  same_keys [] k old new rise has = absurd (cc has)
  same_keys (e ∷ es) k old new rise has = by (nat_cmp k e.0) refl (same_keys es k old new rise.1)
    where
      by : (r : Ordering) → nat_cmp k e.0 ≡ r → (lookup (is_at (nat_cmp k)) es ≡ Some old → map (λ (f : ℕ × X). f.0) (insert_entry nat_cmp es k new) ≡ map (λ (f : ℕ × X). f.0) es)
          → map (λ (f : ℕ × X). f.0) (match_ordering r ((k, new) ∷ e ∷ es) ((e.0, new) ∷ es) (e ∷ insert_entry nat_cmp es k new)) ≡ e.0 ∷ map (λ (f : ℕ × X). f.0) es
      by Less is later =
          let none : lookup (is_at (nat_cmp k)) (e ∷ es) ≡ None = higher k (e ∷ es) (is, weaker k e.0 (map (λ (f : ℕ × X). f.0) es) is rise.0) in
          absurd (cc (none, has))
      by Equal is later = refl
      by Greater is later =
          let apart : is_at (nat_cmp k) e.0 ≡ false = grind (arith, nat_tests, is) in
          let there : lookup (is_at (nat_cmp k)) es ≡ Some old = sym (ap (λ (b : Bool). cond b (Some e.1) (lookup (is_at (nat_cmp k)) es)) apart) ∙ has in
          ap (λ (ks : List ℕ). e.0 ∷ ks) (later there)

-- ---- the end of a channel

-- whether the station of a device is live
abbrev pub is_live : WorldState → ℕ → Bool
is_live w d = option_map_or (λ (s : Of). s.live) (station_at w d) false

pub live_dropped : (w : WorldState) (d : ℕ) → (dropping w d).deeds ≡ (if is_live w d then stores d (Cut Dropped) ∷ w.deeds else w.deeds)
live_dropped w d = by (station_at w d) refl
  where
    by : (o : Option Of) → station_at w d ≡ o
        → (option_map_or (λ (s : Of). with_station w d (station.drop_channel s (device_cut s.device).state)) o w).deeds ≡ (if option_map_or (λ (s : Of). s.live) o false then stores d (Cut Dropped) ∷ w.deeds else w.deeds)
    by None there = refl
    by (Some s) there = at s.live refl
      where
        at : (b : Bool) → s.live ≡ b → (with_station w d (station.drop_channel s (device_cut s.device).state)).deeds ≡ (if b then stores d (Cut Dropped) ∷ w.deeds else w.deeds)
        at true e =
            let longer : (station.drop_channel s (device_cut s.device).state).journal ≡ s.journal ++ Cut Dropped ∷ [] = rw e refl in
            stored_deeds w d s (station.drop_channel s (device_cut s.device).state) there (Cut Dropped ∷ []) longer
        at false e =
            let same : (station.drop_channel s (device_cut s.device).state).journal ≡ s.journal ++ [] = rw e (sym (append-nil s.journal)) in
            stored_deeds w d s (station.drop_channel s (device_cut s.device).state) there [] same

pub other_dropped : (w : WorldState) (d q : ℕ) → (q == d) ≡ false → station_at (dropping w d) q ≡ station_at w q
other_dropped w d q apart = by (station_at w d)
  where
    by : (o : Option Of) → station_at (option_map_or (λ (s : Of). with_station w d (station.drop_channel s (device_cut s.device).state)) o w) q ≡ station_at w q
    by None = refl
    by (Some s) = has_elsewhere w.stations d (station.drop_channel s (device_cut s.device).state) q apart

own_dropped : (w : WorldState) (d : ℕ) → is_live (dropping w d) d ≡ false
own_dropped w d = by (station_at w d) refl
  where
    by : (o : Option Of) → station_at w d ≡ o → is_live (option_map_or (λ (s : Of). with_station w d (station.drop_channel s (device_cut s.device).state)) o w) d ≡ false
    by None there = ap (λ (p : Option Of). option_map_or (λ (s : Of). s.live) p false) there
    by (Some s) there = ap (λ (p : Option Of). option_map_or (λ (t : Of). t.live) p false) (has_here w.stations d (station.drop_channel s (device_cut s.device).state)) ∙ at s.live refl
      where
        at : (b : Bool) → s.live ≡ b → (station.drop_channel s (device_cut s.device).state).live ≡ false
        at true e = rw e refl
        at false e = ap (λ (b : Bool). (if b then record (station.emptied s) { device = (device_cut s.device).state; live = false; journal = s.journal ++ Cut Dropped ∷ [] } else station.emptied s).live) e ∙ e

pub all_dropped : (ds : List ℕ) (w : WorldState) → IsStrictlySortedBy nat_cmp ds → (fold dropping w ds).deeds ≡ map (λ (d : ℕ). stores d (Cut Dropped)) (reverse (filter (is_live w) ds)) ++ w.deeds
unfolding IsStrictlySortedBy
all_dropped [] w rise = refl
all_dropped (d ∷ ds) w rise =
    all_dropped ds (dropping w d) rise.1 ∙ ap (λ (xs : List ℕ). map (λ (e : ℕ). stores e (Cut Dropped)) (reverse xs) ++ (dropping w d).deeds) (same ds rise.0)
    ∙ ap (λ (xs : List Deed). map (λ (e : ℕ). stores e (Cut Dropped)) (reverse (filter (is_live w) ds)) ++ xs) (live_dropped w d) ∙ by (is_live w d)
  where
    same : (es : List ℕ) → AllByRecursion (λ (n : ℕ). nat_cmp d n ≡ Less) es → filter (is_live (dropping w d)) es ≡ filter (is_live w) es
    same [] above = refl
    same (e ∷ es) above =
        let less : nat_cmp d e ≡ Less = above.0 in
        let apart : (e == d) ≡ false = grind (arith, nat_tests, less) in
        let own : is_live (dropping w d) e ≡ is_live w e = ap (λ (o : Option Of). option_map_or (λ (s : Of). s.live) o false) (other_dropped w d e apart) in
        rw (own, same es above.1) refl

    more : (xs ys : List ℕ) → map (λ (e : ℕ). stores e (Cut Dropped)) (xs ++ ys) ≡ map (λ (e : ℕ). stores e (Cut Dropped)) xs ++ map (λ (e : ℕ). stores e (Cut Dropped)) ys
    more [] ys = refl
    more (x ∷ xs) ys = ap (λ (zs : List Deed). stores x (Cut Dropped) ∷ zs) (more xs ys)

    by : (b : Bool) → map (λ (e : ℕ). stores e (Cut Dropped)) (reverse (filter (is_live w) ds)) ++ (if b then stores d (Cut Dropped) ∷ w.deeds else w.deeds)
        ≡ map (λ (e : ℕ). stores e (Cut Dropped)) (reverse (if b then d ∷ filter (is_live w) ds else filter (is_live w) ds)) ++ w.deeds
    by true =
        let xs : List ℕ = filter (is_live w) ds in
        sym (ap (λ (ys : List ℕ). map (λ (e : ℕ). stores e (Cut Dropped)) ys ++ w.deeds) (reverse_cons d xs) ∙ ap (λ (zs : List Deed). zs ++ w.deeds) (more (reverse xs) (d ∷ []))
        ∙ append_assoc (map (λ (e : ℕ). stores e (Cut Dropped)) (reverse xs)) (stores d (Cut Dropped) ∷ []) w.deeds)
    by false = refl

-- no station is live then
pub none_live : (ds : List ℕ) (w : WorldState) (q : ℕ) → (is_live w q ≡ false) ⊎ (list_any (λ d. d == q) ds ≡ true) → is_live (fold dropping w ds) q ≡ false
none_live [] w q (inl off) = off
none_live [] w q (inr among) = absurd cc
none_live (d ∷ ds) w q either = none_live ds (dropping w d) q (by (d == q) refl either)
  where
    by : (b : Bool) → (d == q) ≡ b → (is_live w q ≡ false) ⊎ ((b || list_any (λ e. e == q) ds) ≡ true) → (is_live (dropping w d) q ≡ false) ⊎ (list_any (λ e. e == q) ds ≡ true)
    by true e before = inl (subst (λ (k : ℕ). is_live (dropping w d) k ≡ false) (eqb-true d q e) (own_dropped w d))
    by false e (inl off) =
        let apart : (q == d) ≡ false = grind (arith, nat_tests, e) in
        inl (ap (λ (o : Option Of). option_map_or (λ (s : Of). s.live) o false) (other_dropped w d q apart) ∙ off)
    by false e (inr among) = inr among
