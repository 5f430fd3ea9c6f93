-- Where nothing can happen by itself no hand holds a job, and no station has one that waits for a hand, or is in one, or is to be collected.
use Rattle.std.proofs.Common.{◌≡◌, ◌∙◌, refl, sym, ap, subst, inl, inr, ℕ, zero, suc, ◌+◌, ◌-◌, ◌<◌, ◌≤◌, ◌==◌, ◌&&◌, Bool, true, false, cond, arith, List, [], ◌∷◌, ◌++◌, length, map, Some, None, Option}
use Rattle.std.specs.Prelude.{is_none, is_some, not, slice_get}
use Rattle.std.specs.List.{flat_map, range_with_len}
use Rattle.std.specs.Map.{lookup}
use Rattle.std.specs.Ordering.{nat_cmp}
use Rattle.std.specs.BTreeMap.{is_at}
use Rattle.std.specs.Option.{option_map_or}
use Rattle.std.proofs.lemmas.Bool.Decides.{nat_tests}
use Rattle.rd_base.specs.declared.journal.Key.{Key}
use Rattle.rd_drive.specs.declared.plan.Job.{Job}
use Rattle.rd_pending.proofs.MapLemmas.{same_key}
use Rattle.rd_rest.proofs.HandLemmas.{reached_in_hands}
use Rattle.rd_rest.proofs.OverLemmas.{reached_some}
use Rattle.rd_rest.specs.Rest.{IsAtRest}
use Rattle.rd_answered.specs.RunsMoves.{Reached}
use Rattle.rd_answered.specs.RunsPremises.{RunPremises}
use Rattle.rd_script.specs.declared.line.NumberedLine.{NumberedLine}
use Rattle.rd_station.specs.Station.{StationState}
use Rattle.rd_station.specs.declared.answers.Completion.{Completion}
use Rattle.rd_station.specs.declared.held.InHand.{InHand}
use Rattle.rd_declared.specs.declared.device.SessionDevice.{SessionDevice}
use Rattle.rd_world.specs.Events.{apply_job, client_has_message, collect, hand_at, has_completion, is_empty, is_enabled, is_hand_free, is_hand_full, job_waits, take_job}
use Rattle.rd_world.specs.Run.{NextStep, choices, device_ids, event, hand_numbers, takes_of, where_true}
use Rattle.rd_deeds.specs.Talk.{Has}
use Rattle.rd_world.specs.World.{WorldState, station_at}

abbrev Of : Type 0
Of = StationState SessionDevice

-- ---- what can't happen

nothing_in : {A : Type 0} (xs ys : List A) → xs ++ ys ≡ [] → (xs ≡ []) × (ys ≡ [])
nothing_in [] ys none = (refl, none)
nothing_in (x ∷ xs) ys none = absurd (cc none)

not_true : (b : Bool) (c : NextStep) → where_true b c ≡ [] → b ≡ false
not_true true c none = absurd (cc none)
not_true false c none = refl

clash : (b : Bool) → b ≡ false → b ≡ true → ⊥
clash true off on = cc (off)
clash false off on = cc (on)

none_of : {A : Type 0} (f : A → List NextStep) (xs : List A) → flat_map f xs ≡ [] → (x : A) → Has x xs → f x ≡ []
none_of f [] none x has = absurd has
none_of f (y ∷ xs) none x (inl here) = ap f here ∙ (nothing_in (f y) (flat_map f xs) none).0
none_of f (y ∷ xs) none x (inr later) = none_of f xs (nothing_in (f y) (flat_map f xs) none).1 x later

has_each : {A B : Type 0} (f : A → B) (x : A) (xs : List A) → Has x xs → Has (f x) (map f xs)
has_each f x [] none = absurd none
has_each f x (y ∷ xs) (inl here) = inl (ap f here)
has_each f x (y ∷ xs) (inr later) = inr (has_each f x xs later)

found_has : (stations : List (ℕ × Of)) (d : ℕ) (x : Of) → lookup (is_at (nat_cmp d)) stations ≡ Some x → Has d (map (λ (e : ℕ × Of). e.0) stations)
found_has [] d x there = absurd (cc there)
found_has (e ∷ stations) d x there = by (is_at (nat_cmp d) e.0) refl there (found_has stations d x)
  where
    by : (b : Bool) → is_at (nat_cmp d) e.0 ≡ b → cond b (Some e.1) (lookup (is_at (nat_cmp d)) stations) ≡ Some x
        → (lookup (is_at (nat_cmp d)) stations ≡ Some x → Has d (map (λ (e : ℕ × Of). e.0) stations)) → Has d (e.0 ∷ map (λ (e : ℕ × Of). e.0) stations)
    by true here found later = inl (same_key d e.0 here)
    by false here found later = inr (later found)

-- ---- hands by their numbers

in_range : (from n i : ℕ) → i < n → Has (from + i) (range_with_len from n)
in_range from zero i below = absurd (omega (arith, below))
in_range from (suc n) zero below = inl (omega arith)
in_range from (suc n) (suc i) below =
    let same : from + 1 + i ≡ from + suc i = omega arith in
    inr (subst (λ (k : ℕ). Has k (range_with_len (from + 1) n)) same (in_range (from + 1) n i (omega (arith, below))))

hand_there : (w : WorldState) (i : ℕ) → hand_at w (suc i) ≡ slice_get w.hands i
hand_there w i = let e : suc i - 1 ≡ i = omega arith in let some : (suc i == 0) ≡ false = grind (arith, nat_tests) in rw (some, e) refl

number_there : (w : WorldState) (i : ℕ) → i < length w.hands → Has (suc i) (hand_numbers w)
number_there w i below =
    let same : 0 + i ≡ i = omega arith in
    has_each suc i (range_with_len 0 (length w.hands)) (subst (λ (k : ℕ). Has k (range_with_len 0 (length w.hands))) same (in_range 0 (length w.hands) i below))

-- a place of what is in a list
place_of : {A : Type 0} (x : A) (xs : List A) → Has x xs → (i : ℕ) × (i < length xs) × (slice_get xs i ≡ Some x)
place_of x [] has = absurd has
place_of x (y ∷ xs) (inl here) = (0, omega arith, ap Some (sym here))
place_of x (y ∷ xs) (inr later) = let (i, below, is) = place_of x xs later in (suc i, omega (arith, below), is)

-- what is in hands, and what waits at stations, where nothing can happen
module _ (w : WorldState) (none : choices w ≡ []) where
  -- no hand holds anything
  pub no_hand_full : (x : ℕ × Job) → Has (Some x) w.hands → ⊥
  no_hand_full x has =
      let (i, below, is) = place_of (Some x) w.hands has in
      let quiet : where_true (is_enabled w (apply_job (suc i))) (event (apply_job (suc i))) ≡ [] =
      none_of (λ hand. where_true (is_enabled w (apply_job hand)) (event (apply_job hand))) (hand_numbers w) (nothing_in _ _ none).1 (suc i) (number_there w i below) in
      let off : is_hand_full w (suc i) ≡ false = not_true (is_enabled w (apply_job (suc i))) (event (apply_job (suc i))) quiet in
      let full : is_hand_full w (suc i) ≡ true = ap (λ (o : Option (Option (ℕ × Job))). option_map_or is_some o false) (hand_there w i ∙ is) in
      clash (is_hand_full w (suc i)) off full

  no_message : client_has_message w ≡ false
  no_message =
      let a = nothing_in _ _ none in
      let b = nothing_in _ _ a.0 in
      let c = nothing_in _ _ b.0 in
      let d = nothing_in _ _ c.0 in
      let e = nothing_in _ _ d.0 in
      not_true (client_has_message w) _ e.1

  pub none_ready : (d : ℕ) (s : Of) → station_at w d ≡ Some s → s.ready ≡ []
  none_ready d s there =
      let a = nothing_in _ _ none in
      let b = nothing_in _ _ a.0 in
      let c = nothing_in _ _ b.0 in
      let e = nothing_in _ _ c.0 in
      let quiet : where_true (is_enabled w (collect d)) (event (collect d)) ≡ [] =
      none_of (λ device. where_true (is_enabled w (collect device)) (event (collect device))) (device_ids w) e.1 d (found_has w.stations d s there) in
      by s.ready (sym (ap (λ (o : Option Of). option_map_or (λ (t : Of). not (is_empty t.ready)) o false) there)
      ∙ left (client_has_message w) (has_completion w d) no_message (not_true (is_enabled w (collect d)) (event (collect d)) quiet))
    where
      left : (x y : Bool) → x ≡ false → (not x && y) ≡ false → y ≡ false
      left true y x e = absurd (cc x)
      left false y x e = e

      by : (cs : List Completion) → not (is_empty cs) ≡ false → cs ≡ []
      by [] off = refl
      by (c ∷ cs) off = absurd (cc off)

  pub none_waits : 1 ≤ length w.hands → (d : ℕ) (s : Of) → station_at w d ≡ Some s → s.waiting ≡ []
  none_waits some d s there =
      let a = nothing_in _ _ none in
      let b = nothing_in _ _ a.0 in
      let takes : takes_of w d ≡ [] = none_of (takes_of w) (device_ids w) b.1 d (found_has w.stations d s there) in
      let quiet : where_true (is_enabled w (take_job d 1)) (event (take_job d 1)) ≡ [] =
      none_of (λ hand. where_true (is_enabled w (take_job d hand)) (event (take_job d hand))) (hand_numbers w) takes 1 (number_there w 0 some) in
      by s.waiting (sym (ap (λ (o : Option Of). option_map_or (λ (t : Of). not (is_empty t.waiting)) o false) there)
      ∙ left (is_hand_free w 1) (job_waits w d) (free w.hands some (λ x has. no_hand_full x has) (hand_there w 0)) (not_true (is_enabled w (take_job d 1)) (event (take_job d 1)) quiet))
    where
      left : (x y : Bool) → x ≡ true → (x && y) ≡ false → y ≡ false
      left true y x e = e
      left false y x e = absurd (cc x)

      free : (hands : List (Option (ℕ × Job))) → 1 ≤ length hands → ((x : ℕ × Job) → Has (Some x) hands → ⊥) → hand_at w 1 ≡ slice_get hands 0 → is_hand_free w 1 ≡ true
      free [] few empty at = absurd (omega (arith, few))
      free (None ∷ hands) few empty at = ap (λ (o : Option (Option (ℕ × Job))). option_map_or is_none o false) at
      free (Some x ∷ hands) few empty at = absurd (empty x (inl refl))

      by : (jobs : List Job) → not (is_empty jobs) ≡ false → jobs ≡ []
      by [] off = refl
      by (job ∷ jobs) off = absurd (cc off)

-- so what a station holds waits inside its device
pub rest_at : (lines : List NumberedLine) (starves : Key → Bool) → RunPremises lines → (w : WorldState) → Reached lines starves w → choices w ≡ [] → (d : ℕ) (s : Of) → station_at w d ≡ Some s → IsAtRest s
rest_at lines starves premises w reached none d s there = record {
  waiting = none_waits w none (reached_some lines starves premises w reached) d s there;
  taken = by s.taken (λ t has. let (job, held, key) = reached_in_hands lines starves w reached d s there t has in no_hand_full w none (d, job) held);
  ready = none_ready w none d s there;
}
  where
    by : (ts : List InHand) → ((t : InHand) → Has t ts → ⊥) → ts ≡ []
    by [] none = refl
    by (t ∷ ts) none = absurd (none t (inl refl))
