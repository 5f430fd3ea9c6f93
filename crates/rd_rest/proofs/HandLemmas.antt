-- Each job that a station gave to a hand is in one; and where a device was cut off last since a channel ended, its journal names keys of earlier channels.
use Rattle.std.proofs.Common.{◌≡◌, ◌≢◌, ◌⊎◌, ◌∙◌, refl, sym, ap, subst, inl, inr, ℕ, zero, suc, ◌-◌, ◌==◌, Bool, true, false, cond, arith, List, [], ◌∷◌, ◌++◌, map, fold, take, drop, Some, None, Option, append-nil, eq-eqb}
use Rattle.std.specs.Prelude.{filter, find, is_none, not, slice_get}
use Rattle.std.specs.Option.{option_map_or}
use Rattle.std.proofs.lemmas.Bool.Decides.{nat_tests}
use Rattle.rd_base.specs.declared.journal.Cause.TheVariants.{Dropped}
use Rattle.rd_base.specs.declared.journal.Item.{Item}
use Rattle.rd_base.specs.declared.journal.Item.TheVariants.{Cancelled, Cut, Ran}
use Rattle.rd_base.specs.declared.journal.Key.{Key}
use Rattle.rd_drive.specs.Device.{is_parked, is_starved}
use Rattle.rd_drive.specs.Stepped.{Stepped}
use Rattle.rd_drive.specs.declared.plan.Job.{Job}
use Rattle.rd_irp.specs.Fits.{kind_of}
use Rattle.rd_answered.proofs.JournalsHeldLemmas.{found_then}
use Rattle.rd_rest.proofs.CalmLemmas.{Calm, IsCalm, added, all_refreshed_calm, calm_by, calm_same, calm_station, collected_calm, hears_calm, put_calm, removed}
use Rattle.rd_rest.specs.Rest.{AreInHands}
use Rattle.rd_answered.proofs.RunsBeginningLemmas.{Unset, begins_as, first_idle}
use Rattle.rd_answered.proofs.RunsIdleLemmas.{AreIdle, cut_idle}
use Rattle.rd_answered.proofs.RunsParts.{IsBehind, MayBe, Part, accepts, adds_one, applies_one, begins, by_parts, client_gets, client_hears_one, client_keeps_part, client_sends_one, collects_one, done, draws_one, ends, hands_out, host_gets, host_hears_one, host_keeps_part, host_sends_one, idle_one, queues_one, reached_behind, refuses, removes_one, takes_one, tells_one, tries_one}
use Rattle.rd_answered.specs.RunsMoves.{Reached}
use Rattle.rd_script.specs.declared.line.NumberedLine.{NumberedLine}
use Rattle.rd_station.proofs.Members.{filter_has, find_has, has_append, has_right, key_self, same_key}
use Rattle.rd_station.specs.Station as station
use Rattle.rd_station.specs.Station.{StationState, apply_from, cancelled_in_hand, is_ended, is_key, parked_after, ran, take_first}
use Rattle.rd_station.specs.declared.answers.Applied.{Applied}
use Rattle.rd_station.specs.declared.answers.Applied.TheVariants as applied
use Rattle.rd_station.specs.declared.answers.Completion.{Completion}
use Rattle.rd_station.specs.declared.answers.Given.{Given}
use Rattle.rd_station.specs.declared.answers.Given.TheVariants as given
use Rattle.rd_station.specs.declared.held.InHand.{InHand}
use Rattle.rd_station.specs.declared.held.ParkedJob.{ParkedJob}
use Rattle.rd_declared.specs.declared.device.SessionDevice.{SessionDevice}
use Rattle.rd_declared.specs.Devices.{PrinterNames}
use Rattle.rd_world.specs.Events.{came_of, hand_at, is_hand_free, refreshing}
use Rattle.rd_declared.specs.Declaring.{bare_lines, declared_devices}
use Rattle.rd_world.specs.Run.{world_of}
use Rattle.rd_deeds.specs.Talk.{Has}
use Rattle.rd_world.specs.World.{WorldState, handling_by, station_at, with_station}

abbrev Of : Type 0
Of = StationState SessionDevice

-- ---- a hand

replaced : {A : Type 0} (xs : List A) (n k : ℕ) (old new y : A) → k ≡ suc n → slice_get xs n ≡ Some old → Has y xs → (y ≡ old) ⊎ Has y (take n xs ++ new ∷ drop k xs)
replaced {A} xs n k old new y at is has = subst (λ (j : ℕ). (y ≡ old) ⊎ Has y (take n xs ++ new ∷ drop j xs)) (sym at) (go xs n is has)
  where
    go : (zs : List A) (m : ℕ) → slice_get zs m ≡ Some old → Has y zs → (y ≡ old) ⊎ Has y (take m zs ++ new ∷ drop (suc m) zs)
    go [] m is has = absurd has
    go (z ∷ zs) zero is (inl here) = let same : z ≡ old = cc in inl (here ∙ same)
    go (z ∷ zs) zero is (inr later) = inr (inr later)
    go (z ∷ zs) (suc m) is (inl here) = inr (inl here)
    go (z ∷ zs) (suc m) is (inr later) = elim (go zs m is later) [ inl same ↦ inl same | inr there ↦ inr (inr there) ]

hand_is : (w : WorldState) (hand : ℕ) (o : Option (ℕ × Job)) → hand_at w hand ≡ Some o → (hand ≡ suc (hand - 1)) × (slice_get w.hands (hand - 1) ≡ Some o)
hand_is w hand o e = by (hand == 0) refl e
  where
    by : (b : Bool) → (hand == 0) ≡ b → cond b None (slice_get w.hands (hand - 1)) ≡ Some o → (hand ≡ suc (hand - 1)) × (slice_get w.hands (hand - 1) ≡ Some o)
    by true at e = absurd (cc (e))
    by false at e = (grind (arith, nat_tests, at), e)

same_held : (q d : ℕ) (j job : Job) → ◌≡◌ {A = Option (ℕ × Job)} (Some (q, j)) (Some (d, job)) → (q ≡ d) × (j ≡ job)
same_held q d j job e = let same : ◌≡◌ {A = ℕ × Job} (q, j) (d, job) = cc in (ap (λ (x : ℕ × Job). x.0) same, ap (λ (x : ℕ × Job). x.1) same)

free_is : (w : WorldState) (hand : ℕ) → is_hand_free w hand ≡ true → hand_at w hand ≡ Some None
free_is w hand free = by (hand_at w hand) free
  where
    by : (o : Option (Option (ℕ × Job))) → option_map_or is_none o false ≡ true → o ≡ Some None
    by None e = absurd (cc (e))
    by (Some None) e = refl
    by (Some (Some x)) e = absurd (cc (e))

-- ---- a station that hands do something with

pub took : (s after : Of) (job : Job) → station.take s ≡ (after, given.Job job) → ((x : InHand) → Has x after.taken → Has x s.taken ⊎ (x.key ≡ job.key)) × (after.journal ≡ s.journal)
took s after job made = by s.ended s.waiting made
  where
    by : (b : Bool) (jobs : List Job) → cond {A = Of × Given} b (s, given.Over) (take_first s jobs) ≡ (after, given.Job job)
        → ((x : InHand) → Has x after.taken → Has x s.taken ⊎ (x.key ≡ job.key)) × (after.journal ≡ s.journal)
    by true jobs made = let over : given.Over ≡ given.Job job = ap (λ (r : Of × Given). r.1) made in absurd (cc (over))
    by false [] made = let nothing : given.Nothing ≡ given.Job job = ap (λ (r : Of × Given). r.1) made in absurd (cc (nothing))
    by false (j ∷ jobs) made =
        let one : given.Job j ≡ given.Job job = ap (λ (r : Of × Given). r.1) made in
        let same : j ≡ job = cc in
        let last : InHand = record { key = j.key; completion = j.completion; removed = false } in
        let is : s.taken ++ last ∷ [] ≡ after.taken = ap (λ (r : Of × Given). (r.0).taken) made in (
          λ x has. elim (has_append x s.taken (last ∷ []) (subst (Has x) (sym is) has)) [
            | inl was ↦ inl was
            | inr end ↦ elim end [ inl here ↦ inr (ap (λ (t : InHand). t.key) here ∙ ap (λ (y : Job). y.key) same) | inr none ↦ absurd none ]
          ],
          ap (λ (r : Of × Given). (r.0).journal) (sym made),
        )

pub took_parked : (s after : Of) (job : Job) → station.take s ≡ (after, given.Job job) → after.parked ≡ s.parked
took_parked s after job made = by s.ended s.waiting made
  where
    by : (b : Bool) (jobs : List Job) → cond {A = Of × Given} b (s, given.Over) (take_first s jobs) ≡ (after, given.Job job) → after.parked ≡ s.parked
    by true jobs made = let over : given.Over ≡ given.Job job = ap (λ (r : Of × Given). r.1) made in absurd (cc (over))
    by false [] made = let nothing : given.Nothing ≡ given.Job job = ap (λ (r : Of × Given). r.1) made in absurd (cc (nothing))
    by false (j ∷ jobs) made = ap (λ (r : Of × Given). (r.0).parked) (sym made)

find_none : {A : Type 0} (p : A → Bool) (xs : List A) → find p xs ≡ None → (x : A) → Has x xs → p x ≡ false
find_none p [] none x has = absurd has
find_none {A} p (y ∷ xs) none x has = by (p y) refl none has (λ e later. find_none p xs e x later)
  where
    by : (b : Bool) → p y ≡ b → cond b (Some y) (find p xs) ≡ None → (x ≡ y) ⊎ Has x xs → (find p xs ≡ None → Has x xs → p x ≡ false) → p x ≡ false
    by true e none has rest = absurd (cc (none))
    by false e none (inl here) rest = ap p here ∙ e
    by false e none (inr later) rest = rest none later

pub record Gave (s : Of) (job : Job) (t : Of) : Type 0 where
  pub others : (x : InHand) → Has x t.taken → Has x s.taken × (x.key ≢ job.key)
  pub more : List Item
  pub parked : (p : ParkedJob) → Has p t.parked → Has p s.parked ⊎ ((m : ℕ) × (starved : Bool) × Has (Ran p.key m starved true) more)
  pub longer : t.journal ≡ s.journal ++ more
  pub undropped : Has (Cut Dropped) more → ⊥

one_only : (x : Item) → (Cut Dropped ≡ x → ⊥) → Has (Cut Dropped) (x ∷ []) → ⊥
one_only x apart (inl same) = apart same
one_only x apart (inr none) = none

pub gave_back : (s : Of) (job : Job) (moment : ℕ) (came : Stepped SessionDevice) → Gave s job (station.apply s job moment came).0
gave_back s job moment came = by (find (λ (t : InHand). is_key t.key job.key) s.taken) refl
  where
    without : (t : InHand) → t.key ≡ job.key → (x : InHand) → Has x (station.without_taken t.key s.taken) → Has x s.taken × (x.key ≢ job.key)
    without t same x has =
        let (among, apart) = filter_has (λ (v : InHand). not (is_key v.key t.key)) x s.taken has in
        (among, λ equal. let one : is_key x.key t.key ≡ true = ap (λ (k : Key). is_key k t.key) (equal ∙ sym same) ∙ key_self t.key in cc (apart, one))

    after : (t : InHand) (p : ParkedJob) → Has p (parked_after s.parked t (kind_of job.op) came.answer came.ends)
        → Has p s.parked ⊎ ((m : ℕ) × (starved : Bool) × Has (Ran p.key m starved true) (Ran t.key moment (is_starved came.answer) (is_parked came.answer) ∷ []))
    after t p has = elim (has_append p (filter (λ q. not (is_ended came.ends q)) s.parked) (cond (is_parked came.answer) (record { key = t.key; completion = t.completion; kind = kind_of job.op } ∷ []) []) has) [
      | inl was ↦ inl (filter_has (λ q. not (is_ended came.ends q)) p s.parked was).0
      | inr last ↦ inr (moment, is_starved came.answer, own (is_parked came.answer) last)
    ]
      where
        own : (b : Bool) → Has p (cond b (record { key = t.key; completion = t.completion; kind = kind_of job.op } ∷ []) []) → Has (Ran p.key moment (is_starved came.answer) true) (Ran t.key moment (is_starved came.answer) b ∷ [])
        own true (inl here) = inl (ap (λ (q : ParkedJob). Ran q.key moment (is_starved came.answer) true) here)
        own true (inr none) = absurd none
        own false none = absurd none

    hand : (t : InHand) → t.key ≡ job.key → (b : Bool) → Gave s job (cond {A = Of × Applied} b (cancelled_in_hand s t (kind_of job.op), applied.Cancelled) (ran s t (kind_of job.op) moment came, cond (is_parked came.answer) applied.Parked applied.Ran)).0
    hand t same true = record { others = without t same; parked = λ p has. inl has; more = Cancelled t.key ∷ []; longer = refl; undropped = one_only (Cancelled t.key) (λ e. cc (e)) }
    hand t same false = record { others = without t same; parked = after t; more = Ran t.key moment (is_starved came.answer) (is_parked came.answer) ∷ []; longer = refl; undropped = one_only (Ran t.key moment (is_starved came.answer) (is_parked came.answer)) (λ e. cc (e)) }

    by : (o : Option InHand) → find (λ (t : InHand). is_key t.key job.key) s.taken ≡ o → Gave s job (apply_from s job moment came o).0
    by None e = record {
      others = λ x has. (
        has,
        λ equal. let no : is_key x.key job.key ≡ false = find_none (λ (t : InHand). is_key t.key job.key) s.taken e x has in
            let yes : is_key x.key job.key ≡ true = ap (λ (k : Key). is_key k job.key) equal ∙ key_self job.key in cc (no, yes),
      );
      parked = λ p has. inl has;
      more = [];
      longer = sym (append-nil s.journal);
      undropped = λ has. has;
    }
    by (Some t) e = hand t (same_key t.key job.key (find_has (λ (u : InHand). is_key u.key job.key) t s.taken e).1) t.removed

-- ---- what is in hands, part by part

calm_hands : (w v : WorldState) → IsCalm w v → AreInHands w → AreInHands v
calm_hands w v calm is d t there x has =
    let (s, at, c) = calm.each d t there in
    let (y, among, same) = c.taken x has in
    let (job, held, key) = is d s at y among in
    (job, subst (λ (hs : List (Option (ℕ × Job))). Has (Some (d, job)) hs) (sym calm.hands) held, key ∙ same)

module _ (lines : List NumberedLine) (starves : Key → Bool) where
  part_hands : (w : WorldState) (p : Part) → MayBe lines starves w p → AreInHands w → AreInHands (done starves w p)
  part_hands w (accepts a asked named t number) may is = is
  part_hands w (refuses a asked cause) may is = is
  part_hands w (hands_out a number t got None) may is = is
  part_hands w (hands_out a number t got (Some asked)) may is = is
  part_hands w (host_sends_one m) may is = is
  part_hands w (host_gets n) may is = is
  part_hands w host_keeps_part may is = is
  part_hands w (host_hears_one m rest) may is = is
  part_hands w (tells_one n) may is = is
  part_hands w begins may is = calm_hands w (fold refreshing w (map (λ (e : ℕ × PrinterNames). e.0) w.printers)) (all_refreshed_calm (map (λ (e : ℕ × PrinterNames). e.0) w.printers) w) is
  part_hands w ends may is = λ d s there x has. absurd (subst (Has x) (cut_idle w d s there).taken has)
  part_hands w (client_sends_one c o) may is = is
  part_hands w (client_gets n) may is = is
  part_hands w client_keeps_part may is = is
  part_hands w (client_hears_one m rest) may is =
      let x : WorldState = record w { to_client = (handling_by w.to_client (Some (m, rest))).0 } in calm_hands x (done starves w (client_hears_one m rest)) (hears_calm x m) is
  part_hands w (tries_one k) may is = calm_hands (record w { kept = None }) (done starves w (tries_one k)) (put_calm (record w { kept = None }) k.device k.job) is
  part_hands w (collects_one d s after c) (reached, idle, there, made) is =
      calm_hands w (done starves w (collects_one d s after c)) (calm_by (with_station w d after) (calm_station w d s after there (subst (λ (r : Of × Option Completion). Calm s r.0) made (collected_calm s))) (calm_same refl refl)) is
  part_hands w (takes_one d hand s after job) (free, there, made) is = λ q t at x has. elim (found_then w.stations d after q t at) [
    | inl (here, equal) ↦ elim ((took s after job made).0 x (subst (λ (y : Of). Has x y.taken) equal has)) [
      | inl was ↦ let (j, held, key) = is d s there x was in (j, subst (λ (n : ℕ). Has (Some (n, j)) hands) (sym here) (still (Some (d, j)) held (λ e. cc (e))), key)
      | inr own ↦ (job, subst (λ (n : ℕ). Has (Some (n, job)) hands) (sym here) (has_right (Some (d, job)) (take (hand - 1) w.hands) (Some (d, job) ∷ drop hand w.hands) (inl refl)), sym own)
    ]
    | inr (apart, was) ↦ let (j, held, key) = is q t was x has in (j, still (Some (q, j)) held (λ e. cc (e)), key)
  ]
    where
      hands : List (Option (ℕ × Job))
      hands = take (hand - 1) w.hands ++ Some (d, job) ∷ drop hand w.hands

      still : (y : Option (ℕ × Job)) → Has y w.hands → (y ≡ None → ⊥) → Has y hands
      still y has some =
          let (at, is_free) = hand_is w hand None (free_is w hand free) in
          elim (replaced w.hands (hand - 1) hand None (Some (d, job)) y at is_free has) [ inl none ↦ absurd (some none) | inr there ↦ there ]
  part_hands w (applies_one hand d job None) (holds, there) is = λ q t at x has.
      let (j, held, key) = is q t at x has in
      let (n, full) = hand_is w hand (Some (d, job)) holds in (
        j,
        elim (replaced w.hands (hand - 1) hand (Some (d, job)) None (Some (q, j)) n full held) [
          | inl same ↦
              let here : q ≡ d = (same_held q d j job same).0 in
              let found : station_at w d ≡ Some t = subst (λ (k : ℕ). station_at w k ≡ Some t) here at in
              absurd (cc (there, found))
          | inr still ↦ still
        ],
        key,
      )
  part_hands w (applies_one hand d job (Some s)) (holds, there) is =
      let new : Of = (station.apply s job w.moment (came_of starves w job s.device)).0 in
      let (n, full) = hand_is w hand (Some (d, job)) holds in
      λ q t at x has. elim (found_then w.stations d new q t at) [
        | inl (here, equal) ↦
            let (was, apart) = (gave_back s job w.moment (came_of starves w job s.device)).others x (subst (λ (y : Of). Has x y.taken) equal has) in
            let (j, held, key) = is d s there x was in (
              j,
              subst (λ (k : ℕ). Has (Some (k, j)) (take (hand - 1) w.hands ++ None ∷ drop hand w.hands)) (sym here)
                  (elim (replaced w.hands (hand - 1) hand (Some (d, job)) None (Some (d, j)) n full held) [
                    | inl same ↦ let one : j ≡ job = (same_held d d j job same).1 in absurd (apart (sym key ∙ ap (λ (y : Job). y.key) one))
                    | inr still ↦ still
                  ]),
              key,
            )
        | inr (apart, was) ↦
            let (j, held, key) = is q t was x has in (
              j,
              elim (replaced w.hands (hand - 1) hand (Some (d, job)) None (Some (q, j)) n full held) [
                | inl same ↦ let here : q ≡ d = (same_held q d j job same).0 in absurd (cc (apart, eq-eqb q d here))
                | inr still ↦ still
              ],
              key,
            )
      ]
  part_hands w (removes_one d o) (can, there) is = calm_hands w (done starves w (removes_one d o)) (removed w d o there) is
  part_hands w (adds_one d names o) (can, printers, there) is = calm_hands w (done starves w (adds_one d names o)) (added w d names o there) is
  part_hands w (queues_one a) may is = is
  part_hands w (idle_one number) may is = is
  part_hands w draws_one may is = is

  pub begins_idle : AreIdle (world_of lines).stations
  begins_idle = begins_as lines (λ (u : Unset). AreIdle u.stations) (first_idle (declared_devices (bare_lines lines)))

  pub behind_in_hands : (w : WorldState) → IsBehind lines starves w → AreInHands w
  behind_in_hands w behind = by_parts lines starves AreInHands (λ d s there x has. absurd (subst (Has x) (begins_idle d s there).taken has)) (λ x p before after may is. part_hands x p may is) w behind

pub reached_in_hands : (lines : List NumberedLine) (starves : Key → Bool) → (w : WorldState) → Reached lines starves w → AreInHands w
reached_in_hands lines starves w reached = behind_in_hands lines starves w (reached_behind lines starves w reached)
