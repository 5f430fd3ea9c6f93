-- The jobs that a station holds: how many pass a test, and that of one key one is held.
use Rattle.std.proofs.Common.{◌≡◌, ◌≢◌, ◌∙◌, refl, sym, ap, subst, inl, inr, ℕ, ◌≤◌, ◌+◌, ◌==◌, Bool, true, false, cond, not, List, [], ◌∷◌, ◌++◌, length, map, arith}
use Rattle.std.proofs.lemmas.List.{length-append, length-map}
use Rattle.rd_base.specs.declared.journal.Key.{Key}
use Rattle.rd_drive.specs.declared.plan.Job.{Job}
use Rattle.rd_station.specs.declared.answers.Completion.{Completion}
use Rattle.rd_station.specs.declared.held.InHand.{InHand}
use Rattle.rd_station.specs.declared.held.ParkedJob.{ParkedJob}
use Rattle.rd_station.specs.Station.{without_taken, StationState, held, is_key}
use Rattle.rd_station.proofs.Members.{AreApart, Has, filter_has, has_append, key_self, map_has, other_key}
use Rattle.rd_station.proofs.Cancelling.{job_key}
use Rattle.rd_station.proofs.Counts.{cnt, cnt_append, cnt_cons, cnt_map, cnt_others, cnt_some, cnt_zero}
use Rattle.rd_station.proofs.Ending.{of_parked, of_ready, parked_key}

-- a test of keys and completion ids, of what waits and of what is in a hand
abbrev pub of_job : (Key × ℕ → Bool) → Job → Bool
of_job p job = p (job.key, job.completion)

abbrev pub of_hand : (Key × ℕ → Bool) → InHand → Bool
of_hand p t = p (t.key, t.completion)

-- how many of the jobs that are held pass a test
abbrev pub tally : {S : Type 0} → (Key × ℕ → Bool) → StationState S → ℕ
tally p s = cnt (of_job p) s.waiting + cnt (of_hand p) s.taken + cnt (of_parked p) s.parked + cnt (of_ready p) s.ready

-- each passes, those of a completion id, and those of a key
abbrev pub every : Key × ℕ → Bool
every x = true

abbrev pub with_id : ℕ → Key × ℕ → Bool
with_id id x = x.1 == id

abbrev pub with_key : Key → Key × ℕ → Bool
with_key k x = is_key x.0 k

-- few jobs are held, and each completion id and each key is that of one at most
pub record IsFew {S : Type 0} (s : StationState S) : Type 0 where
  pub few : tally every s ≤ 128
  pub ids : (id : ℕ) → tally (with_id id) s ≤ 1
  pub keys : (k : Key) → tally (with_key k) s ≤ 1

-- so it stays where of no kind more are held
pub few_stays : {S : Type 0} (s new : StationState S) → ((p : Key × ℕ → Bool) → tally p new ≤ tally p s) → IsFew s → IsFew new
few_stays s new less few = record {
  few = omega (arith, less every, few.few);
  ids = λ id. omega (arith, less (with_id id), few.ids id);
  keys = λ k. omega (arith, less (with_key k), few.keys k);
}

-- how many are held
pub size_held : {S : Type 0} (s : StationState S) → length (held s) ≡ length s.waiting + length s.taken + length s.parked + length s.ready
size_held s = simp (length-append, length-map) (omega arith)

-- what is held, counted in one list
pub in_one : {S : Type 0} (p : Key × ℕ → Bool) (s : StationState S) → cnt p (held s) ≡ tally p s
in_one p s =
    let a = cnt_append p (map (λ (job : Job). (job.key, job.completion)) s.waiting ++ map (λ (t : InHand). (t.key, t.completion)) s.taken ++ map (λ (q : ParkedJob). (q.key, q.completion)) s.parked) (map (λ (x : Completion). (x.key, x.completion)) s.ready) in
    let b = cnt_append p (map (λ (job : Job). (job.key, job.completion)) s.waiting ++ map (λ (t : InHand). (t.key, t.completion)) s.taken) (map (λ (q : ParkedJob). (q.key, q.completion)) s.parked) in
    let c = cnt_append p (map (λ (job : Job). (job.key, job.completion)) s.waiting) (map (λ (t : InHand). (t.key, t.completion)) s.taken) in
    let d = cnt_map p (λ (job : Job). (job.key, job.completion)) s.waiting in
    let e = cnt_map p (λ (t : InHand). (t.key, t.completion)) s.taken in
    let f = cnt_map p (λ (q : ParkedJob). (q.key, q.completion)) s.parked in
    let g = cnt_map p (λ (x : Completion). (x.key, x.completion)) s.ready in
    omega (arith, a, b, c, d, e, f, g)

-- what holds of each member of the four lists holds of what is held
pub in_held : {S : Type 0} (P : Key × ℕ → Type 0) (s : StationState S) → ((job : Job) → Has job s.waiting → P (job.key, job.completion)) → ((t : InHand) → Has t s.taken → P (t.key, t.completion))
    → ((p : ParkedJob) → Has p s.parked → P (p.key, p.completion)) → ((x : Completion) → Has x s.ready → P (x.key, x.completion)) → (x : Key × ℕ) → Has x (held s) → P x
in_held P s waiting taken parked ready x has = elim (has_append x (ws ++ ts ++ ps) rs has) [
  | inr h ↦ let (y, among, same) = map_has (λ (y : Completion). (y.key, y.completion)) x s.ready h in subst P (sym same) (ready y among)
  | inl g ↦ elim (has_append x (ws ++ ts) ps g) [
    | inr h ↦ let (y, among, same) = map_has (λ (p : ParkedJob). (p.key, p.completion)) x s.parked h in subst P (sym same) (parked y among)
    | inl f ↦ elim (has_append x ws ts f) [
      | inr h ↦ let (y, among, same) = map_has (λ (t : InHand). (t.key, t.completion)) x s.taken h in subst P (sym same) (taken y among)
      | inl h ↦ let (y, among, same) = map_has (λ (job : Job). (job.key, job.completion)) x s.waiting h in subst P (sym same) (waiting y among)
    ]
  ]
]
  where
    ws : List (Key × ℕ)
    ws = map (λ (job : Job). (job.key, job.completion)) s.waiting

    ts : List (Key × ℕ)
    ts = map (λ (t : InHand). (t.key, t.completion)) s.taken

    ps : List (Key × ℕ)
    ps = map (λ (p : ParkedJob). (p.key, p.completion)) s.parked

    rs : List (Key × ℕ)
    rs = map (λ (y : Completion). (y.key, y.completion)) s.ready

-- ---- of one key one is held

-- the keys of what is in a hand and of what is ready
abbrev pub hand_key : InHand → Key
hand_key t = t.key

abbrev pub ready_key : Completion → Key
ready_key x = x.key

-- the members of a list in which none has the key
pub none_has : {A : Type 0} (key_of : A → Key) (k : Key) (xs : List A) → cnt (λ x. is_key (key_of x) k) xs ≡ 0 → (x : A) → Has x xs → key_of x ≢ k
none_has key_of k xs none x has = other_key (key_of x) k (cnt_zero (λ y. is_key (key_of y) k) xs none x has)

-- a list in which each key is once
each_once : {A : Type 0} (key_of : A → Key) (xs : List A) → ((k : Key) → cnt (λ x. is_key (key_of x) k) xs ≤ 1) → AreApart (map key_of xs)
each_once key_of [] once = tt
each_once key_of (x ∷ xs) once = (new, each_once key_of xs (λ k. omega (arith, once k, cnt_cons (λ y. is_key (key_of y) k) x xs)))
  where
    new : ¬ (Has (key_of x) (map key_of xs))
    new has =
        let (y, among, same) = map_has key_of (key_of x) xs has in
        let one = ap (λ b. cond {A = ℕ} b 1 0) (key_self (key_of x)) in
        let again = cnt_some (λ z. is_key (key_of z) (key_of x)) y xs among (ap (λ (k : Key). is_key k (key_of x)) (sym same) ∙ key_self (key_of x)) in
        omega (arith, once (key_of x), cnt_cons (λ z. is_key (key_of z) (key_of x)) x xs, one, again)

-- where one of the lists has a key, the others haven't
module _ {S : Type 0} (s : StationState S) (few : IsFew s) (k : Key) where
  abbrev hands : ℕ
  hands = cnt (of_hand (with_key k)) s.taken

  abbrev readies : ℕ
  readies = cnt (of_ready (with_key k)) s.ready

  abbrev parks : ℕ
  parks = cnt (of_parked (with_key k)) s.parked

  pub none_waits : 1 ≤ hands + parks + readies → (job : Job) → Has job s.waiting → job.key ≢ k
  none_waits one = let none : cnt (of_job (with_key k)) s.waiting ≡ 0 = omega (arith, few.keys k, one) in none_has job_key k s.waiting none

  pub none_in_hand : 1 ≤ parks + readies → (t : InHand) → Has t s.taken → t.key ≢ k
  none_in_hand one = let none : cnt (of_hand (with_key k)) s.taken ≡ 0 = omega (arith, few.keys k, one) in none_has hand_key k s.taken none

  pub none_parked : 1 ≤ hands + readies → (p : ParkedJob) → Has p s.parked → p.key ≢ k
  none_parked one = let none : cnt (of_parked (with_key k)) s.parked ≡ 0 = omega (arith, few.keys k, one) in none_has parked_key k s.parked none

  pub none_ready : 1 ≤ hands → (x : Completion) → Has x s.ready → x.key ≢ k
  none_ready one = let none : cnt (of_ready (with_key k)) s.ready ≡ 0 = omega (arith, few.keys k, one) in none_has ready_key k s.ready none

-- no two of one list have the same key
module _ {S : Type 0} (s : StationState S) (few : IsFew s) where
  pub waiting_apart : AreApart (map job_key s.waiting)
  waiting_apart = each_once job_key s.waiting once
    where
      once : (k : Key) → cnt (of_job (with_key k)) s.waiting ≤ 1
      once k = omega (arith, few.keys k)

  pub parked_apart : AreApart (map parked_key s.parked)
  parked_apart = each_once parked_key s.parked once
    where
      once : (k : Key) → cnt (of_parked (with_key k)) s.parked ≤ 1
      once k = omega (arith, few.keys k)

  -- the others that are in hands, of which there is one less
  module _ (t : InHand) (has : Has t s.taken) where
    pub hand_once : 1 ≤ cnt (of_hand (with_key t.key)) s.taken
    hand_once = cnt_some (of_hand (with_key t.key)) t s.taken has (key_self t.key)

    pub without_one : length (without_taken t.key s.taken) + 1 ≡ length s.taken
    without_one =
        let others : length (without_taken t.key s.taken) + cnt (of_hand (with_key t.key)) s.taken ≡ length s.taken = cnt_others (of_hand (with_key t.key)) s.taken in
        omega (arith, others, hand_once, few.keys t.key)

-- what is in other hands
pub other_hand : (k : Key) (x : InHand) (ts : List InHand) → Has x (without_taken k ts) → Has x ts × (x.key ≢ k)
other_hand k x ts has = let (among, passes) = filter_has (λ (y : InHand). not (is_key y.key k)) x ts has in (among, other_key x.key k (fails (is_key x.key k) passes))
  where
    fails : (b : Bool) → not b ≡ true → b ≡ false
    fails false e = refl
    fails true e = absurd (cc)
