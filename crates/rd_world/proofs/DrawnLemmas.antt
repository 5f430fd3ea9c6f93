-- What code draws among is what a session may draw among: words of bits mean the events at their places.
use Rattle.std.proofs.Common.{◌≡◌, ◌≢◌, ◌∙◌, refl, sym, ap, subst, ℕ, zero, suc, ◌+◌, ◌-◌, ◌<◌, ◌≤◌, inl, inr, Bool, true, false, cond, not, ◌==◌, List, [], ◌∷◌, ◌++◌, length, get_or, slice_get, map, Some, None, Option, arith}
use Rattle.std.specs.Prelude.{◌&&◌, if◌then◌else◌, is_none, is_some, nat_le, nat_lt, IsSome}
use Rattle.std.specs.List.{AllByRecursion, filter, flat_map, range_with_len}
use Rattle.std.specs.List.Sorted.{IsStrictlySortedBy}
use Rattle.std.specs.Map.{keys_of, lookup}
use Rattle.std.specs.Option.{option_map_or}
use Rattle.std.specs.Ordering.{nat_cmp}
use Rattle.std.specs.declared.cmp.Ordering.TheVariants.{Less}
use Rattle.std.specs.BTreeMap.{is_at}
use Rattle.std.proofs.lemmas.Bool.{cases_Bool, cases_eq, cases_lt, false≢true}
use Rattle.std.proofs.lemmas.Bool.Decides.{nat_tests}
use Rattle.std.proofs.lemmas.List.{map-append}
use Rattle.std.proofs.lemmas.List.Concat.{flat_map_single}
use Rattle.std.proofs.lemmas.Nat.Bits.{bit_at-zero}
use Rattle.std.proofs.lemmas.Option.{slice_get_past, slice_get_within}
use Rattle.std.proofs.lemmas.Simd.{map-map}
use Rattle.rd_drive.proofs.AllLemmas.{all_append, all_both, all_weaker}
use Rattle.rd_drive.specs.declared.plan.Job.{Job}
use Rattle.rd_world.specs.Applications.{AreApplications, issues_at}
use Rattle.rd_world.specs.Bits.{has, where_holds}
use Rattle.rd_world.specs.Choices.{choice_where, choices_in, places, takes_in}
use Rattle.rd_world.specs.Drawn.{HasPlaces, can_happen, next_step_of}
use Rattle.rd_world.specs.Events.{Event, apply_job, client_has_message, client_read, client_send, collect, has_completion, host_has_message, host_read, host_send, is_enabled, is_hand_free, is_read, issue, job_waits, may_issue, take_job}
use Rattle.rd_declared.specs.Declaring.{max_hands}
use Rattle.rd_world.specs.Hands.{hand_in, is_free_hand, is_full_hand}
use Rattle.rd_world.specs.Run.{NextStep, choices, device_ids, event, hand_numbers, reads_client, reads_host, takes_of, where_true}
use Rattle.rd_world.specs.Stations.{AreStations, has_ready, has_waiting, holds_at}
use Rattle.rd_station.specs.Station.{StationState}
use Rattle.rd_declared.specs.declared.device.SessionDevice.{SessionDevice}
use Rattle.rd_world.specs.World.{WorldState, application_at}
use Rattle.rd_world.specs.declared.choices.Choice.{Choice}
use Rattle.rd_world.specs.declared.choices.Choice.TheVariants as choice
use Rattle.rd_world.specs.declared.choices.Choices.{Choices}
use Rattle.rd_world.proofs.ApplicationsLemmas.{there_of_issuing}
use Rattle.rd_world.proofs.ChoicesLemmas.{at_map}
use Rattle.rd_world.proofs.HandsLemmas.{hand_of}
use Rattle.rd_world.proofs.StationsLemmas.{stands_where}

-- ---- lists

each_same : {A B : Type 0} (f g : A → List B) (xs : List A) → ((x : A) → f x ≡ g x) → flat_map f xs ≡ flat_map g xs
each_same f g [] same = refl
each_same {A} {B} f g (x ∷ xs) same = let e : f x ≡ g x = same x in let r : flat_map f xs ≡ flat_map g xs = each_same f g xs same in cc

each_none : {A B : Type 0} (f : A → List B) (xs : List A) → ((x : A) → f x ≡ []) → flat_map f xs ≡ []
each_none f [] none = refl
each_none {A} {B} f (x ∷ xs) none = rw (none x) (each_none f xs none)

map_flat : {A B C : Type 0} (f : B → C) (g : A → List B) (xs : List A) → map f (flat_map g xs) ≡ flat_map (λ x. map f (g x)) xs
map_flat f g [] = refl
map_flat f g (x ∷ xs) = map-append f (g x) (flat_map g xs) ∙ ap (λ l. map f (g x) ++ l) (map_flat f g xs)

none_kept : (test : ℕ → Bool) (a n : ℕ) → ((j : ℕ) → a ≤ j → test j ≡ false) → filter test (range_with_len a n) ≡ []
none_kept test a zero fails = refl
none_kept test a (suc n) fails = rw (fails a (omega arith)) (none_kept test (a + 1) n (λ j u. fails j (omega arith)))

-- a word without bits has no places
no_places : places 0 ≡ []
unfolding where_holds
no_places = none_kept (has 0) 0 64 (λ j u. ap (λ (x : ℕ). x == 1) (bit_at-zero j))

-- ---- numbers of which a test holds, one above their places

step_in : (b : Bool) (f : ℕ → NextStep) (a k : ℕ) (xs : List ℕ) (ys : List NextStep) → a + 1 ≡ k → map (λ p. f (p + 1)) xs ≡ ys
    → map (λ p. f (p + 1)) (cond b (a ∷ xs) xs) ≡ where_true b (f k) ++ ys
step_in true f a k xs ys here same = ap (λ (q : ℕ). f q ∷ map (λ p. f (p + 1)) xs) here ∙ ap (λ (l : List NextStep). f k ∷ l) same
step_in false f a k xs ys here same = same

is_apart : (k l : ℕ) → k ≢ l → is_at (nat_cmp k) l ≡ false
is_apart k l apart = grind (arith, nat_tests)

cmp_below : (k l : ℕ) → nat_cmp k l ≡ Less → k < l
cmp_below k l e = grind (arith, nat_tests)

none_below : {X : Type 0} (es : List (ℕ × X)) (q : ℕ) → AllByRecursion (λ (k : ℕ). q < k) (keys_of es) → lookup (is_at (nat_cmp q)) es ≡ None
none_below [] q all = refl
none_below (e ∷ es) q all = rw (is_apart q e.0 (λ (same : q ≡ e.0). let u : q < e.0 = all.0 in omega arith)) (none_below es q all.1)

no_key : {X : Type 0} (test : ℕ → Bool) (es : List (ℕ × X)) (q : ℕ) → AllByRecursion (λ (k : ℕ). q < k) (keys_of es)
    → (test q ≡ true → IsSome (lookup (is_at (nat_cmp q)) es)) → test q ≡ false
no_key test es q above there = elim (cases_Bool (test q)) [
  | inl holds ↦ absurd (false≢true (ap is_some (sym (none_below es q above)) ∙ there holds))
  | inr fails ↦ fails
]

-- Keys rise, and a test holds of keys alone: the numbers in a range of which it holds are the keys of which it holds.
named : {X : Type 0} (test : ℕ → Bool) (f : ℕ → NextStep) (es : List (ℕ × X)) (a n : ℕ) → IsStrictlySortedBy nat_cmp (keys_of es)
    → AllByRecursion (λ (k : ℕ). (a < k) × (k ≤ a + n)) (keys_of es) → ((q : ℕ) → a < q → test q ≡ true → IsSome (lookup (is_at (nat_cmp q)) es))
    → map (λ p. f (p + 1)) (filter (λ p. test (p + 1)) (range_with_len a n)) ≡ flat_map (λ k. where_true (test k) (f k)) (keys_of es)
unfolding IsStrictlySortedBy
named test f [] a zero rise within there = refl
named test f (e ∷ es) a zero rise within there =
    let u : a < e.0 = (within.0).0 in
    let v : e.0 ≤ a + 0 = (within.0).1 in
    absurd (omega arith)
named {X} test f [] a (suc n) rise within there =
    let none : List (ℕ × X) = [] in
    rw (no_key test none (a + 1) tt (there (a + 1) (omega arith))) (named test f none (a + 1) n tt tt (λ q u t. there q (omega arith) t))
named {X} test f (e ∷ es) a (suc n) rise within there =
    let u : a < e.0 = (within.0).0 in
    let above : AllByRecursion (λ (k : ℕ). (e.0 < k) × (k ≤ a + suc n)) (keys_of es) =
    all_both (λ (k : ℕ). nat_cmp e.0 k ≡ Less) (λ (k : ℕ). (a < k) × (k ≤ a + suc n)) _ (keys_of es) (λ k l w. (cmp_below e.0 k l, w.1)) rise.0 within.1 in
    elim (cases_eq e.0 (a + 1)) [
      | inl here ↦
          let later : AllByRecursion (λ (k : ℕ). (a + 1 < k) × (k ≤ a + 1 + n)) (keys_of es) =
          all_weaker (λ (k : ℕ). (e.0 < k) × (k ≤ a + suc n)) _ (λ k l. let x : e.0 < k = l.0 in let y : k ≤ a + suc n = l.1 in (omega arith, omega arith)) (keys_of es) above in
          let still : (q : ℕ) → a + 1 < q → test q ≡ true → IsSome (lookup (is_at (nat_cmp q)) es) =
          λ q v t. let has : IsSome (lookup (is_at (nat_cmp q)) (e ∷ es)) = there q (omega arith) t in rw (is_apart q e.0 (λ (same : q ≡ e.0). omega arith)) at has in
          step_in (test (a + 1)) f a e.0 _ _ (sym here) (named test f es (a + 1) n rise.1 later still)
          ∙ ap (λ (q : ℕ). where_true (test q) (f e.0) ++ flat_map (λ k. where_true (test k) (f k)) (keys_of es)) (sym here)
      | inr apart ↦
          let v : a + 1 < e.0 = omega arith in
          let all_above : AllByRecursion (λ (k : ℕ). a + 1 < k) (keys_of (e ∷ es)) =
          (v, all_weaker (λ (k : ℕ). (e.0 < k) × (k ≤ a + suc n)) _ (λ k l. let x : e.0 < k = l.0 in omega arith) (keys_of es) above) in
          let later : AllByRecursion (λ (k : ℕ). (a + 1 < k) × (k ≤ a + 1 + n)) (keys_of (e ∷ es)) =
          all_both (λ (k : ℕ). a + 1 < k) (λ (k : ℕ). (a < k) × (k ≤ a + suc n)) _ (keys_of (e ∷ es)) (λ k l w. let y : k ≤ a + suc n = w.1 in (l, omega arith)) all_above within in
          rw (no_key test (e ∷ es) (a + 1) all_above (there (a + 1) (omega arith)))
          (named test f (e ∷ es) (a + 1) n rise later (λ q x t. there q (omega arith) t))
    ]

-- A test holds of none from a place on: the numbers in a range of which it holds are those before.
counted : (test : ℕ → Bool) (f : ℕ → NextStep) (a m n : ℕ) → m ≤ n → ((j : ℕ) → a + m ≤ j → test (j + 1) ≡ false)
    → map (λ p. f (p + 1)) (filter (λ p. test (p + 1)) (range_with_len a n)) ≡ flat_map (λ k. where_true (test k) (f k)) (map suc (range_with_len a m))
counted test f a zero n u fails = ap (map (λ p. f (p + 1))) (none_kept (λ p. test (p + 1)) a n (λ j v. fails j (omega arith)))
counted test f a (suc m) zero u fails = absurd (omega arith)
counted test f a (suc m) (suc n) u fails =
    let e : a + 1 ≡ suc a = omega arith in
    step_in (test (a + 1)) f a (suc a) _ _ e (counted test f (a + 1) m n (omega arith) (λ j v. fails j (omega arith)))
    ∙ ap (λ (q : ℕ). where_true (test q) (f (suc a)) ++ flat_map (λ k. where_true (test k) (f k)) (map suc (range_with_len (a + 1) m))) e

-- ---- places of values under keys

is_here : (k l : ℕ) → k ≡ l → is_at (nat_cmp k) l ≡ true
is_here k l e = grind (arith, nat_tests)

module _ {X : Type 0} where
  key_at : (es : List (ℕ × X)) (i : ℕ) (e : ℕ × X) → slice_get es i ≡ Some e → get_or (keys_of es) i 0 ≡ e.0
  key_at [] i e is = absurd (cc)
  key_at (x ∷ es) zero e is = let same : x ≡ e = cc in ap (λ (y : ℕ × X). y.0) same
  key_at (x ∷ es) (suc i) e is = key_at es i e is

  -- a key is above the first
  key_after : (P : ℕ → Type 0) (es : List (ℕ × X)) (i : ℕ) (e : ℕ × X) → slice_get es i ≡ Some e → AllByRecursion P (keys_of es) → P e.0
  key_after P [] i e is all = absurd (cc)
  key_after P (x ∷ es) zero e is all = let same : x ≡ e = cc in subst (λ (y : ℕ × X). P y.0) same all.0
  key_after P (x ∷ es) (suc i) e is all = key_after P es i e is all.1

  -- where keys rise, a key finds what stands beside it
  found : (es : List (ℕ × X)) (i : ℕ) (e : ℕ × X) → IsStrictlySortedBy nat_cmp (keys_of es) → slice_get es i ≡ Some e → lookup (is_at (nat_cmp e.0)) es ≡ Some e.1
  unfolding IsStrictlySortedBy
  found [] i e rise is = absurd (cc)
  found (x ∷ es) zero e rise is =
      let same : x ≡ e = cc in
      rw (is_here e.0 x.0 (ap (λ (y : ℕ × X). y.0) (sym same))) (ap (λ (y : ℕ × X). Some y.1) same)
  found (x ∷ es) (suc i) e rise is =
      let u : x.0 < e.0 = cmp_below x.0 e.0 (key_after (λ (k : ℕ). nat_cmp x.0 k ≡ Less) es i e is rise.0) in
      rw (is_apart e.0 x.0 (λ (same : e.0 ≡ x.0). omega arith)) (found es i e rise.1 is)

  -- The places in a range at which a test holds mean the keys that stand there.
  placed : (t : X → Bool) (H K : ℕ → List NextStep) (test : ℕ → Bool) (id : ℕ → ℕ) (es : List (ℕ × X)) (a n : ℕ) → length es ≤ n
      → ((i : ℕ) → test (a + i) ≡ holds_at t es i) → ((i : ℕ) (e : ℕ × X) → slice_get es i ≡ Some e → id (a + i) ≡ e.0)
      → ((i : ℕ) (e : ℕ × X) → slice_get es i ≡ Some e → K e.0 ≡ (if t e.1 then H e.0 else []))
      → flat_map (λ p. H (id p)) (filter test (range_with_len a n)) ≡ flat_map K (keys_of es)
  placed t H K test id [] a n few tests ids means =
      ap (flat_map (λ p. H (id p))) (none_kept test a n (λ j u. let e : a + (j - a) ≡ j = omega arith in subst (λ (p : ℕ). test p ≡ false) e (tests (j - a))))
  placed t H K test id (e ∷ es) a zero few tests ids means = absurd (omega arith)
  placed t H K test id (e ∷ es) a (suc n) few tests ids means =
      let start : a + 0 ≡ a = omega arith in
      let rest = placed t H K test id es (a + 1) n (omega arith)
      (λ i. let s : a + 1 + i ≡ a + suc i = omega arith in ap test s ∙ tests (suc i))
      (λ i x is. let s : a + 1 + i ≡ a + suc i = omega arith in ap id s ∙ ids (suc i) x is)
      (λ i x is. means (suc i) x is) in
      let holds : test a ≡ t e.1 = ap test (sym start) ∙ tests 0 in
      let named_here : id a ≡ e.0 = ap id (sym start) ∙ ids 0 e refl in
      let first : K e.0 ≡ (if t e.1 then H e.0 else []) = means 0 e refl in
      rw (holds, first) (go (t e.1) _ _ (ap H named_here) rest)
    where
      go : (b : Bool) (xs : List ℕ) (ys : List NextStep) → H (id a) ≡ H e.0 → flat_map (λ p. H (id p)) xs ≡ ys
          → flat_map (λ p. H (id p)) (cond b (a ∷ xs) xs) ≡ (if b then H e.0 else []) ++ ys
      go true xs ys same is = ap (λ (l : List NextStep). l ++ flat_map (λ p. H (id p)) xs) same ∙ ap (λ (l : List NextStep). H e.0 ++ l) is
      go false xs ys same is = is

-- ---- the same of the places of a word

named_where : {X : Type 0} (test : ℕ → Bool) (f : ℕ → NextStep) (es : List (ℕ × X)) (n : ℕ) → IsStrictlySortedBy nat_cmp (keys_of es) → AllByRecursion (λ (k : ℕ). (0 < k) × (k ≤ n)) (keys_of es)
    → ((q : ℕ) → test q ≡ true → IsSome (lookup (is_at (nat_cmp q)) es)) → map (λ p. f (p + 1)) (where_holds (λ p. test (p + 1)) n) ≡ flat_map (λ k. where_true (test k) (f k)) (keys_of es)
unfolding where_holds
named_where test f es n rise within there =
    let all : AllByRecursion (λ (k : ℕ). (0 < k) × (k ≤ 0 + n)) (keys_of es) =
    all_weaker (λ (k : ℕ). (0 < k) × (k ≤ n)) _ (λ k l. let u : k ≤ n = l.1 in (l.0, omega arith)) (keys_of es) within in
    named test f es 0 n rise all (λ q u t. there q t)

counted_where : (test : ℕ → Bool) (f : ℕ → NextStep) (m n : ℕ) → m ≤ n → ((j : ℕ) → m ≤ j → test (j + 1) ≡ false)
    → map (λ p. f (p + 1)) (where_holds (λ p. test (p + 1)) n) ≡ flat_map (λ k. where_true (test k) (f k)) (map suc (range_with_len 0 m))
unfolding where_holds
counted_where test f m n u fails = counted test f 0 m n u (λ j v. fails j (omega arith))

placed_where : {X : Type 0} (t : X → Bool) (H K : ℕ → List NextStep) (es : List (ℕ × X)) (n : ℕ) → length es ≤ n
    → ((i : ℕ) (e : ℕ × X) → slice_get es i ≡ Some e → K e.0 ≡ (if t e.1 then H e.0 else []))
    → flat_map (λ p. H (get_or (keys_of es) p 0)) (where_holds (holds_at t es) n) ≡ flat_map K (keys_of es)
unfolding where_holds
placed_where t H K es n few means =
    placed t H K (holds_at t es) (λ p. get_or (keys_of es) p 0) es 0 n few
    (λ i. let s : 0 + i ≡ i = omega arith in ap (holds_at t es) s)
    (λ i e is. let s : 0 + i ≡ i = omega arith in ap (λ (p : ℕ). get_or (keys_of es) p 0) s ∙ key_at es i e is) means

-- ---- the parts of what may be drawn

and_true : (b : Bool) → (b && true) ≡ b
and_true true = refl
and_true false = refl

and_false : (b : Bool) → (b && false) ≡ false
and_false true = refl
and_false false = refl

-- a test that all of them have in common
common_test : (test : ℕ → Bool) (f : ℕ → NextStep) (b : Bool) (xs : List ℕ)
    → flat_map (λ x. where_true (test x && b) (f x)) xs ≡ (if b then flat_map (λ x. where_true (test x) (f x)) xs else [])
common_test test f true xs = each_same _ _ xs (λ x. ap (λ (b : Bool). where_true b (f x)) (and_true (test x)))
common_test test f false xs = each_none _ xs (λ x. ap (λ (b : Bool). where_true b (f x)) (and_false (test x)))

one_drawn : (ids : List ℕ) (b : Bool) (c : Choice) → map (next_step_of ids) (choice_where b c) ≡ where_true b (next_step_of ids c)
one_drawn ids true c = refl
one_drawn ids false c = refl

same_drawn : (ids : List ℕ) (b b' : Bool) (c : Choice) → b ≡ b' → map (next_step_of ids) (choice_where b c) ≡ where_true b' (next_step_of ids c)
same_drawn ids b b' c same = one_drawn ids b c ∙ ap (λ (t : Bool). where_true t (next_step_of ids c)) same

-- What words of bits tell of a session.
pub record AreWordsOf (w : WorldState) (c : Choices) : Type 0 where
  pub applications : AreApplications w.applications
  pub stations : AreStations w.stations
  pub hands : length w.hands ≤ max_hands
  pub issues : places c.issues ≡ where_holds (issues_at w.applications) 64
  pub host_sends : c.host_sends ≡ host_has_message w
  pub client_reads : c.client_reads ≡ is_enabled w (client_read (length (w.to_client).pipe))
  pub client_sends : c.client_sends ≡ client_has_message w
  pub collects : places c.collects ≡ (if c.client_sends then [] else where_holds (holds_at has_ready w.stations) 64)
  pub host_reads : c.host_reads ≡ is_enabled w (host_read (length (w.to_host).pipe))
  pub waiting : places c.waiting ≡ where_holds (holds_at has_waiting w.stations) 64
  pub free : places c.free ≡ where_holds (λ place. is_free_hand w.hands (place + 1)) 64
  pub full : places c.full ≡ where_holds (λ place. is_full_hand w.hands (place + 1)) 64

module _ (w : WorldState) (c : Choices) (words : AreWordsOf w c) where
  abbrev ids : List ℕ
  ids = device_ids w

  issues_drawn : map (next_step_of ids) (map choice.Issue (places c.issues)) ≡ flat_map (λ a. where_true (is_enabled w (issue a)) (event (issue a))) (keys_of w.applications)
  issues_drawn =
      map-map (next_step_of ids) choice.Issue (places c.issues) ∙ ap (map (λ p. event (issue (p + 1)))) words.issues
      ∙ named_where (λ a. may_issue (application_at w a)) (λ a. event (issue a)) w.applications 64 (words.applications).rise (words.applications).numbers (λ q t. there_of_issuing w.applications q t)

  none_past : (test : Option (ℕ × Job) → Bool) (j : ℕ) → length w.hands ≤ j → option_map_or test (hand_in w.hands (j + 1)) false ≡ false
  none_past test j u =
      ap (λ (o : Option (Option (ℕ × Job))). option_map_or test o false) (hand_of w.hands (j + 1) (omega arith) ∙ slice_get_past w.hands (j + 1 - 1) (omega arith))

  few_hands : length w.hands ≤ 64
  few_hands = let u : length w.hands ≤ max_hands = words.hands in omega arith

  applies_drawn : map (next_step_of ids) (map choice.Apply (places c.full)) ≡ flat_map (λ hand. where_true (is_enabled w (apply_job hand)) (event (apply_job hand))) (hand_numbers w)
  applies_drawn =
      map-map (next_step_of ids) choice.Apply (places c.full) ∙ ap (map (λ p. event (apply_job (p + 1)))) words.full
      ∙ counted_where (is_full_hand w.hands) (λ hand. event (apply_job hand)) (length w.hands) 64 few_hands (none_past is_some)

  few_stations : length w.stations ≤ 64
  few_stations = let u : length w.stations ≤ 32 = (words.stations).few in omega arith

  completion_at : (i : ℕ) (e : ℕ × StationState SessionDevice) → slice_get w.stations i ≡ Some e → has_completion w e.0 ≡ has_ready e.1
  completion_at i e is = ap (λ (o : Option (StationState SessionDevice)). option_map_or has_ready o false) (found w.stations i e (words.stations).rise is)

  job_at : (i : ℕ) (e : ℕ × StationState SessionDevice) → slice_get w.stations i ≡ Some e → job_waits w e.0 ≡ has_waiting e.1
  job_at i e is = ap (λ (o : Option (StationState SessionDevice)). option_map_or has_waiting o false) (found w.stations i e (words.stations).rise is)

  abbrev collected : Bool → List NextStep
  collected b = flat_map (λ device. where_true (not b && has_completion w device) (event (collect device))) (device_ids w)

  collects_by : (b : Bool) → map (λ p. event (collect (get_or ids p 0))) (if b then [] else where_holds (holds_at has_ready w.stations) 64) ≡ collected b
  collects_by true = sym (each_none _ ids (λ d. refl))
  collects_by false =
      sym (flat_map_single (λ p. event (collect (get_or ids p 0))) (where_holds (holds_at has_ready w.stations) 64))
      ∙ placed_where has_ready (λ d. event (collect d) ∷ []) (λ d. where_true (has_completion w d) (event (collect d))) w.stations 64 few_stations
      (λ i e is. ap (λ (b : Bool). where_true b (event (collect e.0))) (completion_at i e is))

  collects_drawn : map (next_step_of ids) (map choice.Collect (places c.collects)) ≡ flat_map (λ device. where_true (is_enabled w (collect device)) (event (collect device))) (device_ids w)
  collects_drawn =
      map-map (next_step_of ids) choice.Collect (places c.collects) ∙ ap (map (λ p. event (collect (get_or ids p 0)))) words.collects
      ∙ collects_by c.client_sends ∙ ap collected words.client_sends

  -- the takes of a device by the hands that hold nothing
  abbrev by_free : ℕ → List NextStep
  by_free device = flat_map (λ hand. where_true (is_hand_free w hand) (event (take_job device hand))) (hand_numbers w)

  takes_here : (place : ℕ) → map (next_step_of ids) (map (choice.Take place) (places c.free)) ≡ by_free (get_or ids place 0)
  takes_here place =
      map-map (next_step_of ids) (choice.Take place) (places c.free) ∙ ap (map (λ p. event (take_job (get_or ids place 0) (p + 1)))) words.free
      ∙ counted_where (is_free_hand w.hands) (λ hand. event (take_job (get_or ids place 0) hand)) (length w.hands) 64 few_hands (none_past is_none)

  takes_at : (i : ℕ) (e : ℕ × StationState SessionDevice) → slice_get w.stations i ≡ Some e → takes_of w e.0 ≡ (if has_waiting e.1 then by_free e.0 else [])
  takes_at i e is =
      common_test (is_hand_free w) (λ hand. event (take_job e.0 hand)) (job_waits w e.0) (hand_numbers w)
      ∙ ap (λ (b : Bool). if b then by_free e.0 else []) (job_at i e is)

  takes_drawn : map (next_step_of ids) (takes_in c) ≡ flat_map (takes_of w) (device_ids w)
  takes_drawn =
      map_flat (next_step_of ids) (λ place. map (choice.Take place) (places c.free)) (places c.waiting)
      ∙ each_same _ (λ place. by_free (get_or ids place 0)) (places c.waiting) takes_here
      ∙ ap (flat_map (λ place. by_free (get_or ids place 0))) words.waiting
      ∙ placed_where has_waiting by_free (takes_of w) w.stations 64 few_stations takes_at

parts_mapped : {A B : Type 0} (f : A → B) (a b c d e g h i : List A)
    → map f (a ++ b ++ c ++ d ++ e ++ g ++ h ++ i) ≡ map f a ++ map f b ++ map f c ++ map f d ++ map f e ++ map f g ++ map f h ++ map f i
parts_mapped f a b c d e g h i = simp map-append refl

parts_same : {A : Type 0} (a b c d e g h i a' b' c' d' e' g' h' i' : List A) → a ≡ a' → b ≡ b' → c ≡ c' → d ≡ d' → e ≡ e' → g ≡ g' → h ≡ h' → i ≡ i'
    → a ++ b ++ c ++ d ++ e ++ g ++ h ++ i ≡ a' ++ b' ++ c' ++ d' ++ e' ++ g' ++ h' ++ i'
parts_same a b c d e g h i a' b' c' d' e' g' h' i' p1 p2 p3 p4 p5 p6 p7 p8 = cc

-- What words of bits list is what may be drawn in their session, in the same order.
pub words_drawn : (w : WorldState) (c : Choices) → AreWordsOf w c → map (next_step_of (device_ids w)) (choices_in c) ≡ choices w
words_drawn w c words =
    parts_mapped (next_step_of (device_ids w)) (map choice.Issue (places c.issues)) (choice_where c.host_sends choice.HostSend) (choice_where c.client_reads choice.ClientRead)
    (choice_where c.client_sends choice.ClientSend) (map choice.Collect (places c.collects)) (choice_where c.host_reads choice.HostRead) (takes_in c) (map choice.Apply (places c.full))
    ∙ parts_same _ _ _ _ _ _ _ _ _ _ _ _ _ _ _ _ (issues_drawn w c words) (same_drawn (device_ids w) _ _ choice.HostSend words.host_sends)
    (same_drawn (device_ids w) _ _ choice.ClientRead words.client_reads) (same_drawn (device_ids w) _ _ choice.ClientSend words.client_sends) (collects_drawn w c words)
    (same_drawn (device_ids w) _ _ choice.HostRead words.host_reads) (takes_drawn w c words) (applies_drawn w c words)

-- ---- the places of choices

kept_within : (P : ℕ → Type 0) (test : ℕ → Bool) (a n : ℕ) → ((j : ℕ) → j < a + n → test j ≡ true → P j) → AllByRecursion P (filter test (range_with_len a n))
kept_within P test a zero holds = tt
kept_within P test a (suc n) holds = go (test a) refl (kept_within P test (a + 1) n (λ j u is. holds j (omega arith) is))
  where
    go : (b : Bool) → test a ≡ b → AllByRecursion P (filter test (range_with_len (a + 1) n))
        → AllByRecursion P (cond b (a ∷ filter test (range_with_len (a + 1) n)) (filter test (range_with_len (a + 1) n)))
    go true is rest = (holds a (omega arith) is, rest)
    go false is rest = rest

all_places : (P : ℕ → Type 0) (test : ℕ → Bool) (n : ℕ) → ((j : ℕ) → j < n → test j ≡ true → P j) → AllByRecursion P (where_holds test n)
unfolding where_holds
all_places P test n holds = kept_within P test 0 n (λ j u is. holds j (omega arith) is)

all_mapped : {A B : Type 0} (P : B → Type 0) (f : A → B) (xs : List A) → AllByRecursion (λ x. P (f x)) xs → AllByRecursion P (map f xs)
all_mapped P f [] all = tt
all_mapped P f (x ∷ xs) all = (all.0, all_mapped P f xs all.1)

all_pairs : (P : Choice → Type 0) (Q R : ℕ → Type 0) (xs ys : List ℕ) → ((x y : ℕ) → Q x → R y → P (choice.Take x y)) → AllByRecursion Q xs → AllByRecursion R ys
    → AllByRecursion P (flat_map (λ x. map (choice.Take x) ys) xs)
all_pairs P Q R [] ys both q r = tt
all_pairs P Q R (x ∷ xs) ys both q r =
    all_append P (map (choice.Take x) ys) _ (all_mapped P (choice.Take x) ys (all_weaker R _ (λ y s. both x y q.0 s) ys r)) (all_pairs P Q R xs ys both q.1 r)

-- a station stands where a test holds of it
standing : {X : Type 0} (test : X → Bool) (es : List (ℕ × X)) (place : ℕ) → holds_at test es place ≡ true → place < length es
standing test es place holds = let there = stands_where test es place holds in slice_get_within es place there.0 there.1

module _ (w : WorldState) (c : Choices) (words : AreWordsOf w c) where
  abbrev Placed : Choice → Type 0
  Placed = HasPlaces (length w.stations)

  hand_within : (test : Option (ℕ × Job) → Bool) (place : ℕ) → option_map_or test (hand_in w.hands (place + 1)) false ≡ true → place < max_hands
  hand_within test place holds = elim (cases_lt place (length w.hands)) [
    | inl below ↦ let u : length w.hands ≤ max_hands = words.hands in omega arith
    | inr past ↦ absurd (false≢true (sym (none_past w c words test place past) ∙ holds))
  ]

  waiting_within : AllByRecursion (λ (p : ℕ). p < length w.stations) (places c.waiting)
  waiting_within = rw words.waiting (all_places _ (holds_at has_waiting w.stations) 64 (λ j u is. standing has_waiting w.stations j is))

  free_within : AllByRecursion (λ (p : ℕ). p < max_hands) (places c.free)
  free_within = rw words.free (all_places _ (λ place. is_free_hand w.hands (place + 1)) 64 (λ j u is. hand_within is_none j is))

  full_within : AllByRecursion (λ (p : ℕ). p < max_hands) (places c.full)
  full_within = rw words.full (all_places _ (λ place. is_full_hand w.hands (place + 1)) 64 (λ j u is. hand_within is_some j is))

  collects_within : AllByRecursion (λ (p : ℕ). p < length w.stations) (places c.collects)
  collects_within = rw words.collects (go c.client_sends)
    where
      go : (b : Bool) → AllByRecursion (λ (p : ℕ). p < length w.stations) (if b then [] else where_holds (holds_at has_ready w.stations) 64)
      go true = tt
      go false = all_places _ (holds_at has_ready w.stations) 64 (λ j u is. standing has_ready w.stations j is)

  one_placed : (b : Bool) (x : Choice) → Placed x → AllByRecursion Placed (choice_where b x)
  one_placed true x is = (is, tt)
  one_placed false x is = tt

  -- what words of bits list are places of stations, of applications and of hands
  pub words_placed : AllByRecursion (HasPlaces (length w.stations)) (choices_in c)
  words_placed =
      all_append Placed _ _ (all_append Placed _ _ (all_append Placed _ _ (all_append Placed _ _ (all_append Placed _ _ (all_append Placed _ _ (all_append Placed _ _
      (all_mapped Placed choice.Issue (places c.issues) (all_places (λ (p : ℕ). p < 64) (has c.issues) 64 (λ j u is. u)))
      (one_placed c.host_sends choice.HostSend tt))
      (one_placed c.client_reads choice.ClientRead tt))
      (one_placed c.client_sends choice.ClientSend tt))
      (all_mapped Placed choice.Collect (places c.collects) collects_within))
      (one_placed c.host_reads choice.HostRead tt))
      (all_pairs Placed (λ (p : ℕ). p < length w.stations) (λ (p : ℕ). p < max_hands) (places c.waiting) (places c.free) (λ x y u v. (u, v)) waiting_within free_within))
      (all_mapped Placed choice.Apply (places c.full) full_within)

-- ---- bytes to be read

not_above : (n : ℕ) → nat_le n n ≡ true
not_above n = grind (arith, nat_tests)

-- all that is under way can be read where something is
pub reads_all : (pipe : List ℕ) → nat_lt 0 (length pipe) ≡ is_read pipe (length pipe)
reads_all pipe = sym (ap (λ (b : Bool). nat_lt 0 (length pipe) && b) (not_above (length pipe)) ∙ and_true (nat_lt 0 (length pipe)))

some_bytes : (n : ℕ) → 0 < n → nat_lt 0 n ≡ true
some_bytes n u = grind (arith, nat_tests)

no_bytes : (n : ℕ) → n ≤ 0 → nat_lt 0 n ≡ false
no_bytes n u = grind (arith, nat_tests)

pub reads_some : {X : Type 0} (pipe : List ℕ) (n : ℕ) (o : Option X) (b : Bool) → n ≡ length pipe → 0 < n → is_some o ≡ not b → b ≡ (is_read pipe (length pipe) && is_none o)
reads_some pipe n None true long u is = sym (ap (λ (t : Bool). t && true) (sym (reads_all pipe) ∙ some_bytes (length pipe) (omega arith)))
reads_some pipe n None false long u is = absurd (false≢true is)
reads_some pipe n (Some x) true long u is = absurd (false≢true (sym is))
reads_some pipe n (Some x) false long u is = sym (and_false (is_read pipe (length pipe)))

pub reads_none : (pipe : List ℕ) (n : ℕ) (b : Bool) → n ≡ length pipe → n ≤ 0 → nat_lt 0 n ≡ (is_read pipe (length pipe) && b)
reads_none pipe n b long u = no_bytes n u ∙ sym (ap (λ (t : Bool). t && b) (sym (reads_all pipe) ∙ no_bytes (length pipe) (omega arith)))

-- ---- no completion is collected where a message is to be sent

pub collects_none : (word : ℕ) (b : Bool) (xs : List ℕ) → word ≡ 0 → b ≡ true → places word ≡ (if b then [] else xs)
collects_none word b xs none sends = ap places none ∙ no_places ∙ sym (ap (λ (t : Bool). if t then [] else xs) sends)

pub collects_ready : (word : ℕ) (b : Bool) (xs : List ℕ) → places word ≡ xs → b ≡ false → places word ≡ (if b then [] else xs)
collects_ready word b xs same silent = same ∙ sym (ap (λ (t : Bool). if t then [] else xs) silent)

-- ---- what is drawn can happen

-- what holds of all holds of one that is picked
pub all_got : {X : Type 0} (P : X → Type 0) (xs : List X) (i : ℕ) (x : X) → AllByRecursion P xs → slice_get xs i ≡ Some x → P x
all_got P [] i x all is = absurd (cc)
all_got P (y ∷ xs) zero x all is = let same : y ≡ x = cc in subst P same all.0
all_got P (y ∷ xs) (suc i) x all is = all_got P xs i x all.1 is

module _ (w : WorldState) where
  abbrev CanHappen : NextStep → Type 0
  CanHappen s = can_happen w s ≡ true

  all_where : (b : Bool) (s : NextStep) → can_happen w s ≡ b → AllByRecursion CanHappen (where_true b s)
  all_where true s is = (is, tt)
  all_where false s is = tt

  all_each : (f : ℕ → List NextStep) (xs : List ℕ) → ((x : ℕ) → AllByRecursion CanHappen (f x)) → AllByRecursion CanHappen (flat_map f xs)
  all_each f [] all = tt
  all_each f (x ∷ xs) all = all_append CanHappen (f x) (flat_map f xs) (all x) (all_each f xs all)

  all_can_happen : AllByRecursion CanHappen (choices w)
  all_can_happen =
      all_append CanHappen _ _ (all_append CanHappen _ _ (all_append CanHappen _ _ (all_append CanHappen _ _ (all_append CanHappen _ _ (all_append CanHappen _ _ (all_append CanHappen _ _
      (all_each _ (keys_of w.applications) (λ a. all_where (is_enabled w (issue a)) (event (issue a)) refl))
      (all_where (host_has_message w) (event host_send) refl))
      (all_where (is_enabled w (client_read (length (w.to_client).pipe))) reads_client refl))
      (all_where (client_has_message w) (event client_send) refl))
      (all_each _ (device_ids w) (λ d. all_where (is_enabled w (collect d)) (event (collect d)) refl)))
      (all_where (is_enabled w (host_read (length (w.to_host).pipe))) reads_host refl))
      (all_each (takes_of w) (device_ids w) (λ d. all_each _ (hand_numbers w) (λ h. all_where (is_enabled w (take_job d h)) (event (take_job d h)) refl))))
      (all_each _ (hand_numbers w) (λ h. all_where (is_enabled w (apply_job h)) (event (apply_job h)) refl))

  -- what may be drawn can happen: an event is enabled, and where a read is drawn bytes are under way, and at the client no job is kept back
  pub drawn_can_happen : (i : ℕ) (s : NextStep) → slice_get (choices w) i ≡ Some s → can_happen w s ≡ true
  drawn_can_happen i s is = all_got CanHappen (choices w) i s all_can_happen is

  pub drawn_is_enabled : (i : ℕ) (e : Event) → slice_get (choices w) i ≡ Some (event e) → is_enabled w e ≡ true
  drawn_is_enabled i e is = drawn_can_happen i (event e) is

  both_true : (a b : Bool) → (a && b) ≡ true → (a ≡ true) × (b ≡ true)
  both_true true b is = (refl, is)
  both_true false b is = absurd (false≢true is)

  some_of : (n : ℕ) → nat_lt 0 n ≡ true → 0 < n
  some_of n is = grind (arith, nat_tests)

  pub drawn_client_reads : (i : ℕ) → slice_get (choices w) i ≡ Some reads_client → (0 < length (w.to_client).pipe) × (is_none w.kept ≡ true)
  drawn_client_reads i is =
      let both = both_true (is_read (w.to_client).pipe (length (w.to_client).pipe)) (is_none w.kept) (drawn_can_happen i reads_client is) in
      (some_of (length (w.to_client).pipe) (reads_all (w.to_client).pipe ∙ both.0), both.1)

  pub drawn_host_reads : (i : ℕ) → slice_get (choices w) i ≡ Some reads_host → 0 < length (w.to_host).pipe
  drawn_host_reads i is = some_of (length (w.to_host).pipe) (reads_all (w.to_host).pipe ∙ drawn_can_happen i reads_host is)

  -- what is picked among the choices of words that list what may be drawn, in its session
  pub picked_step : (c : Choices) (i : ℕ) (x : Choice) → map (next_step_of (device_ids w)) (choices_in c) ≡ choices w → slice_get (choices_in c) i ≡ Some x
      → slice_get (choices w) i ≡ Some (next_step_of (device_ids w) x)
  picked_step c i x same is = ap (λ (l : List NextStep). slice_get l i) (sym same) ∙ at_map (next_step_of (device_ids w)) (choices_in c) i x is
