-- Applications by their numbers: one is put back under its number, and the words of bits that tell which of them have something to do.
use Rattle.std.proofs.Common.{◌≡◌, ◌≢◌, ◌∙◌, refl, sym, ap, subst, ℕ, ◌+◌, ◌-◌, ◌<◌, ◌≤◌, inl, inr, Bool, true, false, cond, List, [], ◌∷◌, Some, None, Option, arith}
use Rattle.std.specs.Prelude.{is_some, IsSome}
use Rattle.std.specs.List.{AllByRecursion}
use Rattle.std.specs.List.Sorted.{IsStrictlySortedBy}
use Rattle.std.specs.Map.{keys_of, lookup, set_value}
use Rattle.std.specs.Option.{option_map_or, unwrap_or}
use Rattle.std.specs.Ordering.{nat_cmp}
use Rattle.std.specs.declared.cmp.Ordering.TheVariants.{Less, Equal, Greater}
use Rattle.std.specs.BTreeMap.{insert_entry, is_at}
use Rattle.std.proofs.lemmas.Bool.{cases_eq, cases_order, false≢true}
use Rattle.std.proofs.lemmas.Bool.Decides.{nat_tests}
use Rattle.std.proofs.lemmas.Map.{keys-set_value}
use Rattle.std.proofs.lemmas.Map.Steps.{set_value_same}
use Rattle.rd_world.specs.Applications.{AreApplications, IsNumber, IsThere, KeepsApplications, application_in}
use Rattle.rd_world.specs.Bits.{IsMarked, Marks, has}
use Rattle.rd_world.specs.Events.{may_issue}
use Rattle.rd_world.specs.World.{ApplicationState, Asked, new_application}

-- ---- numbers in order

less_is : (k l : ℕ) → k < l → nat_cmp k l ≡ Less
less_is k l u = grind (arith, nat_tests)

pub equal_is : (k l : ℕ) → k ≡ l → nat_cmp k l ≡ Equal
equal_is k l e = grind (arith, nat_tests)

pub greater_is : (k l : ℕ) → l < k → nat_cmp k l ≡ Greater
greater_is k l u = grind (arith, nat_tests)

same_at : (k l : ℕ) → k ≡ l → is_at (nat_cmp k) l ≡ true
same_at k l e = grind (arith, nat_tests)

pub apart_at : (k l : ℕ) → k ≢ l → is_at (nat_cmp k) l ≡ false
apart_at k l apart = grind (arith, nat_tests)

pub below_of : (k l : ℕ) → nat_cmp k l ≡ Less → k < l
below_of k l e = grind (arith, nat_tests)

-- ---- one is put back under its number

module _ {X : Type 0} where
  none_under : (es : List (ℕ × X)) (a b : ℕ) → a ≤ b → AllByRecursion (λ k. nat_cmp b k ≡ Less) (keys_of es) → lookup (is_at (nat_cmp a)) es ≡ None
  none_under [] a b le all = refl
  none_under (e ∷ es) a b le all =
      let under : b < e.0 = below_of b e.0 all.0 in
      let apart : a ≢ e.0 = λ (same : a ≡ e.0). omega arith in
      rw (apart_at a e.0 apart) (none_under es a b le all.1)

  -- where one has the number, its entry is replaced
  pub put_same : (es : List (ℕ × X)) (a : ℕ) (v : X) → IsStrictlySortedBy nat_cmp (keys_of es) → IsSome (lookup (is_at (nat_cmp a)) es)
      → insert_entry nat_cmp es a v ≡ set_value (is_at (nat_cmp a)) es v
  unfolding IsStrictlySortedBy
  put_same [] a v rise there = absurd (cc there)
  put_same (e ∷ es) a v rise there = elim (cases_order a e.0) [
    | inl here ↦ rw (equal_is a e.0 here) refl
    | inr (inl below) ↦
        let missing : lookup (is_at (nat_cmp a)) (e ∷ es) ≡ None = rw (less_is a e.0 below) (none_under es a e.0 (omega arith) rise.0) in
        absurd (cc (missing, there))
    | inr (inr above) ↦
        let apart : a ≢ e.0 = λ (same : a ≡ e.0). omega arith in
        let there' : IsSome (lookup (is_at (nat_cmp a)) es) = rw (apart_at a e.0 apart) at there in
        rw (greater_is a e.0 above) (ap (λ l. e ∷ l) (put_same es a v rise.1 there'))
  ]

  lookup_put : (es : List (ℕ × X)) (a : ℕ) (v : X) → IsSome (lookup (is_at (nat_cmp a)) es) → lookup (is_at (nat_cmp a)) (set_value (is_at (nat_cmp a)) es v) ≡ Some v
  lookup_put [] a v there = absurd (cc there)
  lookup_put (e ∷ es) a v there = elim (cases_eq a e.0) [
    | inl here ↦ rw (same_at a e.0 here, same_at a e.0 here) refl
    | inr apart ↦
        let there' : IsSome (lookup (is_at (nat_cmp a)) es) = rw (apart_at a e.0 apart) at there in
        rw (apart_at a e.0 apart, apart_at a e.0 apart) (lookup_put es a v there')
  ]

  lookup_apart : (es : List (ℕ × X)) (a q : ℕ) (v : X) → q ≢ a → lookup (is_at (nat_cmp q)) (set_value (is_at (nat_cmp a)) es v) ≡ lookup (is_at (nat_cmp q)) es
  lookup_apart [] a q v other = refl
  lookup_apart (e ∷ es) a q v other = elim (cases_eq a e.0) [
    | inl here ↦
        let apart : q ≢ e.0 = λ (same : q ≡ e.0). other (same ∙ sym here) in
        rw (same_at a e.0 here, apart_at q e.0 apart) refl
    | inr apart ↦ rw (apart_at a e.0 apart) (ap (λ o. cond (is_at (nat_cmp q) e.0) (Some e.1) o) (lookup_apart es a q v other))
  ]

  -- a number that one has is one of the keys
  pub key_there : (P : ℕ → Type 0) (es : List (ℕ × X)) (a : ℕ) → AllByRecursion P (keys_of es) → IsSome (lookup (is_at (nat_cmp a)) es) → P a
  key_there P [] a all there = absurd (cc there)
  key_there P (e ∷ es) a all there = elim (cases_eq a e.0) [
    | inl here ↦ subst P (sym here) all.0
    | inr apart ↦ key_there P es a all.1 (rw (apart_at a e.0 apart) at there)
  ]

-- ---- which of them have something to do

pub there_of_issuing : (es : List (ℕ × ApplicationState)) (a : ℕ) → may_issue (application_in es a) ≡ true → IsThere es a
there_of_issuing es a may = go (lookup (is_at (nat_cmp a)) es) may
  where
    go : (o : Option ApplicationState) → may_issue (unwrap_or o new_application) ≡ true → IsSome o
    go None may = absurd (false≢true may)
    go (Some x) may = refl

pub there_of_awaiting : (es : List (ℕ × ApplicationState)) (a : ℕ) → is_some (application_in es a).awaits ≡ true → IsThere es a
there_of_awaiting es a awaits = go (lookup (is_at (nat_cmp a)) es) awaits
  where
    go : (o : Option ApplicationState) → is_some (unwrap_or o new_application).awaits ≡ true → IsSome o
    go None awaits = absurd (false≢true awaits)
    go (Some x) awaits = refl

marks_put : (test : ApplicationState → Bool) (es : List (ℕ × ApplicationState)) (a : ℕ) (x : ApplicationState) (old new : ℕ) → IsNumber a → IsThere es a
    → Marks old (λ place. test (application_in es (place + 1))) 64 → IsMarked old new (a - 1) (test x)
    → Marks new (λ place. test (application_in (set_value (is_at (nat_cmp a)) es x) (place + 1))) 64
marks_put test es a x old new number there marks marked j within = elim (cases_eq (j + 1) a) [
  | inl here ↦
      let place : j ≡ a - 1 = omega arith in
      ap (λ (p : ℕ). has new p) place ∙ marked.same ∙ sym (ap (λ (q : ℕ). test (application_in (set_value (is_at (nat_cmp a)) es x) q)) here ∙ ap (λ o. test (unwrap_or o new_application)) (lookup_put es a x there))
  | inr apart ↦
      let other : j ≢ a - 1 = λ (e : j ≡ a - 1). apart (omega (arith, number.0)) in
      marked.others j within other ∙ marks j within ∙ sym (ap (λ o. test (unwrap_or o new_application)) (lookup_apart es a (j + 1) x apart))
]

-- one that is there is put back, and both its bits are marked
pub keeps_put : (es : List (ℕ × ApplicationState)) (a : ℕ) (x : ApplicationState) (issuing awaiting issuing' awaiting' : ℕ) → KeepsApplications es issuing awaiting → IsThere es a
    → IsMarked issuing issuing' (a - 1) (may_issue x) → IsMarked awaiting awaiting' (a - 1) (is_some x.awaits)
    → KeepsApplications (set_value (is_at (nat_cmp a)) es x) issuing' awaiting'
keeps_put es a x issuing awaiting issuing' awaiting' keeps there marked_issuing marked_awaiting =
    let number : IsNumber a = key_there IsNumber es a keeps.are.numbers there in
    let keys : keys_of es ≡ keys_of (set_value (is_at (nat_cmp a)) es x) = sym (keys-set_value (is_at (nat_cmp a)) es x) in record {
      are = record {
        rise = subst (λ (ks : List ℕ). IsStrictlySortedBy nat_cmp ks) keys keeps.are.rise;
        numbers = subst (λ (ks : List ℕ). AllByRecursion IsNumber ks) keys keeps.are.numbers;
      };
      issuing_marks = marks_put may_issue es a x issuing issuing' number there keeps.issuing_marks marked_issuing;
      awaiting_marks = marks_put (λ (y : ApplicationState). is_some y.awaits) es a x awaiting awaiting' number there keeps.awaiting_marks marked_awaiting;
    }

-- so it is what contracts say of the call
pub put_back : (es seen : List (ℕ × ApplicationState)) (a : ℕ) (f : ApplicationState → ApplicationState) (x y : ApplicationState) (issuing awaiting : ℕ) → KeepsApplications es issuing awaiting
    → es ≡ seen → IsThere seen a → Some x ≡ lookup (is_at (nat_cmp a)) es → y ≡ f x → set_value (is_at (nat_cmp a)) es y ≡ insert_entry nat_cmp seen a (f (application_in seen a))
put_back es seen a f x y issuing awaiting keeps is there found y_is =
    let there' : IsThere es a = subst (λ (l : List (ℕ × ApplicationState)). IsThere l a) (sym is) there in
    let x_is : x ≡ application_in seen a = ap (λ (o : Option ApplicationState). unwrap_or o new_application) found ∙ ap (λ (l : List (ℕ × ApplicationState)). application_in l a) is in
    sym (put_same es a y keeps.are.rise there') ∙ ap (λ (v : ApplicationState). insert_entry nat_cmp es a v) (y_is ∙ ap f x_is)
    ∙ ap (λ (l : List (ℕ × ApplicationState)). insert_entry nat_cmp l a (f (application_in seen a))) is

-- nothing changes where the one that is there is put back as it was
pub put_choice : (es : List (ℕ × ApplicationState)) (a : ℕ) (g : Asked → ApplicationState) (o : Option Asked) → AreApplications es → IsThere es a
    → insert_entry nat_cmp es a (option_map_or g o (application_in es a)) ≡ option_map_or (λ (asked : Asked). insert_entry nat_cmp es a (g asked)) o es
put_choice es a g (Some asked) are there = refl
put_choice es a g None are there =
    put_same es a (application_in es a) are.rise there ∙ set_value_same (is_at (nat_cmp a)) es (application_in es a) (go (lookup (is_at (nat_cmp a)) es) there)
  where
    go : (o : Option ApplicationState) → IsSome o → o ≡ Some (unwrap_or o new_application)
    go None there = absurd (cc there)
    go (Some x) there = refl
