-- A map with numbers as keys, looked up after an insertion, a removal, and a change of its values.
use Rattle.std.proofs.Common.{◌≡◌, ◌≢◌, ◌∙◌, refl, sym, ap, ℕ, ◌+◌, ◌<◌, ◌≤◌, ◌==◌, Bool, true, false, cond, List, [], ◌∷◌, length, suc, Some, None, Option, arith, eq-eqb, eqb-true}
use Rattle.std.specs.List.{AllByRecursion}
use Rattle.std.specs.List.Sorted.{IsStrictlySortedBy}
use Rattle.std.specs.Ordering.{nat_cmp, is_eq, match_ordering}
use Rattle.std.specs.declared.cmp.Ordering.{Ordering}
use Rattle.std.specs.declared.cmp.Ordering.TheVariants.{Less, Equal, Greater}
use Rattle.std.specs.Map.{keys_of, lookup, remove_entry, set_value}
use Rattle.std.specs.BTreeMap.{insert_entry, is_at}
use Rattle.std.proofs.lemmas.Bool.Decides.{nat_tests}
use Rattle.rd_pending.specs.Table.{free_from}

pub itself : (k : ℕ) → is_at (nat_cmp k) k ≡ true
itself k = grind (arith, nat_tests)

pub apart : (k l : ℕ) → k ≢ l → is_at (nat_cmp k) l ≡ false
apart k l other = grind (arith, nat_tests)

pub same_key : (k l : ℕ) → is_at (nat_cmp k) l ≡ true → k ≡ l
same_key k l e = grind (arith, nat_tests)

pub other_key : (k l : ℕ) → is_at (nat_cmp k) l ≡ false → k ≢ l
other_key k l e = grind (arith, nat_tests)

compared_same : (k l : ℕ) → nat_cmp k l ≡ Equal → k ≡ l
compared_same k l e = same_key k l (ap is_eq e)

compared_below : (k l : ℕ) → nat_cmp k l ≡ Less → k < l
compared_below k l e = grind (arith, nat_tests)

compared_above : (k l : ℕ) → nat_cmp k l ≡ Greater → l < k
compared_above k l e = grind (arith, nat_tests)

-- ---- a value more

module _ {X : Type 0} (k : ℕ) (x : X) where
  pub inserted : (es : List (ℕ × X)) → lookup (is_at (nat_cmp k)) (insert_entry nat_cmp es k x) ≡ Some x
  inserted [] = rw (itself k) refl
  inserted (e ∷ es) = by (inserted es) (nat_cmp k e.0) refl
    where
      by : lookup (is_at (nat_cmp k)) (insert_entry nat_cmp es k x) ≡ Some x → (r : Ordering) → nat_cmp k e.0 ≡ r
          → lookup (is_at (nat_cmp k)) (match_ordering r ((k, x) ∷ e ∷ es) ((e.0, x) ∷ es) (e ∷ insert_entry nat_cmp es k x)) ≡ Some x
      by later Less this = rw (itself k) refl
      by later Equal this = rw this refl
      by later Greater this = rw this later

  pub beside : (j : ℕ) → j ≢ k → (es : List (ℕ × X)) → lookup (is_at (nat_cmp j)) (insert_entry nat_cmp es k x) ≡ lookup (is_at (nat_cmp j)) es
  beside j other [] = rw (apart j k other) refl
  beside j other (e ∷ es) = by (beside j other es) (nat_cmp k e.0) refl
    where
      at : List (ℕ × X) → Option X
      at l = lookup (is_at (nat_cmp j)) l

      by : at (insert_entry nat_cmp es k x) ≡ at es → (r : Ordering) → nat_cmp k e.0 ≡ r
          → at (match_ordering r ((k, x) ∷ e ∷ es) ((e.0, x) ∷ es) (e ∷ insert_entry nat_cmp es k x)) ≡ cond (is_at (nat_cmp j) e.0) (Some e.1) (at es)
      by later Less this = rw (apart j k other) refl
      by later Equal this =
          let same : k ≡ e.0 = compared_same k e.0 this in
          let elsewhere : is_at (nat_cmp j) e.0 ≡ false = apart j e.0 (λ here. other (here ∙ sym same)) in
          rw elsewhere refl
      by later Greater this = ap (λ (o : Option X). cond (is_at (nat_cmp j) e.0) (Some e.1) o) later

-- ---- one fewer

-- a key that has a value isn't below the others
pub above_first : {X : Type 0} (m j : ℕ) (x : X) (es : List (ℕ × X)) → AllByRecursion (λ (y : ℕ). nat_cmp m y ≡ Less) (keys_of es) → lookup (is_at (nat_cmp j)) es ≡ Some x → m < j
above_first m j x [] low e = absurd (cc)
above_first {X} m j x (d ∷ es) low e = by (above_first m j x es low.1) (is_at (nat_cmp j) d.0) refl e
  where
    by : (lookup (is_at (nat_cmp j)) es ≡ Some x → m < j) → (b : Bool) → is_at (nat_cmp j) d.0 ≡ b → cond b (Some d.1) (lookup (is_at (nat_cmp j)) es) ≡ Some x → m < j
    by later true here e = let same : j ≡ d.0 = same_key j d.0 here in let under : m < d.0 = compared_below m d.0 low.0 in omega arith
    by later false here e = later e

pub gone : {X : Type 0} (k : ℕ) (es : List (ℕ × X)) → IsStrictlySortedBy nat_cmp (keys_of es) → lookup (is_at (nat_cmp k)) (remove_entry (is_at (nat_cmp k)) es) ≡ None
unfolding IsStrictlySortedBy
gone k [] rising = refl
gone {X} k (e ∷ es) rising = by (gone k es rising.1) (is_at (nat_cmp k) e.0) refl
  where
    none : (o : Option X) → lookup (is_at (nat_cmp k)) es ≡ o → k ≡ e.0 → o ≡ None
    none None e2 same = refl
    none (Some x) e2 same = let under : e.0 < k = above_first e.0 k x es rising.0 e2 in absurd (omega arith)

    by : lookup (is_at (nat_cmp k)) (remove_entry (is_at (nat_cmp k)) es) ≡ None → (b : Bool) → is_at (nat_cmp k) e.0 ≡ b
        → lookup (is_at (nat_cmp k)) (cond b es (e ∷ remove_entry (is_at (nat_cmp k)) es)) ≡ None
    by later true here = none (lookup (is_at (nat_cmp k)) es) refl (same_key k e.0 here)
    by later false here = rw here later

pub kept : {X : Type 0} (k j : ℕ) → j ≢ k → (es : List (ℕ × X)) → lookup (is_at (nat_cmp j)) (remove_entry (is_at (nat_cmp k)) es) ≡ lookup (is_at (nat_cmp j)) es
kept k j other [] = refl
kept {X} k j other (e ∷ es) = by (kept k j other es) (is_at (nat_cmp k) e.0) refl
  where
    at : List (ℕ × X) → Option X
    at l = lookup (is_at (nat_cmp j)) l

    by : at (remove_entry (is_at (nat_cmp k)) es) ≡ at es → (b : Bool) → is_at (nat_cmp k) e.0 ≡ b
        → at (cond b es (e ∷ remove_entry (is_at (nat_cmp k)) es)) ≡ cond (is_at (nat_cmp j) e.0) (Some e.1) (at es)
    by later true here =
        let same : k ≡ e.0 = same_key k e.0 here in
        let elsewhere : is_at (nat_cmp j) e.0 ≡ false = apart j e.0 (λ there. other (there ∙ sym same)) in
        rw elsewhere refl
    by later false here = ap (λ (o : Option X). cond (is_at (nat_cmp j) e.0) (Some e.1) o) later

pub one_longer : {X : Type 0} (k : ℕ) (x : X) (es : List (ℕ × X)) → length (insert_entry nat_cmp es k x) ≤ length es + 1
one_longer k x [] = omega arith
one_longer {X} k x (e ∷ es) = by (one_longer k x es) (nat_cmp k e.0)
  where
    by : length (insert_entry nat_cmp es k x) ≤ length es + 1 → (r : Ordering)
        → length (match_ordering r ((k, x) ∷ e ∷ es) ((e.0, x) ∷ es) (e ∷ insert_entry nat_cmp es k x)) ≤ suc (length es) + 1
    by low Less = omega arith
    by low Equal = omega arith
    by low Greater = omega (arith, low)

pub one_shorter : {X : Type 0} (test : ℕ → Bool) (es : List (ℕ × X)) → length (remove_entry test es) ≤ length es
one_shorter test [] = omega arith
one_shorter {X} test (e ∷ es) = by (one_shorter test es) (test e.0)
  where
    by : length (remove_entry test es) ≤ length es → (b : Bool) → length (cond b es (e ∷ remove_entry test es)) ≤ suc (length es)
    by low true = omega arith
    by low false = omega (arith, low)

-- a key that isn't there isn't removed
pub none_removed : {X : Type 0} (k : ℕ) (es : List (ℕ × X)) → lookup (is_at (nat_cmp k)) es ≡ None → remove_entry (is_at (nat_cmp k)) es ≡ es
none_removed k [] none = refl
none_removed {X} k (e ∷ es) none = by (none_removed k es) (is_at (nat_cmp k) e.0) refl none
  where
    by : (lookup (is_at (nat_cmp k)) es ≡ None → remove_entry (is_at (nat_cmp k)) es ≡ es) → (b : Bool) → is_at (nat_cmp k) e.0 ≡ b
        → cond b (Some e.1) (lookup (is_at (nat_cmp k)) es) ≡ None → cond b es (e ∷ remove_entry (is_at (nat_cmp k)) es) ≡ e ∷ es
    by later true here none = absurd (cc none)
    by later false here none = ap (λ (rest : List (ℕ × X)). e ∷ rest) (later none)

-- ---- another value

pub set_here : {X : Type 0} (k : ℕ) (w x : X) (es : List (ℕ × X)) → lookup (is_at (nat_cmp k)) es ≡ Some x → lookup (is_at (nat_cmp k)) (set_value (is_at (nat_cmp k)) es w) ≡ Some w
set_here k w x [] there = absurd (cc)
set_here {X} k w x (e ∷ es) there = by (set_here k w x es) (is_at (nat_cmp k) e.0) refl there
  where
    at : List (ℕ × X) → Option X
    at l = lookup (is_at (nat_cmp k)) l

    by : (at es ≡ Some x → at (set_value (is_at (nat_cmp k)) es w) ≡ Some w) → (b : Bool) → is_at (nat_cmp k) e.0 ≡ b → cond b (Some e.1) (at es) ≡ Some x
        → at (cond b ((e.0, w) ∷ es) (e ∷ set_value (is_at (nat_cmp k)) es w)) ≡ Some w
    by later true here there = rw here refl
    by later false here there = rw here (later there)

pub set_beside : {X : Type 0} (k j : ℕ) (w : X) → j ≢ k → (es : List (ℕ × X)) → lookup (is_at (nat_cmp j)) (set_value (is_at (nat_cmp k)) es w) ≡ lookup (is_at (nat_cmp j)) es
set_beside k j w other [] = refl
set_beside {X} k j w other (e ∷ es) = by (set_beside k j w other es) (is_at (nat_cmp k) e.0) refl
  where
    at : List (ℕ × X) → Option X
    at l = lookup (is_at (nat_cmp j)) l

    by : at (set_value (is_at (nat_cmp k)) es w) ≡ at es → (b : Bool) → is_at (nat_cmp k) e.0 ≡ b
        → at (cond b ((e.0, w) ∷ es) (e ∷ set_value (is_at (nat_cmp k)) es w)) ≡ cond (is_at (nat_cmp j) e.0) (Some e.1) (at es)
    by later true here =
        let same : k ≡ e.0 = same_key k e.0 here in
        let elsewhere : is_at (nat_cmp j) e.0 ≡ false = apart j e.0 (λ there. other (there ∙ sym same)) in
        rw elsewhere refl
    by later false here = ap (λ (o : Option X). cond (is_at (nat_cmp j) e.0) (Some e.1) o) later

-- ---- the keys stay in order

weaker : {A : Type 0} (P Q : A → Type 0) → ((x : A) → P x → Q x) → (xs : List A) → AllByRecursion P xs → AllByRecursion Q xs
weaker P Q follows [] all = tt
weaker P Q follows (x ∷ xs) all = (follows x all.0, weaker P Q follows xs all.1)

all_with : {X : Type 0} (P : ℕ → Type 0) (k : ℕ) (x : X) (es : List (ℕ × X)) → P k → AllByRecursion P (keys_of es) → AllByRecursion P (keys_of (insert_entry nat_cmp es k x))
all_with P k x [] here all = (here, tt)
all_with {X} P k x (e ∷ es) here all = by (all_with P k x es here all.1) (nat_cmp k e.0)
  where
    by : AllByRecursion P (keys_of (insert_entry nat_cmp es k x)) → (r : Ordering)
        → AllByRecursion P (keys_of (match_ordering r ((k, x) ∷ e ∷ es) ((e.0, x) ∷ es) (e ∷ insert_entry nat_cmp es k x)))
    by later Less = (here, all)
    by later Equal = all
    by later Greater = (all.0, later)

compared_less : (k l : ℕ) → k < l → nat_cmp k l ≡ Less
compared_less k l e = grind (arith, nat_tests)

pub rises_with : {X : Type 0} (k : ℕ) (x : X) (es : List (ℕ × X)) → IsStrictlySortedBy nat_cmp (keys_of es) → IsStrictlySortedBy nat_cmp (keys_of (insert_entry nat_cmp es k x))
unfolding IsStrictlySortedBy
rises_with k x [] rising = (tt, tt)
rises_with {X} k x (e ∷ es) rising = by (rises_with k x es rising.1) (nat_cmp k e.0) refl
  where
    by : IsStrictlySortedBy nat_cmp (keys_of (insert_entry nat_cmp es k x)) → (r : Ordering) → nat_cmp k e.0 ≡ r
        → IsStrictlySortedBy nat_cmp (keys_of (match_ordering r ((k, x) ∷ e ∷ es) ((e.0, x) ∷ es) (e ∷ insert_entry nat_cmp es k x)))
    by later Less this =
        let under : k < e.0 = compared_below k e.0 this in
        ((this, weaker _ _ (λ y low. let above : e.0 < y = compared_below e.0 y low in compared_less k y (omega arith)) (keys_of es) rising.0), rising)
    by later Equal this = rising
    by later Greater this = (all_with _ k x es (compared_less e.0 k (compared_above k e.0 this)) rising.0, later)

all_without : {X : Type 0} (P : ℕ → Type 0) (test : ℕ → Bool) (es : List (ℕ × X)) → AllByRecursion P (keys_of es) → AllByRecursion P (keys_of (remove_entry test es))
all_without P test [] all = tt
all_without {X} P test (e ∷ es) all = by (all_without P test es all.1) (test e.0)
  where
    by : AllByRecursion P (keys_of (remove_entry test es)) → (b : Bool) → AllByRecursion P (keys_of (cond b es (e ∷ remove_entry test es)))
    by later true = all.1
    by later false = (all.0, later)

pub rises_without : {X : Type 0} (test : ℕ → Bool) (es : List (ℕ × X)) → IsStrictlySortedBy nat_cmp (keys_of es) → IsStrictlySortedBy nat_cmp (keys_of (remove_entry test es))
unfolding IsStrictlySortedBy
rises_without test [] rising = rising
rises_without {X} test (e ∷ es) rising = by (rises_without test es rising.1) (test e.0)
  where
    by : IsStrictlySortedBy nat_cmp (keys_of (remove_entry test es)) → (b : Bool) → IsStrictlySortedBy nat_cmp (keys_of (cond b es (e ∷ remove_entry test es)))
    by later true = rising.1
    by later false = (all_without _ test es rising.0, later)

-- ---- the least key that is free

none_under : {X : Type 0} (n : ℕ) (es : List (ℕ × X)) → AllByRecursion (λ (y : ℕ). n < y) (keys_of es) → lookup (is_at (nat_cmp n)) es ≡ None
none_under n [] above = refl
none_under n (e ∷ es) above =
    let elsewhere : is_at (nat_cmp n) e.0 ≡ false = apart n e.0 (λ same. let over : n < e.0 = above.0 in omega arith) in
    rw elsewhere (none_under n es above.1)

-- Keys are at least n, and rise. Then the least from n on that is none of them is free.
pub free : {X : Type 0} (n : ℕ) (es : List (ℕ × X)) → IsStrictlySortedBy nat_cmp (keys_of es) → AllByRecursion (λ (y : ℕ). n ≤ y) (keys_of es)
    → (lookup (is_at (nat_cmp (free_from n es))) es ≡ None) × (n ≤ free_from n es)
unfolding IsStrictlySortedBy
free n [] rising low = (refl, omega arith)
free {X} n (e ∷ es) rising low = by (λ same. free (n + 1) es rising.1 (above same)) (e.0 == n) refl
  where
    above : e.0 ≡ n → AllByRecursion (λ (y : ℕ). n + 1 ≤ y) (keys_of es)
    above same = weaker _ _ (λ y less. let over : e.0 < y = compared_below e.0 y less in omega arith) (keys_of es) rising.0

    over_all : e.0 ≢ n → AllByRecursion (λ (y : ℕ). n < y) (keys_of es)
    over_all other = weaker _ _ (λ y less. let over : e.0 < y = compared_below e.0 y less in let least : n ≤ e.0 = low.0 in omega arith) (keys_of es) rising.0

    by : (e.0 ≡ n → (lookup (is_at (nat_cmp (free_from (n + 1) es))) es ≡ None) × (n + 1 ≤ free_from (n + 1) es)) → (b : Bool) → (e.0 == n) ≡ b
        → (lookup (is_at (nat_cmp (cond b (free_from (n + 1) es) n))) (e ∷ es) ≡ None) × (n ≤ cond b (free_from (n + 1) es) n)
    by later true here =
        let same : e.0 ≡ n = eqb-true e.0 n here in
        let both = later same in
        let most : n + 1 ≤ free_from (n + 1) es = both.1 in
        let elsewhere : is_at (nat_cmp (free_from (n + 1) es)) e.0 ≡ false = apart (free_from (n + 1) es) e.0 (λ there. omega arith) in
        (rw elsewhere both.0, omega arith)
    by later false here =
        let other : e.0 ≢ n = λ same. cc (here, eq-eqb e.0 n same) in
        let elsewhere : is_at (nat_cmp n) e.0 ≡ false = apart n e.0 (λ there. other (sym there)) in
        (rw elsewhere (none_under n es (over_all other)), omega arith)

-- It is at most as many above n as there are keys.
pub free_within : {X : Type 0} (n : ℕ) (es : List (ℕ × X)) → free_from n es ≤ n + length es
free_within n [] = omega arith
free_within {X} n (e ∷ es) = by (free_within (n + 1) es) (e.0 == n)
  where
    by : free_from (n + 1) es ≤ (n + 1) + length es → (b : Bool) → cond b (free_from (n + 1) es) n ≤ n + suc (length es)
    by later true = omega (arith, later)
    by later false = omega arith
