-- A map's entries with other values: with an entry more or fewer; and an entry more and another fewer, in either order.
use Rattle.std.proofs.Common.{◌≡◌, ◌≢◌, ◌∙◌, refl, sym, ap, ℕ, ◌+◌, ◌<◌, ◌==◌, Bool, true, false, cond, List, [], ◌∷◌, map, arith}
use Rattle.std.specs.List.{AllByRecursion}
use Rattle.std.specs.List.Sorted.{IsStrictlySortedBy}
use Rattle.std.specs.Ordering.{nat_cmp, is_eq, match_ordering}
use Rattle.std.specs.declared.cmp.Ordering.{Ordering}
use Rattle.std.specs.declared.cmp.Ordering.TheVariants.{Less, Equal, Greater}
use Rattle.std.specs.Map.{keys_of, remove_entry}
use Rattle.std.specs.BTreeMap.{insert_entry, is_at}
use Rattle.std.proofs.lemmas.Bool.Decides.{nat_tests}
use Rattle.rd_pending.specs.Table.{free_from}
use Rattle.rd_pending.proofs.MapLemmas.{apart, same_key}

-- entries with other values
abbrev pub with_values : {X : Type 0} → (X → X) → List (ℕ × X) → List (ℕ × X)
with_values f es = map (λ e. (e.0, f e.1)) es

pub mapped_inserted : {X : Type 0} (f : X → X) (k : ℕ) (x y : X) (es : List (ℕ × X)) → f x ≡ y → with_values f (insert_entry nat_cmp es k x) ≡ insert_entry nat_cmp (with_values f es) k y
mapped_inserted f k x y [] same = rw same refl
mapped_inserted {X} f k x y (e ∷ es) same = by (mapped_inserted f k x y es same) (nat_cmp k e.0)
  where
    by : with_values f (insert_entry nat_cmp es k x) ≡ insert_entry nat_cmp (with_values f es) k y → (r : Ordering)
        → with_values f (match_ordering r ((k, x) ∷ e ∷ es) ((e.0, x) ∷ es) (e ∷ insert_entry nat_cmp es k x))
        ≡ match_ordering r ((k, y) ∷ (e.0, f e.1) ∷ with_values f es) ((e.0, y) ∷ with_values f es) ((e.0, f e.1) ∷ insert_entry nat_cmp (with_values f es) k y)
    by later Less = rw same refl
    by later Equal = rw same refl
    by later Greater = ap (λ (l : List (ℕ × X)). (e.0, f e.1) ∷ l) later

pub mapped_removed : {X : Type 0} (f : X → X) (test : ℕ → Bool) (es : List (ℕ × X)) → with_values f (remove_entry test es) ≡ remove_entry test (with_values f es)
mapped_removed f test [] = refl
mapped_removed {X} f test (e ∷ es) = by (mapped_removed f test es) (test e.0)
  where
    by : with_values f (remove_entry test es) ≡ remove_entry test (with_values f es) → (b : Bool)
        → with_values f (cond b es (e ∷ remove_entry test es)) ≡ cond b (with_values f es) ((e.0, f e.1) ∷ remove_entry test (with_values f es))
    by later true = refl
    by later false = ap (λ (l : List (ℕ × X)). (e.0, f e.1) ∷ l) later

-- the least key that is free is the same
pub mapped_free : {X : Type 0} (f : X → X) (n : ℕ) (es : List (ℕ × X)) → free_from n (with_values f es) ≡ free_from n es
mapped_free f n [] = refl
mapped_free {X} f n (e ∷ es) = ap (λ (m : ℕ). cond (e.0 == n) m n) (mapped_free f (n + 1) es)

-- ---- an entry more, and another fewer

below_all : {X : Type 0} (k m : ℕ) (es : List (ℕ × X)) → k < m → AllByRecursion (λ (y : ℕ). nat_cmp m y ≡ Less) (keys_of es) → AllByRecursion (λ (y : ℕ). nat_cmp k y ≡ Less) (keys_of es)
below_all k m [] under low = tt
below_all k m (e ∷ es) under low = (under_first low.0, below_all k m es under low.1)
  where
    under_first : nat_cmp m e.0 ≡ Less → nat_cmp k e.0 ≡ Less
    under_first first = grind (arith, nat_tests)

-- a key below the others is put first
put_first : {X : Type 0} (k : ℕ) (x : X) (es : List (ℕ × X)) → AllByRecursion (λ (y : ℕ). nat_cmp k y ≡ Less) (keys_of es) → insert_entry nat_cmp es k x ≡ (k, x) ∷ es
put_first k x [] low = refl
put_first k x (e ∷ es) low = rw low.0 refl

compared_below : (k l : ℕ) → nat_cmp k l ≡ Less → k < l
compared_below k l e = grind (arith, nat_tests)

pub inserted_removed : {X : Type 0} (k j : ℕ) (x : X) → j ≢ k → (es : List (ℕ × X)) → IsStrictlySortedBy nat_cmp (keys_of es)
    → insert_entry nat_cmp (remove_entry (is_at (nat_cmp j)) es) k x ≡ remove_entry (is_at (nat_cmp j)) (insert_entry nat_cmp es k x)
unfolding IsStrictlySortedBy
inserted_removed k j x other [] rising = rw (apart j k other) refl
inserted_removed {X} k j x other (e ∷ es) rising = by (inserted_removed k j x other es rising.1) (is_at (nat_cmp j) e.0) refl (nat_cmp k e.0) refl
  where
    less : List (ℕ × X) → List (ℕ × X)
    less l = remove_entry (is_at (nat_cmp j)) l

    more : List (ℕ × X) → List (ℕ × X)
    more l = insert_entry nat_cmp l k x

    by : more (less es) ≡ less (more es) → (b : Bool) → is_at (nat_cmp j) e.0 ≡ b → (r : Ordering) → nat_cmp k e.0 ≡ r
        → more (cond b es (e ∷ less es)) ≡ less (match_ordering r ((k, x) ∷ e ∷ es) ((e.0, x) ∷ es) (e ∷ more es))
    by later true here Less this = rw (apart j k other, here) (put_first k x es (below_all k e.0 es (compared_below k e.0 this) rising.0))
    by later true here Equal this = absurd (other (same_key j e.0 here ∙ sym (same_key k e.0 (ap is_eq this))))
    by later true here Greater this = rw here refl
    by later false here Less this = rw (this, apart j k other, here) refl
    by later false here Equal this = rw (this, here) refl
    by later false here Greater this = rw (this, here) (ap (λ (l : List (ℕ × X)). e ∷ l) later)
