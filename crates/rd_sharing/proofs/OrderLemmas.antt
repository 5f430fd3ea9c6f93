-- Entries by rising keys: one more at its place, and what holds of all of them.
use Rattle.std.proofs.Common.{◌≡◌, ◌∙◌, refl, sym, ap, subst, ℕ, zero, suc, ◌<◌, ◌≤◌, List, [], ◌∷◌, length, get_or, arith}
use Rattle.std.specs.Prelude.{map}
use Rattle.std.specs.List.{AllByRecursion, insert}
use Rattle.std.specs.List.Sorted.{IsNonDecreasingBy, IsPartitionPoint, IsStrictlySortedBy}
use Rattle.std.specs.Map.{keys_of}
use Rattle.std.specs.Ordering.{match_ordering, nat_cmp, ordering_index}
use Rattle.std.specs.declared.cmp.Ordering.{Ordering}
use Rattle.std.specs.declared.cmp.Ordering.TheVariants.{Less, Equal, Greater}
use Rattle.std.specs.BTreeMap.{insert_entry}
use Rattle.std.proofs.lemmas.Bool.Decides.{nat_tests}

-- ---- numbers in order

turned_less : (k l : ℕ) → nat_cmp k l ≡ Less → nat_cmp l k ≡ Greater
turned_less k l e = grind (arith, nat_tests)

turned_greater : (k l : ℕ) → nat_cmp k l ≡ Greater → nat_cmp l k ≡ Less
turned_greater k l e = grind (arith, nat_tests)

below_of : (k l : ℕ) → nat_cmp k l ≡ Less → k < l
below_of k l e = grind (arith, nat_tests)

same_key : (k l : ℕ) → nat_cmp k l ≡ Equal → k ≡ l
same_key k l e = grind (arith, nat_tests)

index_rises : (a b d : ℕ) → a ≤ b → ordering_index (nat_cmp a d) ≤ ordering_index (nat_cmp b d)
index_rises a b d u = grind (arith, nat_tests)

above_first : (k : ℕ) (ks : List ℕ) (i d : ℕ) → i < length ks → AllByRecursion (λ (l : ℕ). nat_cmp k l ≡ Less) ks → k < get_or ks i d
above_first k [] i d u all = absurd (omega arith)
above_first k (l ∷ ks) zero d u all = below_of k l all.0
above_first k (l ∷ ks) (suc i) d u all = above_first k ks i d (omega arith) all.1

ordered : (ks : List ℕ) (i j d : ℕ) → IsStrictlySortedBy nat_cmp ks → i ≤ j → j < length ks → get_or ks i d ≤ get_or ks j d
unfolding IsStrictlySortedBy
ordered [] i j d rise le u = absurd (omega arith)
ordered (k ∷ ks) zero zero d rise le u = omega arith
ordered (k ∷ ks) zero (suc j) d rise le u =
    let below : k < get_or ks j d = above_first k ks j d (omega arith) rise.0 in
    omega arith
ordered (k ∷ ks) (suc i) zero d rise le u = absurd (omega arith)
ordered (k ∷ ks) (suc i) (suc j) d rise le u = ordered ks i j d rise.1 (omega arith) (omega arith)

-- Numbers that rise are in order for who looks for one of them.
pub never_fall : (ks : List ℕ) (k : ℕ) → IsStrictlySortedBy nat_cmp ks → IsNonDecreasingBy (λ (l : ℕ). ordering_index (nat_cmp l k)) ks
never_fall ks k rise = λ i j d le u. index_rises (get_or ks i d) (get_or ks j d) k (ordered ks i j d rise le u)

-- ---- one more at a place

module _ {X : Type 0} where
  -- A new entry at the place of its key is where a map has it.
  pub at_place : (k : ℕ) (x : X) (es : List (ℕ × X)) (i : ℕ) → i ≤ length es → IsPartitionPoint (λ (l : ℕ). nat_cmp l k ≡ Less) (λ (l : ℕ). nat_cmp l k ≡ Greater) (keys_of es) i
      → insert es i (k, x) ≡ insert_entry nat_cmp es k x
  at_place k x [] zero within part = refl
  at_place k x [] (suc i) within part = absurd (omega arith)
  at_place k x (e ∷ es) zero within part =
      let above : nat_cmp e.0 k ≡ Greater = part.1 0 0 (omega arith) (omega arith) in
      ap (λ (r : Ordering). match_ordering r ((k, x) ∷ e ∷ es) ((e.0, x) ∷ es) (e ∷ insert_entry nat_cmp es k x)) (sym (turned_greater e.0 k above))
  at_place k x (e ∷ es) (suc i) within part =
      let below : nat_cmp e.0 k ≡ Less = part.0 0 0 (omega arith) (omega arith) in
      let rest : insert es i (k, x) ≡ insert_entry nat_cmp es k x = at_place k x es i (omega (arith, within)) (
        λ j d le u. part.0 (suc j) d (omega arith) (omega (arith, u)),
        λ j d le u. part.1 (suc j) d (omega (arith, le)) (omega (arith, u)),
      ) in
      ap (λ (l : List (ℕ × X)). e ∷ l) rest
      ∙ ap (λ (r : Ordering). match_ordering r ((k, x) ∷ e ∷ es) ((e.0, x) ∷ es) (e ∷ insert_entry nat_cmp es k x)) (sym (turned_less e.0 k below))

  -- what holds of all and of one more, at any place
  pub all_at : (P : X → Type 0) (xs : List X) (i : ℕ) (x : X) → AllByRecursion P xs → P x → AllByRecursion P (insert xs i x)
  all_at P [] zero x all own = (own, tt)
  all_at P [] (suc i) x all own = (own, tt)
  all_at P (y ∷ xs) zero x all own = (own, all)
  all_at P (y ∷ xs) (suc i) x all own = (all.0, all_at P xs i x all.1 own)

  -- what holds of all entries, and of one that comes to its key
  pub all_with : (P : ℕ × X → Type 0) (k : ℕ) (x : X) (es : List (ℕ × X)) → P (k, x) → AllByRecursion P es → AllByRecursion P (insert_entry nat_cmp es k x)
  all_with P k x [] own all = (own, tt)
  all_with P k x (e ∷ es) own all = by (all_with P k x es own all.1) (nat_cmp k e.0) refl
    where
      by : AllByRecursion P (insert_entry nat_cmp es k x) → (r : Ordering) → nat_cmp k e.0 ≡ r → AllByRecursion P (match_ordering r ((k, x) ∷ e ∷ es) ((e.0, x) ∷ es) (e ∷ insert_entry nat_cmp es k x))
      by rest Less is = (own, all)
      by rest Equal is = (subst (λ (n : ℕ). P (n, x)) (same_key k e.0 is) own, all.1)
      by rest Greater is = (all.0, rest)

pub mapped_at : {X Y : Type 0} (f : X → Y) (xs : List X) (i : ℕ) (x : X) → map f (insert xs i x) ≡ insert (map f xs) i (f x)
mapped_at f [] zero x = refl
mapped_at f [] (suc i) x = refl
mapped_at f (y ∷ xs) zero x = refl
mapped_at {X} {Y} f (y ∷ xs) (suc i) x = ap (λ (l : List Y). f y ∷ l) (mapped_at f xs i x)

-- what holds of what comes of all
pub all_mapped : {X Y : Type 0} (P : Y → Type 0) (f : X → Y) (xs : List X) → AllByRecursion (λ (x : X). P (f x)) xs → AllByRecursion P (map f xs)
all_mapped P f [] all = tt
all_mapped P f (x ∷ xs) all = (all.0, all_mapped P f xs all.1)
