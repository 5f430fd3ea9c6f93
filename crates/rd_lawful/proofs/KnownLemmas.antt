-- Requests that came, in the order of their keys: what a search among them finds, and what one more or another stage makes of them.
use Rattle.std.proofs.Common.{◌≡◌, ◌∙◌, refl, sym, ap, ap₂, subst, inl, inr, ℕ, zero, suc, ◌<◌, ◌≤◌, Bool, true, false, cond, List, [], ◌∷◌, length, get_or, arith}
use Rattle.std.specs.Prelude.{Err, IfNone, IfSome, None, Ok, Option, Result, Some, nat_lt, slice_get, slice_index_or, slice_set}
use Rattle.std.specs.List.{AllByRecursion}
use Rattle.std.specs.List.Sorted.{IsBinarySearchResult, IsNonDecreasingBy, IsPartitionPoint, IsSearchInRange}
use Rattle.std.specs.Ordering.{ordering_index}
use Rattle.std.specs.Result.{result_ok}
use Rattle.std.specs.declared.cmp.Ordering.TheVariants.{Equal, Greater, Less}
use Rattle.std.proofs.lemmas.Bool.{ltb-false, ltb-true}
use Rattle.std.proofs.lemmas.Option.{get_or_from_slice_get, slice_get-get_or, slice_get_cases}
use Rattle.rd_base.specs.declared.journal.Key.{Key}
use Rattle.rd_base.specs.Lawful.{IsBelow}
use Rattle.rd_lawful.specs.declared.known.Known.{Known}
use Rattle.rd_lawful.specs.declared.known.Stage.{Stage}
use Rattle.rd_lawful.specs.declared.known.Stage.TheVariants as stage
use Rattle.rd_lawful.specs.Rules.{key_below, key_is}
use Rattle.rd_lawful.specs.Memory.{IsRisingByKey, known_key, stage_in, with_stage}
use Rattle.rd_lawful.proofs.BoolLemmas.{either}
use Rattle.rd_lawful.proofs.KeyLemmas.{above_other, below_other, cmp_cases, key_cmp, no_lower}
use Rattle.rd_lawful.proofs.TestLemmas.{key_below-decides, key_is-decides}

-- ---- a search

-- what stands later is above
later_above : (k : Known) (ks : List Known) (i : ℕ) (l : Known) → AllByRecursion (λ (m : Known). key_below (known_key k) (known_key m) ≡ true) ks → slice_get ks i ≡ Some l → key_below (known_key k) (known_key l) ≡ true
later_above k [] i l all at = absurd (cc)
later_above k (x ∷ ks) zero l all at = let same : x ≡ l = cc in ap (λ (y : Known). key_below (known_key k) (known_key y)) (sym same) ∙ all.0
later_above k (x ∷ ks) (suc i) l all at = later_above k ks i l all.1 at

not_falling : (ks : List Known) (key : Key) → IsRisingByKey ks → IsNonDecreasingBy (λ (k : Known). ordering_index (key_cmp (known_key k) key)) ks
not_falling ks key rising i j d less low = go ks i j rising less low
  where
    go : (ks : List Known) (i j : ℕ) → IsRisingByKey ks → i ≤ j → j < length ks → ordering_index (key_cmp (known_key (get_or ks i d)) key) ≤ ordering_index (key_cmp (known_key (get_or ks j d)) key)
    go [] i j rising less low = absurd (omega (arith, low))
    go (k ∷ ks) zero zero rising less low = omega arith
    go (k ∷ ks) zero (suc j) rising less low =
        no_lower (known_key k) (known_key (get_or ks j d)) key (later_above k ks j (get_or ks j d) rising.0 (slice_get-get_or ks j d (omega (arith, low))))
    go (k ∷ ks) (suc i) zero rising less low = absurd (omega (arith, less))
    go (k ∷ ks) (suc i) (suc j) rising less low = go ks i j rising.1 (omega (arith, less)) (omega (arith, low))

-- none of them has the key
none_in : (ks : List Known) (key : Key) → ((i : ℕ) (k : Known) → slice_get ks i ≡ Some k → key_is (known_key k) key ≡ false) → stage_in ks key ≡ None
none_in [] key apart = refl
none_in (k ∷ ks) key apart = ap (λ b. cond b (Some k.stage) (stage_in ks key)) (apart 0 k refl) ∙ none_in ks key (λ i l at. apart (suc i) l at)

equal_is : (k l : Key) → key_cmp k l ≡ Equal → key_is k l ≡ true
equal_is k l e = elim (cmp_cases k l) [ inl less ↦ absurd (cc (less.0, e)) | inr other ↦ elim other [ inl same ↦ (key_is-decides k l).1 same.1 | inr greater ↦ absurd (cc (greater.0, e)) ] ]

is_equal : (k l : Key) → key_is k l ≡ true → key_cmp k l ≡ Equal
is_equal k l e = elim (cmp_cases k l) [
  | inl less ↦ absurd (cc (e, below_is_not less.1))
  | inr other ↦ elim other [ inl same ↦ same.0 | inr greater ↦ absurd (cc (e, above_is_not greater.1)) ]
]
  where
    below_is_not : IsBelow k l → key_is k l ≡ false
    below_is_not below = below_other k l ((key_below-decides k l).1 below)

    above_is_not : IsBelow l k → key_is k l ≡ false
    above_is_not above = above_other l k ((key_below-decides l k).1 above)

abbrev none_known : Known
none_known = record { index = 0; channel = 0; stage = stage.Waits }

pub searched : (ks : List Known) (key : Key) (r : Result ℕ ℕ) (place : Option ℕ) → IsRisingByKey ks → IsSearchInRange r (length ks) → IsBinarySearchResult (λ (k : Known). key_cmp (known_key k) key) ks r → place ≡ result_ok r
    → IfSome place (λ i. (k : Known) × (slice_get ks i ≡ Some k) × (key_is (known_key k) key ≡ true)) × IfNone place (stage_in ks key ≡ None)
searched ks key (Ok i) place rising low is e =
    subst (λ (o : Option ℕ). IfSome o (λ i. (k : Known) × (slice_get ks i ≡ Some k) × (key_is (known_key k) key ≡ true)) × IfNone o (stage_in ks key ≡ None)) (sym e)
    ((get_or ks i none_known, slice_get-get_or ks i none_known low, equal_is (known_key (get_or ks i none_known)) key (is none_known)), tt)
searched ks key (Err i) place rising low is e =
    subst (λ (o : Option ℕ). IfSome o (λ i. (k : Known) × (slice_get ks i ≡ Some k) × (key_is (known_key k) key ≡ true)) × IfNone o (stage_in ks key ≡ None)) (sym e) (tt, none_in ks key apart)
  where
    parts : IsPartitionPoint (λ (k : Known). key_cmp (known_key k) key ≡ Less) (λ (k : Known). key_cmp (known_key k) key ≡ Greater) ks i
    parts = is (not_falling ks key rising)

    differs : (j : ℕ) (k : Known) → slice_get ks j ≡ Some k → key_is (known_key k) key ≡ true → (b : Bool) → nat_lt j i ≡ b → ⊥
    differs j k at same b before = elim (slice_get_cases ks j).1 [
      | inl (x, low, is, here) ↦
          let own : get_or ks j k ≡ k = get_or_from_slice_get ks j k k at in
          let equal : key_cmp (known_key (get_or ks j k)) key ≡ Equal = ap (λ (l : Known). key_cmp (known_key l) key) own ∙ is_equal (known_key k) key same in
          by b before low equal
      | inr (far, none) ↦ absurd (cc (none, at))
    ]
      where
        by : (b : Bool) → nat_lt j i ≡ b → j < length ks → key_cmp (known_key (get_or ks j k)) key ≡ Equal → ⊥
        by true e low equal = absurd (cc (parts.0 j k (omega arith) (ltb-true j i e), equal))
        by false e low equal = absurd (cc (parts.1 j k (ltb-false j i e) low, equal))

    apart : (j : ℕ) (k : Known) → slice_get ks j ≡ Some k → key_is (known_key k) key ≡ false
    apart j k at = elim (either (key_is (known_key k) key)) [ inl same ↦ absurd (differs j k at same (nat_lt j i) refl) | inr other ↦ other ]

-- ---- what stands at a place

-- a key that is another's isn't that of a lower one
first_other : (x k : Known) (key : Key) → key_below (known_key x) (known_key k) ≡ true → key_is (known_key k) key ≡ true → key_is (known_key x) key ≡ false
first_other x k key above same = ap (key_is (known_key x)) (sym ((key_is-decides (known_key k) key).0 same)) ∙ below_other (known_key x) (known_key k) above

pub stage_at : (ks : List Known) (key : Key) (i : ℕ) (k d : Known) → IsRisingByKey ks → slice_get ks i ≡ Some k → key_is (known_key k) key ≡ true → Some (slice_index_or ks i d).stage ≡ stage_in ks key
stage_at [] key i k d rising at same = absurd (cc)
stage_at (x ∷ ks) key zero k d rising at same =
    let here : x ≡ k = cc in sym (ap (λ b. cond b (Some x.stage) (stage_in ks key)) (ap (λ (y : Known). key_is (known_key y) key) here ∙ same))
stage_at (x ∷ ks) key (suc i) k d rising at same =
    let above = later_above x ks i k rising.0 at in
    stage_at ks key i k d rising.1 at same ∙ sym (ap (λ b. cond b (Some x.stage) (stage_in ks key)) (first_other x k key above same))

-- none of those above a key has it
unchanged : (ks : List Known) (key : Key) (s : Stage) → stage_in ks key ≡ None → with_stage key s ks ≡ ks
unchanged [] key s none = refl
unchanged (k ∷ ks) key s none = elim (either (key_is (known_key k) key)) [
  | inl here ↦ let some : Some k.stage ≡ None = sym (ap (λ b. cond b (Some k.stage) (stage_in ks key)) here) ∙ none in absurd (cc)
  | inr other ↦
      let later : stage_in ks key ≡ None = sym (ap (λ b. cond b (Some k.stage) (stage_in ks key)) other) ∙ none in
      ap₂ (λ (x : Known) (xs : List Known). x ∷ xs) (ap (λ b. cond b (record k { stage = s }) k) other) (unchanged ks key s later)
]

pub unfound : (ks : List Known) (key : Key) (s : Stage) → stage_in ks key ≡ None → ks ≡ with_stage key s ks
unfound ks key s none = sym (unchanged ks key s none)

none_above : (x : Known) (ks : List Known) (key : Key) → key_is (known_key x) key ≡ true → AllByRecursion (λ (m : Known). key_below (known_key x) (known_key m) ≡ true) ks → stage_in ks key ≡ None
none_above x [] key same all = refl
none_above x (k ∷ ks) key same all =
    ap (λ b. cond b (Some k.stage) (stage_in ks key)) (ap (key_is (known_key k)) (sym ((key_is-decides (known_key x) key).0 same)) ∙ above_other (known_key x) (known_key k) all.0) ∙ none_above x ks key same all.1

pub set_at : (ks : List Known) (key : Key) (s : Stage) (i : ℕ) (k d : Known) → IsRisingByKey ks → slice_get ks i ≡ Some k → key_is (known_key k) key ≡ true
    → slice_set ks i (record { index = (slice_index_or ks i d).index; channel = (slice_index_or ks i d).channel; stage = s }) ≡ with_stage key s ks
set_at [] key s i k d rising at same = absurd (cc)
set_at (x ∷ ks) key s zero k d rising at same =
    let here : x ≡ k = cc in
    let is : key_is (known_key x) key ≡ true = ap (λ (y : Known). key_is (known_key y) key) here ∙ same in
    ap₂ (λ (y : Known) (ys : List Known). y ∷ ys) (sym (ap (λ b. cond b (record x { stage = s }) x) is)) (unfound ks key s (none_above x ks key is rising.0))
set_at (x ∷ ks) key s (suc i) k d rising at same =
    ap₂ (λ (y : Known) (ys : List Known). y ∷ ys) (sym (ap (λ b. cond b (record x { stage = s }) x) (first_other x k key (later_above x ks i k rising.0 at) same))) (set_at ks key s i k d rising.1 at same)
