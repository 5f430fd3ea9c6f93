-- Keys whose indices rise, and what a search among them finds.
use Rattle.std.proofs.Common.{◌≡◌, ◌≢◌, ◌∙◌, refl, sym, ap, subst, inl, inr, ℕ, zero, suc, ◌<◌, ◌≤◌, Bool, true, false, cond, not, List, [], ◌∷◌, ◌++◌, length, map, take, drop, get_or, arith}
use Rattle.std.specs.Prelude.{Err, MatchResult, None, Ok, Result, Some, filter, find, nat_lt, slice_get, slice_index_or, slice_set}
use Rattle.std.proofs.lemmas.Bool.{ltb-false, ltb-true}
use Rattle.std.proofs.lemmas.Option.{get_or_from_slice_get, slice_get-get_or, slice_get_cases}
use Rattle.std.specs.List.{AllByRecursion}
use Rattle.std.specs.List.Sorted.{IsBinarySearchResult, IsNonDecreasingBy, IsPartitionPoint, IsSearchInRange}
use Rattle.std.specs.Ordering.{nat_cmp, ordering_index}
use Rattle.std.specs.declared.cmp.Ordering.TheVariants.{Equal, Greater, Less}
use Rattle.rd_base.specs.declared.journal.Key.{Key}
use Rattle.rd_station.specs.declared.held.InHand.{InHand}
use Rattle.rd_station.specs.Queues.{AreRising}
use Rattle.rd_station.specs.Station.{is_key, marked_removed, without_taken}
use Rattle.rd_station.proofs.Members.{Has, apart_key, has_append, key_self, same_key}

abbrev pub hand_key : InHand → Key
hand_key t = t.key

-- ---- members

of_all : {A : Type 0} (P : A → Type 0) (xs : List A) → AllByRecursion P xs → (x : A) → Has x xs → P x
of_all P [] all x none = absurd none
of_all P (y ∷ xs) all x (inl same) = subst P (sym same) all.0
of_all P (y ∷ xs) all x (inr later) = of_all P xs all.1 x later

to_all : {A : Type 0} (P : A → Type 0) (xs : List A) → ((x : A) → Has x xs → P x) → AllByRecursion P xs
to_all P [] each = tt
to_all P (x ∷ xs) each = (each x (inl refl), to_all P xs (λ y has. each y (inr has)))

-- ---- what keeps rising

-- with one more, above all
pub rising_more : (ks : List Key) (k : Key) → AreRising ks → ((l : Key) → Has l ks → l.index < k.index) → AreRising (ks ++ k ∷ [])
rising_more [] k rising above = (tt, tt)
rising_more (l ∷ ks) k rising above = (
  to_all (λ (m : Key). l.index < m.index) (ks ++ k ∷ []) (λ m has. elim (has_append m ks (k ∷ []) has) [
    | inl among ↦ of_all (λ (m : Key). l.index < m.index) ks rising.0 m among
    | inr last ↦ elim last [ inl same ↦ subst (λ (m : Key). l.index < m.index) (sym same) (above l (inl refl)) | inr none ↦ absurd none ]
  ]),
  rising_more ks k rising.1 (λ m has. above m (inr has)),
)

-- the first of them
pub rising_prefix : (ks ls : List Key) → AreRising (ks ++ ls) → AreRising ks
rising_prefix [] ls rising = tt
rising_prefix (k ∷ ks) ls rising =
    (to_all (λ (m : Key). k.index < m.index) ks (λ m has. of_all (λ (m : Key). k.index < m.index) (ks ++ ls) rising.0 m (left ks m has)), rising_prefix ks ls rising.1)
  where
    left : (xs : List Key) (m : Key) → Has m xs → Has m (xs ++ ls)
    left [] m none = absurd none
    left (x ∷ xs) m (inl same) = inl same
    left (x ∷ xs) m (inr later) = inr (left xs m later)

-- without some
some_gone : (P : Key → Type 0) (p : InHand → Bool) (ts : List InHand) (ls : List Key) → AllByRecursion P (map hand_key ts ++ ls) → AllByRecursion P (map hand_key (filter p ts) ++ ls)
some_gone P p [] ls all = all
some_gone P p (t ∷ ts) ls all = by (p t) (some_gone P p ts ls all.1)
  where
    by : (b : Bool) → AllByRecursion P (map hand_key (filter p ts) ++ ls) → AllByRecursion P (map hand_key (cond b (t ∷ filter p ts) (filter p ts)) ++ ls)
    by true others = (all.0, others)
    by false others = others

pub rising_without : (p : InHand → Bool) (ts : List InHand) (ls : List Key) → AreRising (map hand_key ts ++ ls) → AreRising (map hand_key (filter p ts) ++ ls)
rising_without p [] ls rising = rising
rising_without p (t ∷ ts) ls rising = by (p t) (rising_without p ts ls rising.1)
  where
    by : (b : Bool) → AreRising (map hand_key (filter p ts) ++ ls) → AreRising (map hand_key (cond b (t ∷ filter p ts) (filter p ts)) ++ ls)
    by true others = (some_gone (λ (m : Key). t.key.index < m.index) p ts ls rising.0, others)
    by false others = others

-- a mark leaves the keys
pub marked_keys : (ts : List InHand) → map hand_key (map marked_removed ts) ≡ map hand_key ts
marked_keys [] = refl
marked_keys (t ∷ ts) = ap (λ (ks : List Key). t.key ∷ ks) (marked_keys ts)

-- ---- a search

-- another index, another key
other_index : (k l : Key) → k.index ≢ l.index → is_key k l ≡ false
other_index k l apart = apart_key k l (λ same. apart (ap (λ (x : Key). x.index) same))

later_index : (t : InHand) (ts : List InHand) (i : ℕ) (u : InHand) → AllByRecursion (λ (m : Key). t.key.index < m.index) (map hand_key ts) → slice_get ts i ≡ Some u → t.key.index < u.key.index
later_index t [] i u all at = absurd (cc)
later_index t (x ∷ ts) zero u all at = let same : x ≡ u = cc in subst (λ (y : InHand). t.key.index < y.key.index) same all.0
later_index t (x ∷ ts) (suc i) u all at = later_index t ts i u all.1 at

-- none has the index
pub none_at : (ts : List InHand) (key : Key) → ((i : ℕ) (u : InHand) → slice_get ts i ≡ Some u → u.key.index ≢ key.index) → find (λ (t : InHand). is_key t.key key) ts ≡ None
none_at [] key apart = refl
none_at (t ∷ ts) key apart = ap (λ b. cond b (Some t) (find (λ (u : InHand). is_key u.key key) ts)) (other_index t.key key (apart 0 t refl)) ∙ none_at ts key (λ i u at. apart (suc i) u at)

-- what stands at a place has the key, so it is found, and the others are those that are left
pub found_at : (ts : List InHand) (key : Key) (i : ℕ) (t : InHand) → AreRising (map hand_key ts) → slice_get ts i ≡ Some t → is_key t.key key ≡ true
    → find (λ (u : InHand). is_key u.key key) ts ≡ Some t
found_at [] key i t rising at same = absurd (cc)
found_at (u ∷ ts) key zero t rising at same = let here : u ≡ t = cc in ap (λ b. cond b (Some u) (find (λ (v : InHand). is_key v.key key) ts)) (ap (λ (v : InHand). is_key v.key key) here ∙ same) ∙ ap Some here
found_at (u ∷ ts) key (suc i) t rising at same =
    let less : u.key.index < t.key.index = later_index u ts i t rising.0 at in
    let index : t.key.index ≡ key.index = ap (λ (k : Key). k.index) (same_key t.key key same) in
    ap (λ b. cond b (Some u) (find (λ (v : InHand). is_key v.key key) ts)) (other_index u.key key (λ e. omega (arith, less, index, e))) ∙ found_at ts key i t rising.1 at same

-- what stands at a place has the index and not the key, so none has
pub other_at : (ts : List InHand) (key : Key) (i : ℕ) (t : InHand) → AreRising (map hand_key ts) → slice_get ts i ≡ Some t → t.key.index ≡ key.index → is_key t.key key ≡ false
    → find (λ (u : InHand). is_key u.key key) ts ≡ None
other_at [] key i t rising at index other = absurd (cc)
other_at (u ∷ ts) key zero t rising at index other =
    let here : u ≡ t = cc in
    ap (λ b. cond b (Some u) (find (λ (v : InHand). is_key v.key key) ts)) (ap (λ (v : InHand). is_key v.key key) here ∙ other)
    ∙ none_at ts key (λ j v there e. let less = later_index u ts j v rising.0 there in let same : u.key.index ≡ t.key.index = ap (λ (w : InHand). w.key.index) here in omega (arith, less, same, index, e))
other_at (u ∷ ts) key (suc i) t rising at index other =
    let less : u.key.index < t.key.index = later_index u ts i t rising.0 at in
    ap (λ b. cond b (Some u) (find (λ (v : InHand). is_key v.key key) ts)) (other_index u.key key (λ e. omega (arith, less, index, e))) ∙ other_at ts key i t rising.1 at index other

-- the others in hands are those round a place
pub without_at : (ts : List InHand) (i : ℕ) (t : InHand) → AreRising (map hand_key ts) → slice_get ts i ≡ Some t → without_taken t.key ts ≡ take i ts ++ drop (suc i) ts
without_at [] i t rising at = absurd (cc)
without_at (u ∷ ts) zero t rising at =
    let here : u ≡ t = cc in
    ap (λ b. cond (not b) (u ∷ without_taken t.key ts) (without_taken t.key ts)) (ap (λ (v : InHand). is_key v.key t.key) here ∙ key_self t.key)
    ∙ all_others ts (λ j v there. let less = later_index u ts j v rising.0 there in let same : u.key.index ≡ t.key.index = ap (λ (w : InHand). w.key.index) here in omega (arith, less, same))
  where
    all_others : (vs : List InHand) → ((j : ℕ) (v : InHand) → slice_get vs j ≡ Some v → t.key.index < v.key.index) → without_taken t.key vs ≡ vs
    all_others [] later = refl
    all_others (v ∷ vs) later =
        let less : t.key.index < v.key.index = later 0 v refl in
        ap (λ b. cond (not b) (v ∷ without_taken t.key vs) (without_taken t.key vs)) (other_index v.key t.key (λ e. omega (arith, less, e)))
        ∙ ap (λ (ws : List InHand). v ∷ ws) (all_others vs (λ j w there. later (suc j) w there))
without_at (u ∷ ts) (suc i) t rising at =
    let less : u.key.index < t.key.index = later_index u ts i t rising.0 at in
    ap (λ b. cond (not b) (u ∷ without_taken t.key ts) (without_taken t.key ts)) (other_index u.key t.key (λ e. omega (arith, less, e)))
    ∙ ap (λ (ws : List InHand). u ∷ ws) (without_at ts i t rising.1 at)

-- one step of marking each
pub marked_step : (xs : List InHand) (i n : ℕ) (d : InHand) → n ≡ suc i → i < length xs
    → let ys = map marked_removed (take i xs) ++ drop i xs in slice_set ys i (marked_removed (slice_index_or ys i d)) ≡ map marked_removed (take n xs) ++ drop n xs
marked_step xs i n d e less = subst (λ (m : ℕ). let ys = map marked_removed (take i xs) ++ drop i xs in slice_set ys i (marked_removed (slice_index_or ys i d)) ≡ map marked_removed (take m xs) ++ drop m xs) (sym e) (go xs i less)
  where
    go : (ts : List InHand) (j : ℕ) → j < length ts → let ys = map marked_removed (take j ts) ++ drop j ts in slice_set ys j (marked_removed (slice_index_or ys j d)) ≡ map marked_removed (take (suc j) ts) ++ drop (suc j) ts
    go [] j less = absurd (omega (arith, less))
    go (t ∷ ts) zero less = refl
    go (t ∷ ts) (suc j) less = ap (λ (us : List InHand). marked_removed t ∷ us) (go ts j (omega (arith, less)))

-- the same number
pub same_number : (n k : ℕ) → nat_cmp n k ≡ Equal → n ≡ k
same_number n k e = grind (arith, e)

itself : (k : ℕ) → nat_cmp k k ≡ Equal
itself k = grind arith

-- along indices that rise what a number is compared to them doesn't fall
no_lower : (n m k : ℕ) → n ≤ m → ordering_index (nat_cmp n k) ≤ ordering_index (nat_cmp m k)
no_lower n m k less = grind (arith, less)

not_falling : (ts : List InHand) (k : ℕ) → AreRising (map hand_key ts) → IsNonDecreasingBy (λ (t : InHand). ordering_index (nat_cmp t.key.index k)) ts
not_falling ts k rising i j d less low = no_lower (get_or ts i d).key.index (get_or ts j d).key.index k (go ts i j rising less low)
  where
    go : (us : List InHand) (i j : ℕ) → AreRising (map hand_key us) → i ≤ j → j < length us → (get_or us i d).key.index ≤ (get_or us j d).key.index
    go [] i j rising less low = absurd (omega (arith, low))
    go (u ∷ us) zero zero rising less low = omega arith
    go (u ∷ us) zero (suc j) rising less low = let above = later_index u us j (get_or us j d) rising.0 (slice_get-get_or us j d (omega (arith, low))) in omega (arith, above)
    go (u ∷ us) (suc i) zero rising less low = absurd (omega (arith, less))
    go (u ∷ us) (suc i) (suc j) rising less low = go us i j rising.1 (omega (arith, less)) (omega (arith, low))

-- what a binary search by index says
pub searched : (ts : List InHand) (k : ℕ) (r : Result ℕ ℕ) → AreRising (map hand_key ts) → IsSearchInRange r (length ts) → IsBinarySearchResult (λ (t : InHand). nat_cmp t.key.index k) ts r
    → MatchResult r (λ i. (t : InHand) × (slice_get ts i ≡ Some t) × (t.key.index ≡ k)) (λ i. (j : ℕ) (u : InHand) → slice_get ts j ≡ Some u → u.key.index ≢ k)
searched ts k (Ok i) rising low is = let d : InHand = record { key = record { channel = 0; index = 0 }; completion = 0; removed = false } in (get_or ts i d, slice_get-get_or ts i d low, same_number (get_or ts i d).key.index k (is d))
searched ts k (Err i) rising low is = λ j u at same. where_not j u at same (is (not_falling ts k rising))
  where
    where_not : (j : ℕ) (u : InHand) → slice_get ts j ≡ Some u → u.key.index ≡ k → IsPartitionPoint (λ (t : InHand). nat_cmp t.key.index k ≡ Less) (λ (t : InHand). nat_cmp t.key.index k ≡ Greater) ts i → ⊥
    where_not j u at same parts = elim (slice_get_cases ts j).1 [
      | inl (x, low, is, here) ↦
          let own : get_or ts j u ≡ u = get_or_from_slice_get ts j u u at in
          let equal : nat_cmp (get_or ts j u).key.index k ≡ Equal = ap (λ (t : InHand). nat_cmp t.key.index k) own ∙ ap (λ (n : ℕ). nat_cmp n k) same ∙ itself k in
          by (nat_lt j i) refl low equal
      | inr (far, none) ↦ absurd (cc (none, at))
    ]
      where
        by : (b : Bool) → nat_lt j i ≡ b → j < length ts → nat_cmp (get_or ts j u).key.index k ≡ Equal → ⊥
        by true e low equal = absurd (cc (parts.0 j u (omega arith) (ltb-true j i e), equal))
        by false e low equal = absurd (cc (parts.1 j u (ltb-false j i e) low, equal))
