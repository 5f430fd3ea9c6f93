-- The places of a word's set bits are counted and taken from the lowest.
use Rattle.std.proofs.Common.{◌≡◌, ℕ, zero, suc, ◌+◌, ◌^◌, ◌<◌, ◌≤◌, ◌⊎◌, inl, inr, Bool, true, false, cond, List, ◌∷◌, length, map, drop, get_or, slice_get, Some, refl, sym, ap, ◌∙◌, subst, arith, add-one}
use Rattle.std.specs.Prelude.{◌==◌, ◌*◌, ◌%◌}
use Rattle.std.specs.Int.{bit_at, trailing_zeros, bit_not}
use Rattle.std.specs.Int.RustNames.{count_ones, bit_and}
use Rattle.std.specs.List.{filter, range_with_len}
use Rattle.std.specs.Simd.Lanes.{mask_l}
use Rattle.std.proofs.Math.Nat.{eq-or-lt_of_le}
use Rattle.std.proofs.Math.Seq.{drop-cons}
use Rattle.std.proofs.lemmas.Simd.{bit_mask_l, ones-mask_l, mask_l-lt}
use Rattle.std.proofs.lemmas.List.FromFn.{get_or-map-range_with_len, length-map-range_with_len}
use Rattle.std.proofs.lemmas.List.Sums.{length-filter}
use Rattle.std.proofs.lemmas.Nat.Bits.{bit_at-lt, same_from_bits_below, bit_at-trailing_zeros, bit_at_clear_same, bit_at_clear_other}
use Rattle.std.proofs.lemmas.Option.{slice_get-get_or}
use Rattle.std.proofs.lemmas.Bool.{cases_Bool}
use Rattle.std.proofs.lemmas.Bool.Decides.{nat_tests}
use Rattle.std.proofs.lemmas.List.{length-drop}
use mir.Syntax.{w64}
use Rattle.rd_world.specs.Bits.{has, where_holds, IsMarked, Marks}
use Rattle.rd_world.proofs.FoldLemmas.{drop_there}

-- tests that agree below n keep the same places
agree : (p q : ℕ → Bool) (a n : ℕ) → ((j : ℕ) → a ≤ j → j < a + n → p j ≡ q j) → filter p (range_with_len a n) ≡ filter q (range_with_len a n)
agree p q a zero h = refl
agree p q a (suc n) h =
    let e : p a ≡ q a = h a (omega arith) (omega arith) in
    let r : filter p (range_with_len (a + 1) n) ≡ filter q (range_with_len (a + 1) n) = agree p q (a + 1) n (λ j l u. h j (omega arith) (omega arith)) in
    cc

pub marked_places : (bits : ℕ) (p : ℕ → Bool) (n : ℕ) → Marks bits p n → where_holds (has bits) n ≡ where_holds p n
unfolding where_holds
marked_places bits p n marks = agree (has bits) p 0 n (λ j l u. marks j (omega arith))

bit_is : (x : ℕ) → x < 2 → x ≡ cond (x == 1) 1 0
bit_is x h = grind (arith, nat_tests)

-- a number is the mask of its bits
mask_is : (n b : ℕ) → b < 2 ^ n → b ≡ mask_l (map (has b) (range_with_len 0 n))
mask_is n b h =
    let ms : List Bool = map (has b) (range_with_len 0 n) in
    let long : length ms ≡ n = length-map-range_with_len (has b) 0 n in
    same_from_bits_below n b (mask_l ms) h (subst (λ (k : ℕ). mask_l ms < 2 ^ k) long (mask_l-lt ms))
    (λ i u. bit_is (bit_at b i) (bit_at-lt b i) ∙ ap (λ (v : Bool). cond v 1 0) (sym (get_or-map-range_with_len (has b) 0 n i i false u (omega arith))) ∙ sym (bit_mask_l ms i))

-- the count of set bits counts their places
pub ones_places : (n b : ℕ) → b < 2 ^ n → count_ones b ≡ length (where_holds (has b) n)
unfolding where_holds
ones_places n b h = ap count_ones (mask_is n b h) ∙ ones-mask_l (has b) (range_with_len 0 n) ∙ sym (length-filter (has b) (range_with_len 0 n))

-- the first place, and the others
next_place : (p q : ℕ → Bool) (t a n : ℕ) → p t ≡ true → q t ≡ false → ((j : ℕ) → j < t → p j ≡ false) → ((j : ℕ) → (j ≡ t → ⊥) → j < a + n → q j ≡ p j) → a ≤ t → t < a + n
    → filter p (range_with_len a n) ≡ t ∷ filter q (range_with_len a n)
next_place p q t a zero holds fails low same from to = absurd (omega arith)
next_place p q t a (suc n) holds fails low same from to =
    by (eq-or-lt_of_le from) (λ (l : a < t). next_place p q t (a + 1) n holds fails low (λ j d u. same j d (omega arith)) (omega arith) (omega arith))
  where
    by : (a ≡ t) ⊎ (a < t) → (a < t → filter p (range_with_len (a + 1) n) ≡ t ∷ filter q (range_with_len (a + 1) n)) → filter p (range_with_len a (suc n)) ≡ t ∷ filter q (range_with_len a (suc n))
    by (inl e) on =
        let r : filter p (range_with_len (a + 1) n) ≡ filter q (range_with_len (a + 1) n) = agree p q (a + 1) n (λ j l u. sym (same j (λ (d : j ≡ t). omega arith) (omega arith))) in
        let y : p a ≡ true = ap p e ∙ holds in
        let z : q a ≡ false = ap q e ∙ fails in
        cc
    by (inr l) on =
        let r : filter p (range_with_len (a + 1) n) ≡ t ∷ filter q (range_with_len (a + 1) n) = on l in
        let y : p a ≡ false = low a l in
        let z : q a ≡ false = same a (λ (d : a ≡ t). omega arith) (omega arith) ∙ low a l in
        cc

set_is : (x : ℕ) → x ≡ 1 → (x == 1) ≡ true
set_is x e = grind (arith, nat_tests)

unset_is : (x : ℕ) → x ≡ 0 → (x == 1) ≡ false
unset_is x e = grind (arith, nat_tests)

-- without its lowest set bit a number has the other places
pub places_step : (n : ℕ) → 0 < n → n < 2 ^ 64
    → where_holds (has n) 64 ≡ trailing_zeros w64 n ∷ where_holds (has (bit_and n (bit_not w64 (1 * 2 ^ trailing_zeros w64 n % 2 ^ 64)))) 64
unfolding where_holds
places_step n some below =
    let l = bit_at-trailing_zeros w64 n some below in
    let t : ℕ = trailing_zeros w64 n in
    let m : ℕ = bit_and n (bit_not w64 (1 * 2 ^ t % 2 ^ 64)) in
    next_place (has n) (has m) t 0 64 (set_is (bit_at n t) l.1) (unset_is (bit_at m t) (bit_at_clear_same w64 n t l.0))
    (λ j u. unset_is (bit_at n j) (l.2 j u))
    (λ j d u. ap (λ (x : ℕ). x == 1) (bit_at_clear_other w64 n t l.0 j u d)) (omega arith) l.0

pub some_left : (rest : ℕ) (xs : List ℕ) (i : ℕ) → rest < 2 ^ 64 → where_holds (has rest) 64 ≡ drop i xs → i < length xs → 0 < rest
unfolding count_ones
some_left zero xs i below is h =
    let none : 0 ≡ length (where_holds (has 0) 64) = ones_places 64 0 below in
    absurd (omega (arith, ap length is, length-drop i xs))
some_left (suc n) xs i below is h = omega arith

-- the lowest set bit is at the next place, and without it the number has the places after that
pub place_more : (rest : ℕ) (xs : List ℕ) (i : ℕ) → rest < 2 ^ 64 → where_holds (has rest) 64 ≡ drop i xs → i < length xs
    → (trailing_zeros w64 rest < 64) × (trailing_zeros w64 rest ≡ get_or xs i 0) × (where_holds (has (bit_and rest (bit_not w64 (1 * 2 ^ trailing_zeros w64 rest % 2 ^ 64)))) 64 ≡ drop (i + 1) xs)
place_more rest xs i below is h =
    let some : 0 < rest = some_left rest xs i below is h in
    let step = places_step rest some below in
    let cut : drop i xs ≡ get_or xs i 0 ∷ drop (suc i) xs = drop-cons xs i 0 h in
    let both : trailing_zeros w64 rest ∷ where_holds (has (bit_and rest (bit_not w64 (1 * 2 ^ trailing_zeros w64 rest % 2 ^ 64)))) 64 ≡ get_or xs i 0 ∷ drop (suc i) xs = sym step ∙ is ∙ cut in
    ((bit_at-trailing_zeros w64 rest some below).0, cc, rw add-one cc)

pub place_last : (rest : ℕ) (xs : List ℕ) (i : ℕ) → rest < 2 ^ 64 → where_holds (has rest) 64 ≡ drop i xs → i < length xs → slice_get xs i ≡ Some (trailing_zeros w64 rest)
place_last rest xs i below is h = slice_get-get_or xs i 0 h ∙ ap (λ (x : ℕ). Some x) (sym (place_more rest xs i below is h).1)

picked_first : (test : ℕ → Bool) (b : Bool) (a : ℕ) (places : List ℕ) (i place : ℕ) → test a ≡ b → slice_get (cond b (a ∷ places) places) i ≡ Some place
    → ((a ≡ place) × (test a ≡ true)) ⊎ ((j : ℕ) × (slice_get places j ≡ Some place))
picked_first test true a places zero place holds is = inl (cc, holds)
picked_first test true a places (suc i) place holds is = inr (i, is)
picked_first test false a places i place holds is = inr (i, is)

picked_from : (test : ℕ → Bool) (a n i place : ℕ) → slice_get (filter test (range_with_len a n)) i ≡ Some place → (place < a + n) × (test place ≡ true)
picked_from test a zero i place is = absurd (cc)
picked_from test a (suc n) i place is = elim (picked_first test (test a) a (filter test (range_with_len (a + 1) n)) i place refl is) [
  | inl here ↦ (let e : a ≡ place = here.0 in omega arith, subst (λ (x : ℕ). test x ≡ true) here.0 here.1)
  | inr later ↦ (let rest : place < a + 1 + n = (picked_from test (a + 1) n later.0 place later.1).0 in omega arith, (picked_from test (a + 1) n later.0 place later.1).1)
]

-- a place that is picked is below n, and the test holds there
pub picked : (test : ℕ → Bool) (n i place : ℕ) → slice_get (where_holds test n) i ≡ Some place → (place < n) × (test place ≡ true)
unfolding where_holds
picked test n i place is = (omega (arith, (picked_from test 0 n i place is).0), (picked_from test 0 n i place is).1)

cleared_first : (p q : ℕ → Bool) (t a n : ℕ) (rest : List ℕ) → filter p (range_with_len a n) ≡ t ∷ rest → q t ≡ false → ((j : ℕ) → (j ≡ t → ⊥) → j < a + n → q j ≡ p j) → filter q (range_with_len a n) ≡ rest
cleared_first p q t a zero rest is fails same = absurd (cc)
cleared_first p q t a (suc n) rest is fails same = elim (cases_Bool (p a)) [
  | inl on ↦
      let here : a ≡ t = cc in
      let off : q a ≡ false = ap q here ∙ fails in
      let others : filter q (range_with_len (a + 1) n) ≡ filter p (range_with_len (a + 1) n) = agree q p (a + 1) n (λ j l u. same j (λ (d : j ≡ t). omega arith) (omega arith)) in
      cc
  | inr off ↦
      let later : filter p (range_with_len (a + 1) n) ≡ t ∷ rest = cc in
      let there : p t ≡ true = (picked_from p (a + 1) n 0 t (ap (λ (l : List ℕ). slice_get l 0) later)).1 in
      let none : q a ≡ false = same a (λ (d : a ≡ t). let on : p a ≡ true = ap p d ∙ there in cc) (omega arith) ∙ off in
      let others : filter q (range_with_len (a + 1) n) ≡ rest = cleared_first p q t (a + 1) n rest later fails (λ j d u. same j d (omega arith)) in
      cc
]

-- A word whose lowest place is taken out has the others.
pub first_out : (old new place : ℕ) → slice_get (where_holds (has old) 64) 0 ≡ Some place → IsMarked old new place false → where_holds (has old) 64 ≡ place ∷ where_holds (has new) 64
unfolding where_holds
first_out old new place first marked =
    let places : List ℕ = filter (has old) (range_with_len 0 64) in
    let cut : places ≡ place ∷ drop 1 places = drop_there places 0 place first in
    cut ∙ ap (λ (l : List ℕ). place ∷ l) (sym (cleared_first (has old) (has new) place 0 64 (drop 1 places) cut marked.same (λ j d u. marked.others j (omega arith) d)))
