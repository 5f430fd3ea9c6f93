-- Numbers: what digits say.
use Rattle.std.proofs.Common.{◌≡◌, refl, ap, ◌∙◌, ℕ, ◌+◌, ◌-◌, ◌*◌, ◌^◌, ◌<◌, ◌≤◌, arith, List, [], ◌∷◌, Bool, true, false, inl, inr, length, get_or, drop, Option, Some, None}
use Rattle.std.specs.Prelude.{nat_lt, nat_le, ◌&&◌, cond}
use Rattle.std.specs.Option.{option_and_then}
use Rattle.std.proofs.Math.Nat.{le-mul_of_pos_right, le_trans}
use Rattle.std.proofs.lemmas.List.{drop_more, drop_all}
use Rattle.std.proofs.lemmas.Bool.{cases_lt}
use Rattle.std.proofs.lemmas.Bool.Decides.{nat_tests}
use Rattle.rd_script.specs.Numbers.{below_base, digit_of, digits_from, small}

large : (n : ℕ) → 2 ^ 64 ≤ n → small (Some n) ≡ None
large n h = grind (arith, nat_tests)

-- Digits that pass 64 bits don't come back.
pub too_large : (base said : ℕ) (cs : List ℕ) → 1 ≤ base → 2 ^ 64 ≤ said → small (digits_from base said cs) ≡ None
too_large base said [] one h = large said h
too_large base said (c ∷ cs) one h = elim (digit_of base c) as (λ o. small (option_and_then (λ digit. digits_from base (said * base + digit) cs) o) ≡ None) [
  | None ↦ refl
  | Some digit ↦
      let more : said ≤ said * base = le-mul_of_pos_right said (omega arith) in
      too_large base (said * base + digit) cs one (omega (arith, more))
]

-- what digits say, from the first on
pub digits_more : (base said : ℕ) (c digit : ℕ) (cs : List ℕ) → digit_of base c ≡ Some digit → digits_from base said (c ∷ cs) ≡ digits_from base (said * base + digit) cs
digits_more base said c digit cs e = rw e refl

pub digits_none : (base said : ℕ) (c : ℕ) (cs : List ℕ) → digit_of base c ≡ None → digits_from base said (c ∷ cs) ≡ None
digits_none base said c cs e = rw e refl

-- one more digit takes the number past 64 bits
pub past_more : (base said digit i : ℕ) (digits : List ℕ) → i < length digits → 1 ≤ base → digit_of base (get_or digits i 0) ≡ Some digit → 2 ^ 64 ≤ said * base + digit → small (digits_from base said (drop i digits)) ≡ None
past_more base said digit i digits there one e h =
    ap (λ (ds : List ℕ). small (digits_from base said ds)) (drop_more digits i 0 there)
    ∙ ap small (digits_more base said (get_or digits i 0) digit (drop (i + 1) digits) e)
    ∙ too_large base (said * base + digit) (drop (i + 1) digits) one h

-- all digits are read
pub all_digits : (base said i : ℕ) (digits : List ℕ) → length digits ≤ i → said < 2 ^ 64 → small (digits_from base said (drop i digits)) ≡ Some said
all_digits base said i digits past h = ap (λ (ds : List ℕ). small (digits_from base said ds)) (drop_all i digits past) ∙ fits said h
  where
    fits : (n : ℕ) → n < 2 ^ 64 → small (Some n) ≡ Some n
    fits n below = grind (arith, nat_tests)

-- ---- four digits of base 16

-- the most that so many digits of base 16 say after those that said a number
top : ℕ → List ℕ → ℕ
top said [] = said
top said (c ∷ cs) = top (said * 16 + 15) cs

below_base-below : (base digit d : ℕ) → below_base base digit ≡ Some d → d < base
below_base-below base digit d e = elim (cases_lt digit base) [
  | inl below ↦
      let test : nat_lt digit base ≡ true = grind (arith, nat_tests) in
      let same : digit ≡ d = cc (e, test) in
      omega (arith, same)
  | inr above ↦
      let test : nat_lt digit base ≡ false = grind (arith, nat_tests) in
      absurd (cc (e, test))
]

pub digit_below : (base c d : ℕ) → digit_of base c ≡ Some d → d < base
digit_below base c d e = of (nat_le 0x30 c && nat_le c 0x39) (nat_le 0x61 c && nat_le c 0x66) e
  where
    of : (a b : Bool) → cond a (below_base base (c - 0x30)) (cond b (below_base base (c - 0x61 + 10)) None) ≡ Some d → d < base
    of true b e = below_base-below base (c - 0x30) d e
    of false true e = below_base-below base (c - 0x61 + 10) d e
    of false false e = cc e

digits_top : (said most u : ℕ) (cs : List ℕ) → said ≤ most → digits_from 16 said cs ≡ Some u → u ≤ top most cs
unfolding top
digits_top said most u [] low e = let same : said ≡ u = cc e in omega arith
digits_top said most u (c ∷ cs) low e =
    (elim (digit_of 16 c) as (λ o. digit_of 16 c ≡ o → option_and_then (λ digit. digits_from 16 (said * 16 + digit) cs) o ≡ Some u → u ≤ top (most * 16 + 15) cs) [
      | None ↦ λ h is. cc is
      | Some d ↦ λ h is. let below = digit_below 16 c d h in digits_top (said * 16 + d) (most * 16 + 15) u cs (omega arith) is
    ]) refl e

pub small_is : (o : Option ℕ) (u : ℕ) → small o ≡ Some u → o ≡ Some u
small_is None u e = e
small_is (Some n) u e = of (nat_lt n (2 ^ 64)) e
  where
    of : (b : Bool) → cond b (Some n) None ≡ Some u → Some n ≡ Some u
    of true e = e
    of false e = cc e

top_four : (cs : List ℕ) → length cs ≤ 4 → top 0 cs ≤ 65535
unfolding top
top_four [] h = omega arith
top_four (a ∷ []) h = omega arith
top_four (a ∷ b ∷ []) h = omega arith
top_four (a ∷ b ∷ c ∷ []) h = omega arith
top_four (a ∷ b ∷ c ∷ d ∷ []) h = omega arith
top_four (a ∷ b ∷ c ∷ d ∷ e ∷ cs) h = absurd (omega arith)

-- four digits are a unit
pub four_fit : (cs : List ℕ) (u : ℕ) → length cs ≤ 4 → small (digits_from 16 0 cs) ≡ Some u → u ≤ 65535
four_fit cs u h e = le_trans (digits_top 0 0 u cs (omega arith) (small_is (digits_from 16 0 cs) u e)) (top_four cs h)
