-- Texts: units and ranges, one after another.
use Rattle.std.proofs.Common.{◌≡◌, refl, sym, ap, ◌∙◌, ℕ, suc, ◌+◌, ◌-◌, ◌*◌, ◌%◌, ◌<◌, ◌≤◌, arith, List, [], ◌∷◌, ◌++◌, append-nil, append_assoc, Bool, true, false, cond, inl, inr, length, get_or, take, drop, Option, Some, None, Result, Ok, Err}
use Rattle.std.specs.Prelude.{nat_le, nat_lt, ◌==◌, ◌&&◌}
use Rattle.std.specs.List.{list_all}
use Rattle.std.specs.Borrow.{Bor}
use Rattle.std.specs.Option.{option_and_then, option_map}
use Rattle.std.specs.Result.{MatchResult, is_ok, result_ok}
use Rattle.std.specs.Str.{IsUtf8, is_utf8}
use Rattle.std.proofs.lemmas.Str.{IsUtf8-from_is_utf8, is_utf8-from_IsUtf8}
use Rattle.std.proofs.lemmas.Bool.{cases_Bool, false_from_ne_true, ne_eqb}
use Rattle.std.proofs.lemmas.List.{take_all}
use Rattle.std.proofs.lemmas.Bool.Decides.{nat_tests}
use Rattle.hex.specs.Hex.{decode_pairs, digit_or_error, hex_digit_value, pair_value, ◌>>=◌}
use Rattle.hex.specs.declared.error.FromHexError.{FromHexError}
use Rattle.hex.specs.declared.error.FromHexError.TheVariants.{OddLength}
use Rattle.rd_script.specs.Numbers.{digit_of, digits_from, small}
use Rattle.rd_script.specs.Texts.{escaped, hex_of, is_dash, is_lower, is_place, is_visible, pairs_of, prepended, unit_before, units_after}
use Rattle.rd_script.proofs.NumberLemmas.{small_is}

-- how much is left, where the end counts too
abbrev pub left_len : Option (Bor (List ℕ)) → ℕ
left_len None = 0
left_len (Some text) = suc (length text.now)

-- a place is text
pub is_place-of : (w : List ℕ) (b : Bool) → 0 < length w → (b ≡ true → IsUtf8 w) → (b ≡ false → ¬ (IsUtf8 w)) → b ≡ is_place w
is_place-of w b some text no_text =
    let long : nat_le 1 (length w) ≡ true = grind (arith, nat_tests) in
    elim (cases_Bool b) [
      | inl holds ↦ rw (long, is_utf8-from_IsUtf8 w (text holds)) holds
      | inr holds ↦
          let other : is_utf8 w ≡ false = false_from_ne_true (is_utf8 w) (λ is. no_text holds (IsUtf8-from_is_utf8 w is)) in
          rw (long, other) holds
    ]

pub is_place-from : {T E : Type 0} (w : List ℕ) (b : Bool) (r : Result T E) (P : T → Type 0) (Q : E → Type 0) → (length w == 0) ≡ false → b ≡ is_ok r → MatchResult r (λ t. P t × IsUtf8 w) (λ e. ¬ (IsUtf8 w) × Q e) → b ≡ is_place w
is_place-from w b (Ok t) P Q some is h = is_place-of w b (grind (arith, nat_tests)) (λ e. h.1) (λ e. cc (is, e))
is_place-from w b (Err e) P Q some is h = is_place-of w b (grind (arith, nat_tests)) (λ e. cc (is, e)) (λ e. h.0)

-- a visible character other than `%` is its own unit
pub plain_unit : (c : ℕ) (cs : List ℕ) → (c ≡ 0x25 → ⊥) → is_visible c ≡ true → units_after 0 (c ∷ cs) ≡ option_map (λ us. c ∷ us) (units_after 0 cs)
plain_unit c cs other seen =
    let some : (c == 0) ≡ false = grind (arith, nat_tests) in
    let plain : (c == 0x25) ≡ false = grind (arith, nat_tests) in
    rw (plain, seen, some) refl

-- four digits and what comes after them, where they say a unit
pub four_units : (digits four others : List ℕ) (unit : ℕ) → 4 ≤ length digits → four ≡ take 4 digits → others ≡ drop 4 digits → small (digits_from 16 0 four) ≡ Some unit
    → unit_before (escaped (take 4 digits)) (units_after 4 digits) ≡ unit_before (Some unit) (units_after 0 others)
four_units [] four others unit long f o e = absurd (omega (arith, long))
four_units (a ∷ []) four others unit long f o e = absurd (omega (arith, long))
four_units (a ∷ b ∷ []) four others unit long f o e = absurd (omega (arith, long))
four_units (a ∷ b ∷ c ∷ []) four others unit long f o e = absurd (omega (arith, long))
four_units (a ∷ b ∷ c ∷ d ∷ cs) four others unit long f o e =
    let says : digits_from 16 0 (a ∷ b ∷ c ∷ d ∷ []) ≡ Some unit = small_is (digits_from 16 0 (a ∷ b ∷ c ∷ d ∷ [])) unit (ap (λ (ds : List ℕ). small (digits_from 16 0 ds)) (sym f) ∙ e) in
    ap (λ (u : Option ℕ). unit_before u (units_after 0 cs)) says ∙ ap (λ (ds : List ℕ). unit_before (Some unit) (units_after 0 ds)) (sym o)

-- a unit that isn't zero stands before the others
pub unit_kept : (unit : ℕ) (units : Option (List ℕ)) → (unit ≡ 0 → ⊥) → unit_before (Some unit) units ≡ option_map (λ us. unit ∷ us) units
unit_kept unit units some = rw (ne_eqb unit 0 some) refl

-- zero is no unit
pub no_zero_unit : (unit : ℕ) (units : Option (List ℕ)) → unit ≡ 0 → unit_before (Some unit) units ≡ None
no_zero_unit unit units zero = rw zero refl

-- ---- bytes

-- a lower-case digit stands for what any hexadecimal digit does
digit_value : (c : ℕ) → is_lower c ≡ true → hex_digit_value c ≡ digit_of 16 c
digit_value c is = elim (cases_Bool (nat_le 0x30 c && nat_le c 0x39)) [
  | inl e ↦
      let upper : (nat_le 65 c && nat_le c 70) ≡ false = grind (arith, nat_tests) in
      let letter : (nat_le 97 c && nat_le c 102) ≡ false = grind (arith, nat_tests) in
      let below : nat_lt (c - 48) 16 ≡ true = grind (arith, nat_tests) in
      rw (upper, letter, e, below) refl
  | inr e ↦
      let letter : (nat_le 97 c && nat_le c 102) ≡ true = grind (arith, nat_tests) in
      let upper : (nat_le 65 c && nat_le c 70) ≡ false = grind (arith, nat_tests) in
      let below : nat_lt (c - 97 + 10) 16 ≡ true = grind (arith, nat_tests) in
      let same : c - 97 + 10 ≡ c - 87 = grind (arith, nat_tests) in
      rw (upper, letter, e, below, same) refl
]

no_digit : (c : ℕ) → is_lower c ≡ false → digit_of 16 c ≡ None
no_digit c is =
    let digit : (nat_le 0x30 c && nat_le c 0x39) ≡ false = grind (arith, nat_tests) in
    let letter : (nat_le 0x61 c && nat_le c 0x66) ≡ false = grind (arith, nat_tests) in
    rw (digit, letter) refl

-- two lower-case digits are the byte that they say
pair_said : (high low i : ℕ) → is_lower high ≡ true → is_lower low ≡ true → result_ok (pair_value high low i) ≡ digits_from 16 0 (high ∷ low ∷ [])
pair_said high low i h l = rw (digit_value high h, digit_value low l) (of (digit_of 16 high) (digit_of 16 low))
  where
    of : (o p : Option ℕ) → result_ok (digit_or_error high i o >>= λ a. digit_or_error low (i + 1) p >>= λ b. Ok (a * 16 + b)) ≡ option_and_then (λ a. option_and_then (λ b. Some ((0 * 16 + a) * 16 + b)) p) o
    of None p = refl
    of (Some a) None = refl
    of (Some a) (Some b) = ap Some (omega arith)

joined_none : (o : Option ℕ) → prepended {A = ℕ} o None ≡ None
joined_none None = refl
joined_none (Some x) = refl

joined_parts : (r : Result ℕ FromHexError) (s : Result (List ℕ) FromHexError) → result_ok (r >>= λ byte. s >>= λ bytes. Ok (byte ∷ bytes)) ≡ prepended (result_ok r) (result_ok s)
joined_parts (Err e) s = refl
joined_parts (Ok x) (Err e) = refl
joined_parts (Ok x) (Ok xs) = refl

-- an odd number of digits is none
odd_none : (i : ℕ) (w : List ℕ) → length w % 2 ≡ 1 → result_ok (decode_pairs i w) ≡ None
unfolding decode_pairs
odd_none i [] h = absurd (omega arith)
odd_none i (c ∷ []) h = refl
odd_none i (high ∷ low ∷ cs) h =
    joined_parts (pair_value high low i) (decode_pairs (i + 2) cs)
    ∙ ap (prepended (result_ok (pair_value high low i))) (odd_none (i + 2) cs (omega arith))
    ∙ joined_none (result_ok (pair_value high low i))

abbrev no_byte : Option ℕ
no_byte = None

said_none : (high low : ℕ) → is_lower low ≡ false → digits_from 16 0 (high ∷ low ∷ []) ≡ None
said_none high low l = rw (no_digit low l) (of (digit_of 16 high))
  where
    of : (o : Option ℕ) → option_and_then (λ (a : ℕ). no_byte) o ≡ None
    of None = refl
    of (Some a) = refl

-- lower-case digits are decoded pair by pair
pairs_said : (i : ℕ) (w : List ℕ) → cond (list_all is_lower w) (result_ok (decode_pairs i w)) None ≡ pairs_of w
unfolding decode_pairs
pairs_said i [] = refl
pairs_said i (c ∷ []) = of (is_lower c)
  where
    of : (b : Bool) → cond {A = Option (List ℕ)} (b && true) None None ≡ None
    of true = refl
    of false = refl
pairs_said i (high ∷ low ∷ cs) = of (is_lower high) (is_lower low) (list_all is_lower cs) refl refl (pairs_said (i + 2) cs)
  where
    all : Option (List ℕ)
    all = result_ok (pair_value high low i >>= λ byte. decode_pairs (i + 2) cs >>= λ bytes. Ok (byte ∷ bytes))

    of : (a b d : Bool) → is_lower high ≡ a → is_lower low ≡ b → cond d (result_ok (decode_pairs (i + 2) cs)) None ≡ pairs_of cs → cond (a && (b && d)) all None ≡ prepended (digits_from 16 0 (high ∷ low ∷ [])) (pairs_of cs)
    of false b d h l rest = rw (no_digit high h) refl
    of true false d h l rest = rw (said_none high low l) refl
    of true true false h l rest = rw (← rest) (sym (joined_none (digits_from 16 0 (high ∷ low ∷ []))))
    of true true true h l rest = joined_parts (pair_value high low i) (decode_pairs (i + 2) cs) ∙ rw (pair_said high low i h l, rest) refl

-- what a word of digits is
pub hex_pairs : (w : List ℕ) → is_dash w ≡ false → (length w == 0) ≡ false → hex_of w ≡ pairs_of w
hex_pairs [] dash some = absurd cc
hex_pairs (c ∷ cs) dash some = rw dash (ap (λ (o : Option (List ℕ)). cond (list_all is_lower (c ∷ cs)) o None) (of (length (c ∷ cs) % 2 == 1) refl) ∙ pairs_said 0 (c ∷ cs))
  where
    of : (b : Bool) → (length (c ∷ cs) % 2 == 1) ≡ b → result_ok (cond b (Err OddLength) (decode_pairs 0 (c ∷ cs))) ≡ result_ok (decode_pairs 0 (c ∷ cs))
    of true e = sym (odd_none 0 (c ∷ cs) (grind (arith, nat_tests)))
    of false e = refl

-- no pair is read yet
pub none_read : (bytes : List ℕ) (all : Option (List ℕ)) → bytes ≡ [] → option_map (λ bs. bytes ++ bs) all ≡ all
none_read bytes None none = refl
none_read bytes (Some bs) none = ap (λ (xs : List ℕ). Some (xs ++ bs)) none

-- the first pair, and those after it
pub next_pair : (digits : List ℕ) (byte : ℕ) → 2 ≤ length digits → digits_from 16 0 (get_or digits 0 0 ∷ get_or digits 1 0 ∷ []) ≡ Some byte → pairs_of digits ≡ option_map (λ bs. byte ∷ bs) (pairs_of (take (length digits - 2) (drop 2 digits)))
next_pair [] byte two e = absurd (omega (arith, two))
next_pair (c ∷ []) byte two e = absurd (omega (arith, two))
next_pair (high ∷ low ∷ cs) byte two e =
    ap (λ (o : Option ℕ). prepended o (pairs_of cs)) e ∙ ap (λ (ds : List ℕ). option_map (λ bs. byte ∷ bs) (pairs_of ds)) (sym (take_all (suc (suc (length cs)) - 2) cs (omega arith)))

-- all pairs are read
pub none_left : (bytes rest : List ℕ) (all : Option (List ℕ)) → (length rest == 0) ≡ true → option_map (λ bs. bytes ++ bs) (pairs_of rest) ≡ all → Some bytes ≡ all
none_left bytes [] all h is = ap Some (sym (append-nil bytes)) ∙ is
none_left bytes (c ∷ cs) all h is = absurd (grind (arith, nat_tests))

-- one more pair is read
pub more_pairs : (old new : List ℕ) (byte : ℕ) (rest others all : Option (List ℕ)) → new ≡ old ++ byte ∷ [] → rest ≡ option_map (λ bs. byte ∷ bs) others → option_map (λ bs. old ++ bs) rest ≡ all → option_map (λ bs. new ++ bs) others ≡ all
more_pairs old new byte rest None all pushed is h = rw is at h
more_pairs old new byte rest (Some cs) all pushed is h =
    ap (λ (bs : List ℕ). Some (bs ++ cs)) pushed ∙ ap Some (append_assoc old (byte ∷ []) cs) ∙ rw is at h

-- a pair is wrong
pub no_pairs : (bytes : List ℕ) (rest all : Option (List ℕ)) → rest ≡ None → option_map (λ bs. bytes ++ bs) rest ≡ all → None ≡ all
no_pairs bytes rest all is h = rw is at h
