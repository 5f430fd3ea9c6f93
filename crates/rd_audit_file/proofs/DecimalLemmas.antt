-- Decimal numbers without leading zeros.
use Rattle.std.proofs.Common.{◌≡◌, refl, sym, ◌∙◌, ap, ℕ, zero, suc, ◌+◌, ◌-◌, ◌*◌, ◌^◌, ◌<◌, ◌≤◌, arith, rules, List, [], ◌∷◌, ◌++◌, length, get_or, take, drop, Bool, true, false, cond, Some, None}
use Rattle.std.specs.Prelude.{◌==◌, not, nat_lt, position, decimal}
use Rattle.std.specs.Char.{is_ascii_digit}
use Rattle.std.specs.List.{prefix_len}
use Rattle.std.specs.Option.{option_and_then}
use Rattle.std.specs.Str.{all_ascii_digits}
use Rattle.std.proofs.lemmas.Bool.{eqb-true, and_parts}
use Rattle.std.proofs.lemmas.Bool.Decides.{nat_tests}
use Rattle.std.proofs.lemmas.Fmt.{decimal-digits_value, decimal_digit, digits_decimal, digits_value-decimal, first_decimal}
use Rattle.std.proofs.lemmas.List.{drop_more, drop_all, take-append-drop, length-append}
use Rattle.std.proofs.lemmas.List.Quantifiers.{position-Some}
use Rattle.std.proofs.lemmas.Option.{none-some, same_Some}
use Rattle.std.proofs.lemmas.Str.Parse.{IsNumeralModel, numerals_by_fold}
use Rattle.rd_audit_file.specs.Taken.{decimal_digit_of, decimal_from, decimal_of, fitting, zero_alone}

-- the number that digits say after those that said a number
abbrev said_by : ℕ → List ℕ → ℕ
said_by said [] = said
said_by said (c ∷ cs) = said_by (said * 10 + (c - 48)) cs

own : IsNumeralModel (λ ds. all_ascii_digits ds ≡ true) (said_by 0)
own = numerals_by_fold _ (search rules) said_by (search rules)

-- what digits say
decimal_from-digits : (said : ℕ) (ds : List ℕ) → all_ascii_digits ds ≡ true → decimal_from said ds ≡ Some (said_by said ds)
decimal_from-digits said [] all = refl
decimal_from-digits said (c ∷ cs) all =
    let both = and_parts (is_ascii_digit c) (all_ascii_digits cs) all in
    let first : is_ascii_digit c ≡ true = both.0 in
    rw first (decimal_from-digits (said * 10 + (c - 48)) cs both.1)

-- what says a number is digits alone
decimal_from_some : (said : ℕ) (ds : List ℕ) (n : ℕ) → decimal_from said ds ≡ Some n → (all_ascii_digits ds ≡ true) × (n ≡ said_by said ds)
decimal_from_some said [] n e = (refl, sym (same_Some said n e))
decimal_from_some said (c ∷ cs) n e = of (is_ascii_digit c) refl e (λ says. decimal_from_some (said * 10 + (c - 48)) cs n says)
  where
    of : (b : Bool) → is_ascii_digit c ≡ b → option_and_then (λ digit. decimal_from (said * 10 + digit) cs) (cond b (Some (c - 48)) None) ≡ Some n
        → (decimal_from (said * 10 + (c - 48)) cs ≡ Some n → (all_ascii_digits cs ≡ true) × (n ≡ said_by (said * 10 + (c - 48)) cs))
        → (all_ascii_digits (c ∷ cs) ≡ true) × (n ≡ said_by said (c ∷ cs))
    of true is e others = (rw is (others e).0, (others e).1)
    of false is e others = absurd (none-some n e)

-- A word that is a number is what is written of that number.
pub decimal_of_some : (word : List ℕ) (n : ℕ) → decimal_of word ≡ Some n → n < 2 ^ 64 → word ≡ decimal n
decimal_of_some [] n e small = absurd (none-some n e)
decimal_of_some (c ∷ cs) n e small = of (c == 48) refl e
  where
    alone : (cs : List ℕ) → c ≡ 48 → zero_alone cs ≡ Some n → c ∷ cs ≡ decimal n
    alone [] is e = let none : 0 ≡ n = same_Some 0 n e in rw (← none, is) (sym (decimal_digit 0 (omega arith)))
    alone (d ∷ ds) is e = absurd (none-some n e)

    of : (b : Bool) → (c == 48) ≡ b → cond b (zero_alone cs) (decimal_from 0 (c ∷ cs)) ≡ Some n → c ∷ cs ≡ decimal n
    of true is e = alone cs (eqb-true c 48 is) e
    of false is e =
        let says = decimal_from_some 0 (c ∷ cs) n e in
        let other : c ≡ 48 → ⊥ = grind (arith, nat_tests) in
        let value : n ≡ said_by 0 (c ∷ cs) = says.1 in
        let below : said_by 0 (c ∷ cs) < 2 ^ 64 = rw (← value) small in
        sym (ap decimal value ∙ decimal-digits_value own (c ∷ cs) says.0 (omega arith) (λ first. absurd (other first)) below)

digits_of_no_zero : (word : List ℕ) → all_ascii_digits word ≡ true → 48 < get_or word 0 0 → decimal_of word ≡ Some (said_by 0 word)
digits_of_no_zero [] all above = absurd (omega arith)
digits_of_no_zero (c ∷ cs) all above =
    let other : (c == 48) ≡ false = grind (arith, nat_tests) in
    rw other (decimal_from-digits 0 (c ∷ cs) all)

-- What is written of a number is that number.
pub decimal_of-decimal : (n : ℕ) → n < 2 ^ 64 → decimal_of (decimal n) ≡ Some n
decimal_of-decimal zero small = rw (decimal_digit 0 (omega arith)) refl
decimal_of-decimal (suc m) small =
    digits_of_no_zero (decimal (suc m)) (digits_decimal own (suc m) small) (first_decimal (suc m) (omega arith) small)
    ∙ ap Some (digits_value-decimal own (suc m) small)

before_last : (last : ℕ) (ds rest : List ℕ) → last < 48 → all_ascii_digits ds ≡ true → prefix_len (λ b. not (b == last)) (ds ++ last ∷ rest) ≡ length ds
before_last last [] rest low all = let same : (last == last) ≡ true = grind (arith, nat_tests) in rw same refl
before_last last (c ∷ cs) rest low all =
    let both = and_parts (is_ascii_digit c) (all_ascii_digits cs) all in
    let other : (c == last) ≡ false = grind (arith, nat_tests, both.0) in
    rw (other, before_last last cs rest low both.1) (omega arith)

-- A byte that is no digit is first after what is written of a number.
pub position-decimal : (last n : ℕ) (rest : List ℕ) → last < 48 → n < 2 ^ 64 → position (λ b. b == last) (decimal n ++ last ∷ rest) ≡ Some (length (decimal n))
position-decimal last n rest low small =
    let there = before_last last (decimal n) rest low (digits_decimal own n small) in
    let below : nat_lt (length (decimal n)) (length (decimal n ++ last ∷ rest)) ≡ true = rw (length-append (decimal n) (last ∷ rest)) (grind (arith, nat_tests)) in
    rw (there, below) refl

-- what stands before a byte, the byte, and what comes after it
pub position_parts : (last : ℕ) (text : List ℕ) (i : ℕ) → position (λ b. b == last) text ≡ Some i → text ≡ take i text ++ last ∷ drop (i + 1) text
position_parts last text i e =
    let there = position-Some (λ (b : ℕ). b == last) text i 0 e in
    let is : get_or text i 0 ≡ last = eqb-true (get_or text i 0) last there.1 in
    sym (take-append-drop i text) ∙ ap (λ (xs : List ℕ). take i text ++ xs) (drop_more text i 0 there.0 ∙ ap (λ (c : ℕ). c ∷ drop (i + 1) text) is)

-- ---- numbers that pass 64 bits

large : (n : ℕ) → 2 ^ 64 ≤ n → fitting 64 (Some n) ≡ None
large n h = let test : nat_lt n (2 ^ 64) ≡ false = grind (arith, nat_tests) in rw test refl

-- Digits that pass 64 bits don't come back.
too_large : (said : ℕ) (cs : List ℕ) → 2 ^ 64 ≤ said → fitting 64 (decimal_from said cs) ≡ None
too_large said [] h = large said h
too_large said (c ∷ cs) h = elim (decimal_digit_of c) as (λ o. fitting 64 (option_and_then (λ digit. decimal_from (said * 10 + digit) cs) o) ≡ None) [
  | None ↦ refl
  | Some digit ↦ too_large (said * 10 + digit) cs (omega arith)
]

-- one more digit takes the number past 64 bits
pub past_more : (said digit i : ℕ) (digits : List ℕ) → i < length digits → decimal_digit_of (get_or digits i 0) ≡ Some digit → 2 ^ 64 ≤ said * 10 + digit
    → fitting 64 (decimal_from said (drop i digits)) ≡ None
past_more said digit i digits there e h =
    let first : decimal_from said (get_or digits i 0 ∷ drop (i + 1) digits) ≡ decimal_from (said * 10 + digit) (drop (i + 1) digits) = rw e refl in
    ap (λ (ds : List ℕ). fitting 64 (decimal_from said ds)) (drop_more digits i 0 there)
    ∙ ap (fitting 64) first
    ∙ too_large (said * 10 + digit) (drop (i + 1) digits) h

-- all digits are read
pub all_digits : (said i : ℕ) (digits : List ℕ) → length digits ≤ i → said < 2 ^ 64 → fitting 64 (decimal_from said (drop i digits)) ≡ Some said
all_digits said i digits past h =
    let test : nat_lt said (2 ^ 64) ≡ true = grind (arith, nat_tests) in
    ap (λ (ds : List ℕ). fitting 64 (decimal_from said ds)) (drop_all i digits past) ∙ rw test refl
