-- The word of a load's number.
use Rattle.std.proofs.Common.{◌≡◌, ◌∙◌, refl, sym, ap, ap₂, subst, ℕ, ◌<◌, ◌≤◌, ◌^◌, arith, List, [], ◌∷◌, length, get_or, map, Bool, false, true, Option, Some, None, rules}
use Rattle.std.specs.Prelude.{Result, Ok, Err, codes, decimal, nat_lt}
use Rattle.std.specs.Result.{OkIff}
use Rattle.std.specs.Str.{all_ascii_digits}
use Rattle.std.specs.Str.Parse.{ParsesUnsigned, digits_value}
use Rattle.std.proofs.lemmas.Bool.Decides.{nat_tests}
use Rattle.std.proofs.lemmas.Fmt.{decimal-digits_value, decimal_digit, first_decimal, parse-decimal}
use Rattle.std.proofs.lemmas.Str.Parse.{IsNumeralModel, numerals_by_value, parse_plain}
use Rattle.rd_cli.specs.Shapes.{FindsAt, FindsLoad, FindsLoadNumber, IsLoadNumber, is_path}

-- the number of digits
own : IsNumeralModel (λ ds. all_ascii_digits ds ≡ true) (digits_value 10)
own = numerals_by_value _ (search rules)

-- Its first character comes after the digit 0.
above_zero : (word : List ℕ) (number : ℕ) → IsLoadNumber number → word ≡ decimal number → 48 < get_or word 0 0
above_zero word number within is = subst (λ (w : List ℕ). 48 < get_or w 0 0) (sym is) (first_decimal number (omega (arith, within.0)) (omega (arith, within.1)))

-- Another word is no number.
pub not_above : (word : List ℕ) → (48 < get_or word 0 0 → ⊥) → FindsLoadNumber word None
not_above word low number within is = low (above_zero word number within is)

-- The number is what a parse of it gives.
parsed : {E : Type 0} (word : List ℕ) (number : ℕ) (r : Result ℕ E) → ParsesUnsigned 32 10 word r → IsLoadNumber number → word ≡ decimal number → r ≡ Ok number
parsed word number r parses within is = parse-decimal 32 number word r (omega (arith, within.1)) (omega (arith, within.1)) is parses

pub not_parsed : {E : Type 0} (word : List ℕ) (r : Result ℕ E) (e : E) → ParsesUnsigned 32 10 word r → r ≡ Err e → FindsLoadNumber word None
not_parsed word r e parses failed number within is = absurd (cc (failed, parsed word number r parses within is))

same_ok : {E : Type 0} (m n : ℕ) → ◌≡◌ {A = Result ℕ E} (Ok m) (Ok n) → m ≡ n
same_ok m n e = cc

pub not_most : {E : Type 0} (word : List ℕ) (r : Result ℕ E) (other : ℕ) → ParsesUnsigned 32 10 word r → r ≡ Ok other → 1000 < other → FindsLoadNumber word None
not_most word r other parses got large number within is =
    let same : other ≡ number = same_ok other number (sym got ∙ parsed word number r parses within is) in
    absurd (omega (arith, large, same, within.1))

-- A word is the decimal of what its parse gives.
decimal_of : (word : List ℕ) (number : ℕ) → 48 < get_or word 0 0 → (all_ascii_digits word ≡ true) × (0 < length word) × (digits_value 10 word < 2 ^ 32) → number ≡ digits_value 10 word → decimal number ≡ word
decimal_of word number above all is =
    ap decimal is ∙ decimal-digits_value own word all.0 all.1 (λ zero. absurd (omega (arith, zero, above))) (omega (arith, all.2))

pub found : {E : Type 0} (word : List ℕ) (r : Result ℕ E) (number : ℕ) → 48 < get_or word 0 0 → ParsesUnsigned 32 10 word r → r ≡ Ok number → number ≤ 1000 → FindsLoadNumber word (Some number)
found {E} word r number above parses got most = (sym is, (least, most))
  where
    plain : get_or word 0 0 ≡ 43 → ⊥
    plain plus = absurd (omega (arith, plus, above))

    gives : OkIff {E = E} (Ok number) ((all_ascii_digits word ≡ true) × (0 < length word) × (digits_value 10 word < 2 ^ 32)) (digits_value 10 word)
    gives = subst (λ (x : Result ℕ E). OkIff x ((all_ascii_digits word ≡ true) × (0 < length word) × (digits_value 10 word < 2 ^ 32)) (digits_value 10 word)) got (parse_plain own 32 word r parses plain)

    is : decimal number ≡ word
    is = decimal_of word number above gives.0 gives.1

    not_zero : number ≡ 0 → ⊥
    not_zero zero =
        let first : get_or word 0 0 ≡ 48 = ap (λ (w : List ℕ). get_or w 0 0) (sym is ∙ ap decimal zero ∙ decimal_digit 0 (omega arith)) in
        absurd (omega (arith, first, above))

    least : 1 ≤ number
    least = omega (arith, not_zero)

-- Two words are those of a load where the first is its name, and the second its number.
found_load : (name word : List ℕ) (found : Option ℕ) → name ≡ codes "load" → FindsLoadNumber word found → FindsLoad (name ∷ word ∷ []) found
found_load name word (Some number) named (is, within) = (ap₂ (λ (n w : List ℕ). n ∷ w ∷ []) named is, within)
found_load name word None named none = λ number shape. none number shape.1 (ap (λ (ws : List (List ℕ)). get_or ws 1 []) shape.0)

-- ---- what tests say

pub low_test : (word bytes : List ℕ) (above : Bool) → bytes ≡ word → above ≡ nat_lt 48 (get_or bytes 0 0) → above ≡ false → 48 < get_or word 0 0 → ⊥
low_test word bytes above same is low high =
    let test : nat_lt 48 (get_or word 0 0) ≡ false = ap (λ (w : List ℕ). nat_lt 48 (get_or w 0 0)) (sym same) ∙ sym is ∙ low in
    absurd (grind (arith, nat_tests, test, high))

pub high_test : (word bytes : List ℕ) (above : Bool) → bytes ≡ word → above ≡ nat_lt 48 (get_or bytes 0 0) → above ≡ true → 48 < get_or word 0 0
high_test word bytes above same is high =
    let test : nat_lt 48 (get_or word 0 0) ≡ true = ap (λ (w : List ℕ). nat_lt 48 (get_or w 0 0)) (sym same) ∙ sym is ∙ high in
    grind (arith, nat_tests, test)

-- a list of two
two_items : {X : Type 0} (xs : List X) (d e : X) → 2 ≤ length xs → length xs < 3 → xs ≡ get_or xs 0 d ∷ get_or xs 1 e ∷ []
two_items [] d e least below = absurd (omega (arith, least))
two_items (x ∷ []) d e least below = absurd (omega (arith, least))
two_items (x ∷ y ∷ []) d e least below = refl
two_items (x ∷ y ∷ z ∷ xs) d e least below = absurd (omega (arith, below))

pub two_words : {X : Type 0} (bytes : X → List ℕ) (xs : List X) (x y : X) (first second : List ℕ) → 2 ≤ length xs → length xs < 3 → x ≡ get_or xs 0 x → y ≡ get_or xs 1 y → bytes x ≡ first → bytes y ≡ second
    → map bytes xs ≡ first ∷ second ∷ []
two_words bytes xs x y first second least below is_x is_y named said =
    let both : xs ≡ x ∷ y ∷ [] = two_items xs x y least below ∙ ap₂ (λ (a b : _). a ∷ b ∷ []) (sym is_x) (sym is_y) in
    ap (map bytes) both ∙ ap₂ (λ (a b : List ℕ). a ∷ b ∷ []) named said

-- Two words are a command of this name at no path, where the first is another or the second is no path.
pub not_at : {X : Type 0} (bytes : X → List ℕ) (xs : List X) (x y : X) (name : List ℕ) → 2 ≤ length xs → length xs < 3 → x ≡ get_or xs 0 x → y ≡ get_or xs 1 y
    → (bytes x ≡ name → is_path (bytes y) ≡ true → ⊥) → FindsAt name (map bytes xs) None
not_at bytes xs x y name least below is_x is_y other path (words, good) =
    let both = sym (two_words bytes xs x y (bytes x) (bytes y) least below is_x is_y refl refl) ∙ words in
    other (ap (λ (ws : List (List ℕ)). get_or ws 0 []) both) (ap (λ (ws : List (List ℕ)). is_path (get_or ws 1 [])) both ∙ good)

pub found_words : {X : Type 0} (bytes : X → List ℕ) (xs : List X) (x y : X) (found : Option ℕ) → 2 ≤ length xs → length xs < 3 → x ≡ get_or xs 0 x → y ≡ get_or xs 1 y → bytes x ≡ codes "load"
    → FindsLoadNumber (bytes y) found → FindsLoad (map bytes xs) found
found_words bytes xs x y found least below first second named is =
    let both : xs ≡ x ∷ y ∷ [] = two_items xs x y least below ∙ ap₂ (λ (a b : _). a ∷ b ∷ []) (sym first) (sym second) in
    subst (λ (ws : List (List ℕ)). FindsLoad ws found) (sym (ap (map bytes) both)) (found_load (bytes x) (bytes y) found named is)
