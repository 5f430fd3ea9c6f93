-- Words that are numbers.
use Rattle.std.specs.Prelude.{ℕ, ◌+◌, ◌-◌, ◌*◌, ◌^◌, ◌&&◌, ◌==◌, nat_le, nat_lt, Bool, true, false, if◌then◌else◌, List, [], ◌∷◌, Option, Some, None}
use Rattle.std.specs.Option.{option_and_then}
use Rattle.rd_script.specs.declared.why.LineWhy.TheVariants as why
use Rattle.rd_script.specs.Row.{Row, word, done, test, given, ◌>>=◌, ◌>>◌}

-- the number, if it is below the base
abbrev pub below_base : ℕ → ℕ → Option ℕ
below_base base digit = if nat_lt digit base then Some digit else None

-- what a digit of a base up to 16 stands for: `0` to `9`, and then `a` to `f`
abbrev pub digit_of : ℕ → ℕ → Option ℕ
digit_of base c =
    if nat_le 0x30 c && nat_le c 0x39 then below_base base (c - 0x30)
    else (if nat_le 0x61 c && nat_le c 0x66 then below_base base (c - 0x61 + 10) else None)

-- The number that digits say after those that said a number. No other character may be among them.
abbrev pub digits_from : ℕ → ℕ → List ℕ → Option ℕ
digits_from base said [] = Some said
digits_from base said (c ∷ cs) = option_and_then (λ digit. digits_from base (said * base + digit) cs) (digit_of base c)

-- digits in a base, and at least one
abbrev pub digits_in : ℕ → List ℕ → Option ℕ
digits_in base [] = None
digits_in base (c ∷ cs) = digits_from base 0 (c ∷ cs)

-- after a zero nothing, or an `x` and digits of base 16
abbrev pub after_zero : List ℕ → Option ℕ
after_zero [] = Some 0
after_zero (c ∷ cs) = if c == 0x78 then digits_in 16 cs else None

-- The number that a word is: decimal without leading zeros, or `0x` and lower-case digits.
abbrev pub number_of : List ℕ → Option ℕ
number_of [] = None
number_of (c ∷ cs) = if c == 0x30 then after_zero cs else digits_from 10 0 (c ∷ cs)

-- a number of 64 bits
abbrev pub small : Option ℕ → Option ℕ
small None = None
small (Some n) = if nat_lt n (2 ^ 64) then Some n else None

-- a number of a range
unfoldable pub number_word : ℕ → ℕ → Row ℕ
number_word least most = do
  w ← word
  n ← given (small (number_of w)) why.Number
  test (nat_le least n && nat_le n most) why.Number
  done n

-- a number of 64 bits
abbrev pub number64_word : Row ℕ
number64_word = number_word 0 (2 ^ 64 - 1)

-- a number of 32 bits
abbrev pub number32_word : Row ℕ
number32_word = number_word 0 (2 ^ 32 - 1)

-- `0` or `1`, which say whether
abbrev pub flag_of : List ℕ → Option Bool
flag_of [] = None
flag_of (c ∷ []) = if c == 0x30 then Some false else (if c == 0x31 then Some true else None)
flag_of (c ∷ d ∷ ds) = None

unfoldable pub flag_word : Row Bool
flag_word = do
  w ← word
  given (flag_of w) why.Number
