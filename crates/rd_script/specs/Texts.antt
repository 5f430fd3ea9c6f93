-- Words that are names, units, bytes and ranges.
use Rattle.std.specs.Prelude.{ℕ, zero, suc, ◌+◌, ◌&&◌, ◌||◌, ◌==◌, nat_le, Bool, false, if◌then◌else◌, List, [], ◌∷◌, length, take, drop, position, Option, Some, None}
use Rattle.std.specs.List.{list_all, slice_split}
use Rattle.std.specs.Option.{option_and_then, option_map}
use Rattle.std.specs.Result.{result_ok}
use Rattle.std.specs.Str.{is_utf8}
use Rattle.hex.specs.Hex.{decode_of}
use Rattle.rd_irp.specs.declared.op.Range.{Range}
use Rattle.rd_script.specs.declared.why.LineWhy.{LineWhy}
use Rattle.rd_script.specs.declared.why.LineWhy.TheVariants as why
use Rattle.rd_script.specs.Row.{Row, word, done, test, given, ◌>>=◌, ◌>>◌}
use Rattle.rd_script.specs.Numbers.{number_of, small, digits_from, digits_in}

-- ---- names

-- a letter or a digit of a handle's name
abbrev pub is_handle_byte : ℕ → Bool
is_handle_byte c = nat_le 0x61 c && nat_le c 0x7a || nat_le 0x30 c && nat_le c 0x39

-- up to eight letters `a` to `z` or digits, and at least one
abbrev pub is_handle : List ℕ → Bool
is_handle w = nat_le 1 (length w) && nat_le (length w) 8 && list_all is_handle_byte w

-- a visible ASCII character
abbrev pub is_visible : ℕ → Bool
is_visible c = nat_le 0x21 c && nat_le c 0x7e

-- up to seven visible ASCII characters, and at least one
abbrev pub is_application_name : List ℕ → Bool
is_application_name w = nat_le 1 (length w) && nat_le (length w) 7 && list_all is_visible w

-- an application's own name of a handle
unfoldable pub handle_word : Row (List ℕ)
handle_word = do
  w ← word
  test (is_handle w) why.Name
  done w

-- the name of a device or a port
unfoldable pub name_word : Row (List ℕ)
name_word = do
  w ← word
  test (is_application_name w) why.Name
  done w

-- UTF-8 text, and not empty
abbrev pub is_place : List ℕ → Bool
is_place w = nat_le 1 (length w) && is_utf8 w

-- a place on this machine
unfoldable pub place_word : Row (List ℕ)
place_word = do
  w ← word
  test (is_place w) why.Path
  done w

-- ---- units

-- a lower-case hexadecimal digit
abbrev pub is_lower : ℕ → Bool
is_lower c = nat_le 0x30 c && nat_le c 0x39 || nat_le 0x61 c && nat_le c 0x66

-- the unit that four digits are
abbrev pub escaped : List ℕ → Option ℕ
escaped digits = if length digits == 4 then digits_in 16 digits else None

-- a unit that isn't zero before others
abbrev pub unit_before : Option ℕ → Option (List ℕ) → Option (List ℕ)
unit_before None units = None
unit_before (Some unit) units = if unit == 0 then None else option_map (λ us. unit ∷ us) units

-- The units that characters are, after so many that belong to a unit before: `%` and four digits are any unit, and any other visible
-- character is its own. None is zero.
abbrev pub units_after : ℕ → List ℕ → Option (List ℕ)
units_after n [] = Some []
units_after (suc n) (c ∷ cs) = units_after n cs
units_after zero (c ∷ cs) =
    if c == 0x25 then unit_before (escaped (take 4 cs)) (units_after 4 cs)
    else (if is_visible c then unit_before (Some c) (units_after 0 cs) else None)

-- a dash alone, which stands for nothing
abbrev pub is_dash : List ℕ → Bool
is_dash [] = false
is_dash (c ∷ []) = c == 0x2d
is_dash (c ∷ d ∷ ds) = false

-- some characters are these units
abbrev pub some_units : List ℕ → Option (List ℕ)
some_units [] = None
some_units (c ∷ cs) = units_after 0 (c ∷ cs)

-- the units that a word is
abbrev pub units_of : List ℕ → Option (List ℕ)
units_of w = if is_dash w then Some [] else some_units w

-- units, with the reason where they are out of their form
unfoldable pub units_word : LineWhy → Row (List ℕ)
units_word cause = do
  w ← word
  given (units_of w) cause

-- at most so many
unfoldable pub few_units : LineWhy → ℕ → Row (List ℕ)
few_units cause most = do
  units ← units_word cause
  test (nat_le (length units) most) why.Many
  done units

-- ---- bytes

-- the first with those after it, if all are there
abbrev pub prepended : {A : Type 0} → Option A → Option (List A) → Option (List A)
prepended None others = None
prepended (Some x) others = option_map (λ xs. x ∷ xs) others

-- the bytes that pairs of lower-case digits are, pair by pair: what `hex_decoded` has of a word (TextLemmas)
abbrev pub pairs_of : List ℕ → Option (List ℕ)
pairs_of [] = Some []
pairs_of (c ∷ []) = None
pairs_of (high ∷ low ∷ cs) = prepended (digits_from 16 0 (high ∷ low ∷ [])) (pairs_of cs)

-- the bytes that pairs of lower-case digits are
abbrev pub hex_decoded : List ℕ → Option (List ℕ)
hex_decoded [] = None
hex_decoded (c ∷ cs) = if list_all is_lower (c ∷ cs) then result_ok (decode_of (c ∷ cs)) else None

-- the bytes that a word is
abbrev pub hex_of : List ℕ → Option (List ℕ)
hex_of w = if is_dash w then Some [] else hex_decoded w

-- bytes
unfoldable pub hex_word : Row (List ℕ)
hex_word = do
  w ← word
  given (hex_of w) why.Hex

-- at most so many
unfoldable pub few_bytes : ℕ → Row (List ℕ)
few_bytes most = do
  bytes ← hex_word
  test (nat_le (length bytes) most) why.Many
  done bytes

-- ---- ranges

-- an offset and a length
abbrev pub range_from : ℕ → ℕ → Range
range_from offset len = record { offset = offset; length = len }

-- two numbers with a colon between them
abbrev pub range_of : List ℕ → Option Range
range_of part =
    option_and_then (λ i. option_and_then (λ offset. option_map (range_from offset) (small (number_of (drop (i + 1) part)))) (small (number_of (take i part)))) (position (λ c. c == 0x3a) part)

-- all parts are ranges
abbrev pub all_ranges : List (List ℕ) → Option (List Range)
all_ranges [] = Some []
all_ranges (part ∷ parts) = prepended (range_of part) (all_ranges parts)

-- the ranges that a word is, with commas between them
abbrev pub ranges_of : List ℕ → Option (List Range)
ranges_of w = all_ranges (slice_split (λ c. c == 0x2c) w)

-- at most so many ranges
unfoldable pub few_ranges : ℕ → Row (List Range)
few_ranges most = do
  w ← word
  ranges ← given (ranges_of w) why.Number
  test (nat_le (length ranges) most) why.Many
  done ranges
