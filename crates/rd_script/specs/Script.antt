-- Scripts: what a text says, or its first line that is outside the grammar.
use Rattle.std.specs.Prelude.{◌≡◌, ℕ, ◌+◌, ◌&&◌, ◌==◌, not, nat_le, nat_lt, Bool, true, false, if◌then◌else◌, List, [], ◌∷◌, ◌++◌, length, Option, Some, None, Result, Ok, Err}
use Rattle.std.specs.Borrow.{Bor}
use Rattle.std.specs.List.{slice_split}
use Rattle.rd_base.specs.Layout.{and_then}
use Rattle.rd_script.specs.declared.why.LineWhy.{LineWhy}
use Rattle.rd_script.specs.declared.why.LineWhy.TheVariants as why
use Rattle.rd_script.specs.declared.why.LineNo.{LineNo}
use Rattle.rd_script.specs.declared.why.LineNo.TheVariants as line_no
use Rattle.rd_script.specs.declared.why.ScriptNo.{ScriptNo}
use Rattle.rd_script.specs.declared.why.ScriptNo.TheVariants as no
use Rattle.rd_script.specs.declared.keyword.Mode.{Mode}
use Rattle.rd_script.specs.declared.line.Line.{Line}
use Rattle.rd_script.specs.declared.line.NumberedLine.{NumberedLine}
use Rattle.rd_script.specs.declared.script.Script.{Script}
use Rattle.rd_script.specs.Row.{words_of, met_words}
use Rattle.rd_script.specs.Said.{Said, nothing_said, with_line}
use Rattle.rd_script.specs.Rows.{line_row}

-- a line without its line feed, and how many bytes it has with it
pub record TextLine : Type 0 where
  pub text : List ℕ
  pub size : ℕ

-- the lines that parts between line feeds are; an empty one at the end is none
abbrev pub lines_from : List (List ℕ) → List TextLine
lines_from [] = []
lines_from (l ∷ []) = if length l == 0 then [] else record { text = l; size = length l } ∷ []
lines_from (l ∷ m ∷ ls) = record { text = l; size = length l + 1 } ∷ lines_from (m ∷ ls)

-- the lines of a text, of which the last may lack its line feed
abbrev pub lines_of : List ℕ → List TextLine
lines_of text = lines_from (slice_split (λ b. b == 0x0a) text)

-- empty lines and remarks are skipped
abbrev pub is_skipped : List ℕ → Bool
is_skipped [] = true
is_skipped (c ∷ cs) = c == 0x23

-- a line that begins with a digit
abbrev pub is_application : List ℕ → Bool
is_application [] = false
is_application (c ∷ cs) = nat_le 0x30 c && nat_le c 0x39

-- the line of a text after what was said, or why it is none
unfoldable pub line_of : Said → List ℕ → Result Line LineWhy
line_of said text = and_then (met_words (line_row said (is_application text)) (words_of text)) (λ x. Ok x.0)

-- the line is found, or why it is none, unless memory runs out
abbrev pub FindsLine : Result Line LineWhy → Result Line LineNo → Type 0
FindsLine is (Ok l) = is ≡ Ok l
FindsLine is (Err line_no.Memory) = Unit {0}
FindsLine is (Err (line_no.Why cause)) = is ≡ Err cause

-- the most lines of a script
abbrev pub max_lines : ℕ
max_lines = 1000000

-- the most bytes of a script, line feeds counted
abbrev pub max_bytes : ℕ
max_bytes = 67108864

-- what was read so far: what it says, the lines, and how many lines and bytes it had, skipped ones too
pub record Reading : Type 0 where
  pub said : Said
  pub lines : List NumberedLine
  pub number : ℕ
  pub bytes : ℕ

-- nothing was read
abbrev pub reading_at_start : Mode → Reading
reading_at_start m = record { said = nothing_said m; lines = []; number = 0; bytes = 0 }

-- the first bad line
pub record BadLine : Type 0 where
  pub line : ℕ
  pub why : LineWhy

-- one more line of so many bytes is within the limits
abbrev pub fits : Reading → ℕ → Bool
fits r size = nat_lt r.number max_lines && nat_le (r.bytes + size) max_bytes

-- with one more line that is skipped
abbrev pub skipping : Reading → ℕ → Reading
skipping r size = record r { number = r.number + 1; bytes = r.bytes + size }

-- with one more line that was read
abbrev pub reading : Reading → ℕ → Line → Reading
reading r size found = record {
  said = with_line r.said found;
  lines = r.lines ++ record { number = r.number + 1; line = found } ∷ [];
  number = r.number + 1;
  bytes = r.bytes + size;
}

-- the next line is bad
abbrev pub bad_line : Reading → LineWhy → BadLine
bad_line r cause = record { line = r.number + 1; why = cause }

-- with the line that was found, or why it is bad
abbrev pub taken : Reading → ℕ → Result Line LineWhy → Result Reading BadLine
taken r size (Ok found) = Ok (reading r size found)
taken r size (Err cause) = Err (bad_line r cause)

-- reads one more line
unfoldable pub step : Reading → TextLine → Result Reading BadLine
step r l =
    if not (fits r l.size) then Err (bad_line r why.Many)
    else (if is_skipped l.text then Ok (skipping r l.size)
    else taken r l.size (line_of r.said l.text))

-- goes on with what was read, unless a line was bad
abbrev pub go_on : (Reading → Result Reading BadLine) → Result Reading BadLine → Result Reading BadLine
go_on next (Ok r) = next r
go_on next (Err bad) = Err bad

-- reads lines one after another
abbrev pub read_all : List TextLine → Reading → Result Reading BadLine
read_all [] r = Ok r
read_all (l ∷ ls) r = go_on (read_all ls) (step r l)

-- the script that was read
abbrev pub script_read : Mode → Result Reading BadLine → Result Script BadLine
script_read m (Ok r) = Ok (record { mode = m; lines = r.lines })
script_read m (Err bad) = Err bad

-- What a text says in a mode: its lines, each with its number, without those that are skipped; or its first line that is outside the
-- grammar, and why.
abbrev pub script_of : Mode → List ℕ → Result Script BadLine
script_of m text = script_read m (read_all (lines_of text) (reading_at_start m))

-- ---- what readers return

-- how many bytes a line has with its line feed, which it has where something is left after it
abbrev pub size_with : List ℕ → Option (Bor (List ℕ)) → ℕ
size_with line None = length line
size_with line (Some others) = length line + 1

-- an empty line at the end is none
abbrev pub is_end : List ℕ → Option (Bor (List ℕ)) → Bool
is_end line None = length line == 0
is_end line (Some others) = false

-- with one more line the old reading becomes the new one, or the line is bad, unless memory runs out
abbrev pub Steps : Reading → Reading → TextLine → Result (Unit {0}) ScriptNo → Type 0
Steps old new l (Ok done) = step old l ≡ Ok new
Steps old new l (Err no.Memory) = Unit {0}
Steps old new l (Err (no.BadLine line cause)) = step old l ≡ Err (record { line = line; why = cause })

-- it holds of the line that was refused and of the reason, unless memory ran out
abbrev pub IsBadLine : (BadLine → Type 0) → ScriptNo → Type 0
IsBadLine P (no.BadLine line cause) = P (record { line = line; why = cause })
IsBadLine P no.Memory = Unit {0}
