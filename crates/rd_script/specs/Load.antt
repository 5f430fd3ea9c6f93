-- The script of a load.
use Rattle.std.specs.Prelude.{◌≡◌, ℕ, zero, suc, length, ◌+◌, ◌*◌, ◌%◌, ◌==◌, if◌then◌else◌, List, [], ◌∷◌, ◌++◌, codes, replicate}
use Rattle.rd_script.specs.declared.keyword.Mode.TheVariants as mode
use Rattle.rd_script.specs.declared.line.Line.{Line}
use Rattle.rd_script.specs.declared.line.Line.TheVariants as line
use Rattle.rd_script.specs.declared.line.NumberedLine.{NumberedLine}
use Rattle.rd_script.specs.declared.script.Script.{Script}

-- how many bytes are written and read at a time
abbrev pub block : ℕ
block = 4096

-- the block of a number: all its bytes are the same
abbrev pub block_bytes : ℕ → ℕ → List ℕ
block_bytes application i = replicate block ((application + i) % 256)

-- one block is written and read again
abbrev pub write_and_read : ℕ → ℕ → List Line
write_and_read application i =
    line.Write application (codes "h") (block * i) (block_bytes application i) ∷ line.Read application (codes "h") (block * i) block ∷ []

-- so many blocks, from one on
abbrev pub blocks : ℕ → ℕ → ℕ → List Line
blocks application i zero = []
blocks application i (suc count) = write_and_read application i ++ blocks application (i + 1) count

-- the drive that an application uses: the first where its number is odd
abbrev pub drive_number : ℕ → ℕ
drive_number application = if application % 2 == 1 then 1 else 2

-- the file that it makes
abbrev pub create_line : ℕ → Line
create_line application =
    line.Create application (codes "h") (drive_number application) (codes "\\f" ++ (0x30 + application) ∷ []) 2 0xc0000000 7 0 0

-- an application makes its file, writes and reads so many blocks, and closes it
abbrev pub load_application : ℕ → ℕ → List Line
load_application count application =
    create_line application ∷ (blocks application 0 count ++ line.Close application (codes "h") ∷ [])

-- two drives, where the draws begin, and four workers
abbrev pub settings : ℕ → List Line
settings count = line.Drive 1 (codes "LOAD") ∷ line.Drive 2 (codes "LOADB") ∷ line.Seed count ∷ line.Workers 4 ∷ []

-- the lines of a load
abbrev pub load_lines : ℕ → List Line
load_lines count =
    settings count ++ (load_application count 1 ++ (load_application count 2 ++ (load_application count 3 ++ load_application count 4)))

-- lines with their numbers
abbrev pub numbered : ℕ → List Line → List NumberedLine
numbered number [] = []
numbered number (l ∷ ls) = record { number = number; line = l } ∷ numbered (number + 1) ls

-- the script of a load
abbrev pub load_script : ℕ → Script
load_script count = record { mode = mode.Both; lines = numbered 1 (load_lines count) }

-- the new lines are the old ones and some more, numbered on, whatever comes after them
abbrev pub AddsLines : List NumberedLine → List NumberedLine → List Line → Type 0
AddsLines old new ls = (rest : List Line) → new ++ numbered (length new + 1) rest ≡ old ++ numbered (length old + 1) (ls ++ rest)
