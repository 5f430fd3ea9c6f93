-- The layout of an audit file. No public standard has it: it is this project's own.
use Rattle.std.specs.Prelude.{◌≡◌, ℕ, ◌+◌, nat_eq, nat_lt, if◌then◌else◌, List, ◌++◌, length, take, Result, Ok, Err, codes}
use Rattle.std.specs.Borrow.{Bor}
use Rattle.std.specs.Int.{w32, from_le_bytes}
use Rattle.std.specs.List.{starts_with}
use Rattle.rd_base.specs.declared.bad.Why.TheVariants.{Short, Value}
use Rattle.rd_base.specs.Counted.{bytes_and_count}
use Rattle.rd_base.specs.Layout.{past}
use Rattle.rd_base.specs.Position.{Position, at_start}
use Rattle.rd_audit_file.specs.declared.fault.FieldFault.{FieldFault}

-- the first eight bytes
abbrev pub audit_magic : List ℕ
audit_magic = codes "RDRAUD01"

-- The magic, a script and a journal text with the count of their bytes before each, and a recording up to the end.
abbrev pub audit_file : (script text recording : List ℕ) → List ℕ
audit_file script text recording = audit_magic ++ (bytes_and_count script ++ (bytes_and_count text ++ recording))

-- the bytes after the magic, or its fault
abbrev pub behind_magic : List ℕ → Result Position FieldFault
behind_magic bytes =
    if nat_lt (length bytes) 8 then Err (record { at = 0; why = Short })
    else (if starts_with nat_eq bytes audit_magic then Ok (past 8 (at_start bytes)) else Err (record { at = 0; why = Value }))

-- that many bytes and the position after them, or the fault at their first
abbrev pub part_at : ℕ → Position → Result (List ℕ × Position) FieldFault
part_at count p = if nat_lt (length p.left) count then Err (record { at = p.at; why = Short }) else Ok (take count p.left, past count p)

-- bytes with the count of them before them and the position after them, or the fault at the count or at their first
abbrev pub counted_at : Position → Result (List ℕ × Position) FieldFault
counted_at p =
    if nat_lt (length p.left) 4 then Err (record { at = p.at; why = Short })
    else part_at (from_le_bytes w32 (take 4 p.left)) (past 4 p)

-- counted bytes are read from the old position to the new one; at a fault nothing moves
abbrev pub ReadsCounted : (old new : Position) → Result (Bor (List ℕ)) FieldFault → Type 0
ReadsCounted old new (Ok field) = counted_at old ≡ Ok (field.now, new)
ReadsCounted old new (Err fault) = (counted_at old ≡ Err fault) × (new ≡ old)

-- A file that is written is taken apart into its script, its journal text and its recording, each at its place.
pub record IsReadBack (script text recording : List ℕ) : Type 0 where
  pub begins : behind_magic (audit_file script text recording) ≡ Ok (record { at = 8; left = bytes_and_count script ++ (bytes_and_count text ++ recording) })
  pub first : counted_at (record { at = 8; left = bytes_and_count script ++ (bytes_and_count text ++ recording) })
      ≡ Ok (script, record { at = 12 + length script; left = bytes_and_count text ++ recording })
  pub second : counted_at (record { at = 12 + length script; left = bytes_and_count text ++ recording })
      ≡ Ok (text, record { at = 12 + length script + 4 + length text; left = recording })
