-- What is printed of a recording, and its first fault.
use Rattle.std.specs.Prelude.{ℕ, zero, suc, ◌+◌, if◌then◌else◌, nat_lt, nat_eq, List, [], ◌∷◌, ◌++◌, length, drop, Option, Some, None, codes}
use Rattle.std.specs.List.{starts_with}
use Rattle.rd_base.specs.declared.bad.Why.TheVariants as why
use Rattle.rd_decode.specs.declared.fault.Fault.{Fault}
use Rattle.rd_decode.specs.declared.fault.FaultWhy.TheVariants as fault
use Rattle.rd_decode.specs.Entries.{Channel, Next, entry, wrong, cut, next_entry}

-- what bytes that begin a recording, or are one, come to
pub record Decoded : Type 0 where
  -- a line for each message, in the order in which they end
  pub text : List ℕ
  -- the first fault, whatever comes after these bytes; none while more bytes may still come that a fault hangs on
  pub fault : Option Fault
  -- the first fault, where nothing comes after them
  pub whole_fault : Option Fault

-- no bytes are left
abbrev pub good : Decoded
good = record { text = []; fault = None; whole_fault = None }

-- a fault
abbrev pub faulty : Fault → Decoded
faulty f = record { text = []; fault = Some f; whole_fault = Some f }

-- an entry or the magic isn't all there: no fault is named before it is, or the bytes end here
abbrev pub unfinished : Fault → Decoded
unfinished f = record { text = []; fault = None; whole_fault = Some f }

-- after the lines of what stands before
abbrev pub text_before : List ℕ → Decoded → Decoded
text_before text d = record d { text = text ++ d.text }

-- What comes next at a place, and then what the entries after it come to, which go on after so many bytes. An entry that the end cuts is a fault at
-- its frame.
abbrev pub with_others : (ℕ → Option Channel → Decoded) → ℕ → Next → Decoded
with_others others at (entry size channel text) = text_before text (others size channel)
with_others others at (wrong offset w) = faulty (record { at = at + offset; why = w })
with_others others at cut = unfinished (record { at = at + 1; why = fault.Field why.Short })

-- What bytes come to whose first has this place, where a channel has begun or none has. There are at most as many entries as the first argument
-- says, which is at least the count of the bytes.
abbrev pub decoded_from : ℕ → ℕ → Option Channel → List ℕ → Decoded
decoded_from zero at channel bytes = good
decoded_from (suc most) at channel [] = good
decoded_from (suc most) at channel (byte ∷ rest) =
    with_others (λ size next. decoded_from most (at + size) next (drop size (byte ∷ rest))) at (next_entry channel (byte ∷ rest))

-- with what a recording begins
abbrev pub magic : List ℕ
magic = codes "RDRREC01"

-- a recording that doesn't begin so
abbrev pub no_magic : Fault
no_magic = record { at = 0; why = fault.Field why.Value }

-- What bytes come to that begin a recording, or are one: they are one where they have no fault as a whole. The magic is judged once its eight
-- bytes are there.
abbrev pub decoded : List ℕ → Decoded
decoded bytes =
    if nat_lt (length bytes) 8 then unfinished no_magic
    else (if starts_with nat_eq bytes magic then decoded_from (length bytes) 8 None (drop 8 bytes)
    else faulty no_magic)
