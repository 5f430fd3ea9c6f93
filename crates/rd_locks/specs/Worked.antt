-- Locks on node 7, in few words, for worked cases.
use Rattle.std.specs.Prelude.{ℕ, true, false}
use Rattle.rd_irp.specs.declared.op.Range.{Range}
use Rattle.rd_locks.specs.declared.held.Held.{Held}

-- so many bytes from an offset on
abbrev pub bytes : ℕ → ℕ → Range
bytes offset count = record { offset = offset; length = count }

-- a file's shared lock
abbrev pub shared : ℕ → Range → Held
shared file range = record { node = 7; file = file; exclusive = false; range = range }

-- a file's exclusive lock
abbrev pub exclusive : ℕ → Range → Held
exclusive file range = record { node = 7; file = file; exclusive = true; range = range }
