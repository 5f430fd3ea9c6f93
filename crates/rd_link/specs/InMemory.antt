-- Channels and a linker in memory, as contracts see them.
use Rattle.std.specs.Prelude.{ℕ, List, map, take}
use Rattle.rd_link.specs.Links.{SettledChannel, Links}
use Rattle.rd_link.specs.declared.memory.Settled.{Settled}

-- a channel to come: its bytes, and the numbers of the reads and writes that fail
pub record Scripted : Type 0 where
  pub bytes : List ℕ
  pub read_fails : List ℕ
  pub write_fails : List ℕ

-- a channel with these bytes, where these reads and writes fail
abbrev pub scripted : List ℕ → List ℕ → List ℕ → Scripted
scripted read_fails write_fails bytes = record { bytes = bytes; read_fails = read_fails; write_fails = write_fails }

-- A linker: the channels to come, the bytes of those that are out, and those that are settled, each in order; how many calls of `connect`
-- there were, the numbers of those that fail, counted from 1, and how many did; the faults of settled halves; how many reads and writes
-- there were on settled halves. The counts stand still at 2^64 - 1.
pub record LinkerState : Type 0 where
  pub ahead : List Scripted
  pub lent : List (List ℕ)
  pub settled : List Settled
  pub calls : ℕ
  pub fails : List ℕ
  pub failures : ℕ
  pub trouble : ℕ
  pub reads : ℕ
  pub writes : ℕ

-- what a linker tells of a settled channel
abbrev pub told_of : Settled → SettledChannel
told_of s = record { read = take s.read s.scripted; written = s.written; faults = s.faults; write_faults = s.write_faults }

-- what a linker tells
abbrev pub links_of : LinkerState → Links
links_of l = record { settled = map told_of l.settled; lent = l.lent }
