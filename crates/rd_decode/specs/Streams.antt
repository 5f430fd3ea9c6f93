-- What is known of a source or a sink, and what a command did to it.
use Rattle.std.specs.Prelude.{◌≡◌, ℕ, List, Option}
use Rattle.std.specs.Io.KnownBytes.{Appends, Consumes, IsAtEnd}
use Rattle.rd_base.specs.Faults.{one_more}
use Rattle.rd_base.specs.Prefixes.{AppendsPrefix}

-- A source or a sink: itself, the bytes that it has left or holds, where it can tell, and its count of faults.
pub record Stream (T : Type 0) : Type 0 where
  pub itself : T
  pub bytes : Option (List ℕ)
  pub faults : ℕ

-- a source or a sink, by what its trait tells of it
abbrev pub stream : {T : Type 0} → (T → Option (List ℕ)) → (T → ℕ) → T → Stream T
stream bytes faults itself = record { itself = itself; bytes = bytes itself; faults = faults itself }

-- no fault was counted
abbrev pub IsFaultless : {T : Type 0} → (before after : Stream T) → Type 0
IsFaultless before after = after.faults ≡ before.faults

-- one fault was counted
abbrev pub HasOneFault : {T : Type 0} → (before after : Stream T) → Type 0
HasOneFault before after = after.faults ≡ one_more before.faults

-- These bytes were read from a source, as far as it tells, with no fault.
pub record Read {S : Type 0} (before after : Stream S) (bytes : List ℕ) : Type 0 where
  pub taken : Consumes before.bytes after.bytes bytes
  pub faultless : IsFaultless before after

-- The same, to its end.
pub record ReadToEnd {S : Type 0} (before after : Stream S) (bytes : List ℕ) : Type 0 where
  pub read : Read before after bytes
  pub ended : IsAtEnd after.bytes

-- These bytes were written to a sink, as far as it tells, with no fault.
pub record Wrote {K : Type 0} (before after : Stream K) (bytes : List ℕ) : Type 0 where
  pub written : Appends before.bytes after.bytes bytes
  pub faultless : IsFaultless before after

-- The first fault ended the writing of these bytes: a prefix of them was written, as far as the sink tells.
pub record FailedToWrite {K : Type 0} (before after : Stream K) (bytes : List ℕ) : Type 0 where
  pub prefix : AppendsPrefix before.bytes after.bytes bytes
  pub fault : HasOneFault before after
