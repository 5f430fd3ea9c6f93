-- The half of a channel that is written, and what it wrote of the messages that were put to it.
use Rattle.std.specs.Prelude.{◌≡◌, ℕ, ◌<◌, ◌==◌, ◌^◌, ◌↔◌, if◌then◌else◌, Bool, true, List, [], ◌++◌, Option, IsTrue}
use Rattle.std.specs.List.{AllByRecursion}
use Rattle.std.specs.Io.KnownBytes.{Appends}
use Rattle.rd_chunk.specs.Carrier.{IsMessage, carrier_of, carrier_stream}

-- where so many bytes wait they are to be written
abbrev pub flush_len : ℕ
flush_len = 2 ^ 20

-- A half that is written: the bytes that its sink holds, where it can tell, and the sink's count of faults; the bytes that wait to be
-- written, and how many find room in their buffer without more memory.
pub record OutgoingState : Type 0 where
  pub held : Option (List ℕ)
  pub faults : ℕ
  pub pending : List ℕ
  pub capacity : ℕ

-- a half to which nothing was put
abbrev pub new_outgoing : Option (List ℕ) → ℕ → OutgoingState
new_outgoing held capacity = record { held = held; faults = 0; pending = []; capacity = capacity }

-- A message is put: its frames wait to be written, unless a write has failed before.
abbrev pub having_put : OutgoingState → List ℕ → ℕ → OutgoingState
having_put s message capacity =
    record s { pending = if s.faults == 0 then s.pending ++ carrier_of message else s.pending; capacity = capacity }

-- Of the messages put since the half began, when its sink held `began`: a prefix of their frames was written, in order. Where no write failed
-- the rest is what waits. That these are the messages put is said by the calls (`since`), not here.
pub record HasWritten (began : Option (List ℕ)) (messages : List (List ℕ)) (s : OutgoingState) : Type 0 where
  pub fit : AllByRecursion IsMessage messages
  pub written : List ℕ
  pub rest : List ℕ
  pub frames_are : carrier_stream messages ≡ written ++ rest
  pub wrote : Appends began s.held written
  pub waits : s.faults ≡ 0 → rest ≡ s.pending

-- What a half keeps, for the contracts inside this crate: whether a write failed, after which nothing waits.
pub record IsOutgoing (failed : Bool) (faults : ℕ) (buffer : List ℕ) : Type 0 where
  pub failed_is : IsTrue failed ↔ (0 < faults)
  pub over : failed ≡ true → buffer ≡ []
