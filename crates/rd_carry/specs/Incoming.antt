-- The half of a channel that is read: what it read, the messages that it handed out, and what its calls do.
use Rattle.std.specs.Prelude.{◌≡◌, ℕ, ◌<◌, ◌≤◌, ◌^◌, Bool, false, true, List, [], ◌∷◌, ◌++◌, length, take, drop, Option, None, Some}
use Rattle.std.specs.Io.KnownBytes.{Consumes, IsAtEnd, Keeps}
use Rattle.rd_base.specs.Faults.{one_more}
use Rattle.rd_chunk.specs.declared.fault.ChunkBad.{ChunkBad}
use Rattle.rd_chunk.specs.Carrier.{IsMessage}
use Rattle.rd_chunk.specs.Faults.{ChunkFault}
use Rattle.rd_chunk.specs.Standing.{Held, HasJoined}
use Rattle.rd_chunk.specs.Streams.{IsStream}

-- as many bytes are read from one channel at most
abbrev pub max_incoming : ℕ
max_incoming = 2 ^ 40

-- A half that is read: the bytes that its source has left, where it can tell, and the source's count of faults; all bytes that were read since
-- the half began; the messages handed out, in order; what was read and isn't handled yet; the chunk fault of the stream, once it was met; and
-- how many bytes one read asks for.
pub record IncomingState : Type 0 where
  pub left : Option (List ℕ)
  pub faults : ℕ
  pub read : List ℕ
  pub messages : List (List ℕ)
  pub unhandled : List ℕ
  pub fault : Option ChunkBad
  pub room : ℕ

-- a half that has read nothing
abbrev pub new_incoming : Option (List ℕ) → ℕ → ℕ → IncomingState
new_incoming left faults room = record { left = left; faults = faults; read = []; messages = []; unhandled = []; fault = None; room = room }

-- Bytes begin with a chunk fault: its place is counted from the first of them, and these are the whole messages before it.
pub record HasFirstFault (messages : List (List ℕ)) (bytes : List ℕ) (bad : ChunkBad) : Type 0 where
  pub prefix : List ℕ
  pub rest : List ℕ
  pub bytes_are : bytes ≡ prefix ++ rest
  pub fault : ChunkFault prefix bad.at bad.why
  pub messages_are : fault.messages ≡ messages

-- What always holds: the bytes handled so far are the messages handed out, in their frames, and then a part that is no whole message. After
-- them comes what isn't handled. A fault that was met is one of the bytes read, and these are the messages before it.
pub record HasHeard (s : IncomingState) : Type 0 where
  pub handled : List ℕ
  pub read_is : s.read ≡ handled ++ s.unhandled
  pub stream : IsStream s.messages handled
  pub faulty : (bad : ChunkBad) → s.fault ≡ Some bad → HasFirstFault s.messages s.read bad
  pub few : length s.read ≤ max_incoming

-- The next message is handed out, which these bytes end, and all other things stay.
pub record GivesMessage (old new : IncomingState) (message : List ℕ) : Type 0 where
  pub bytes : List ℕ
  pub some : 0 < length bytes
  pub unhandled_were : old.unhandled ≡ bytes ++ new.unhandled
  pub new_is : new ≡ record old { messages = old.messages ++ message ∷ []; unhandled = new.unhandled }
  pub fits : IsMessage message

-- One read with no fault: whatever came isn't handled yet. Where nothing came the source is at its end.
pub record ReadsOnce (old new : IncomingState) (more : Bool) : Type 0 where
  pub consumed : Consumes old.left new.left new.unhandled
  pub most : length new.unhandled ≤ old.room
  pub some : more ≡ true → 0 < length new.unhandled
  pub ended : more ≡ false → (new.unhandled ≡ []) × IsAtEnd new.left
  pub new_is : new ≡ record old { left = new.left; read = old.read ++ new.unhandled; unhandled = new.unhandled }

-- One read that failed: nothing came.
pub record ReadFails (old new : IncomingState) : Type 0 where
  pub kept : Keeps old.left new.left
  pub new_is : new ≡ record old { left = new.left; faults = one_more old.faults }

-- ---- for the contracts inside this crate

-- a joiner as it was before it met a fault
abbrev pub without_fault : Held → Held
without_fault joiner = record joiner { fault = None }

-- What a half keeps: in its buffer what stands from `front` to `end` was read and isn't handled, and its joiner has joined the rest.
pub record IsIncoming (joiner : Held) (buffer : List ℕ) (front end count heard : ℕ) (read : List ℕ) (messages : List (List ℕ)) : Type 0 where
  pub room : 0 < length buffer
  pub front_within : front ≤ end
  pub end_within : end ≤ length buffer
  pub handled : List ℕ
  pub read_is : read ≡ handled ++ drop front (take end buffer)
  pub joined : HasJoined (without_fault joiner) messages handled
  pub faulty : (bad : ChunkBad) → joiner.fault ≡ Some bad → HasFirstFault messages read bad
  pub count_is : count ≡ length read
  pub heard_is : heard ≡ length messages
  pub few : count ≤ max_incoming
