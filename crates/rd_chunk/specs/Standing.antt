-- What is seen of a joiner, and the bytes that it stands for.
use Rattle.std.specs.Prelude.{ℕ, ◌≡◌, ◌≤◌, ◌<◌, ◌+◌, ◌%◌, ◌^◌, ◌==◌, ◌&&◌, nat_lt, not, if◌then◌else◌, Bool, List, [], ◌++◌, length, take, Option, Some, None, is_some}
use Rattle.std.specs.List.{concat, flat_map}
use Rattle.rd_chunk.specs.declared.fault.ChunkBad.{ChunkBad}
use Rattle.rd_chunk.specs.declared.fault.FeedNo.{FeedNo}
use Rattle.rd_chunk.specs.declared.fault.FeedNo.TheVariants.{Bad, Memory}
use Rattle.rd_chunk.specs.Sizes.{head_len, max_message}
use Rattle.rd_chunk.specs.Frames.{size_of, length_of, data_of, AreFrames, Carried}
use Rattle.rd_chunk.specs.Faults.{IsPart, FaultInMessage}

-- what is seen of a joiner: the data that are there of the message under way, the bytes that are there of a head, the
-- data bytes of that frame still to come, the bytes of the whole message, those taken from the stream, and its fault
pub record Held : Type 0 where
  pub joined : List ℕ
  pub head : List ℕ
  pub left : ℕ
  pub whole : ℕ
  pub taken : ℕ
  pub fault : Option ChunkBad

-- a joiner that is seen so stands for these bytes, and took `before` bytes ahead of them: they are whole frames of one
-- message, and then a part of a further frame, which has begun only where the message isn't complete
pub record StandsFor (held : Held) (before : ℕ) (bytes : List ℕ) : Type 0 where
  pub frames : List (List ℕ)
  pub part : List ℕ
  pub are : AreFrames held.whole 0 frames
  pub bytes_are : bytes ≡ concat frames ++ part
  pub is_part : IsPart held.whole (length (flat_map data_of frames)) part
  pub joined_are : held.joined ≡ flat_map data_of frames ++ data_of part
  pub head_is : held.head ≡ take head_len part
  pub still : head_len ≤ length part → held.left + length part ≡ size_of part + 4
  pub in_head : length part < head_len → held.left ≡ 0
  pub same : head_len ≤ length part → length_of part ≡ held.whole
  pub most : held.whole ≤ max_message
  pub complete : 0 < length (flat_map data_of frames) → length (flat_map data_of frames) ≡ held.whole → part ≡ []
  pub taken_are : held.taken ≡ (before + length bytes) % 2 ^ 64
  pub no_fault : held.fault ≡ None

-- a message of so many bytes is complete: it has some, no more data of its last frame are to come, and all are there
abbrev pub is_complete : (left joined whole : ℕ) → Bool
is_complete left joined whole = (left == 0) && nat_lt 0 joined && (joined == whole)

-- the message that is complete and waits, if one does
abbrev pub waiting : Held → Option (List ℕ)
waiting held = if not (is_some held.fault) && is_complete held.left (length held.joined) held.whole then Some held.joined else None

-- whatever list the one stands for, the other stands for that list and these bytes
abbrev pub Takes : Held → Held → List ℕ → Type 0
Takes old new more = (before : ℕ) (bytes : List ℕ) → StandsFor old before bytes → StandsFor new before (bytes ++ more)

-- whatever list the joiner stands for, that list and these bytes are a chunk fault with no whole message before it, and
-- it is the returned one: its place is counted from the stream's first byte, modulo 2^64
abbrev pub BringsFault : Held → List ℕ → ChunkBad → Type 0
BringsFault held more bad = (before : ℕ) (bytes : List ℕ) → StandsFor held before bytes →
    (place : ℕ) × FaultInMessage (bytes ++ more) place bad.why × (bad.at ≡ (before + place) % 2 ^ 64)

-- a joiner that is seen so has given these messages of a stream that came as these bytes, and stands for the rest
pub record HasJoined (held : Held) (messages : List (List ℕ)) (bytes : List ℕ) : Type 0 where
  pub whole : List ℕ
  pub rest : List ℕ
  pub are_whole : Carried messages whole
  pub bytes_are : bytes ≡ whole ++ rest
  pub stands : StandsFor held (length whole) rest
  pub none_waits : waiting held ≡ None

-- it holds of the fault, unless memory ran out
abbrev pub ForFeedBad : (ChunkBad → Type 0) → FeedNo → Type 0
ForFeedBad P (Bad bad) = P bad
ForFeedBad P Memory = Unit {0}
