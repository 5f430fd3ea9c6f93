-- What can be wrong with a stream of carrier frames, and where.
use Rattle.std.specs.Prelude.{ℕ, ◌≡◌, ◌≤◌, ◌<◌, ◌+◌, ◌-◌, ◌==◌, not, ◌&&◌, ◌||◌, nat_lt, if◌then◌else◌, Bool, List, [], ◌∷◌, ◌++◌, length, bit_and, Option, Some, None, ◌⊎◌}
use Rattle.rd_chunk.specs.Sizes.{head_len, max_chunk, max_message}
use Rattle.rd_chunk.specs.Frames.{size_of, length_of, flags_of, Carried, Begun}
use Rattle.rd_chunk.specs.declared.head.RowFault.{RowFault}
use Rattle.rd_chunk.specs.declared.fault.ChunkWhy.{ChunkWhy}
use Rattle.rd_chunk.specs.declared.fault.ChunkWhy.TheVariants.{Empty, Size, Compressed, NoFirst, SecondFirst, TooLong, LengthChanged, Overrun, LastEarly, NotLast}

-- a fault, so many bytes after the first of its frame
abbrev pub row : ℕ → ChunkWhy → Option RowFault
row offset why = Some (record { offset = offset; why = why })

-- the table of faults, first part: what a size alone tells
abbrev pub size_fault : ℕ → Option RowFault
size_fault size = if size == 8 then row 0 Empty else (if nat_lt size 9 || nat_lt (max_chunk + 8) size then row 0 Size else None)

-- a row of the table: what it tests, how far after the frame's first byte its fault stands, and the fault
abbrev pub FaultRow : Type 0
FaultRow = Bool × ℕ × ChunkWhy

-- the first row whose test holds
abbrev pub first_row : List FaultRow → Option RowFault
first_row [] = None
first_row (r ∷ rows) = if r.0 then row r.1 r.2 else first_row rows

-- the table of faults, second part: the first row that holds of a head with these fields, after `before` data bytes of
-- a message of n bytes; with no such bytes no message is under way, and n says nothing
unfoldable pub fields_fault : (n before size len flags : ℕ) → Option RowFault
fields_fault n before size len flags =
    let reached = before + (size - 8) in
    let begins = before == 0 in
    let first = not (bit_and flags 0x1 == 0) in
    let last = not (bit_and flags 0x2 == 0) in
    first_row (
    (not (bit_and flags 0x200000 == 0), 8, Compressed)
    ∷ (begins && not first, 8, NoFirst)
    ∷ (not begins && first, 8, SecondFirst)
    ∷ (nat_lt max_message len, 4, TooLong)
    ∷ (not begins && not (len == n), 4, LengthChanged)
    ∷ (nat_lt len reached, head_len, Overrun)
    ∷ (last && nat_lt reached len, 8, LastEarly)
    ∷ (not last && (reached == len), 8, NotLast)
    ∷ []
    )

-- the first row that holds of a frame whose 12 bytes of head are there
abbrev pub head_fault : ℕ → ℕ → List ℕ → Option RowFault
head_fault n before head = fields_fault n before (size_of head) (length_of head) (flags_of head)

-- these bytes are as much of a frame as the first row that holds of it needs, 4 or 12
pub record ShowsFault (n before : ℕ) (head : List ℕ) (fault : RowFault) : Type 0 where
  pub holds : ((length head ≡ 4) × (size_fault (size_of head) ≡ Some fault))
      ⊎ ((length head ≡ head_len) × (size_fault (size_of head) ≡ None) × (head_fault n before head ≡ Some fault))

-- these bytes are a proper part of a frame, or nothing, and no row holds whose 4 or 12 bytes are there
pub record IsPart (n before : ℕ) (part : List ℕ) : Type 0 where
  pub size : 4 ≤ length part → size_fault (size_of part) ≡ None
  pub head : head_len ≤ length part → head_fault n before part ≡ None
  pub short : 4 ≤ length part → length part < size_of part + 4

-- the bytes are whole frames that begin some stream of messages, and after them the bytes that the first row needs
-- that holds; the fault's place is counted from the first byte
pub record ChunkFault (bytes : List ℕ) (place : ℕ) (why : ChunkWhy) : Type 0 where
  pub messages : List (List ℕ)
  pub whole : List ℕ
  pub n : ℕ
  pub joined : List ℕ
  pub begun : List ℕ
  pub head : List ℕ
  pub fault : RowFault
  pub are_whole : Carried messages whole
  pub are_begun : Begun n joined begun
  pub bytes_are : bytes ≡ whole ++ begun ++ head
  pub has : ShowsFault n (length joined) head fault
  pub place_is : place ≡ length whole + length begun + fault.offset
  pub why_is : why ≡ fault.why

-- the same, where no whole message stands before the fault
abbrev pub FaultInMessage : List ℕ → ℕ → ChunkWhy → Type 0
FaultInMessage bytes place why = (fault : ChunkFault bytes place why) × (fault.messages ≡ [])
