-- The entries of a recording: a channel begins, it ended, or a side sent a frame.
use Rattle.std.specs.Prelude.{ℕ, ◌+◌, ◌==◌, if◌then◌else◌, nat_lt, List, [], ◌∷◌, ◌++◌, length, take, Option, Some, None, Result, Ok, Err}
use Rattle.rd_base.specs.declared.bad.Why.TheVariants as why
use Rattle.rd_chunk.specs.declared.head.RowFault.{RowFault}
use Rattle.rd_chunk.specs.Frames.{size_of, length_of, data_of}
use Rattle.rd_chunk.specs.Faults.{size_fault, head_fault}
use Rattle.rd_decode.specs.declared.side.Side.{Side}
use Rattle.rd_decode.specs.declared.side.Side.TheVariants.{Host, Client}
use Rattle.rd_decode.specs.declared.fault.FaultWhy.{FaultWhy}
use Rattle.rd_decode.specs.declared.fault.FaultWhy.TheVariants as fault
use Rattle.rd_decode.specs.declared.fault.EntryFault.{EntryFault}
use Rattle.rd_decode.specs.Awaited.{Awaited, none_awaited}
use Rattle.rd_decode.specs.Messages.{Printed, message_line}

-- A message under way on one side: its length, and the data that came. Without data none is under way, and the length says nothing.
pub record UnderWay : Type 0 where
  pub whole : ℕ
  pub joined : List ℕ

-- nothing under way
abbrev pub nothing_under_way : UnderWay
nothing_under_way = record { whole = 0; joined = [] }

-- a channel that has begun: what each side has under way, and the completions that are still to come
pub record Channel : Type 0 where
  pub host : UnderWay
  pub client : UnderWay
  pub awaited : Awaited

-- a channel that begins
abbrev pub fresh : Channel
fresh = record { host = nothing_under_way; client = nothing_under_way; awaited = none_awaited }

-- what a side has under way
abbrev pub under_way : Side → Channel → UnderWay
under_way Host c = c.host
under_way Client c = c.client

-- the channel with something else under way on a side
abbrev pub with_under_way : Side → UnderWay → Channel → Channel
with_under_way Host u c = record c { host = u }
with_under_way Client u c = record c { client = u }

-- what the bytes from an entry's first on come to
pub data Next : Type 0 where
  -- an entry of so many bytes, what is known of the channel after it, and what is printed
  entry : ℕ → Option Channel → List ℕ → Next
  -- a fault, so many bytes after the entry's first
  wrong : ℕ → FaultWhy → Next
  -- no entry is all there: it is cut, or nothing is left
  cut : Next

-- the byte of an entry that says what it is: a frame of a side, or that a channel begins or ended
abbrev pub side_mark : Side → ℕ
side_mark Host = 0
side_mark Client = 1

abbrev pub begins : ℕ
begins = 2

abbrev pub ended : ℕ
ended = 3

-- a channel after a message of a side, of which a line is printed, and nothing is under way there any more; or a fault
abbrev pub after_message : ℕ → Side → Channel → Result Printed EntryFault → Next
after_message size side c (Ok p) = entry size (Some (with_under_way side nothing_under_way (record c { awaited = p.awaited }))) p.text
after_message size side c (Err f) = wrong f.offset f.why

-- More data of a side's message, which has so many bytes, go to what came. Where the message is whole then, it comes to something.
abbrev pub after_data : ℕ → Side → Channel → ℕ → List ℕ → Next
after_data size side c whole part =
    let joined = (under_way side c).joined ++ part in
    if length joined == whole then after_message size side c (message_line side c.awaited joined)
    else entry size (Some (with_under_way side (record { whole = whole; joined = joined }) c)) []

-- a whole frame of a side
abbrev pub after_frame : Side → Channel → List ℕ → Next
after_frame side c frame = after_data (1 + length frame) side c (length_of frame) (data_of frame)

-- A row of the table of chunk faults holds; or none does. A recording names the frame's place, whatever field the row is about.
abbrev pub unless_row : Option RowFault → Next → Next
unless_row (Some row) next = wrong 1 (fault.Chunk row.why)
unless_row None next = next

-- What a side's bytes after the first of an entry come to. The rows of the table hold as soon as the bytes are there that they need.
abbrev pub frame_entry : Side → Channel → List ℕ → Next
frame_entry side c bytes =
    let u = under_way side c in
    if nat_lt (length bytes) 4 then cut else unless_row (size_fault (size_of bytes))
    (if nat_lt (length bytes) 12 then cut else unless_row (head_fault u.whole (length u.joined) bytes)
    (if nat_lt (length bytes) (size_of bytes + 4) then cut else after_frame side c (take (size_of bytes + 4) bytes)))

-- what comes next, where a channel has begun, or where none has
abbrev pub next_entry : Option Channel → List ℕ → Next
next_entry channel [] = cut
next_entry None (byte ∷ rest) = if byte == begins then entry 1 (Some fresh) [] else wrong 0 (fault.Field why.Value)
next_entry (Some c) (byte ∷ rest) =
    if byte == ended then entry 1 None []
    else (if byte == side_mark Host then frame_entry Host c rest
    else (if byte == side_mark Client then frame_entry Client c rest
    else wrong 0 (fault.Field why.Value)))
