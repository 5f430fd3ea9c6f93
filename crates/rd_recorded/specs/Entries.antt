-- The entries of a recording, one after another, as they are heard.
use Rattle.std.specs.Prelude.{ℕ, zero, suc, ◌+◌, ◌==◌, if◌then◌else◌, nat_lt, nat_eq, true, false, List, [], ◌∷◌, ◌++◌, length, take, drop, Option, Some, None, Result, Ok, Err}
use Rattle.std.specs.List.{starts_with}
use Rattle.rd_base.specs.declared.bad.Why.TheVariants as why
use Rattle.rd_chunk.specs.declared.head.RowFault.{RowFault}
use Rattle.rd_chunk.specs.Frames.{size_of, length_of, data_of}
use Rattle.rd_chunk.specs.Faults.{size_fault, head_fault}
use Rattle.rd_decode.specs.declared.side.Side.{Side}
use Rattle.rd_decode.specs.declared.side.Side.TheVariants.{Host, Client}
use Rattle.rd_decode.specs.declared.fault.Fault.{Fault}
use Rattle.rd_decode.specs.declared.fault.FaultWhy.{FaultWhy}
use Rattle.rd_decode.specs.declared.fault.FaultWhy.TheVariants as fault
use Rattle.rd_decode.specs.declared.fault.EntryFault.{EntryFault}
use Rattle.rd_decode.specs.Entries.{UnderWay, begins, ended, nothing_under_way, side_mark}
use Rattle.rd_decode.specs.Recording.{magic}
use Rattle.rd_recorded.specs.Channels.{HeardChannel, Open, closed, fresh_open}
use Rattle.rd_recorded.specs.Messages.{message_heard}

-- what was heard so far: the channels that ended, the one that is open, and how many entries there were
pub record Hearing : Type 0 where
  pub channels : List HeardChannel
  pub current : Option Open
  pub entries : ℕ

-- before the first entry
abbrev pub silence : Hearing
silence = record { channels = []; current = None; entries = 0 }

-- all channels, where nothing more comes
abbrev pub all_channels : Hearing → List HeardChannel
all_channels h = by h.current
  where
    by : Option Open → List HeardChannel
    by (Some o) = h.channels ++ closed false o ∷ []
    by None = h.channels

-- what the bytes from an entry's first on come to
pub data NextHeard (S : Type 0) : Type 0 where
  -- an entry of so many bytes, and what stands after it
  entry : ℕ → S → NextHeard S
  -- a fault, so many bytes after the entry's first
  wrong : ℕ → FaultWhy → NextHeard S
  -- the entry isn't all there
  cut : NextHeard S

-- what a side has under way, and something else
abbrev pub open_under_way : Side → Open → UnderWay
open_under_way Host o = o.host
open_under_way Client o = o.client

abbrev pub open_with : Side → UnderWay → Open → Open
open_with Host u o = record o { host = u }
open_with Client u o = record o { client = u }

-- after a message was heard, or its fault
abbrev pub after_heard : ℕ → Result Open EntryFault → NextHeard Open
after_heard size (Ok o) = entry size o
after_heard size (Err f) = wrong f.offset f.why

-- More data of a side's message, which has so many bytes, go to what came. Where the message is whole then, it is heard, and nothing is under way any more.
abbrev pub heard_data : ℕ → ℕ → Side → Open → ℕ → List ℕ → NextHeard Open
heard_data size number side o whole part =
    let joined = (open_under_way side o).joined ++ part in
    if length joined == whole then after_heard size (message_heard number side joined (open_with side nothing_under_way o))
    else entry size (open_with side (record { whole = whole; joined = joined }) o)

-- a whole frame of a side
abbrev pub heard_frame : ℕ → Side → Open → List ℕ → NextHeard Open
heard_frame number side o frame = heard_data (1 + length frame) number side o (length_of frame) (data_of frame)

-- A row of the table of chunk faults holds; or none does. A recording names the frame's place, whatever field the row is about.
abbrev pub unless_chunk_row : Option RowFault → NextHeard Open → NextHeard Open
unless_chunk_row (Some row) next = wrong 1 (fault.Chunk row.why)
unless_chunk_row None next = next

-- What a side's bytes after the first of an entry come to, which has this number. The rows of the table hold as soon as the bytes are there that they need.
abbrev pub frame_heard : ℕ → Side → Open → List ℕ → NextHeard Open
frame_heard number side o bytes =
    let u = open_under_way side o in
    if nat_lt (length bytes) 4 then cut else unless_chunk_row (size_fault (size_of bytes))
    (if nat_lt (length bytes) 12 then cut else unless_chunk_row (head_fault u.whole (length u.joined) bytes)
    (if nat_lt (length bytes) (size_of bytes + 4) then cut else heard_frame number side o (take (size_of bytes + 4) bytes)))

-- the same behind what was heard before
abbrev pub with_open : Hearing → NextHeard Open → NextHeard Hearing
with_open h (entry size o) = entry size (record h { current = Some o; entries = suc h.entries })
with_open h (wrong offset w) = wrong offset w
with_open h cut = cut

-- what was heard once the channel that is open ended, in an entry with this number
abbrev pub ended_after : ℕ → Open → Hearing → Hearing
ended_after number o h = record { channels = h.channels ++ closed true o ∷ []; current = None; entries = number }

-- what comes next, where a channel is open, or where none is
abbrev pub next_heard : Hearing → Option Open → List ℕ → NextHeard Hearing
next_heard h current [] = cut
next_heard h None (byte ∷ rest) = if byte == begins then with_open h (entry 1 fresh_open) else wrong 0 (fault.Field why.Value)
next_heard h (Some o) (byte ∷ rest) =
    if byte == ended then entry 1 (ended_after (suc h.entries) o h)
    else (if byte == side_mark Host then with_open h (frame_heard (suc h.entries) Host o rest)
    else (if byte == side_mark Client then with_open h (frame_heard (suc h.entries) Client o rest)
    else wrong 0 (fault.Field why.Value)))

-- What comes next at a place, and then the entries after it. An entry that the end cuts is a fault at its frame.
abbrev pub with_others_heard : (ℕ → Hearing → Result (List HeardChannel) Fault) → ℕ → NextHeard Hearing → Result (List HeardChannel) Fault
with_others_heard others at (entry size h) = others size h
with_others_heard others at (wrong offset w) = Err (record { at = at + offset; why = w })
with_others_heard others at cut = Err (record { at = at + 1; why = fault.Field why.Short })

-- The channels of the entries that bytes are whose first has this place, behind what was heard; or their first fault. There are at most as many entries as the
-- first argument says, which is at least the count of the bytes.
abbrev pub heard_from : ℕ → ℕ → Hearing → List ℕ → Result (List HeardChannel) Fault
heard_from most at h [] = Ok (all_channels h)
heard_from zero at h (byte ∷ rest) = Ok (all_channels h)
heard_from (suc most) at h (byte ∷ rest) = with_others_heard (λ size next. heard_from most (at + size) next (drop size (byte ∷ rest))) at (next_heard h h.current (byte ∷ rest))

-- a recording that doesn't begin with its magic, at this place
abbrev pub no_recording : ℕ → Fault
no_recording at = record { at = at; why = fault.Field why.Value }

-- the channels of a recording whose first byte has this place, or its first fault
abbrev pub recorded_channels : ℕ → List ℕ → Result (List HeardChannel) Fault
recorded_channels at bytes =
    if nat_lt (length bytes) 8 then Err (no_recording at)
    else (if starts_with nat_eq bytes magic then heard_from (length bytes) (at + 8) silence (drop 8 bytes)
    else Err (no_recording at))
