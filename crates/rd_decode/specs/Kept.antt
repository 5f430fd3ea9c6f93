-- How the code keeps what the definitions speak of.
use Rattle.std.specs.Prelude.{◌≡◌, ℕ, ◌+◌, ◌<◌, ◌≤◌, ◌⊎◌, ◌==◌, ◌&&◌, length, drop, Bool, List, [], ◌∷◌, ◌++◌, Option, Some, None, option_map, Result, Ok, Err}
use Rattle.std.specs.Option.{option_map_or}
use Rattle.std.specs.Map.{lookup}
use Rattle.std.specs.Io.KnownBytes.{Consumes, Keeps}
use Rattle.std.specs.declared.collections.VecDeque.{VecDeque}
use Rattle.rd_base.specs.declared.bad.Why.TheVariants as short
use Rattle.rd_base.specs.declared.bad.Bad.{Bad}
use Rattle.rd_base.specs.declared.bad.ReadNo.{ReadNo}
use Rattle.rd_base.specs.declared.bad.ReadNo.TheVariants as read_no
use Rattle.rd_decode.specs.declared.fault.EntryFault.{EntryFault}
use Rattle.rd_decode.specs.declared.fault.FaultWhy.TheVariants as why
use Rattle.rd_decode.specs.declared.fault.LineNo.{LineNo}
use Rattle.rd_decode.specs.declared.fault.LineNo.TheVariants as line_no
use Rattle.rd_decode.specs.declared.awaited.Pair.{Pair}
use Rattle.rd_decode.specs.declared.awaited.Requests.{Requests}
use Rattle.rd_decode.specs.Awaited.{Awaited, AwaitedOf}
use Rattle.rd_decode.specs.Messages.{Printed}
use Rattle.rd_decode.specs.Entries.{Channel, Next, cut, entry, next_entry, nothing_under_way, with_under_way, wrong}
use Rattle.rd_decode.specs.Recording.{decoded, decoded_from, text_before}
use Rattle.rd_decode.specs.Streams.{FailedToWrite, HasOneFault, Read, Stream, Wrote}
use Rattle.rd_decode.specs.Ends.{EndsInFault, limit}
use Rattle.rd_decode.specs.declared.fault.DecodeNo.{DecodeNo}
use Rattle.rd_decode.specs.declared.fault.DecodeNo.TheVariants as decode_no
use Rattle.rd_decode.specs.declared.side.Side.{Side}
use Rattle.rd_decode.specs.declared.channel.Channel.{Channel as Kept}

-- whether a pair is that of this device and this completion id
abbrev pub is_pair : ℕ → ℕ → Pair → Bool
is_pair device completion pair = device == pair.device && completion == pair.completion

module _ {K : Type 0} where
  -- what is still to come, by what is kept at each pair
  abbrev pub kept_at : {A : Type 0} → List (Pair × VecDeque K A) → AwaitedOf K
  kept_at kept device completion = option_map_or (λ queue. queue.items) (lookup (is_pair device completion) kept) []

  -- what is still to come
  abbrev pub awaited_of : Requests K → AwaitedOf K
  awaited_of requests = kept_at (requests.queues).entries

-- a fault of a field, in the message that a frame ended
abbrev pub line_no_of : Bad → LineNo
line_no_of bad = line_no.Bad (record { offset = 1; why = why.Field bad.why })

-- the same of a reader that may find no memory
abbrev pub line_no_of_read : ReadNo → LineNo
line_no_of_read (read_no.Bad bad) = line_no_of bad
line_no_of_read read_no.Memory = line_no.Memory

-- A message comes to a line, which is appended, and to what is awaited after it; or to a fault, and nothing is appended; or memory ran out.
abbrev pub PrintsLine : Result Printed EntryFault → (before after : List ℕ) → Awaited → Result (Unit {0}) LineNo → Type 0
PrintsLine r before after awaited (Err line_no.Memory) = Unit {0}
PrintsLine r before after awaited (Ok u) = (p : Printed) × (r ≡ Ok p) × (after ≡ before ++ p.text) × (awaited ≡ p.awaited)
PrintsLine r before after awaited (Err (line_no.Bad f)) = (r ≡ Err f) × (after ≡ before)

-- what is known of a channel
abbrev pub channel_of : Kept → Channel
channel_of c = record { host = c.host; client = c.client; awaited = awaited_of c.requests }

-- what is known of a channel that may have begun
abbrev pub kept_channel : Option Kept → Option Channel
kept_channel channel = option_map channel_of channel

-- A message that a side has under way comes to a line, which is appended, and nothing is under way there any more; or to a fault, and nothing is
-- appended; or memory ran out.
abbrev pub EndsMessage : Side → Channel → Result Printed EntryFault → (before after : List ℕ) → Channel → Result (Unit {0}) LineNo → Type 0
EndsMessage side c r before after next (Err line_no.Memory) = Unit {0}
EndsMessage side c r before after next (Ok u) = (p : Printed) × (r ≡ Ok p) × (after ≡ before ++ p.text) × (next ≡ with_under_way side nothing_under_way (record c { awaited = p.awaited }))
EndsMessage side c r before after next (Err (line_no.Bad f)) = (r ≡ Err f) × (after ≡ before)

-- What comes next is an entry of so many bytes, which is taken, and its line, if it has one, is appended; or it isn't all there, and nothing is
-- taken; or it is a fault; or memory ran out.
abbrev pub TakesEntry : Next → (channel after : Option Channel) → (before text : List ℕ) → Result (Option ℕ) LineNo → Type 0
TakesEntry next channel after before text (Err line_no.Memory) = Unit {0}
TakesEntry next channel after before text (Ok None) = (next ≡ cut) × (after ≡ channel) × (text ≡ before)
TakesEntry next channel after before text (Ok (Some size)) = (shown : List ℕ) × (next ≡ entry size after shown) × (text ≡ before ++ shown)
TakesEntry next channel after before text (Err (line_no.Bad f)) = (next ≡ wrong f.offset f.why) × (text ≡ before)

-- Bytes whose first has a place come to these lines and then to what the rest of them comes to, whatever comes after them.
pub record GoesOn (at : ℕ) (channel : Option Channel) (bytes shown : List ℕ) (next : ℕ) (after_channel : Option Channel) (rest : List ℕ) : Type 0 where
  pub place : next + length rest ≡ at + length bytes
  pub on : (more : List ℕ) (most : ℕ) → length (bytes ++ more) ≤ most
      → (fewer : ℕ) × (length (rest ++ more) ≤ fewer) × (decoded_from most at channel (bytes ++ more) ≡ text_before shown (decoded_from fewer next after_channel (rest ++ more)))

-- All entries of these bytes were taken that are there whole, from a place on, and their lines were appended; or there is this fault after them.
abbrev pub TakesAll : (at : ℕ) (channel : Option Channel) (bytes : List ℕ) → (next : ℕ) (after_channel : Option Channel) (before text : List ℕ) → Result ℕ DecodeNo → Type 0
TakesAll at channel bytes next after_channel before text (Ok count) =
    (shown : List ℕ) × (count ≤ length bytes) × (text ≡ before ++ shown) × GoesOn at channel bytes shown next after_channel (drop count bytes) × (next_entry after_channel (drop count bytes) ≡ cut)
TakesAll at channel bytes next after_channel before text (Err (decode_no.Bad f)) =
    (shown : List ℕ) × (middle : Option Channel) × (rest : List ℕ) × (offset : ℕ) × (text ≡ before ++ shown) × GoesOn at channel bytes shown next middle rest × (next_entry middle rest ≡ wrong offset f.why) × (f.at ≡ next + offset)
TakesAll at channel bytes next after_channel before text (Err decode_no.Memory) = Unit {0}
TakesAll at channel bytes next after_channel before text (Err other) = ⊥

-- Some of the text was written, and the rest stays.
abbrev pub Flushed : {K : Type 0} → (before after : Stream K) → (text kept : List ℕ) → Type 0
Flushed before after text kept = (written : List ℕ) × (text ≡ written ++ kept) × Wrote before after written

-- how many bytes of lines are written at once, or more, unless they are the last; fewer wait for others
abbrev pub piece_len : ℕ
piece_len = 65536

-- a read failed, or memory ran out, after a piece was read or before
abbrev pub FailsToRead : {S : Type 0} → (before after : Stream S) → DecodeNo → Type 0
FailsToRead before after decode_no.Input = HasOneFault before after × Keeps before.bytes after.bytes
FailsToRead before after decode_no.Memory = (piece : List ℕ) × Read before after piece
FailsToRead before after other = ⊥

-- The magic isn't there: what was read doesn't begin with it, or is too short where the input ended; or a read failed, or memory ran out, before
-- it was.
abbrev pub FailsToBegin : {S : Type 0} → (before after : Stream S) → DecodeNo → Type 0
FailsToBegin before after (decode_no.Bad f) = (bytes : List ℕ) × Read before after bytes × (length bytes ≤ limit) × EndsInFault after bytes f × ((decoded bytes).text ≡ [])
FailsToBegin before after decode_no.Input = (bytes : List ℕ) × Consumes before.bytes after.bytes bytes × HasOneFault before after × (length bytes < 8)
FailsToBegin before after decode_no.Memory = (bytes : List ℕ) × Read before after bytes
FailsToBegin before after other = ⊥

-- The printing of a recording so far: how much was read, the place of what isn't taken yet, the channel there, and the lines that aren't printed yet.
pub record Printing {S K : Type 0} (input input_after : Stream S) (output output_after : Stream K) (count at : ℕ) (channel : Option Channel) (text held : List ℕ) : Type 0 where
  pub bytes : List ℕ
  pub written : List ℕ
  pub read : Read input input_after bytes
  pub wrote : Wrote output output_after written
  pub counted : length bytes ≡ count
  pub place : at + length held ≡ count
  pub on : (more : List ℕ) → (fewer : ℕ) × (length (held ++ more) ≤ fewer) × (decoded (bytes ++ more) ≡ text_before (written ++ text) (decoded_from fewer at channel (held ++ more)))

-- before a fault the lines are printed, or that fails; before any other stop nothing is
abbrev pub PrintsBefore : {K : Type 0} → (before after : Stream K) → (text : List ℕ) → (stop result : DecodeNo) → Type 0
PrintsBefore before after text (decode_no.Bad f) result = ((result ≡ decode_no.Bad f) × Wrote before after text) ⊎ ((result ≡ decode_no.Output) × FailedToWrite before after text)
PrintsBefore before after text other result = (result ≡ other) × (after ≡ before)

-- after a failed read the lines are printed, or that fails too, which changes nothing
abbrev pub PrintsUnread : {K : Type 0} → (before after : Stream K) → (text : List ℕ) → (stop result : DecodeNo) → Type 0
PrintsUnread before after text decode_no.Input result = (result ≡ decode_no.Input) × (Wrote before after text ⊎ FailedToWrite before after text)
PrintsUnread before after text other result = (result ≡ other) × (after ≡ before)

-- what the end of the input means where these bytes weren't taken
abbrev pub nothing_left : ℕ → List ℕ → Result (Unit {0}) DecodeNo
nothing_left at [] = Ok tt
nothing_left at (byte ∷ rest) = Err (decode_no.Bad (record { at = at + 1; why = why.Field short.Short }))
