-- How the code keeps what the definitions speak of.
use Rattle.std.specs.Prelude.{◌≡◌, ℕ, ◌==◌, true, false, List, ◌++◌, length, Option, Some, None, option_map, Result, Ok, Err}
use Rattle.rd_decode.specs.declared.fault.EntryFault.{EntryFault}
use Rattle.rd_decode.specs.declared.fault.Fault.{Fault}
use Rattle.rd_decode.specs.declared.fault.LineNo.{LineNo}
use Rattle.rd_decode.specs.declared.fault.LineNo.TheVariants as line_no
use Rattle.rd_recorded.specs.declared.no.RecordingNo.{RecordingNo}
use Rattle.rd_recorded.specs.declared.no.RecordingNo.TheVariants as no
use Rattle.rd_decode.specs.Kept.{awaited_of}
use Rattle.rd_recorded.specs.declared.hearing.Hearing.{Hearing as Kept}
use Rattle.rd_recorded.specs.declared.open_channel.OpenChannel.{OpenChannel}
use Rattle.rd_recorded.specs.Channels.{HeardChannel, Open}
use Rattle.rd_decode.specs.declared.side.Side.{Side}
use Rattle.rd_decode.specs.Entries.{UnderWay, nothing_under_way}
use Rattle.rd_recorded.specs.Entries.{Hearing, NextHeard, cut, entry, open_under_way, open_with, wrong}

-- the channel that is open, and what was heard so far
abbrev pub open_of : OpenChannel → Open
open_of o = record { host = o.host; client = o.client; requests = o.requests.items; sayings = o.sayings.items; awaited = awaited_of o.awaited }

abbrev pub hearing_of : Kept → Hearing
hearing_of h = record { channels = h.channels.items; current = option_map open_of h.current; entries = h.entries }

-- A message was heard; or it has a fault; or memory ran out.
abbrev pub Hears : Result Open EntryFault → Open → Result (Unit {0}) LineNo → Type 0
Hears r new (Err line_no.Memory) = Unit {0}
Hears r new (Ok u) = r ≡ Ok new
Hears r new (Err (line_no.Bad f)) = r ≡ Err f

-- An entry of so many bytes was taken; or it isn't all there; or it has a fault; or memory ran out.
abbrev pub HearsEntry : {S : Type 0} → NextHeard S → S → Result (Option ℕ) LineNo → Type 0
HearsEntry next new (Err line_no.Memory) = Unit {0}
HearsEntry next new (Ok None) = next ≡ cut
HearsEntry next new (Ok (Some size)) = next ≡ entry size new
HearsEntry next new (Err (line_no.Bad f)) = next ≡ wrong f.offset f.why

-- A part of a message of so many bytes came to what a side has under way: the message is whole and is this, or it isn't.
abbrev pub JoinsPart : ℕ → List ℕ → UnderWay → UnderWay → Option (List ℕ) → Type 0
JoinsPart whole part old new (Some message) = ((length (old.joined ++ part) == whole) ≡ true) × (message ≡ old.joined ++ part) × (new ≡ nothing_under_way)
JoinsPart whole part old new None = ((length (old.joined ++ part) == whole) ≡ false) × (new ≡ record { whole = whole; joined = old.joined ++ part })

-- the same on a channel
abbrev pub JoinsOn : Side → ℕ → List ℕ → Open → Open → Option (List ℕ) → Type 0
JoinsOn side whole part old new message = (u : UnderWay) × (new ≡ open_with side u old) × JoinsPart whole part (open_under_way side old) u message

-- A recording has a fault; or memory ran out.
abbrev pub RefusedFor : Result (List HeardChannel) Fault → RecordingNo → Type 0
RefusedFor r no.Memory = Unit {0}
RefusedFor r (no.Bad f) = r ≡ Err f
