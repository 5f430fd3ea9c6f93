-- What a stop is answered with: a status, and a last line on the output.
use Rattle.std.specs.Prelude.{◌≡◌, ℕ, ◌⊎◌, List, ◌++◌, Option, Some, None, Result, Ok, Err, codes, decimal}
use Rattle.rd_audit.specs.declared.verdict.AuditWhy.{AuditWhy}
use Rattle.rd_audit.specs.declared.verdict.AuditWhy.TheVariants as audit
use Rattle.rd_audit.specs.declared.verdict.Verdict.{Verdict}
use Rattle.rd_audit.specs.declared.verdict.Verdict.TheVariants as verdict
use Rattle.rd_base.specs.declared.bad.Why.{Why}
use Rattle.rd_base.specs.declared.bad.Why.TheVariants as field
use Rattle.rd_carry.specs.declared.ended.EndWhy.{EndWhy}
use Rattle.rd_carry.specs.declared.ended.EndWhy.TheVariants as end
use Rattle.rd_chunk.specs.declared.fault.ChunkWhy.{ChunkWhy}
use Rattle.rd_chunk.specs.declared.fault.ChunkWhy.TheVariants as chunk
use Rattle.rd_decode.specs.declared.fault.Fault.{Fault}
use Rattle.rd_decode.specs.declared.fault.FaultWhy.{FaultWhy}
use Rattle.rd_decode.specs.declared.fault.FaultWhy.TheVariants as fault
use Rattle.rd_hello.specs.declared.end_fault.EndFault.{EndFault}
use Rattle.rd_hello.specs.declared.end_fault.EndFault.TheVariants as message
use Rattle.rd_script.specs.declared.why.LineWhy.{LineWhy}
use Rattle.rd_script.specs.declared.why.LineWhy.TheVariants as why
use Rattle.rd_world.specs.declared.event.StepNo.{StepNo}
use Rattle.rd_world.specs.declared.event.StepNo.TheVariants as no
use Rattle.rd_cli.specs.Outside.{FailedToWrite, Stream, Wrote}
use Rattle.rd_cli.specs.declared.stop.Stop.{Stop}
use Rattle.rd_cli.specs.declared.stop.Stop.TheVariants as stop

-- what ends a command whose session stopped early: a write to the recording failed, or memory ran out
abbrev pub early_stop : StepNo → Stop
early_stop no.Wire = stop.Recording
early_stop no.Memory = stop.Memory
early_stop (no.Disabled event) = stop.Memory

-- the exit status of each cause
abbrev pub status_of : Stop → ℕ
status_of stop.Words = 1
status_of (stop.Line line cause) = 1
status_of stop.Input = 2
status_of stop.Output = 3
status_of stop.Recording = 3
status_of (stop.Fault fault) = 4
status_of (stop.Channel channel at message cause) = 4
status_of stop.Link = 5
status_of stop.Memory = 6
status_of stop.Long = 7
status_of stop.Folder = 8
status_of (stop.No found) = 9

-- the word for what is wrong with a field
abbrev pub field_word : Why → List ℕ
field_word field.Short = codes "Short"
field_word field.Component = codes "Component"
field_word field.Packet = codes "Packet"
field_word field.Count = codes "Count"
field_word field.Length = codes "Length"
field_word field.Value = codes "Value"

-- the word for what is wrong with a frame
abbrev pub chunk_word : ChunkWhy → List ℕ
chunk_word chunk.Empty = codes "Empty"
chunk_word chunk.Size = codes "Size"
chunk_word chunk.Compressed = codes "Compressed"
chunk_word chunk.NoFirst = codes "NoFirst"
chunk_word chunk.SecondFirst = codes "SecondFirst"
chunk_word chunk.TooLong = codes "TooLong"
chunk_word chunk.LengthChanged = codes "LengthChanged"
chunk_word chunk.Overrun = codes "Overrun"
chunk_word chunk.LastEarly = codes "LastEarly"
chunk_word chunk.NotLast = codes "NotLast"

-- the word for what is wrong with a recording
abbrev pub why_word : FaultWhy → List ℕ
why_word (fault.Chunk why) = chunk_word why
why_word (fault.Field why) = field_word why
why_word fault.Stray = codes "Stray"

-- the line for a fault of a recording
abbrev pub fault_line : Fault → List ℕ
fault_line f = codes "fault at " ++ decimal f.at ++ codes " " ++ why_word f.why ++ codes "\n"

-- the word for what is wrong with a message
abbrev pub message_word : EndFault → List ℕ
message_word (message.Order state packet) = codes "Order"
message_word (message.Grammar bad) = field_word bad.why
message_word message.Memory = codes "Memory"

-- the word for what is wrong with what the other side sent
abbrev pub end_word : EndWhy → List ℕ
end_word (end.Chunk cause) = chunk_word cause
end_word (end.Message fault) = message_word fault
end_word end.Stray = codes "Stray"
end_word (end.BodyBad cause) = codes "BodyBad"
end_word end.Duplicate = codes "Duplicate"

-- the end of the line of a fault: in which message it is, counted from 0; one of the frames is in none
abbrev pub in_message : ℕ → EndWhy → List ℕ
in_message n (end.Chunk cause) = codes "\n"
in_message n _ = codes " in " ++ decimal n ++ codes "\n"

-- the line for what is wrong with what the other side sent on a channel
abbrev pub channel_line : (channel at message : ℕ) → EndWhy → List ℕ
channel_line channel at n cause = codes "channel " ++ decimal channel ++ codes " at " ++ decimal at ++ codes " " ++ end_word cause ++ in_message n cause

-- the word for what is wrong with a line of a script
abbrev pub line_word : LineWhy → List ℕ
line_word why.Words = codes "words"
line_word why.Number = codes "number"
line_word why.Name = codes "name"
line_word why.Path = codes "path"
line_word why.Hex = codes "hex"
line_word why.Device = codes "device"
line_word why.Many = codes "many"

-- the line for a refused line of a script
abbrev pub refused_line : ℕ → LineWhy → List ℕ
refused_line line cause = codes "line " ++ decimal line ++ codes " " ++ line_word cause ++ codes "\n"

-- the word for why a completion doesn't belong
abbrev pub audit_word : AuditWhy → List ℕ
audit_word audit.Stray = codes "stray"
audit_word audit.Answer = codes "answer"
audit_word audit.Order = codes "order"
audit_word audit.Direct = codes "direct"

-- the line for what was found of an audit file
abbrev pub verdict_line : Verdict → List ℕ
verdict_line verdict.Yes = codes "yes\n"
verdict_line (verdict.Item device item clause) = codes "no journal " ++ decimal device ++ codes " item " ++ decimal item ++ codes " clause " ++ decimal clause ++ codes "\n"
verdict_line (verdict.Mark device item) = codes "no journal " ++ decimal device ++ codes " item " ++ decimal item ++ codes " mark\n"
verdict_line (verdict.Entry entry why) = codes "no entry " ++ decimal entry ++ codes " " ++ audit_word why ++ codes "\n"
verdict_line (verdict.Open channel) = codes "no channel " ++ decimal channel ++ codes " open\n"

-- the line for a recording, a channel or an audit file past the limit
abbrev pub long_line : List ℕ
long_line = codes "long\n"

-- what the output says of a stop, if anything
abbrev pub last_line : Stop → Option (List ℕ)
last_line stop.Words = Some (codes "bad words\n")
last_line (stop.Line line cause) = Some (refused_line line cause)
last_line (stop.Fault fault) = Some (fault_line fault)
last_line (stop.Channel channel at message cause) = Some (channel_line channel at message cause)
last_line stop.Long = Some long_line
last_line (stop.No found) = Some (verdict_line found)
last_line _ = None

-- A line was written, or the first fault ended that.
abbrev pub Says : {K : Type 0} → List ℕ → (before after : Stream K) → Type 0
Says line before after = Wrote before after line ⊎ FailedToWrite before after line

-- The status is this one, and the last line, if there is one, was written, or the first fault ended that; or memory ran out before, and the output wasn't
-- touched.
abbrev pub SaysLast : {K : Type 0} → Option (List ℕ) → ℕ → (before after : Stream K) → ℕ → Type 0
SaysLast None own before after status = (status ≡ own) × (after ≡ before)
SaysLast (Some line) own before after status = ((status ≡ own) × Says line before after) ⊎ ((status ≡ 6) × (after ≡ before))

-- a stop ends with its status and its last line
abbrev pub StopsWith : {K : Type 0} → Stop → (before after : Stream K) → ℕ → Type 0
StopsWith s before after status = SaysLast (last_line s) (status_of s) before after status

-- What came of the printing of a text: it was written, or the first fault ended that, or memory ran out before any of it was written.
abbrev pub Prints : {T K : Type 0} → List ℕ → (before after : Stream K) → Result T Stop → Type 0
Prints text before after (Ok done) = Wrote before after text
Prints text before after (Err stop.Output) = FailedToWrite before after text
Prints text before after (Err stop.Memory) = after ≡ before
Prints text before after (Err s) = ⊥
