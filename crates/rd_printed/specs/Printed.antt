-- What is printed of a recording, by what both sides did.
use Rattle.std.specs.Prelude.{◌≡◌, ℕ, true, List, [], ◌∷◌, ◌++◌, Option, Some, None, IfSome, IsOk, Result, Ok, All}
use Rattle.rd_chunk.specs.Carrier.{IsMessage}
use Rattle.rd_decode.specs.Awaited.{Awaited, none_awaited}
use Rattle.rd_decode.specs.declared.fault.EntryFault.{EntryFault}
use Rattle.rd_decode.specs.declared.side.Side.TheVariants.{Host, Client}
use Rattle.rd_decode.specs.Lines.{completion_shown, request_shown}
use Rattle.rd_decode.specs.Messages.{Printed, message_line}
use Rattle.rd_irp.specs.declared.completion.Kind.{Kind}
use Rattle.rd_irp.specs.declared.completion.Reply.{Reply}
use Rattle.rd_irp.specs.declared.request.Request.{Request}
use Rattle.rd_irp.specs.Fits.{kind_of}
use Rattle.rd_irp.specs.Written.{major_of, minor_of}
use Rattle.rd_world.specs.Recording.{request_of, written_by}
use Rattle.rd_deeds.specs.Talk.{Deed, EachAfter, EndsWith, answered, client_writes, client_wrote, completes, host_begins, host_ends, host_writes, host_wrote, indices_of, message_has_pair, open_channel}

-- ---- the lines

-- one completion of this layout is still to come, whatever its pair
abbrev pub one_awaited : Kind → Awaited
one_awaited kind device completion = kind ∷ []

-- What the message comes to that is written by a deed, taken by itself: its line, or what goes wrong first with it. A completion is of the layout of the request
-- that it answers.
abbrev pub comes_of : List Deed → Deed → Option (Result Printed EntryFault)
comes_of before (host_writes channel message) = Some (message_line Host none_awaited message)
comes_of before (client_writes channel message) = Some (message_line Client none_awaited message)
comes_of before (completes key message) = Some (message_line Client (one_awaited (kind_of (request_of before key).op)) message)
comes_of before _ = None

-- the text of a line, where there is one
abbrev pub text_of : Option (Result Printed EntryFault) → List ℕ
text_of (Some (Ok printed)) = printed.text
text_of _ = []

-- the lines of what is written by deeds, of which the newest stands first
abbrev pub lines_by : List Deed → List ℕ
lines_by [] = []
lines_by (deed ∷ before) = lines_by before ++ text_of (comes_of before deed)

-- what the line of a request shows, by what it asks for
abbrev pub asks_shown : Request → List ℕ
asks_shown r = request_shown (record { device = r.device; file = r.file; completion = r.completion; major = major_of r.op; minor = minor_of r.op })

-- and that of a completion, by the reply with which it completes its request
abbrev pub answer_shown : Request → Reply → List ℕ
answer_shown r reply = completion_shown (record { device = r.device; completion = r.completion; status = reply.status })

-- ---- what is taken

-- the message that is written by a deed has a line
abbrev pub IsReadable : List Deed → Deed → Type 0
IsReadable before deed = IfSome (comes_of before deed) IsOk

-- A channel begins while none is open, and nothing was written under its number before; it ends while it is open; and what is written is written on the open one.
abbrev pub IsOnOpen : List Deed → Deed → Type 0
IsOnOpen before (host_begins channel) = (open_channel before ≡ None) × (host_wrote channel before ≡ []) × (client_wrote channel before ≡ [])
IsOnOpen before (host_ends channel) = open_channel before ≡ Some channel
IsOnOpen before (host_writes channel message) = open_channel before ≡ Some channel
IsOnOpen before (client_writes channel message) = open_channel before ≡ Some channel
IsOnOpen before (completes key message) = open_channel before ≡ Some key.channel
IsOnOpen before _ = Unit {0}

-- A completion answers the earliest request of its pair that has no answer yet.
abbrev pub AnswersNext : List Deed → Deed → Type 0
AnswersNext before (completes key message) = (device id : ℕ) → message_has_pair device id message ≡ true
    → EndsWith (indices_of device id (host_wrote key.channel before)) (key.index ∷ answered key.channel device id before)
AnswersNext before _ = Unit {0}

-- Deeds whose recording prints: messages of a message's size, on open channels, each of which has a line, and completions in their turn.
pub record ArePrintable (deeds : List Deed) : Type 0 where
  pub fit : All (λ deed. IfSome (written_by deed) IsMessage) deeds
  pub on_open : EachAfter IsOnOpen deeds
  pub readable : EachAfter IsReadable deeds
  pub in_turn : EachAfter AnswersNext deeds
