-- What a message comes to: the line that is printed of it, or what goes wrong first.
use Rattle.std.specs.Prelude.{if◌then◌else◌, ℕ, List, [], ◌∷◌, ◌++◌, length, drop, Option, Some, None, Result, Ok, Err}
use Rattle.rd_base.specs.declared.bad.Bad.{Bad}
use Rattle.rd_base.specs.declared.bad.Why.TheVariants as why
use Rattle.rd_base.specs.declared.packet.Packet.{Packet}
use Rattle.rd_base.specs.declared.packet.Packet.TheVariants as packet
use Rattle.rd_base.specs.Position.{at_start}
use Rattle.rd_base.specs.Layout.{met}
use Rattle.rd_base.specs.Header.{any_header}
use Rattle.rd_hello.specs.Hello.{hello}
use Rattle.rd_devices.specs.DeviceList.{device_list}
use Rattle.rd_devices.specs.Removal.{removal}
use Rattle.rd_devices.specs.DeviceReply.{device_reply}
use Rattle.rd_printer.specs.Notice.{notice}
use Rattle.rd_irp.specs.declared.completion.Head.{Head}
use Rattle.rd_irp.specs.declared.completion.Kind.{Kind}
use Rattle.rd_irp.specs.Completion.{completion_head, completion_body}
use Rattle.rd_irp.specs.Fits.{kind_of_major}
use Rattle.rd_irp.specs.Measure.{measure_of, tail_of}
use Rattle.rd_decode.specs.declared.side.Side.{Side}
use Rattle.rd_decode.specs.declared.fault.FaultWhy.{FaultWhy}
use Rattle.rd_decode.specs.declared.fault.FaultWhy.TheVariants as fault
use Rattle.rd_decode.specs.declared.fault.EntryFault.{EntryFault}
use Rattle.rd_decode.specs.Awaited.{Awaited, with_awaited}
use Rattle.rd_decode.specs.Lines.{line, request_shown, completion_shown, may_send}

-- a message's line, and what is still to come after it
pub record Printed : Type 0 where
  pub text : List ℕ
  pub awaited : Awaited

-- a fault in a frame, or in the message that it ended: it has the frame's place, which is the one after the entry's first byte
abbrev pub in_frame : {A : Type 0} → FaultWhy → Result A EntryFault
in_frame w = Err (record { offset = 1; why = w })

-- A fault of a field has the frame's place too; where there is none, it goes on.
abbrev pub unless_bad : {A B : Type 0} → Result A Bad → (A → Result B EntryFault) → Result B EntryFault
unless_bad (Ok a) next = next a
unless_bad (Err bad) next = in_frame (fault.Field bad.why)

-- how many bytes a packet that says nothing of requests leaves, or its first fault
abbrev pub plain_tail : Packet → List ℕ → Result ℕ Bad
plain_tail packet.DeviceListAnnounce message = tail_of device_list message
plain_tail packet.DeviceListRemove message = tail_of removal message
plain_tail packet.DeviceReply message = tail_of device_reply message
plain_tail packet.PrinterCacheData message = tail_of notice message
plain_tail packet.PrinterUsingXps message = tail_of notice message
plain_tail p message = tail_of hello message

-- a packet that says nothing of requests, of which nothing but its name is shown
abbrev pub plain_line : Side → Packet → Awaited → List ℕ → Result Printed EntryFault
plain_line side p awaited message = unless_bad (plain_tail p message) (λ tail. Ok (record { text = line side p (length message) [] tail; awaited = awaited }))

-- A request. From now on its completion is still to come.
abbrev pub request_line : Side → Awaited → List ℕ → Result Printed EntryFault
request_line side awaited message = unless_bad (measure_of message) (λ read.
    let head = read.0 in
    let kinds = awaited head.device head.completion ++ kind_of_major head.major ∷ [] in
    Ok (record { text = line side packet.IoRequest (length message) (request_shown head) read.1; awaited = with_awaited head.device head.completion kinds awaited }))

-- A completion with this head, where these are still to come of its pair: it is the first of them, or it has no request.
abbrev pub body_line : Side → Awaited → List ℕ → Head → List Kind → Result Printed EntryFault
body_line side awaited message head [] = in_frame fault.Stray
body_line side awaited message head (kind ∷ others) = unless_bad (tail_of (completion_body kind head.status) (drop 16 message)) (λ tail.
    Ok (record { text = line side packet.IoCompletion (length message) (completion_shown head) tail; awaited = with_awaited head.device head.completion others awaited }))

-- A completion: of the first request of its pair that has none yet.
abbrev pub completion_line : Side → Awaited → List ℕ → Result Printed EntryFault
completion_line side awaited message = unless_bad (met completion_head (at_start message)) (λ read. body_line side awaited message read.0 (awaited (read.0).device (read.0).completion))

-- a message of this packet
abbrev pub packet_line : Packet → Side → Awaited → List ℕ → Result Printed EntryFault
packet_line packet.IoRequest side awaited message = request_line side awaited message
packet_line packet.IoCompletion side awaited message = completion_line side awaited message
packet_line p side awaited message = plain_line side p awaited message

-- a message of a packet that this side sends; any other packet is a fault at the entry
abbrev pub sent_line : Side → Awaited → List ℕ → Option Packet → Result Printed EntryFault
sent_line side awaited message (Some p) = if may_send side p then packet_line p side awaited message else Err (record { offset = 0; why = fault.Field why.Value })
sent_line side awaited message None = in_frame (fault.Field why.Packet)

-- A message of a side. A header always names some packet.
abbrev pub message_line : Side → Awaited → List ℕ → Result Printed EntryFault
message_line side awaited message = unless_bad (met any_header (at_start message)) (λ read. sent_line side awaited message read.0)
