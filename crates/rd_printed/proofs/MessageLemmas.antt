-- What a message comes to, whatever is still to come: it has no line, or it is a request, a completion, or says nothing of either.
use Rattle.std.proofs.Common.{◌≡◌, ℕ, Bool, true, false, List, [], ◌∷◌, ◌++◌, length, Option, Some, None, refl, ◌∙◌}
use Rattle.std.specs.Prelude.{◌==◌, Result, Ok, Err, IsErr}
use Rattle.rd_base.specs.declared.bad.Bad.{Bad}
use Rattle.rd_base.specs.declared.packet.Packet.{Packet}
use Rattle.rd_base.specs.declared.packet.Packet.TheVariants as packet
use Rattle.rd_base.specs.Header.{any_header, packet_id}
use Rattle.rd_base.specs.Layout.{met}
use Rattle.rd_base.specs.Position.{Position, at_start}
use Rattle.rd_client.specs.Core.{op_read, request_with_head}
use Rattle.rd_hello.specs.Moves.{packet_in}
use Rattle.rd_irp.specs.declared.completion.Head.{Head}
use Rattle.rd_irp.specs.declared.request.Request.{Request}
use Rattle.rd_irp.specs.declared.request.RequestHead.{RequestHead}
use Rattle.rd_irp.specs.Completion.{completion_head}
use Rattle.rd_irp.specs.Fits.{kind_of}
use Rattle.rd_irp.specs.Measure.{left_after, measure_of}
use Rattle.rd_irp.specs.Request.{body_after, request_head}
use Rattle.rd_decode.specs.Awaited.{Awaited, with_awaited}
use Rattle.rd_decode.specs.declared.fault.EntryFault.{EntryFault}
use Rattle.rd_decode.specs.declared.side.Side.{Side}
use Rattle.rd_decode.specs.Lines.{line, may_send, request_shown}
use Rattle.rd_decode.specs.Messages.{Printed, body_line, message_line, packet_line, plain_line, plain_tail, unless_bad}
use Rattle.rd_printed.proofs.KindLemmas.{kind_read}
use Rattle.rd_deeds.specs.Talk.{head_in, is_request, request_in}
use Rattle.rd_deeds.proofs.Messages.{no_head_in, packet_is}

-- a message that says nothing of requests: its line, and what is still to come stays
pub record SaysNothing (side : Side) (message : List ℕ) : Type 0 where
  pub text : List ℕ
  pub line : (awaited : Awaited) → message_line side awaited message ≡ Ok (record { text = text; awaited = awaited })
  pub no_request : is_request message ≡ false
  pub no_head : head_in message ≡ None

-- a request: one more completion of its pair is to come
pub record Asks (side : Side) (message : List ℕ) : Type 0 where
  pub request : Request
  pub text : List ℕ
  pub line : (awaited : Awaited) → message_line side awaited message
      ≡ Ok (record { text = text; awaited = with_awaited request.device request.completion (awaited request.device request.completion ++ kind_of request.op ∷ []) awaited })
  pub is : is_request message ≡ true
  pub spells : request_in message ≡ Some request
  pub sender : may_send side packet.IoRequest ≡ true

-- a completion, whose body goes by what is still to come of its pair
pub record Completing (side : Side) (message : List ℕ) : Type 0 where
  pub head : Head
  pub line : (awaited : Awaited) → message_line side awaited message ≡ body_line side awaited message head (awaited head.device head.completion)
  pub is : head_in message ≡ Some head
  pub sender : may_send side packet.IoCompletion ≡ true

pub data Reading (side : Side) (message : List ℕ) : Type 0 where
  nothing : SaysNothing side message → Reading side message
  asks : Asks side message → Reading side message
  completing : Completing side message → Reading side message
  fails : ((awaited : Awaited) → IsErr (message_line side awaited message)) → Reading side message

-- ---- by its packet

is_bad : {A : Type 0} (side : Side) (message : List ℕ) (r : Result A Bad) (next : Awaited → A → Result Printed EntryFault) (bad : Bad) → r ≡ Err bad
    → ((awaited : Awaited) → message_line side awaited message ≡ unless_bad r (next awaited)) → (awaited : Awaited) → IsErr (message_line side awaited message)
is_bad side message r next bad e same awaited = rw (same awaited, e) refl

request_reading : (side : Side) (message : List ℕ) → packet_in message ≡ Some packet.IoRequest → may_send side packet.IoRequest ≡ true
    → ((awaited : Awaited) → message_line side awaited message ≡ packet_line packet.IoRequest side awaited message) → Reading side message
request_reading side message named sends same = by (met request_head (at_start message)) refl
  where
    by : (r : Result (RequestHead × Position) Bad) → met request_head (at_start message) ≡ r → Reading side message
    by (Err bad) e = fails (λ awaited. rw (same awaited, e) refl)
    by (Ok read) e =
        let tail = left_after (length (read.1).left) (met (body_after read.0) read.1) in
        let own = request_with_head read.0 (op_read read.0 (met (body_after read.0) read.1)) in
        let measured : measure_of message ≡ Ok (read.0, tail) = rw e refl in
        asks (record {
          request = own;
          text = line side packet.IoRequest (length message) (request_shown read.0) tail;
          line = λ awaited. same awaited ∙ rw (measured, (kind_read read.0 read.1).0) refl;
          is = packet_is packet.IoRequest packet.IoRequest message named;
          spells = rw e refl;
          sender = sends;
        })

completion_reading : (side : Side) (message : List ℕ) → packet_in message ≡ Some packet.IoCompletion → may_send side packet.IoCompletion ≡ true
    → ((awaited : Awaited) → message_line side awaited message ≡ packet_line packet.IoCompletion side awaited message) → Reading side message
completion_reading side message named sends same = by (met completion_head (at_start message)) refl
  where
    by : (r : Result (Head × Position) Bad) → met completion_head (at_start message) ≡ r → Reading side message
    by (Err bad) e = fails (λ awaited. rw (same awaited, e) refl)
    by (Ok read) e = completing (record { head = read.0; line = λ awaited. same awaited ∙ rw e refl; is = rw e refl; sender = sends })

plain_reading : (p : Packet) (side : Side) (message : List ℕ) → packet_in message ≡ Some p → (packet_id p == packet_id packet.IoRequest) ≡ false → (packet_id p == packet_id packet.IoCompletion) ≡ false
    → ((awaited : Awaited) → message_line side awaited message ≡ plain_line side p awaited message) → Reading side message
plain_reading p side message named other none same = by (plain_tail p message) refl
  where
    by : (r : Result ℕ Bad) → plain_tail p message ≡ r → Reading side message
    by (Err bad) e = fails (λ awaited. rw (same awaited, e) refl)
    by (Ok tail) e = nothing (record {
      text = line side p (length message) [] tail;
      line = λ awaited. same awaited ∙ rw e refl;
      no_request = packet_is p packet.IoRequest message named ∙ other;
      no_head = no_head_in p message named none;
    })

sent_reading : (p : Packet) (side : Side) (message : List ℕ) → packet_in message ≡ Some p → may_send side p ≡ true
    → ((awaited : Awaited) → message_line side awaited message ≡ packet_line p side awaited message) → Reading side message
sent_reading packet.IoRequest side message named sends same = request_reading side message named sends same
sent_reading packet.IoCompletion side message named sends same = completion_reading side message named sends same
sent_reading p side message named sends same = plain_reading p side message named refl refl same

-- what a message comes to
pub reading : (side : Side) (message : List ℕ) → Reading side message
reading side message = by (met any_header (at_start message)) refl
  where
    sent : (p : Packet) (q : Position) (b : Bool) → met any_header (at_start message) ≡ Ok (Some p, q) → may_send side p ≡ b → Reading side message
    sent p q false e sends = fails (λ awaited. rw (e, sends) refl)
    sent p q true e sends = sent_reading p side message (rw e refl) sends (λ awaited. rw (e, sends) refl)

    by : (r : Result (Option Packet × Position) Bad) → met any_header (at_start message) ≡ r → Reading side message
    by (Err bad) e = fails (λ awaited. rw e refl)
    by (Ok (None, q)) e = fails (λ awaited. rw e refl)
    by (Ok (Some p, q)) e = sent p q (may_send side p) e refl
