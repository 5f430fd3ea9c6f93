-- What the lines of requests and completions say.
use Rattle.std.proofs.Common.{◌≡◌, ◌∙◌, refl, ap, ℕ, true, List, [], ◌∷◌, length, drop, Some, None, Ok, Err}
use Rattle.std.specs.Prelude.{Result}
use Rattle.rd_base.specs.declared.bad.Bad.{Bad}
use Rattle.rd_client.specs.Core.{op_read, request_with_head}
use Rattle.rd_base.specs.declared.packet.Packet.{Packet}
use Rattle.rd_base.specs.declared.packet.Packet.TheVariants as packet
use Rattle.rd_base.specs.Header.{any_header, header}
use Rattle.rd_base.specs.Layout.{met}
use Rattle.rd_base.specs.Position.{Position, at_start}
use Rattle.rd_base.proofs.HeaderLemmas.{named_back}
use Rattle.rd_base.proofs.LayoutLemmas.{meets}
use Rattle.rd_base.proofs.ResultLemmas.{and_then_ok}
use Rattle.rd_decode.specs.Awaited.{Awaited, none_awaited, with_awaited}
use Rattle.rd_decode.specs.declared.fault.EntryFault.{EntryFault}
use Rattle.rd_decode.specs.declared.side.Side.{Side}
use Rattle.rd_decode.specs.declared.side.Side.TheVariants.{Client, Host}
use Rattle.rd_decode.specs.Lines.{line, may_send, request_shown}
use Rattle.rd_decode.specs.Messages.{Printed, message_line, packet_line}
use Rattle.rd_irp.specs.declared.completion.Head.{Head}
use Rattle.rd_irp.specs.declared.completion.Reply.{Reply}
use Rattle.rd_irp.specs.declared.request.Request.{Request}
use Rattle.rd_irp.specs.Completion.{completion_body, completion_head}
use Rattle.rd_irp.specs.Fits.{kind_of, kind_of_major}
use Rattle.rd_irp.specs.declared.request.RequestHead.{RequestHead}
use Rattle.rd_irp.specs.Measure.{left_after, measure_of, tail_of}
use Rattle.rd_irp.specs.Request.{body_after, request_head}
use Rattle.rd_decode.proofs.MessageLemmas.{request_found}
use Rattle.rd_printed.specs.Printed.{answer_shown, asks_shown, comes_of, one_awaited, text_of}
use Rattle.rd_printed.proofs.KindLemmas.{kind_read}
use Rattle.rd_deeds.proofs.Messages.{head_read}
use Rattle.rd_deeds.specs.Talk.{Deed, host_writes, request_in}
use Rattle.rd_deeds.specs.Told.{CompletesWith}

-- ---- headers

-- the packet that a message's header names
pub record IsHeaded (m : List ℕ) (p : Packet) : Type 0 where
  pub after : Position
  pub named : met any_header (at_start m) ≡ Ok (Some p, after)

pub own_headed : (p : Packet) (m : List ℕ) (x : Unit {0} × Position) → met (header p) (at_start m) ≡ Ok x → IsHeaded m p
own_headed p m x e = record { after = x.1; named = named_back p (at_start m) x.1 e }

pub headed_line : (side : Side) (awaited : Awaited) (p : Packet) (m : List ℕ) → IsHeaded m p → may_send side p ≡ true → message_line side awaited m ≡ packet_line p side awaited m
headed_line side awaited p m h sends = rw (h.named, sends) refl

-- ---- completions

completion_headed : (m : List ℕ) (x : Head × Position) → met completion_head (at_start m) ≡ Ok x → IsHeaded m packet.IoCompletion
unfolding completion_head
completion_headed m x e = let first = and_then_ok (met (header packet.IoCompletion) (at_start m)) _ x e in own_headed packet.IoCompletion m first.0 first.1

-- what completes a request has a line by that one's layout
pub completion_line_is : (r : Request) (reply : Reply) (m : List ℕ) (is : CompletesWith r reply m) → message_line Client (one_awaited (kind_of r.op)) m
    ≡ Ok (record { text = line Client packet.IoCompletion (length m) (answer_shown r reply) is.tail; awaited = with_awaited r.device r.completion [] (one_awaited (kind_of r.op)) })
completion_line_is r reply m is =
    let h : Head = record { device = r.device; completion = r.completion; status = reply.status } in
    let read = head_read h m is.head in
    let body = meets (completion_body (kind_of r.op) reply.status) 0 (drop 16 m) reply.body is.tail is.body in
    let tail : tail_of (completion_body (kind_of r.op) reply.status) (drop 16 m) ≡ Ok is.tail = rw body.1 (ap (λ (n : ℕ). Ok n) body.2) in
    rw (headed_line Client (one_awaited (kind_of r.op)) packet.IoCompletion m (completion_headed m (h, read.0) read.1) refl, read.1, tail) refl

-- ---- requests

request_headed : (m : List ℕ) (x : RequestHead × Position) → met request_head (at_start m) ≡ Ok x → IsHeaded m packet.IoRequest
unfolding request_head
request_headed m x e = let first = and_then_ok (met (header packet.IoRequest) (at_start m)) _ x e in own_headed packet.IoRequest m first.0 first.1

-- a request whose head is met has a line
pub record HasLine (m : List ℕ) (head : RequestHead) : Type 0 where
  pub tail : ℕ
  pub awaited : Awaited
  pub line_is : message_line Host none_awaited m ≡ Ok (record { text = line Host packet.IoRequest (length m) (request_shown head) tail; awaited = awaited })

pub request_line_is : (m : List ℕ) (x : RequestHead × Position) → met request_head (at_start m) ≡ Ok x → HasLine m x.0
request_line_is m x e =
    let tail = left_after (length x.1.left) (met (body_after x.0) x.1) in
    let measured : measure_of m ≡ Ok (x.0, tail) = rw e refl in
    record {
      tail = tail;
      awaited = with_awaited x.0.device x.0.completion (kind_of_major x.0.major ∷ []) none_awaited;
      line_is = headed_line Host none_awaited packet.IoRequest m (request_headed m x e) refl ∙ request_found Host none_awaited m x.0 tail measured;
    }

pub request_text_is : (before : List Deed) (channel : ℕ) (m : List ℕ) (r : Request) → request_in m ≡ Some r
    → (tail : ℕ) × (text_of (comes_of before (host_writes channel m)) ≡ line Host packet.IoRequest (length m) (asks_shown r) tail)
request_text_is before channel m r spells = by (met request_head (at_start m)) refl
  where
    by : (x : Result (RequestHead × Position) Bad) → met request_head (at_start m) ≡ x → (tail : ℕ) × (text_of (comes_of before (host_writes channel m)) ≡ line Host packet.IoRequest (length m) (asks_shown r) tail)
    by (Err bad) e = let none : request_in m ≡ None = rw e refl in absurd (cc (none, spells))
    by (Ok x) e =
        let has = request_line_is m x e in
        let own : request_in m ≡ Some (request_with_head x.0 (op_read x.0 (met (body_after x.0) x.1))) = rw e refl in
        let same : request_with_head x.0 (op_read x.0 (met (body_after x.0) x.1)) ≡ r = cc (own, spells) in
        let shown : request_shown x.0 ≡ asks_shown (request_with_head x.0 (op_read x.0 (met (body_after x.0) x.1))) = rw (kind_read x.0 x.1).1 refl in
        (has.tail, ap (λ (y : Result Printed EntryFault). text_of (Some y)) has.line_is ∙ ap (λ (t : List ℕ). line Host packet.IoRequest (length m) t has.tail) (shown ∙ ap asks_shown same))
