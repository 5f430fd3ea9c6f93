use Rattle.std.proofs.Common.{◌≡◌, true, false, refl, ap, ◌∙◌, rules}
use Rattle.rd_base.specs.declared.packet.Packet.{Packet}
use Rattle.rd_decode.specs.Kept.{awaited_of}
use Rattle.rd_decode.specs.Lines.{may_send}
use Rattle.rd_decode.specs.Messages.{packet_line}
use Rattle.rd_decode.proofs.MessageLemmas.{not_sent, plain_packet, prints_same, sent}
use Rattle.rd_decode.proofs.message.put_message_line.Goals as goal

-- src/message.rt:36:9
pub returns-then-not-may_send : goal.returns-then-not-may_send
returns-then-not-may_send c =
    let is : may_send c.args.side c.in_ok-packet.packet ≡ false = search rules in
    (not_sent c.args.side (awaited_of c.args.requests.now) c.args.message.now _ _ c.in_ok-packet.ensures.named is, refl)

-- src/message.rt:23:1
pub returns-in-IoRequest : goal.returns-in-IoRequest
returns-in-IoRequest c =
    let before = awaited_of c.args.requests.now in
    let is : may_send c.args.side c.in_ok-packet.packet ≡ true = search rules in
    let line = sent c.args.side before c.args.message.now _ _ c.in_ok-packet.ensures.named is in
    prints_same _ _ _ _ _ _ (line ∙ ap (λ (p : Packet). packet_line p c.args.side before c.args.message.now) c.in-IoRequest.is) c.put_request.ensures

-- src/message.rt:23:1
pub returns-in-IoCompletion : goal.returns-in-IoCompletion
returns-in-IoCompletion c =
    let before = awaited_of c.args.requests.now in
    let is : may_send c.args.side c.in_ok-packet.packet ≡ true = search rules in
    let line = sent c.args.side before c.args.message.now _ _ c.in_ok-packet.ensures.named is in
    prints_same _ _ _ _ _ _ (line ∙ ap (λ (p : Packet). packet_line p c.args.side before c.args.message.now) c.in-IoCompletion.is) c.put_completion.ensures

-- src/message.rt:23:1
pub returns-in_default : goal.returns-in_default
returns-in_default c =
    let before = awaited_of c.args.requests.now in
    let is : may_send c.args.side c.in_ok-packet.packet ≡ true = search rules in
    let line = sent c.args.side before c.args.message.now _ _ c.in_ok-packet.ensures.named is in
    let plain = plain_packet c.in_ok-packet.packet c.args.side before c.args.message.now c.in_default.not-IoRequest c.in_default.not-IoCompletion in
    prints_same _ _ _ _ _ _ (line ∙ plain) (c.put_plain.ensures before)
