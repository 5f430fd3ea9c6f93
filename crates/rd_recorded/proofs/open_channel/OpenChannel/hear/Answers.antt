use Rattle.std.proofs.Common.{◌≡◌, true, false, subst, sym, rules}
use Rattle.rd_decode.specs.Lines.{may_send}
use Rattle.rd_recorded.specs.Kept.{Hears, open_of}
use Rattle.rd_recorded.proofs.HeardLemmas.{not_sent_heard, sent_heard}
use Rattle.rd_recorded.proofs.open_channel.OpenChannel.hear.Goals as goal

-- src/open_channel.rt:106:13
pub returns-then-not-may_send : goal.returns-then-not-may_send
returns-then-not-may_send c =
    let is : may_send c.args.side c.in_ok-packet.packet ≡ false = search rules in
    not_sent_heard c.args.entry c.args.side c.as_slice.result.now c.args.message (open_of c.args.self.now) _ _ c.as_slice.ensures c.in_ok-packet.ensures.named is

-- src/open_channel.rt:94:5
pub returns : goal.returns
returns c =
    let is : may_send c.args.side c.in_ok-packet.packet ≡ true = search rules in
    let same = sent_heard c.args.entry c.args.side c.as_slice.result.now c.args.message (open_of c.args.self.now) _ _ c.as_slice.ensures c.in_ok-packet.ensures.named is in
    subst (λ r. Hears r (open_of c.hear_packet.new.self) c.hear_packet.result) (sym same) c.hear_packet.ensures
