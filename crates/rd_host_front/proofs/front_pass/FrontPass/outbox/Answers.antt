use Rattle.rd_host_front.proofs.ReplyLemmas.{front_replied, sent_reply}
use Rattle.rd_host_front.proofs.front_pass.FrontPass.outbox.Goals as goal

pub unreachable-requires : goal.unreachable-requires
unreachable-requires g c =
    let (answer, is) = sent_reply c.call.result (front_replied _ _ _ c.call.result c.call.ensures) in
    c.in_default.not-Sent answer is
