use Rattle.rd_host_front.proofs.ReplyLemmas.{front_replied, removed_reply}
use Rattle.rd_host_front.proofs.front_pass.FrontPass.remove.Goals as goal

pub unreachable-requires : goal.unreachable-requires
unreachable-requires g c =
    let (answer, is) = removed_reply c.args.device c.call.result (front_replied _ _ _ c.call.result c.call.ensures) in
    c.in_default.not-Removed answer is
