use Rattle.rd_host_front.proofs.ReplyLemmas.{front_replied, completed_reply}
use Rattle.rd_host_front.proofs.front_pass.FrontPass.complete.Goals as goal

pub unreachable-requires : goal.unreachable-requires
unreachable-requires g c =
    let (answer, is) = completed_reply c.args.head c.args.body c.call.result (front_replied _ _ _ c.call.result c.call.ensures) in
    c.in_default.not-Completed answer is
