use Rattle.rd_host_front.proofs.ReplyLemmas.{front_replied, lives_reply}
use Rattle.rd_host_front.proofs.front_pass.FrontPass.live.Goals as goal

pub unreachable-requires : goal.unreachable-requires
unreachable-requires g c =
    let (answer, is) = lives_reply c.args.device c.call.result (front_replied _ _ _ c.call.result c.call.ensures) in
    c.in_default.not-Lives answer is
