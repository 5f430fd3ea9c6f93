use Rattle.rd_host_front.proofs.ReplyLemmas.{front_replied, dropped_reply}
use Rattle.rd_host_front.proofs.front_pass.FrontPass.drop_channel.Goals as goal

pub unreachable-requires : goal.unreachable-requires
unreachable-requires g c =
    c.in_default.not-Dropped (dropped_reply c.call.result (front_replied _ _ _ c.call.result c.call.ensures))
