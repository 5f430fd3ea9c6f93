use Rattle.rd_host_front.proofs.ReplyLemmas.{pass_replied}
use Rattle.rd_host_player.proofs.PlayLemmas.{stands_reply}
use Rattle.rd_host_player.proofs.player.look.Goals as goal

pub unreachable-requires : goal.unreachable-requires
unreachable-requires g c =
    let (stage, is) = stands_reply c.call.result (pass_replied c.args.turn.now c.args.pass c.call.new.pass _ c.call.result (record { same = c.call.ensures.same; called = c.call.ensures.called; legal = c.call.ensures.legal; numbers = c.call.ensures.numbers })) in
    c.in_default.not-Stands stage is
