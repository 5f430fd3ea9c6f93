use Rattle.std.proofs.Common.{suc}
use Rattle.rd_host_player.specs.Plan.{acted_by}
use Rattle.rd_host_player.proofs.PlayLemmas.{is_no_value}
use Rattle.rd_host_player.proofs.player.Player.queue.Goals as goal

pub loop-self-preserved : goal.loop-self-preserved
loop-self-preserved g c =
    let none = is_no_value (acted_by c.line-item.result.line) (cc (c.acted_by.ensures, c.is_some.ensures, c.if-is_some.false)) in
    (suc c.loop-self.invariant.0, (c.loop-self.self, c.line-item.result, c.loop-self.invariant.1, none, c.in_ok-come.ensures))
