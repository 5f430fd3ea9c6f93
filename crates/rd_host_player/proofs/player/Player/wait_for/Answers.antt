use Rattle.std.proofs.Common.{suc}
use Rattle.rd_host_player.proofs.player.Player.wait_for.Goals as goal

pub loop-preserved : goal.loop-preserved
loop-preserved g c = (suc c.loop.invariant.0, (c.loop.self, c.look-stage.result, c.loop.invariant.1, c.look-stage.ensures))

pub returns-then-is_ready : goal.returns-then-is_ready
returns-then-is_ready g c = (c.loop.invariant.0, c.loop.self, c.look-stage.result, c.loop.invariant.1, c.look-stage.ensures, c.is_ready.ensures c.if-is_ready.true)
