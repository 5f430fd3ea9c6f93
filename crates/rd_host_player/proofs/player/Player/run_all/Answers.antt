use Rattle.std.proofs.Common.{suc}
use Rattle.rd_host_player.proofs.player.Player.run_all.Goals as goal

pub loop-preserved : goal.loop-preserved
loop-preserved g c = (suc c.loop.invariant.0, (c.loop.self, c.loop.invariant.1, c.in_ok-run.ensures))

pub returns-then-eq : goal.returns-then-eq
returns-then-eq g c = (c.loop.invariant.0, (c.loop.self, c.loop.invariant.1, c.in_ok-run.ensures))
