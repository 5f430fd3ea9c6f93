use Rattle.std.proofs.Common.{ℕ}
use Rattle.rd_host_player.specs.Play.{Ran}
use Rattle.rd_host_player.proofs.player.Player.run_all.Given as goal

abbrev pub invariant-loop : goal.invariant-loop
invariant-loop g l = (times : ℕ) × Ran times l.fn.self l.self
