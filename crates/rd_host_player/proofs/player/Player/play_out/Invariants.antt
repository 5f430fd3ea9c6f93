use Rattle.std.proofs.Common.{ℕ}
use Rattle.rd_host_player.specs.Play.{Passed}
use Rattle.rd_host_player.proofs.player.Player.play_out.Given as goal

abbrev pub invariant-loop : goal.invariant-loop
invariant-loop g l = (times : ℕ) × Passed times l.fn.self l.self
