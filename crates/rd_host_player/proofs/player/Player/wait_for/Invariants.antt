use Rattle.std.proofs.Common.{ℕ}
use Rattle.rd_host_player.specs.Play.{Looked}
use Rattle.rd_host_player.proofs.player.Player.wait_for.Given as goal

abbrev pub invariant-loop : goal.invariant-loop
invariant-loop g l = (times : ℕ) × Looked g.W.TableTurn.turn times l.fn.self l.self
