use Rattle.std.proofs.Common.{ℕ}
use Rattle.rd_host_player.specs.Play.{Acted, PlayState, Waited}
use Rattle.rd_host_player.proofs.player.Player.play.Given as goal

abbrev pub invariant-loop : goal.invariant-loop
invariant-loop g l = (here : PlayState g.row.F.Denot g.row.W.Denot) × (times : ℕ) × Waited g.W.TableTurn.turn l.devices l.fn.self here × Acted g.W.TableTurn.turn times here l.self
