use Rattle.std.proofs.Common.{ℕ, length}
use Rattle.rd_host_player.specs.Play.{CameTo}
use Rattle.rd_host_player.proofs.player.Player.queue.Given as goal

abbrev pub invariant-loop-self : goal.invariant-loop-self
invariant-loop-self g l = (lines : ℕ) × CameTo lines l.fn.self l.self

abbrev pub decreases-loop-self : goal.decreases-loop-self
decreases-loop-self g l = length l.self.lines
