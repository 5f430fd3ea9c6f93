use Rattle.std.proofs.Common.{◌≡◌, ◌==◌, ℕ}
use Rattle.rd_host_player.specs.Play.{Tried}
use Rattle.rd_host_player.proofs.player.Player.end_channel.Given as goal

abbrev pub invariant-loop : goal.invariant-loop
invariant-loop g l = (times : ℕ) × Tried times l.fn.self l.self × (l.anew ≡ (times == 0))
