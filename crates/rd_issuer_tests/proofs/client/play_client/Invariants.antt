use Rattle.std.proofs.Common.{◌≡◌}
use Rattle.rd_issuer_tests.proofs.client.play_client.Given as goal

abbrev pub invariant-loop : goal.invariant-loop
invariant-loop g l = (l.table.turn.now ≡ l.turn) × (l.table.pass.number ≡ l.fn.pass.number)
