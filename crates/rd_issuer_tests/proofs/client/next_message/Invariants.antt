use Rattle.std.proofs.Common.{◌≡◌}
use Rattle.rd_issuer_tests.proofs.client.next_message.Given as goal

abbrev pub invariant-loop : goal.invariant-loop
invariant-loop g l = (l.table.turn.now ≡ l.fn.table.turn.now) × (l.table.pass.number ≡ l.fn.table.pass.number)
