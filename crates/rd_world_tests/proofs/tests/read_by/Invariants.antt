use Rattle.std.proofs.Common.{◌≡◌, false}
use Rattle.rd_world_tests.proofs.tests.read_by.Given as goal

abbrev pub invariant-loop : goal.invariant-loop
invariant-loop l = l.way.ended ≡ false
