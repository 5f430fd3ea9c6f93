use Rattle.std.specs.List.{AllZip}
use Rattle.rd_pool.specs.Desks.{IsOther}
use Rattle.rd_pool_tests.proofs.side_by_side.collect_two.Given as goal

abbrev pub invariant-loop : goal.invariant-loop
invariant-loop g l = record { others : AllZip IsOther l.desks.turns l.own }
