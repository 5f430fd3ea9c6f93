use Rattle.std.proofs.Common.{refl, arith}
use Rattle.rd_table.specs.Worked.{lost}
use Rattle.rd_table.proofs.laws.replies_are_as_listed.Goals as goal

pub returns-clause-not_twice : goal.returns-clause-not_twice
returns-clause-not_twice c apart = apart 0 1 (1, lost) (omega arith) (omega arith) refl
