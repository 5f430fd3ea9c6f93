use Rattle.std.proofs.Common.{◌∙◌}
use Rattle.rd_pool_tests.proofs.side_by_side.work_two.Goals as goal

pub returns-clause-out : goal.returns-clause-out
returns-clause-out g c = c.join.ensures.out ∙ c.with_workers-own.ensures.out
