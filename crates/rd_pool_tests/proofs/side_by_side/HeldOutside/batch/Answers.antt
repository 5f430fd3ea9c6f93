use Rattle.std.proofs.Common.{Some, refl}
use Rattle.rd_pool.proofs.MomentLemmas.{batch_keeps}
use Rattle.rd_pool_tests.proofs.side_by_side.HeldOutside.batch.Goals as goal

pub returns-clause-moments : goal.returns-clause-moments
returns-clause-moments c = batch_keeps (Some 5) 5 c.into_batch.result c.args.worked.jobs c.into_batch.ensures.moment refl
