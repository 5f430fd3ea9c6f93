use Rattle.rd_pool.proofs.MomentLemmas.{batch_keeps}
use Rattle.rd_pool.proofs.outside.AtOnceOutside.batch.Goals as goal

pub returns-clause-moments : goal.returns-clause-moments
returns-clause-moments g c = batch_keeps (g.C.Clock.moment c.args.self.now.clock) c.now-moment.result c.into_batch.result c.args.worked.jobs c.into_batch.ensures.moment c.now-moment.ensures
