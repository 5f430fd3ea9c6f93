use Rattle.std.proofs.Common.{refl}
use Rattle.rd_host.proofs.HearLemmas.{completion_heard, completion_lacks, slice_from}
use Rattle.rd_host.proofs.hearing.hear_completion.Goals as goal

pub returns-in-Ok-clause-step : goal.returns-in-Ok-clause-step
returns-in-Ok-clause-step c = completion_heard _ _ _ _ c.requires c.in-Ok.ensures.enough c.in-Ok.ensures.spelled (slice_from 16 c.args.message.now)

pub returns-in-Ok-clause-lacking : goal.returns-in-Ok-clause-lacking
returns-in-Ok-clause-lacking c = λ body. (completion_lacks _ _ _ c.requires c.in-Ok.ensures.enough c.in-Ok.ensures.spelled, refl)
