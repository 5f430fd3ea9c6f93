use Rattle.rd_host.proofs.HearLemmas.{removal_heard, removal_lacks}
use Rattle.rd_host.proofs.hearing.hear_removal.Goals as goal

pub returns-in-Ok-clause-step : goal.returns-in-Ok-clause-step
returns-in-Ok-clause-step c = removal_heard _ _ _ _ c.requires c.in-Ok.ensures.spelled

pub returns-in-Ok-before_ids-clause-step : goal.returns-in-Ok-before_ids-clause-step
returns-in-Ok-before_ids-clause-step c = removal_lacks _ _ c.requires c.in-Ok-before_ids.ensures
