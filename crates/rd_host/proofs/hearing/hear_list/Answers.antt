use Rattle.rd_host.proofs.HearLemmas.{list_heard, list_lacks}
use Rattle.rd_host.proofs.hearing.hear_list.Goals as goal

pub returns-in-Ok-clause-step : goal.returns-in-Ok-clause-step
returns-in-Ok-clause-step c = list_heard _ _ _ _ c.requires c.in-Ok.ensures.spelled

pub returns-in-Ok-before_devices-clause-step : goal.returns-in-Ok-before_devices-clause-step
returns-in-Ok-before_devices-clause-step c = list_lacks _ _ c.requires c.in-Ok-before_devices.ensures
