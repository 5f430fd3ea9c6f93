use Rattle.rd_front.specs.Kept.{DesksGoOn}
use Rattle.rd_front.proofs.GoingLemmas.{goings}
use Rattle.rd_front.proofs.StepLemmas.{all_calls, one_call}
use Rattle.rd_front.proofs.laws.fronts_call_desks.Goals as goal

pub returns-clause-step : goal.returns-clause-step
returns-clause-step c old new call reply step = one_call DesksGoOn goings old call reply new step

pub returns-clause-always : goal.returns-clause-always
returns-clause-always c old new entries leads = all_calls DesksGoOn goings old entries new leads
