use Rattle.rd_host_front.specs.Parts.{FrontGoesOn}
use Rattle.rd_host_front.proofs.GoingLemmas.{goes}
use Rattle.rd_host_front.proofs.StepLemmas.{all_calls, one_call}
use Rattle.rd_host_front.proofs.laws.host_fronts_go_on.Goals as goal

pub returns-clause-step : goal.returns-clause-step
returns-clause-step g c = λ old new call reply step. one_call FrontGoesOn goes old call reply new step

pub returns-clause-always : goal.returns-clause-always
returns-clause-always g c = λ old new entries leads. all_calls FrontGoesOn goes old entries new leads
