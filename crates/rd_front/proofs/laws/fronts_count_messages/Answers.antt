use Rattle.rd_front.specs.Kept.{IsCounted}
use Rattle.rd_front.proofs.CountLemmas.{counts, few_unless_full}
use Rattle.rd_front.proofs.StepLemmas.{all_calls, one_call}
use Rattle.rd_front.proofs.laws.fronts_count_messages.Goals as goal

pub returns-clause-kept : goal.returns-clause-kept
returns-clause-kept c old new call reply step = one_call (λ a b. IsCounted a → IsCounted b) counts old call reply new step

pub returns-clause-always : goal.returns-clause-always
returns-clause-always c old new entries leads = all_calls (λ a b. IsCounted a → IsCounted b) counts old entries new leads

pub returns-clause-few : goal.returns-clause-few
returns-clause-few c s counted some = few_unless_full s counted some
