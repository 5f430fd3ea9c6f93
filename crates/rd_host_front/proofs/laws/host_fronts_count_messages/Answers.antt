use Rattle.rd_host_front.specs.Kept.{CountsUnsent}
use Rattle.rd_host_front.proofs.CountLemmas.{counts, few_unless_many}
use Rattle.rd_host_front.proofs.StepLemmas.{all_calls, one_call}
use Rattle.rd_host_front.proofs.laws.host_fronts_count_messages.Goals as goal

pub returns-clause-kept : goal.returns-clause-kept
returns-clause-kept g c = λ old new call reply step. one_call (λ a b. CountsUnsent a → CountsUnsent b) counts old call reply new step

pub returns-clause-always : goal.returns-clause-always
returns-clause-always g c = λ old new entries leads. all_calls (λ a b. CountsUnsent a → CountsUnsent b) counts old entries new leads

pub returns-clause-few : goal.returns-clause-few
returns-clause-few g c = few_unless_many
