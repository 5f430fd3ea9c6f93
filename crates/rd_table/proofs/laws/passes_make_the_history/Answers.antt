use Rattle.rd_table.proofs.PassLemmas.{pass_accepts, pass_hands}
use Rattle.rd_table.proofs.laws.passes_make_the_history.Goals as goal

pub returns-clause-handed : goal.returns-clause-handed
returns-clause-handed c = pass_hands

pub returns-clause-accepts : goal.returns-clause-accepts
returns-clause-accepts c = pass_accepts
