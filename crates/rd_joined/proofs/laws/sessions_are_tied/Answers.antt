use Rattle.rd_joined.proofs.TiedLemmas.{joined_with, scripts_tied}
use Rattle.rd_joined.proofs.laws.sessions_are_tied.Goals as goal

pub returns-clause-tied : goal.returns-clause-tied
returns-clause-tied c m text script starves w is reached = scripts_tied m text script is starves w reached

pub returns-clause-joined : goal.returns-clause-joined
returns-clause-joined c client replies deeds tied told = joined_with client replies deeds tied told
