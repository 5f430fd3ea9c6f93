use Rattle.rd_journals.proofs.DeclaredLemmas.{bounded_fit}
use Rattle.rd_directs.proofs.DirectLemmas.{reached_ends}
use Rattle.rd_directs.proofs.laws.direct_answers_are_in_order.Goals as goal

pub returns : goal.returns
returns c lines starves w premises meet reached = reached_ends lines starves (bounded_fit lines premises.bounded) premises meet w reached
