use Rattle.rd_answered.proofs.JournalsDeclaredLemmas.{bounded_fit}
use Rattle.rd_rest.proofs.OverLemmas.{reached_over}
use Rattle.rd_rest.proofs.laws.dropped_journals_are_over.Goals as goal

pub returns : goal.returns
returns c lines starves w premises reached = reached_over lines starves (bounded_fit lines premises.bounded) w reached
