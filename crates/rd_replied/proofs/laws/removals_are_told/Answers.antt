use Rattle.rd_journals.proofs.DeclaredLemmas.{bounded_fit}
use Rattle.rd_replied.proofs.GoneLemmas.{reached_gone}
use Rattle.rd_replied.proofs.laws.removals_are_told.Goals as goal

pub returns : goal.returns
returns c lines starves w premises reached = (reached_gone lines starves (bounded_fit lines premises.bounded) premises w reached).each
