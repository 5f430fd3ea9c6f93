use Rattle.rd_journals.proofs.DeclaredLemmas.{bounded_fit}
use Rattle.rd_journals.proofs.laws.scripts_are_fit.Goals as goal

pub returns : goal.returns
returns c lines premises = bounded_fit lines premises.bounded
