use Rattle.rd_journals.proofs.ServingLemmas.{reached_standing}
use Rattle.rd_journals.proofs.laws.completions_stand.Goals as goal

pub returns : goal.returns
returns c lines starves w fit reached = (reached_standing lines starves w fit reached).stand
