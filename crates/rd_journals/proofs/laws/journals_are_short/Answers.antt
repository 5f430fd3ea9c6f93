use Rattle.rd_journals.proofs.RunLemmas.{reached_orderly}
use Rattle.rd_journals.proofs.ShortLemmas.{orderly_short}
use Rattle.rd_journals.proofs.laws.journals_are_short.Goals as goal

pub returns : goal.returns
returns c lines starves w fit reached device = orderly_short w (reached_orderly lines starves w fit reached) device
