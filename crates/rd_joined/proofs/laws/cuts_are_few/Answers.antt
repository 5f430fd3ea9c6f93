use Rattle.rd_joined.proofs.CutLemmas.{cuts_few}
use Rattle.rd_joined.proofs.laws.cuts_are_few.Goals as goal

pub returns : goal.returns
returns c lines starves w fit reached device = cuts_few lines starves fit w reached device
