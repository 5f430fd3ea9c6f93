use Rattle.rd_drive.proofs.EndLemmas.{settled_ends}
use Rattle.rd_drive.proofs.laws.ends_are_of_those_that_wait.Goals as goal

pub returns : goal.returns
returns c = λ s news fitting. settled_ends news fitting s
