use Rattle.rd_drive.proofs.TurnLemmas.{told}
use Rattle.rd_drive.proofs.laws.journals_tell_what_was_done.Goals as goal

pub returns : goal.returns
returns c = λ old new turns requests takes its. told requests turns old new takes its
