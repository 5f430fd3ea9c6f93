use Rattle.rd_sharing.proofs.ClosingLemmas.{none_troubled}
use Rattle.rd_sharing.proofs.laws.calm_folders_have_no_fault.Goals as goal

pub returns : goal.returns
returns c = none_troubled
