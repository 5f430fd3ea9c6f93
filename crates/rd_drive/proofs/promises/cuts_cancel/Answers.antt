use Rattle.rd_drive.proofs.BoundedLemmas.{cut_cancels}
use Rattle.rd_drive.proofs.promises.cuts_cancel.Goals as goal

pub returns : goal.returns
returns c = cut_cancels
