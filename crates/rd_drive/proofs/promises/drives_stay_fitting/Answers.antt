use Rattle.rd_drive.proofs.BoundedLemmas.{cut_fits, step_fits}
use Rattle.rd_drive.proofs.promises.drives_stay_fitting.Goals as goal

pub returns : goal.returns
returns c = record { step = step_fits; cut = cut_fits }
