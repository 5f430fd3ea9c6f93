use Rattle.rd_drive.proofs.BoundedLemmas.{cut_ranged, step_ranged}
use Rattle.rd_drive.proofs.promises.replies_are_in_range.Goals as goal

pub returns : goal.returns
returns c = record { step = step_ranged; cut = cut_ranged }
