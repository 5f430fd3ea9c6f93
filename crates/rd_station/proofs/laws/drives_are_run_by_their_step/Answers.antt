use Rattle.rd_drive.proofs.BoundedLemmas.{cut_cancels}
use Rattle.rd_station.proofs.laws.drives_are_run_by_their_step.Goals as goal

pub returns : goal.returns
returns c = record { runs = λ old planned moment answer ends new did. did; cuts = λ old new left. left; cancels = cut_cancels }
