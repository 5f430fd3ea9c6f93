use Rattle.rd_ranges.proofs.DeviceLemmas.{cut_in_range, run_in_range}
use Rattle.rd_ranges.proofs.laws.replies_have_room.Goals as goal

pub returns-clause-run : goal.returns-clause-run
returns-clause-run c = run_in_range

pub returns-clause-cut : goal.returns-clause-cut
returns-clause-cut c = cut_in_range
