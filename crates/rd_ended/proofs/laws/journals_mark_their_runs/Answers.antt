use Rattle.rd_ended.proofs.OwnMarks.{own_marks, stations_stand}
use Rattle.rd_ended.proofs.laws.journals_mark_their_runs.Goals as goal

pub returns-clause-stand : goal.returns-clause-stand
returns-clause-stand c lines starves w premises reached = stations_stand lines starves premises w reached

pub returns-clause-marks : goal.returns-clause-marks
returns-clause-marks c lines starves w premises reached = own_marks lines starves premises w reached
