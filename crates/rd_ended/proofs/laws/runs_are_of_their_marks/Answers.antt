use Rattle.rd_ended.proofs.CutRuns.{run_of_own, session_of}
use Rattle.rd_ended.proofs.laws.runs_are_of_their_marks.Goals as goal

pub returns-clause-same : goal.returns-clause-same
returns-clause-same c lines starves most w premises writable is = run_of_own lines premises writable starves most w is

pub returns-clause-session : goal.returns-clause-session
returns-clause-session c lines starves most w premises writable is = session_of lines premises writable starves most w is
