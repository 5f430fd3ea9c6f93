use Rattle.rd_outcomes.proofs.LinesLemmas.{lines_end}
use Rattle.rd_controls.proofs.RunsReaching.{run_reached, run_rests}
use Rattle.rd_controls.proofs.RunsTogether.{known}
use Rattle.rd_controls.specs.RunsMoves.{Reached}
use Rattle.rd_outcomes.proofs.laws.lines_come_out.Goals as goal

pub returns : goal.returns
returns c lines starves most w premises ordered opens is =
    let reached : Reached lines starves w = run_reached lines starves most w is in
    lines_end lines starves most premises opens ordered w is (run_rests starves most lines w is) ((known lines starves premises w reached).stands).host.may
