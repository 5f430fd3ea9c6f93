use Rattle.rd_ended.proofs.CutRuns.{cut_off}
use Rattle.rd_told.proofs.JoinedScriptLemmas.{script_premises}
use Rattle.rd_opening.proofs.OrdersAddressLemmas.{scripts_writable}
use Rattle.rd_ended.proofs.laws.cut_runs_are_cut_off.Goals as goal

pub returns-clause-lines : goal.returns-clause-lines
returns-clause-lines c lines start held x premises writable cut = cut_off lines premises writable start held x cut

pub returns-clause-scripts : goal.returns-clause-scripts
returns-clause-scripts c m text script start held x is cut = cut_off script.lines (script_premises m text script is) (scripts_writable m text script is) start held x cut
