use Rattle.rd_ended.proofs.Runs.{one_end, run_ends}
use Rattle.rd_told.proofs.JoinedScriptLemmas.{script_premises}
use Rattle.rd_opening.proofs.OrdersAddressLemmas.{scripts_writable}
use Rattle.rd_ended.proofs.laws.runs_end.Goals as goal

pub returns-clause-lines : goal.returns-clause-lines
returns-clause-lines c lines starves premises writable = run_ends lines starves premises writable

pub returns-clause-scripts : goal.returns-clause-scripts
returns-clause-scripts c m text script starves is = run_ends script.lines starves (script_premises m text script is) (scripts_writable m text script is)

pub returns-clause-one : goal.returns-clause-one
returns-clause-one c lines starves most more w v first second = one_end starves lines most more w v first second
