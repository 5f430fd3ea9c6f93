use Rattle.rd_runs.proofs.FittingLines.{scripts_are_fitting}
use Rattle.rd_host_lines.proofs.laws.scripts_ask_in_range.Goals as goal

pub returns : goal.returns
returns c = scripts_are_fitting
