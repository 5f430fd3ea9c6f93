use Rattle.rd_runs.proofs.BoundLemmas.{scripts_are_bounded}
use Rattle.rd_runs.proofs.FittingLines.{scripts_are_fitting}
use Rattle.rd_runs.proofs.laws.scripts_meet_premises.Goals as goal
use Rattle.rd_declared.proofs.DeclaredLemmas.{scripts_are_declared, scripts_are_notable}

pub returns : goal.returns
returns c m text script is = record {
  fitting = scripts_are_fitting m text script is;
  declared = scripts_are_declared m text script is;
  bounded = scripts_are_bounded m text script is;
  notable = scripts_are_notable m text script is;
}
