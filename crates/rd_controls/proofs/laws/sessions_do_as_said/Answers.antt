use Rattle.rd_controls.proofs.Along
use Rattle.rd_controls.proofs.Leading.{does_as_said, rests_where_settled}
use Rattle.rd_controls.proofs.ScriptLemmas.{scripts_ordered}
use Rattle.rd_controls.proofs.laws.sessions_do_as_said.Goals as goal
use Rattle.rd_runs.proofs.BoundLemmas.{scripts_are_bounded}
use Rattle.rd_runs.proofs.FittingLines.{scripts_are_fitting}
use Rattle.rd_runs.specs.Premises.{RunPremises}
use Rattle.rd_script.specs.declared.keyword.Mode.TheVariants as mode
use Rattle.rd_script.specs.declared.script.Script.{Script}
use Rattle.rd_script.specs.Script.{script_of}
use Rattle.rd_declared.proofs.DeclaredLemmas.{scripts_are_declared, scripts_are_notable}
use Rattle.rd_world.specs.World.{marks_of}
use Rattle.std.specs.Prelude.{◌≡◌, ℕ, List, Ok}

premises : (text : List ℕ) (script : Script) → script_of mode.Both text ≡ Ok script → RunPremises script.lines
premises text script is = record {
  fitting = scripts_are_fitting mode.Both text script is;
  declared = scripts_are_declared mode.Both text script is;
  bounded = scripts_are_bounded mode.Both text script is;
  notable = scripts_are_notable mode.Both text script is;
}

pub returns-clause-said : goal.returns-clause-said
returns-clause-said c text script w is (most, run) = does_as_said script.lines (marks_of w) most w (scripts_ordered text script is) (premises text script is) run

pub returns-clause-settled : goal.returns-clause-settled
returns-clause-settled c text script w is (most, run) = rests_where_settled script.lines (marks_of w) most w (scripts_ordered text script is) (premises text script is) run
