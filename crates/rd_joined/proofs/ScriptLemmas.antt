-- The lines of every script are as statements about runs take them.
use Rattle.std.specs.Prelude.{◌≡◌, ℕ, List, Ok}
use Rattle.rd_journals.specs.Stations.{AreFit}
use Rattle.rd_journals.proofs.DeclaredLemmas.{bounded_fit}
use Rattle.rd_journals.specs.RunsPremises.{RunPremises}
use Rattle.rd_journals.proofs.RunsBoundLemmas.{scripts_are_bounded}
use Rattle.rd_journals.proofs.RunsFittingLines.{scripts_are_fitting}
use Rattle.rd_script.specs.declared.keyword.Mode.{Mode}
use Rattle.rd_script.specs.declared.script.Script.{Script}
use Rattle.rd_script.specs.Script.{script_of}
use Rattle.rd_declared.proofs.DeclaredLemmas.{scripts_are_declared, scripts_are_notable}
use Rattle.rd_declared.specs.Declaring.{bare_lines, declared_devices}

module _ (m : Mode) (text : List ℕ) (script : Script) (is : script_of m text ≡ Ok script) where
  pub script_premises : RunPremises script.lines
  script_premises = record {
    fitting = scripts_are_fitting m text script is;
    declared = scripts_are_declared m text script is;
    bounded = scripts_are_bounded m text script is;
    notable = scripts_are_notable m text script is;
  }

  pub script_fit : AreFit (declared_devices (bare_lines script.lines))
  script_fit = bounded_fit script.lines script_premises.bounded
