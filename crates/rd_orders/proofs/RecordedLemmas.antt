-- What was done in a run is recorded, at every point.
use Rattle.std.specs.Prelude.{◌≡◌, ℕ, Bool, List, Ok, refl}
use Rattle.std.proofs.lemmas.List.Elements.{All-from_recursion}
use Rattle.rd_base.specs.declared.journal.Key.{Key}
use Rattle.rd_controls.proofs.RunsBoundLemmas.{scripts_are_bounded}
use Rattle.rd_controls.proofs.RunsCarrying.{IsFit}
use Rattle.rd_controls.proofs.RunsFittingLines.{scripts_are_fitting}
use Rattle.rd_controls.proofs.RunsParts.{reached_behind}
use Rattle.rd_controls.proofs.RunsReaching.{run_reached}
use Rattle.rd_controls.proofs.RunsTogether.{known}
use Rattle.rd_controls.specs.RunsMoves.{Reached}
use Rattle.rd_controls.specs.RunsPremises.{RunPremises}
use Rattle.rd_script.specs.Script.{script_of}
use Rattle.rd_script.specs.declared.keyword.Mode.{Mode}
use Rattle.rd_script.specs.declared.line.NumberedLine.{NumberedLine}
use Rattle.rd_script.specs.declared.script.Script.{Script}
use Rattle.rd_declared.proofs.DeclaredLemmas.{scripts_are_declared, scripts_are_notable}
use Rattle.rd_declared.specs.Declaring.{bare_lines, declared_devices}
use Rattle.rd_world.specs.Recording.{IsRecorded, recording_of_deeds}
use Rattle.rd_world.specs.Run.{WorldRun}
use Rattle.rd_world.specs.World.{WorldState, marks_of}
use Rattle.rd_orders.proofs.AddressLemmas.{scripts_writable}
use Rattle.rd_orders.proofs.ClientOrdering.{behind_client_ordered}
use Rattle.rd_orders.proofs.HostOrdering.{behind_host_ordered}
use Rattle.rd_orders.specs.Orders.{DeclaresWritable}

pub reached_recorded : (lines : List NumberedLine) (starves : Key → Bool) (w : WorldState) → RunPremises lines → DeclaresWritable lines → Reached lines starves w
    → IsRecorded (declared_devices (bare_lines lines)) (recording_of_deeds w.deeds) w.deeds
reached_recorded lines starves w premises writable reached = let behind = reached_behind lines starves w reached in record {
  bytes = refl;
  fit = All-from_recursion IsFit w.deeds (known lines starves premises w reached).fits.deeds;
  on_open = (known lines starves premises w reached).carries.on_open;
  host_order = (behind_host_ordered lines starves premises writable w behind).orders;
  client_order = (behind_client_ordered lines starves premises writable w behind).orders;
}

-- the lines of a script are as the laws of runs take them
pub scripts_meet : (m : Mode) (text : List ℕ) (script : Script) → script_of m text ≡ Ok script → RunPremises script.lines
scripts_meet m text script is = record { fitting = scripts_are_fitting m text script is; declared = scripts_are_declared m text script is; bounded = scripts_are_bounded m text script is; notable = scripts_are_notable m text script is }

pub script_recorded : (m : Mode) (text : List ℕ) (script : Script) (w : WorldState) → script_of m text ≡ Ok script → WorldRun script.lines w
    → IsRecorded (declared_devices (bare_lines script.lines)) (recording_of_deeds w.deeds) w.deeds
script_recorded m text script w is (most, run) =
    reached_recorded script.lines (marks_of w) w (scripts_meet m text script is) (scripts_writable m text script is) (run_reached script.lines (marks_of w) most w run)
