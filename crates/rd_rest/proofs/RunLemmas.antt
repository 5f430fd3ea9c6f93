-- Of whole runs, and of every session of a script: which channel is left open, and that it is still at the end.
use Rattle.std.proofs.Common.{◌≡◌, ℕ, Bool, List, [], map, reverse, Some, Ok}
use Rattle.std.specs.Prelude.{IfSome, filter_map}
use Rattle.rd_base.specs.declared.journal.Key.{Key}
use Rattle.rd_controls.proofs.ScriptLemmas.{scripts_ordered}
use Rattle.rd_controls.specs.Controls.{AreOrderedLines, DoAsSaid}
use Rattle.rd_answered.proofs.JoinedScriptLemmas.{script_premises}
use Rattle.rd_rest.proofs.EndLemmas.{at_end, left_is_said}
use Rattle.rd_rest.proofs.LastLemmas.{runs_end}
use Rattle.rd_rest.specs.Ending.{EndsAtRest}
use Rattle.rd_answered.specs.RunsMoves.{Reached}
use Rattle.rd_answered.specs.RunsPremises.{RunPremises}
use Rattle.rd_script.specs.Script.{script_of}
use Rattle.rd_script.specs.declared.keyword.Mode.TheVariants as mode
use Rattle.rd_script.specs.declared.line.NumberedLine.{NumberedLine}
use Rattle.rd_script.specs.declared.script.Script.{Script}
use Rattle.rd_world.specs.Acts.{act_by, control_by, left_open}
use Rattle.rd_declared.specs.Devices.{Declared}
use Rattle.rd_declared.specs.Declaring.{bare_lines, declared_devices}
use Rattle.rd_world.specs.Run.{Most, WorldRun, choices, run_of}
use Rattle.rd_world.specs.Session.{IsStill}
use Rattle.rd_deeds.specs.Talk.{open_channel}
use Rattle.rd_world.specs.World.{WorldState, marks_of}

abbrev pub devices_of : List NumberedLine → List (ℕ × Declared)
devices_of lines = declared_devices (bare_lines lines)

-- a channel is still wherever nothing can happen by itself once the lines did all that they say
abbrev pub RestsStill : List NumberedLine → (Key → Bool) → Type 0
RestsStill lines starves = (x : WorldState) → Reached lines starves x → choices x ≡ [] → filter_map act_by (reverse x.deeds) ≡ (control_by (devices_of lines) lines).acts
    → open_channel x.deeds ≡ Some x.channels → IsStill (devices_of lines) (control_by (devices_of lines) lines) x.deeds x.channels

module _ (lines : List NumberedLine) (starves : Key → Bool) (most : Most) (w : WorldState) (ordered : AreOrderedLines (map (λ (d : ℕ × Declared). d.0) (devices_of lines)) lines) (premises : RunPremises lines)
    (is : run_of most starves lines ≡ Some w) where
  pub run_ends : EndsAtRest lines starves (control_by (devices_of lines) lines) w
  run_ends = runs_end lines starves most w ordered premises is

  -- what `rd_controls` says was left is what is left open by the deeds at the end
  pub run_left : (does : DoAsSaid (map (λ (d : ℕ × Declared). d.0) (devices_of lines)) lines starves w) → left_open (devices_of lines) w.deeds (control_by (devices_of lines) lines) ≡ does.left
  run_left does = left_is_said lines starves premises w run_ends does

  pub run_at_end : RestsStill lines starves → IfSome (left_open (devices_of lines) w.deeds (control_by (devices_of lines) lines)) (IsStill (devices_of lines) (control_by (devices_of lines) lines) w.deeds)
  run_at_end still =
      at_end lines starves premises (control_by (devices_of lines) lines) w run_ends
      (λ opened. still run_ends.last run_ends.reached run_ends.rests run_ends.acts opened)

-- ---- of scripts

pub script_ends : (text : List ℕ) (script : Script) (w : WorldState) → script_of mode.Both text ≡ Ok script → WorldRun script.lines w → EndsAtRest script.lines (marks_of w) (control_by (devices_of script.lines) script.lines) w
script_ends text script w is (most, run) = run_ends script.lines (marks_of w) most w (scripts_ordered text script is) (script_premises mode.Both text script is) run
