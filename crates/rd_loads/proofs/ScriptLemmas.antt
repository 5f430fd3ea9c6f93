-- The lines of every script that was read for both sides are as statements on every run take them.
use Rattle.std.specs.Prelude.{◌≡◌, ℕ, List, Ok}
use Rattle.rd_answered.proofs.WritableLemmas as answered
use Rattle.rd_orders.proofs.ControlsScriptLemmas.{scripts_ordered}
use Rattle.rd_answered.proofs.JoinedScriptLemmas.{script_premises}
use Rattle.rd_loads.specs.AllPremises.{MeetPremises}
use Rattle.rd_orders.proofs.AddressLemmas as orders
use Rattle.rd_orders.proofs.RangesDeclaredLemmas.{declared_fit}
use Rattle.rd_orders.proofs.RangesScriptLemmas.{scripts_short}
use Rattle.rd_script.specs.Script.{script_of}
use Rattle.rd_script.specs.declared.keyword.Mode.TheVariants as mode
use Rattle.rd_script.specs.declared.script.Script.{Script}
use Rattle.rd_world.proofs.NumberedLemmas.{scripts_are_numbered}
use Rattle.rd_world.specs.Applications.{AreNumbered}
use Rattle.rd_declared.specs.Declaring.{bare_lines}

pub scripts_meet_all : (text : List ℕ) (script : Script) → script_of mode.Both text ≡ Ok script → MeetPremises script.lines
scripts_meet_all text script is =
    let numbered : AreNumbered script.lines = scripts_are_numbered mode.Both text script is in
    record {
      run = script_premises mode.Both text script is;
      few = numbered.few;
      declared = answered.scripts_writable mode.Both text script is;
      writable = orders.scripts_writable mode.Both text script is;
      numbered = numbered;
      ordered = scripts_ordered text script is;
      fresh = declared_fit (bare_lines script.lines) (scripts_short mode.Both text script is);
    }
