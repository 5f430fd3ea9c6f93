-- The journals of a script's devices have room.
use Rattle.std.proofs.Common.{ℕ, ◌+◌, ◌<◌, ◌≤◌, Bool, arith, length, List, [], ◌∷◌}
use Rattle.rd_base.specs.declared.journal.Key.{Key}
use Rattle.rd_journals.specs.Reads.{reads_count}
use Rattle.rd_journals.specs.Stations.{AreFit}
use Rattle.rd_journals.proofs.RunLemmas.{reached_orderly}
use Rattle.rd_journals.proofs.ShortLemmas.{orderly_short}
use Rattle.rd_journals.specs.RunsMoves.{Reached}
use Rattle.rd_journals.specs.RunsPremises.{RunPremises}
use Rattle.rd_journals.proofs.RunsCounting.{accepted_few}
use Rattle.rd_journals.proofs.RunsTogether.{known}
use Rattle.rd_script.specs.declared.line.NumberedLine.{NumberedLine}
use Rattle.rd_deeds.specs.Joining.{IsCarried}
use Rattle.rd_declared.specs.Declaring.{bare_lines, declared_devices}
use Rattle.rd_world.specs.Recording.{client_id}
use Rattle.rd_deeds.specs.Talk.{AtEachPoint, Deed, journal}
use Rattle.rd_deeds.specs.Told.{worn_entries}
use Rattle.rd_world.specs.World.{WorldState}
use Rattle.rd_joined.proofs.CutLemmas.{cuts_few}
use Rattle.rd_joined.proofs.ReadLemmas.{reads_few}

pub carried_now : (deeds : List Deed) → AtEachPoint IsCarried deeds → IsCarried deeds
carried_now [] each = each
carried_now (x ∷ before) each = each.0

module _ (lines : List NumberedLine) (starves : Key → Bool) (premises : RunPremises lines) (w : WorldState) (r : Reached lines starves w) where
  pub read_few : reads_count w.deeds ≤ length lines + 2
  read_few =
      let k = known lines starves premises w r in
      omega (arith, reads_few client_id w.deeds k.stands.host.may (carried_now w.deeds k.carries.each), accepted_few lines starves w r)

  -- where lines are so few
  pub unworn : length lines ≤ 1000000 → AreFit (declared_devices (bare_lines lines)) → (device : ℕ) → length (journal device w.deeds) < worn_entries
  unworn few fit device =
      omega (arith, orderly_short w (reached_orderly lines starves w fit r) device, read_few, cuts_few lines starves fit w r device, few)
