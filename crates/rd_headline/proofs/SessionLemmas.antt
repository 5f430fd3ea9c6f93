-- What every run comes to is a whole session.
use Rattle.std.proofs.Common.{◌≡◌, ◌∙◌, refl, sym, ap, subst, ℕ, true, List, map, Some, None}
use Rattle.rd_base.specs.History.{History}
use Rattle.rd_said.proofs.ActedActLemmas.{acts_by_deeds, control_by_acts}
use Rattle.rd_said.proofs.ActedReadLemmas.{behind_read_as}
use Rattle.rd_said.specs.ActedActed.{control_after, control_by_deeds, without_idle}
use Rattle.rd_said.proofs.AnsweredSessionLemmas.{reached_joined, reached_joins}
use Rattle.rd_said.proofs.JoinedBookLemmas.{marked, named, still_clock, stored as stored_deeds}
use Rattle.rd_said.proofs.JournalsDeclaredLemmas.{bounded_fit}
use Rattle.rd_said.specs.JournalsStations.{AreFit}
use Rattle.rd_said.proofs.OrdersRecordedLemmas.{reached_recorded}
use Rattle.rd_said.proofs.RestFullLemmas.{none_kept_back}
use Rattle.rd_said.proofs.RunsParts.{reached_behind}
use Rattle.rd_said.proofs.RunsReaching.{run_reached}
use Rattle.rd_said.specs.RunsMoves.{Reached}
use Rattle.rd_script.specs.declared.line.NumberedLine.{NumberedLine}
use Rattle.rd_script.specs.declared.outcome.Outcomes.{Outcomes}
use Rattle.rd_script.specs.declared.script.Script.{Script}
use Rattle.rd_script.specs.Report.{report_of}
use Rattle.rd_said.proofs.ToldOpenLemmas.{stored_open}
use Rattle.rd_said.proofs.ToldPlainLemmas.{written_plainly}
use Rattle.rd_said.proofs.ToldPrintedLemmas.{documents_told}
use Rattle.rd_world.specs.Acts.{AreActed, control_by, left_open}
use Rattle.rd_world.specs.Control.{Control, Telling}
use Rattle.rd_declared.specs.Devices.{Declared}
use Rattle.rd_world.specs.Lines.{HaveOutcomes}
use Rattle.rd_declared.specs.Declaring.{bare_lines, declared_devices}
use Rattle.rd_world.specs.Recording.{recording_of_deeds}
use Rattle.rd_world.specs.Run.{Most, choices, run_of}
use Rattle.rd_world.specs.Session.{AllTold, AreJournals, IsLeftOver, IsReported, IsRun, IsWholeSession, TellsWorld, journals_of, replies_in, world_moment}
use Rattle.rd_deeds.specs.Talk.{Deed, has_ended}
use Rattle.rd_world.specs.World.{WorldState, journals_in, marks_of}
use Rattle.rd_headline.proofs.StillLemmas.{run_still, says_done, still}
use Rattle.rd_headline.proofs.WholeLemmas.{all_completed, all_read, run_acts, run_outcomes, well}
use Rattle.rd_loads.specs.AllPremises.{MeetPremises}
use Rattle.rd_said.proofs.RestRunLemmas.{RestsStill, run_at_end}
use Rattle.rd_said.proofs.ToldLemmas.{ended_left}
use Rattle.std.specs.Prelude.{[]}

module _ (lines : List NumberedLine) (premises : MeetPremises lines) (w : WorldState) (most : Most) (is : run_of most (marks_of w) lines ≡ Some w) where
  abbrev devices : List (ℕ × Declared)
  devices = declared_devices (bare_lines lines)

  abbrev ids : List ℕ
  ids = map (λ (d : ℕ × Declared). d.0) devices

  abbrev by_lines : Control
  by_lines = control_by devices lines

  reached : Reached lines (marks_of w) w
  reached = run_reached lines (marks_of w) most w is

  fit : AreFit devices
  fit = bounded_fit lines (premises.run).bounded

  kept_back : (x : WorldState) → Reached lines (marks_of w) x → choices x ≡ [] → x.kept ≡ None
  kept_back = none_kept_back lines (marks_of w) premises.run

  acted : AreActed devices lines w.idle w.deeds
  acted = run_acts lines (marks_of w) most premises w is

  -- what was told follows from what was done
  told_is : (idle : List ℕ) (a : AreActed devices lines idle w.deeds) → (control_by_deeds ids w.deeds).told ≡ a.control.told
  told_is idle a =
      let by_acts = subst (λ (k : Control). without_idle k ≡ control_after ids k.acts) (sym a.control_is) (control_by_acts ids lines (left_open devices w.deeds by_lines)) in
      ap (λ (k : Control). k.told) (sym (by_acts ∙ ap (control_after ids) (sym a.acts) ∙ acts_by_deeds ids w.deeds))

  -- the open channel is still wherever the lines did all that they say
  rests_still : RestsStill lines (marks_of w)
  rests_still x comes quiet acts opened =
      still lines (marks_of w) premises.run premises.few premises.declared premises.writable x comes quiet (kept_back x comes quiet) by_lines (says_done ids by_lines lines x.deeds refl acts) opened

  heeded : (told : List (ℕ × Telling)) → (control_by_deeds ids w.deeds).told ≡ told → (c : ℕ) → has_ended c w.deeds ≡ true → (rest : List Deed) × IsLeftOver devices told (replies_in devices w.deeds) c w.deeds rest
  heeded told same c ended =
      let (rest, over) = ended_left lines (marks_of w) premises.run premises.few premises.declared premises.writable w reached c ended in
      (rest, subst (λ (ts : List (ℕ × Telling)). IsLeftOver devices ts (replies_in devices w.deeds) c w.deeds rest) same over)

  all_told : (told : List (ℕ × Telling)) → (control_by_deeds ids w.deeds).told ≡ told → AllTold devices told (replies_in devices w.deeds) w.deeds
  all_told told same = record {
    plain = written_plainly lines (marks_of w) fit premises.run w reached;
    all_read = all_read lines (marks_of w) most premises w is;
    all_completed = all_completed lines (marks_of w) most premises w is;
    heeded = heeded told same;
  }

module _ (script : Script) (premises : MeetPremises script.lines) (w : WorldState) (most : Most) (is : run_of most (marks_of w) script.lines ≡ Some w)
    (books : List (ℕ × History)) (told : Outcomes) (stored : journals_of books ≡ journals_in w) (told_of : TellsWorld w told) where
  whole : IsWholeSession script (recording_of_deeds w.deeds) books told (report_of script told books)
  whole = record {
    deeds = w.deeds;
    devices = declared_devices (bare_lines script.lines);
    devices_are = refl;
    wire = reached_recorded script.lines (marks_of w) w premises.run premises.writable (reached script.lines premises w most is);
    journals = journals;
    joined = reached_joined script.lines (marks_of w) premises.run premises.few w (reached script.lines premises w most is) premises.declared;
    joins = reached_joins script.lines (marks_of w) premises.run premises.few w (reached script.lines premises w most is) premises.declared;
    outcomes = subst (λ (es : List _). HaveOutcomes (declared_devices (bare_lines script.lines)) script.lines es w.deeds) (sym told_of.lines) (run_outcomes script.lines (marks_of w) most premises w is);
    report = reported;
    control_lines = control_lines;
    at_end = run_at_end script.lines (marks_of w) most w premises.ordered premises.run is (rests_still script.lines premises w most is);
    settles = run_still script.lines (marks_of w) premises.run premises.few premises.declared premises.writable (kept_back script.lines premises w most is) most w premises.ordered is;
    tells = all_told script.lines premises w most is control_lines.control.told (told_is script.lines premises w most is told.idle.items control_lines);
    run = record { world = w; run = (most, is); did = refl; stored = stored; tells = told_of };
  }
    where
      comes : Reached script.lines (marks_of w) w
      comes = reached script.lines premises w most is

      journals : AreJournals (world_moment script.lines) (declared_devices (bare_lines script.lines)) books w.deeds
      journals = record {
        each = stored ∙ stored_deeds script.lines (marks_of w) premises.run (fit script.lines premises w most is) w comes;
        named = named script.lines (marks_of w) premises.run (fit script.lines premises w most is) w comes;
        on_open = stored_open script.lines (marks_of w) premises.run w comes;
        still_clock = still_clock script.lines (marks_of w) premises.run (fit script.lines premises w most is) w comes;
        marked = marked script.lines (marks_of w) premises.run (fit script.lines premises w most is) w comes;
      }

      reported : IsReported (declared_devices (bare_lines script.lines)) script told books (report_of script told books) w.deeds
      reported = record {
        output = refl;
        documents = told_of.documents ∙ documents_told script.lines (marks_of w) premises.run w comes;
        cache = told_of.cache ∙ (behind_read_as script.lines (marks_of w) premises.run w (reached_behind script.lines (marks_of w) w comes) (well script.lines (marks_of w) most premises w is)).2;
      }

      control_lines : AreActed (declared_devices (bare_lines script.lines)) script.lines told.idle.items w.deeds
      control_lines = subst (λ (idle : List ℕ). AreActed (declared_devices (bare_lines script.lines)) script.lines idle w.deeds) (sym told_of.idle) (acted script.lines premises w most is)

-- A run of a script's lines is a whole session, with all that is told of it.
pub runs_are_whole : (script : Script) (books : List (ℕ × History)) (told : Outcomes) (deeds : List Deed) → MeetPremises script.lines → IsRun script books told deeds
    → IsWholeSession script (recording_of_deeds deeds) books told (report_of script told books)
runs_are_whole script books told deeds premises run =
    let w : WorldState = run.world in
    subst (λ (ds : List Deed). IsWholeSession script (recording_of_deeds ds) books told (report_of script told books)) run.did
    (whole script premises w run.run.0 run.run.1 books told run.stored run.tells)
