-- What a run that stopped early wrote is a beginning of what the session of its lines comes to.
use Rattle.std.proofs.Common.{◌≡◌, ◌∙◌, sym, ap, ℕ, Bool, List, ◌++◌, take, drop, Some, Option, append_assoc}
use Rattle.std.specs.Io.KnownBytes.{Appends}
use Rattle.std.proofs.lemmas.List.{take-append-drop}
use Rattle.rd_base.specs.declared.journal.Key.{Key}
use Rattle.rd_opening.specs.OrdersOrders.{DeclaresWritable}
use Rattle.rd_told.proofs.RunsReaching.{run_reached}
use Rattle.rd_told.specs.RunsPremises.{RunPremises}
use Rattle.rd_script.specs.declared.line.NumberedLine.{NumberedLine}
use Rattle.rd_world.specs.Recording.{recording_of_deeds}
use Rattle.rd_world.specs.Run.{Most, WorldRun, run_of}
use Rattle.rd_world.specs.Session.{IsCutOff}
use Rattle.rd_world.specs.Wire.{IsCutRun}
use Rattle.rd_world.specs.World.{WorldState, marks_of}
use Rattle.rd_ended.proofs.OwnMarks.{own_marks}
use Rattle.rd_ended.proofs.Runs.{run_ends}
use Rattle.rd_ended.proofs.SameMarks.{run_same}

module _ (lines : List NumberedLine) (premises : RunPremises lines) (writable : DeclaresWritable lines) where
  -- a run is the same by its own marks
  pub run_of_own : (starves : Key → Bool) (most : Most) (w : WorldState) → run_of most starves lines ≡ Some w → run_of most (marks_of w) lines ≡ Some w
  run_of_own starves most w is = run_same lines starves (marks_of w) premises writable most w is (own_marks lines starves premises w (run_reached lines starves most w is))

  -- so it is the session of the lines
  pub session_of : (starves : Key → Bool) (most : Most) (w : WorldState) → run_of most starves lines ≡ Some w → WorldRun lines w
  session_of starves most w is = (most, run_of_own starves most w is)

  pub cut_off : (start held : Option (List ℕ)) (x : WorldState) → IsCutRun start held lines x → (written : List ℕ) × Appends start held written × IsCutOff lines written
  cut_off start held x cut =
      let (n, appended) = cut.prefix in
      let all : List ℕ = recording_of_deeds x.deeds in
      let (most, w, is) = run_ends lines (marks_of x) premises writable in
      let (more, recorded) = cut.passed (marks_of x) most w cut.marked is in (
        take n all,
        appended,
        record {
          world = w;
          run = session_of (marks_of x) most w is;
          rest = drop n all ++ more;
          recorded = recorded ∙ ap (λ (bytes : List ℕ). bytes ++ more) (sym (take-append-drop n all)) ∙ append_assoc (take n all) (drop n all) more;
        },
      )
