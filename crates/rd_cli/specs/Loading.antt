-- How the command `load` ends: with which status, what it has done by then, and which event, the first, gave the status. Its script is that of its
-- number, and a summary stands in the report's place.
use Rattle.std.specs.Prelude.{◌≡◌, ℕ, ◌⊎◌, List, [], Result, Ok, Err}
use Rattle.rd_base.specs.History.{History}
use Rattle.rd_script.specs.declared.outcome.Outcomes.{Outcomes}
use Rattle.rd_script.specs.Load.{load_script}
use Rattle.rd_cli.specs.Outside.{FailedToWrite, Stream, Wrote}
use Rattle.rd_cli.specs.Headline.{Played}
use Rattle.rd_cli.specs.Playing.{FailedToRecord, IsUnplayed, StarvedPlaying}
use Rattle.rd_cli.specs.Summary.{summary_of}
use Rattle.rd_cli.specs.declared.stop.Stop.{Stop}
use Rattle.rd_cli.specs.declared.stop.Stop.TheVariants as stop

-- The load of this number was played and recorded, and then its summary was written. No fault was counted.
pub record LoadedToEnd {K R : Type 0} (number : ℕ) (output output_after : Stream K) (recording recording_after : Stream R) (books : List (ℕ × History)) : Type 0 where
  pub told : Outcomes
  pub played : Played (load_script number) recording recording_after books told
  pub summarized : Wrote output output_after (summary_of number told.lines.entries)

-- The output failed, after the load was played and recorded: a prefix of the summary was written.
pub record FailedToSummarize {K R : Type 0} (number : ℕ) (output output_after : Stream K) (recording recording_after : Stream R) (books : List (ℕ × History)) : Type 0 where
  pub told : Outcomes
  pub played : Played (load_script number) recording recording_after books told
  pub failed : FailedToWrite output output_after (summary_of number told.lines.entries)

-- What the command has done when it stopped: the first event that stops it ends it.
abbrev pub StoppedLoading : {K R : Type 0} → ℕ → (output output_after : Stream K) → (recording recording_after : Stream R) → List (ℕ × History) → Stop → Type 0
StoppedLoading number output output_after recording recording_after books stop.Recording =
    FailedToRecord (load_script number) recording recording_after × (output_after ≡ output) × (books ≡ [])
StoppedLoading number output output_after recording recording_after books stop.Output =
    FailedToSummarize number output output_after recording recording_after books
StoppedLoading number output output_after recording recording_after books stop.Memory =
    (output_after ≡ output) × (IsUnplayed recording recording_after books ⊎ StarvedPlaying (load_script number) recording recording_after books)
StoppedLoading number output output_after recording recording_after books _ = ⊥

-- How the command came out: it came to its end, or it stopped.
abbrev pub ComesOutOfLoad : {T K R : Type 0} → ℕ → (output output_after : Stream K) → (recording recording_after : Stream R) → List (ℕ × History) → Result T Stop → Type 0
ComesOutOfLoad number output output_after recording recording_after books (Ok done) = LoadedToEnd number output output_after recording recording_after books
ComesOutOfLoad number output output_after recording recording_after books (Err s) = StoppedLoading number output output_after recording recording_after books s

-- How the command ends with a status. The first fault of the outside or want of memory ends it, and nothing else gives its status: without these it comes
-- to 0.
pub record IsEndOfLoad {K R : Type 0} (number : ℕ) (output output_after : Stream K) (recording recording_after : Stream R) (books : List (ℕ × History)) (status : ℕ) : Type 0 where
  pub known : (status ≡ 0) ⊎ ((status ≡ 3) ⊎ (status ≡ 6))
  -- 0: the session of the load came to its end, with no fault
  pub played : status ≡ 0 → LoadedToEnd number output output_after recording recording_after books
  -- 3: the first fault was the recording's, or the output's
  pub unwritten : status ≡ 3
      → StoppedLoading number output output_after recording recording_after books stop.Recording ⊎ StoppedLoading number output output_after recording recording_after books stop.Output
  -- 6: memory ran out before any fault, and nothing was printed
  pub starved : status ≡ 6 → StoppedLoading number output output_after recording recording_after books stop.Memory
