-- How the commands `both` and `trace` end, which play a script and print what comes of it: with which status, what they have done by then, and which event, the
-- first, gave the status.
use Rattle.std.specs.Prelude.{◌≡◌, ℕ, ◌⊎◌, List, [], Result, Ok, Err}
use Rattle.rd_base.specs.History.{History}
use Rattle.std.specs.Io.KnownBytes.{Appends}
use Rattle.rd_script.specs.declared.keyword.Mode.TheVariants as mode
use Rattle.rd_script.specs.declared.outcome.Outcomes.{Outcomes}
use Rattle.rd_script.specs.declared.script.Script.{Script}
use Rattle.rd_script.specs.Script.{BadLine}
use Rattle.rd_world.specs.Recording.{recording_of_deeds}
use Rattle.rd_world.specs.Run.{WorldRun}
use Rattle.rd_world.specs.Session.{IsCutOff, StoresSome}
use Rattle.rd_world.specs.World.{WorldState, journals_in}
use Rattle.rd_cli.specs.Outside.{AreFaultless, FailedToWrite, HasOneFault, IsFaultless, Outside, Stream, Wrote}
use Rattle.rd_cli.specs.Headline.{Played, PlayedToEnd, Printout, audit_printed, report_printed}
use Rattle.rd_cli.specs.Reading.{GivesBadLine, GivesScript, ReadsBadLine, ReadsScript}
use Rattle.rd_cli.specs.Stops.{StopsWith}
use Rattle.rd_cli.specs.declared.stop.Stop.{Stop}
use Rattle.rd_cli.specs.declared.stop.Stop.TheVariants as stop

-- The session of the script came to its end in this world, and its recording was written whole.
pub record HasPlayed {R : Type 0} (script : Script) (before after : Stream R) (world : WorldState) : Type 0 where
  pub run : WorldRun script.lines world
  pub recorded : Wrote before after (recording_of_deeds world.deeds)

-- The session of the script stopped early: what was written of its recording is a beginning of what the script's session comes to, where some runs found no
-- memory.
pub record StoppedEarly {R : Type 0} (script : Script) (before after : Stream R) : Type 0 where
  pub written : List ℕ
  pub appended : Appends before.bytes after.bytes written
  pub cut_off : IsCutOff script.lines written

-- The recording failed, and the session of the script stopped early. One fault was counted.
pub record FailedToRecord {R : Type 0} (script : Script) (before after : Stream R) : Type 0 where
  pub stopped : StoppedEarly script before after
  pub fault : HasOneFault before after

-- The output failed, after the script of this text was played and recorded: a prefix of what is printed of its session was written.
pub record FailedToPrintSession {S K R : Type 0} (printed : Printout) (text : List ℕ) (script : Script) (before after : Outside S K R) (books : List (ℕ × History)) : Type 0 where
  pub told : Outcomes
  pub played : Played script before.recording after.recording books told
  pub failed : FailedToWrite before.output after.output (printed text script told books played.recording)

-- Memory ran out, and the session of the script stopped early. No fault was counted, and no journal was stored.
pub record StarvedInSession {R : Type 0} (script : Script) (before after : Stream R) (books : List (ℕ × History)) : Type 0 where
  pub stopped : StoppedEarly script before after
  pub faultless : IsFaultless before after
  pub unstored : books ≡ []

-- Memory ran out after the script's session had come to its end, in this world: its recording was written whole, with no fault, and of its journals the
-- first were stored.
pub record StarvedAfterSession {R : Type 0} (script : Script) (before after : Stream R) (books : List (ℕ × History)) : Type 0 where
  pub world : WorldState
  pub run : WorldRun script.lines world
  pub recorded : Wrote before after (recording_of_deeds world.deeds)
  pub stored : StoresSome (journals_in world) books

-- Memory ran out before the script's session came to its end, or after that.
abbrev pub StarvedPlaying : {R : Type 0} → Script → (before after : Stream R) → List (ℕ × History) → Type 0
StarvedPlaying script before after books = StarvedInSession script before after books ⊎ StarvedAfterSession script before after books

-- nothing was recorded, and no journal was stored
abbrev pub IsUnplayed : {R : Type 0} → (before after : Stream R) → List (ℕ × History) → Type 0
IsUnplayed before after books = (after ≡ before) × (books ≡ [])

-- Memory ran out before any fault, and nothing was printed. Nothing was recorded then; or the input was read and is a script, whose session stopped early, or
-- came to its end.
pub record Starved {S K R : Type 0} (before after : Outside S K R) (books : List (ℕ × History)) : Type 0 where
  pub faultless : AreFaultless before after
  pub unprinted : after.output ≡ before.output
  pub recording : IsUnplayed before.recording after.recording books
      ⊎ ((script : Script) × ReadsScript mode.Both before.input after.input script × StarvedPlaying script before.recording after.recording books)

-- What a command that prints this of a session has done when it stopped, before a last line says so: the first event that stops it ends it.
abbrev pub StoppedPlaying : {S K R : Type 0} → Printout → (before after : Outside S K R) → List (ℕ × History) → Stop → Type 0
StoppedPlaying printed before after books (stop.Line line cause) =
    ReadsBadLine mode.Both before.input after.input (record { line = line; why = cause }) × (after.output ≡ before.output) × (after.recording ≡ before.recording) × (books ≡ [])
StoppedPlaying printed before after books stop.Input =
    HasOneFault before.input after.input × (after.output ≡ before.output) × (after.recording ≡ before.recording) × (books ≡ [])
StoppedPlaying printed before after books stop.Recording =
    (script : Script) × ReadsScript mode.Both before.input after.input script × FailedToRecord script before.recording after.recording × (after.output ≡ before.output) × (books ≡ [])
StoppedPlaying printed before after books stop.Output =
    (script : Script) × (reads : ReadsScript mode.Both before.input after.input script) × FailedToPrintSession printed reads.text script before after books
StoppedPlaying printed before after books stop.Memory = Starved before after books
StoppedPlaying printed before after books _ = ⊥

-- a stop of the playing of a script: for the recording, when no journal was stored, or for want of memory, before its session, in it or after it
abbrev pub StopsForRecording : {R : Type 0} → Script → (before after : Stream R) → List (ℕ × History) → Stop → Type 0
StopsForRecording script before after books stop.Recording = FailedToRecord script before after × (books ≡ [])
StopsForRecording script before after books stop.Memory = IsUnplayed before after books ⊎ StarvedPlaying script before after books
StopsForRecording script before after books _ = ⊥

-- How such a command came out, before a last line: it came to its end, or it stopped.
abbrev pub ComesOut : {T S K R : Type 0} → Printout → (before after : Outside S K R) → List (ℕ × History) → Result T Stop → Type 0
ComesOut printed before after books (Ok done) = PlayedToEnd printed before after books
ComesOut printed before after books (Err s) = StoppedPlaying printed before after books s

-- The script was refused for a line, and nothing was recorded. The output says so, unless the write of that failed.
pub record RefusesScript {S K R : Type 0} (before after : Outside S K R) (books : List (ℕ × History)) : Type 0 where
  pub bad : BadLine
  pub reads : ReadsBadLine mode.Both before.input after.input bad
  pub says : StopsWith (stop.Line bad.line bad.why) before.output after.output 1
  pub unrecorded : after.recording ≡ before.recording
  pub unstored : books ≡ []

-- How a command that prints this of a session ends with a status. The first fault of the outside, want of memory, or a refused line ends it, and nothing else gives its
-- status; what else failed before, or was touched, the fields say.
pub record IsEndOfPlaying {S K R : Type 0} (printed : Printout) (before after : Outside S K R) (books : List (ℕ × History)) (status : ℕ) : Type 0 where
  pub known : (status ≡ 0) ⊎ ((status ≡ 1) ⊎ ((status ≡ 2) ⊎ ((status ≡ 3) ⊎ (status ≡ 6))))
  -- 0: the session of the script came to its end, with no fault
  pub played : status ≡ 0 → PlayedToEnd printed before after books
  -- 1: a line of the script was refused
  pub refused : status ≡ 1 → RefusesScript before after books
  -- 2: the first fault was the input's, and nothing was done
  pub unread : status ≡ 2 → StoppedPlaying printed before after books stop.Input
  -- 3: the first fault was the recording's, or the output's
  pub unwritten : status ≡ 3 → StoppedPlaying printed before after books stop.Recording ⊎ StoppedPlaying printed before after books stop.Output
  -- 6: memory ran out before any fault, and nothing was printed
  pub starved : status ≡ 6 → Starved before after books
  -- A bad line is refused, unless a read fails or memory runs out.
  pub refuses : (bad : BadLine) → GivesBadLine mode.Both before.input.bytes bad → (status ≡ 1) ⊎ ((status ≡ 2) ⊎ (status ≡ 6))
  -- A script comes to its end, unless a read or a write fails or memory runs out. It is never refused.
  pub completes : GivesScript mode.Both before.input.bytes → (status ≡ 0) ⊎ ((status ≡ 2) ⊎ ((status ≡ 3) ⊎ (status ≡ 6)))

-- How `both` ends, which prints the report.
abbrev pub IsEndOfBoth : {S K R : Type 0} → (before after : Outside S K R) → List (ℕ × History) → ℕ → Type 0
IsEndOfBoth before after books status = IsEndOfPlaying report_printed before after books status

-- How `trace` ends, which prints the audit file.
abbrev pub IsEndOfTrace : {S K R : Type 0} → (before after : Outside S K R) → List (ℕ × History) → ℕ → Type 0
IsEndOfTrace before after books status = IsEndOfPlaying audit_printed before after books status
