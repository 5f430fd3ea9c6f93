-- What a session of a script that came to its end leaves: a recording, journals and outcomes that are those of one whole session; and what is printed of it.
use Rattle.std.specs.Prelude.{◌≡◌, ℕ, List, Ok}
use Rattle.rd_audit_file.specs.File.{audit_file}
use Rattle.rd_audit_file.specs.Journals.{entries_of, journal_text}
use Rattle.rd_base.specs.History.{History}
use Rattle.rd_script.specs.declared.keyword.Mode.TheVariants as mode
use Rattle.rd_script.specs.declared.outcome.Outcomes.{Outcomes}
use Rattle.rd_script.specs.declared.script.Script.{Script}
use Rattle.rd_script.specs.Report.{report_of}
use Rattle.rd_script.specs.Script.{script_of}
use Rattle.rd_world.specs.Session.{IsWholeSession}
use Rattle.rd_cli.specs.Outside.{Outside, Stream, ReadToEnd, Wrote}

-- A script was played to its end, and the recording was written: this recording, these journals and what is told of it are those of one whole session of the
-- script, which holds whatever its applications, workers, chunk cuts, removals and reconnections did. No fault was counted.
pub record Played {R : Type 0} (script : Script) (before after : Stream R) (books : List (ℕ × History)) (told : Outcomes) : Type 0 where
  pub recording : List ℕ
  pub whole : IsWholeSession script recording books told (report_of script told books)
  pub recorded : Wrote before after recording

-- The same with this recording.
abbrev pub PlayedAs : {R : Type 0} → List ℕ → Script → (before after : Stream R) → List (ℕ × History) → Outcomes → Type 0
PlayedAs recording script before after books told = (played : Played script before after books told) × (played.recording ≡ recording)

-- What is printed of a session: of the text of its script, the script, what is told of it, its journals and its recording.
abbrev pub Printout : Type 0
Printout = (text : List ℕ) → Script → Outcomes → List (ℕ × History) → (recording : List ℕ) → List ℕ

-- `both` prints its report
abbrev pub report_printed : Printout
report_printed text script told books recording = report_of script told books

-- `trace` prints its audit file
abbrev pub audit_printed : Printout
audit_printed text script told books recording = audit_file text (journal_text (entries_of books)) recording

-- What a command that prints this of a session did to the outside when its session came to its end: the input was read to its end and is a script, which was
-- played and recorded, and then that was written. No fault was counted.
pub record PlayedToEnd {S K R : Type 0} (printed : Printout) (before after : Outside S K R) (books : List (ℕ × History)) : Type 0 where
  pub text : List ℕ
  pub script : Script
  pub told : Outcomes
  pub read : ReadToEnd before.input after.input text
  pub script_is : script_of mode.Both text ≡ Ok script
  pub played : Played script before.recording after.recording books told
  pub wrote : Wrote before.output after.output (printed text script told books played.recording)
