-- What an audit file comes to: a verdict on it, or its first fault.
use Rattle.std.specs.Prelude.{◌≡◌, ℕ, ◌+◌, List, map, Result, Ok, Err}
use Rattle.rd_base.specs.declared.journal.Item.{Item}
use Rattle.rd_base.specs.Position.{Position}
use Rattle.rd_script.specs.declared.keyword.Mode.TheVariants as mode
use Rattle.rd_script.specs.declared.script.Script.{Script}
use Rattle.rd_script.specs.Script.{BadLine, script_of}
use Rattle.rd_declared.specs.Declaring.{bare_lines, declared_devices}
use Rattle.rd_declared.specs.Devices.{Declared}
use Rattle.rd_decode.specs.declared.fault.Fault.{Fault}
use Rattle.rd_audit_file.specs.declared.fault.FieldFault.{FieldFault}
use Rattle.rd_audit_file.specs.File.{behind_magic, counted_at}
use Rattle.rd_audit_file.specs.Journals.{IsJournalText, JournalFault, journal_lines}
use Rattle.rd_recorded.specs.Channels.{HeardChannel}
use Rattle.rd_recorded.specs.Entries.{recorded_channels}
use Rattle.rd_audit.specs.declared.no.AuditNo.{AuditNo}
use Rattle.rd_audit.specs.declared.no.AuditNo.TheVariants as no
use Rattle.rd_audit.specs.declared.verdict.Verdict.{Verdict}
use Rattle.rd_audit.specs.Judged.{judged}
use Rattle.rd_audit.specs.Refusals.{refused_field}

-- the devices of a script, by id
abbrev pub script_devices : Script → List (ℕ × Declared)
script_devices script = declared_devices (bare_lines script.lines)

abbrev pub script_ids : Script → List ℕ
script_ids script = map (λ (d : ℕ × Declared). d.0) (script_devices script)

-- The parts of a file as far as they are there: behind its magic stands a script, with the count of its bytes before it, which reads as this one.
pub record HasScript (bytes : List ℕ) (script : Script) (after : Position) : Type 0 where
  pub begin : Position
  pub text : List ℕ
  pub magic : behind_magic bytes ≡ Ok begin
  pub counted : counted_at begin ≡ Ok (text, after)
  pub reads : script_of mode.Both text ≡ Ok script

-- behind the script the text of its devices' journals, counted too
pub record HasJournals (bytes : List ℕ) (script : Script) (journals : List (ℕ × List Item)) (after : Position) : Type 0 where
  pub begin : Position
  pub text : List ℕ
  pub behind : HasScript bytes script begin
  pub counted : counted_at begin ≡ Ok (text, after)
  pub reads : IsJournalText (script_ids script) text journals

-- and behind that a recording up to the file's end
pub record HasRecording (bytes : List ℕ) (script : Script) (journals : List (ℕ × List Item)) (channels : List HeardChannel) : Type 0 where
  pub begin : Position
  pub behind : HasJournals bytes script journals begin
  pub reads : recorded_channels begin.at begin.left ≡ Ok channels

-- A file is judged: it has all its parts, and the verdict is that on them.
pub record IsAudited (bytes : List ℕ) (v : Verdict) : Type 0 where
  pub script : Script
  pub journals : List (ℕ × List Item)
  pub channels : List HeardChannel
  pub parts : HasRecording bytes script journals channels
  pub verdict : v ≡ judged (script_devices script) (journal_lines journals) channels

-- A file is refused for its first fault, or for want of memory.
pub data IsRefusedFile (bytes : List ℕ) : AuditNo → Type 0 where
  -- it doesn't begin with its magic
  no_magic : (f : FieldFault) → behind_magic bytes ≡ Err f → IsRefusedFile bytes (refused_field f)
  -- its end cuts the script, which is no script, or the journal text, which has a fault, or the recording has one
  cut_script : (begin : Position) (f : FieldFault) → behind_magic bytes ≡ Ok begin → counted_at begin ≡ Err f → IsRefusedFile bytes (refused_field f)
  bad_script : (begin after : Position) (text : List ℕ) (bad : BadLine) → behind_magic bytes ≡ Ok begin → counted_at begin ≡ Ok (text, after) → script_of mode.Both text ≡ Err bad
      → IsRefusedFile bytes (no.Line bad.line bad.why)
  cut_text : (script : Script) (begin : Position) (f : FieldFault) → HasScript bytes script begin → counted_at begin ≡ Err f → IsRefusedFile bytes (refused_field f)
  bad_text : (script : Script) (begin after : Position) (text : List ℕ) (f : FieldFault) → HasScript bytes script begin → counted_at begin ≡ Ok (text, after) → JournalFault (script_ids script) text f
      → IsRefusedFile bytes (refused_field (record { at = begin.at + 4 + f.at; why = f.why }))
  bad_recording : (script : Script) (journals : List (ℕ × List Item)) (begin : Position) (f : Fault) → HasJournals bytes script journals begin → recorded_channels begin.at begin.left ≡ Err f
      → IsRefusedFile bytes (no.Bad f)
  no_memory : IsRefusedFile bytes no.Memory

abbrev pub Audits : List ℕ → Result Verdict AuditNo → Type 0
Audits bytes (Ok v) = IsAudited bytes v
Audits bytes (Err n) = IsRefusedFile bytes n
