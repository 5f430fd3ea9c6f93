-- An audit file is refused, or judged, by how far its parts are there.
use Rattle.std.proofs.Common.{◌≡◌, ℕ, ◌+◌, List, map, All, Result, Ok, Err, sym, ap, subst, ◌∙◌}
use Rattle.std.specs.Prelude.{IfErr, IfOk, IsErrAnd}
use Rattle.rd_base.specs.declared.journal.Item.{Item}
use Rattle.rd_base.specs.Position.{Position}
use Rattle.rd_script.specs.declared.keyword.Mode.TheVariants as mode
use Rattle.rd_script.specs.declared.line.NumberedLine.{NumberedLine}
use Rattle.rd_script.specs.declared.script.Script.{Script}
use Rattle.rd_script.specs.declared.why.ScriptNo.{ScriptNo}
use Rattle.rd_script.specs.declared.why.ScriptNo.TheVariants as script_no
use Rattle.rd_script.specs.Script.{IsBadLine, script_of}
use Rattle.rd_declared.specs.Declaring.{bare_lines, declared_devices}
use Rattle.rd_declared.specs.Devices.{Declared}
use Rattle.rd_audit_file.specs.declared.fault.FieldFault.{FieldFault}
use Rattle.rd_audit_file.specs.declared.line.JournalLine.{JournalLine}
use Rattle.rd_audit_file.specs.File.{behind_magic, counted_at}
use Rattle.rd_audit_file.specs.Journals.{IsJournalText, JournalFault, journal_lines, lines_text}
use Rattle.rd_audit_file.specs.Lines.{LineFits}
use Rattle.rd_recorded.specs.declared.no.RecordingNo.{RecordingNo}
use Rattle.rd_recorded.specs.declared.no.RecordingNo.TheVariants as recording_no
use Rattle.rd_recorded.specs.Channels.{HeardChannel}
use Rattle.rd_recorded.specs.Entries.{recorded_channels}
use Rattle.rd_recorded.specs.Kept.{RefusedFor}
use Rattle.rd_audit.specs.declared.no.AuditNo.{AuditNo}
use Rattle.rd_audit.specs.declared.no.AuditNo.TheVariants as no
use Rattle.rd_audit.specs.declared.verdict.Verdict.{Verdict}
use Rattle.rd_audit.specs.Audit.{Audits, HasJournals, HasRecording, HasScript, IsRefusedFile, bad_recording, bad_script, bad_text, script_devices, script_ids, no_memory}
use Rattle.rd_audit.specs.Judged.{judged}
use Rattle.rd_audit.specs.Refusals.{ChecksAt, refused_field, refused_recording, refused_script}

-- an error is the refusal that it becomes
pub refused : (bytes : List ℕ) (n : AuditNo) (result : Result Verdict AuditNo) → IsErrAnd result (λ e. e ≡ n) → IsRefusedFile bytes n → Audits bytes result
refused bytes n (Ok v) is why = absurd is
refused bytes n (Err e) is why = subst (IsRefusedFile bytes) (sym is) why

-- a script that can't be read
pub script_refused : (bytes : List ℕ) (begin after : Position) (text : List ℕ) (n : ScriptNo) → behind_magic bytes ≡ Ok begin → counted_at begin ≡ Ok (text, after) → IsBadLine (λ bad. script_of mode.Both text ≡ Err bad) n
    → IsRefusedFile bytes (refused_script n)
script_refused bytes begin after text (script_no.BadLine line why) magic counted bad = bad_script begin after text (record { line = line; why = why }) magic counted bad
script_refused bytes begin after text script_no.Memory magic counted bad = no_memory

-- the ids of the devices of a script
pub ids_are : (script : Script) (lines : List NumberedLine) (devices : List (ℕ × Declared)) (ids own : List ℕ) → lines ≡ script.lines → devices ≡ declared_devices (bare_lines lines) → ids ≡ map (λ (d : ℕ × Declared). d.0) devices → own ≡ ids → own ≡ script_ids script
ids_are script lines devices ids own of_script declared is same = same ∙ is ∙ ap (map (λ (d : ℕ × Declared). d.0)) (declared ∙ ap (λ (ls : List NumberedLine). declared_devices (bare_lines ls)) of_script)

-- a journal text that has a fault
pub text_refused : (bytes : List ℕ) (script : Script) (begin after : Position) (text ids : List ℕ) (at : ℕ) (f : FieldFault) → HasScript bytes script begin → counted_at begin ≡ Ok (text, after) → ids ≡ script_ids script → at ≡ begin.at + 4
    → ChecksAt at ids text (Err f) → IsRefusedFile bytes (refused_field f)
text_refused bytes script begin after text ids at f has counted same place (own, fault, is) =
    let moved : f ≡ record { at = begin.at + 4 + own.at; why = own.why } = is ∙ ap (λ (n : ℕ). record { at = n + own.at; why = own.why }) place in
    subst (λ (x : FieldFault). IsRefusedFile bytes (refused_field x)) (sym moved) (bad_text script begin after text own has counted (subst (λ (xs : List ℕ). JournalFault xs text own) same fault))

-- a recording that has one
pub recording_refused : (bytes : List ℕ) (script : Script) (journals : List (ℕ × List Item)) (begin : Position) (at : ℕ) (rest : List ℕ) (n : RecordingNo) → HasJournals bytes script journals begin → at ≡ begin.at → rest ≡ begin.left → RefusedFor (recorded_channels at rest) n
    → IsRefusedFile bytes (refused_recording n)
recording_refused bytes script journals begin at rest (recording_no.Bad f) has place left fault = bad_recording script journals begin f has (ap (λ (n : ℕ). recorded_channels n begin.left) (sym place) ∙ ap (recorded_channels at) (sym left) ∙ fault)
recording_refused bytes script journals begin at rest recording_no.Memory has place left fault = no_memory

-- journals and a recording that were judged
pub judged_parts : (bytes : List ℕ) (script : Script) (journals : List (ℕ × List Item)) (channels heard : List HeardChannel) (text : List ℕ) (devices : List (ℕ × Declared)) (r : Result Verdict AuditNo) → HasRecording bytes script journals channels → IsJournalText (script_ids script) text journals
    → devices ≡ script_devices script → heard ≡ channels
    → ((lines : List JournalLine) → text ≡ lines_text lines → All LineFits lines → IfOk r (λ v. v ≡ judged devices lines heard)) → IfErr r (λ n. n ≡ no.Memory) → Audits bytes r
judged_parts bytes script journals channels heard text devices (Ok v) parts reads same all is memory =
    record {
      script = script;
      journals = journals;
      channels = channels;
      parts = parts;
      verdict = is (journal_lines journals) reads.parts reads.fit
          ∙ ap (λ (ds : List (ℕ × Declared)). judged ds (journal_lines journals) heard) same ∙ ap (judged (script_devices script) (journal_lines journals)) all;
    }
judged_parts bytes script journals channels heard text devices (Err n) parts reads same all is memory = subst (IsRefusedFile bytes) (sym memory) no_memory
