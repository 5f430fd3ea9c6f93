-- Why an audit file can't be judged, by why a part of it can't be read.
use Rattle.std.specs.Prelude.{◌≡◌, ◌+◌, ℕ, List, Result, Ok, Err}
use Rattle.rd_audit_file.specs.declared.fault.FieldFault.{FieldFault}
use Rattle.rd_audit_file.specs.Journals.{ChecksJournals, JournalFault}
use Rattle.rd_decode.specs.declared.fault.FaultWhy.TheVariants as why
use Rattle.rd_recorded.specs.declared.no.RecordingNo.{RecordingNo}
use Rattle.rd_recorded.specs.declared.no.RecordingNo.TheVariants as recording
use Rattle.rd_script.specs.declared.why.ScriptNo.{ScriptNo}
use Rattle.rd_script.specs.declared.why.ScriptNo.TheVariants as script
use Rattle.rd_audit.specs.declared.no.AuditNo.{AuditNo}
use Rattle.rd_audit.specs.declared.no.AuditNo.TheVariants.{Line, Bad, Memory}

abbrev pub refused_script : ScriptNo → AuditNo
refused_script (script.BadLine line why) = Line line why
refused_script script.Memory = Memory

abbrev pub refused_recording : RecordingNo → AuditNo
refused_recording (recording.Bad fault) = Bad fault
refused_recording recording.Memory = Memory

abbrev pub refused_field : FieldFault → AuditNo
refused_field fault = Bad (record { at = fault.at; why = why.Field fault.why })

-- A journal text, whose first byte has this place in its file, is that of journals of these devices, or has a fault there.
abbrev pub ChecksAt : ℕ → (ids text : List ℕ) → Result (Unit {0}) FieldFault → Type 0
ChecksAt at ids text (Ok done) = ChecksJournals ids text (Ok done)
ChecksAt at ids text (Err fault) = (own : FieldFault) × JournalFault ids text own × (fault ≡ record { at = at + own.at; why = own.why })
