use Rattle.std.proofs.Common.{◌≡◌, ◌++◌}
use Rattle.std.specs.String.{string_bytes}
use Rattle.rd_audit_file.specs.Journals.{entries_of, journal_text, JournalsFit}
use Rattle.rd_audit_file.proofs.writing.text_of.Given as goal

-- what is written, and the journals that are left; where the numbers of those fit, all do
abbrev pub invariant-loop-device : goal.invariant-loop-device
invariant-loop-device l = record {
  bytes : string_bytes l.text ++ journal_text (entries_of l.device-iterator) ≡ journal_text (entries_of l.books);
  fit : JournalsFit (entries_of l.device-iterator) → JournalsFit (entries_of l.books);
}
