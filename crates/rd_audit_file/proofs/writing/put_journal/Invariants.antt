use Rattle.std.proofs.Common.{◌≡◌, ◌++◌, drop, map}
use Rattle.std.specs.Prelude.{All}
use Rattle.std.specs.String.{string_bytes}
use Rattle.rd_audit_file.specs.declared.line.JournalLine.TheVariants.{Entry}
use Rattle.rd_audit_file.specs.Journals.{lines_of_journal, lines_text}
use Rattle.rd_audit_file.specs.Lines.{LineFits}
use Rattle.rd_audit_file.proofs.writing.put_journal.Given as goal

-- what is written, and the lines that are left; where the numbers of those fit, all do
abbrev pub invariant-loop-entry : goal.invariant-loop-entry
invariant-loop-entry l = record {
  bytes : string_bytes l.text ++ lines_text (map (λ entry. Entry entry) (drop l.entry-index l.entries)) ≡ string_bytes l.fn.text ++ lines_text (lines_of_journal (l.device, l.entries));
  fit : All LineFits (map (λ entry. Entry entry) (drop l.entry-index l.entries)) → All LineFits (lines_of_journal (l.device, l.entries));
}
