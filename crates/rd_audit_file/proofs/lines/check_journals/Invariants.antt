use Rattle.std.proofs.Common.{◌≡◌, length}
use Rattle.rd_audit_file.proofs.JournalLemmas.{IsRead}
use Rattle.rd_audit_file.proofs.lines.check_journals.Given as goal

-- how far the text is read
abbrev pub invariant-loop-line : goal.invariant-loop-line
invariant-loop-line l = record {
  place : l.lines.at ≡ l.at;
  read : IsRead l.fn.ids l.fn.text l.at l.lines.left l.to_come l.begun;
}

abbrev pub decreases-loop-line : goal.decreases-loop-line
decreases-loop-line l = length l.lines.left
