use Rattle.std.proofs.Common.{arith, ℕ, List, subst}
use Rattle.std.specs.Prelude.{All}
use Rattle.std.proofs.lemmas.Grind.{common_steps}
use Rattle.rd_base.specs.declared.journal.Item.{Item}
use Rattle.rd_base.specs.History.{History}
use Rattle.rd_audit_file.specs.Journals.{entries_of, lines_of_journal, JournalsFit}
use Rattle.rd_audit_file.specs.Lines.{LineFits}
use Rattle.rd_audit_file.proofs.WritingLemmas.{journal_fits}
use Rattle.rd_audit_file.proofs.writing.text_of.Goals as goal

pub loop-device-preserved : goal.loop-device-preserved
loop-device-preserved c = record {
  bytes = grind (arith, common_steps);
  fit = journal_fits c.in-Some.device.now c.in-Some.journal.now c.next.new.self (entries_of c.args.books.now)
      (subst (λ (entries : List Item). All LineFits (lines_of_journal (c.in-Some.device.now, entries))) c.items.ensures c.in_ok-put_journal.ensures.fit)
      (subst (λ (left : List (ℕ × History)). JournalsFit (entries_of left) → JournalsFit (entries_of c.args.books.now)) c.in-Some.ensures.steps c.loop-device.invariant.fit);
}
