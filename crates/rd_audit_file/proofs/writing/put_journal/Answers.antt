use Rattle.std.proofs.Common.{arith}
use Rattle.std.proofs.lemmas.Grind.{common_steps}
use Rattle.rd_base.specs.declared.journal.Item.TheVariants.{Came}
use Rattle.rd_audit_file.specs.Journals.{lines_of_journal}
use Rattle.rd_audit_file.proofs.WritingLemmas.{entry_fits}
use Rattle.rd_audit_file.proofs.writing.put_journal.Goals as goal

pub loop-entry-preserved : goal.loop-entry-preserved
loop-entry-preserved c = record {
  bytes = grind (arith, common_steps);
  fit = entry_fits c.args.entries.now c.loop-entry.entry-index (Came (record { channel = 0; index = 0 })) (lines_of_journal (c.args.device, c.args.entries.now)) c.loop-entry-test.true
      c.in_ok-put_line-2.ensures.fits c.loop-entry.invariant.fit;
}
