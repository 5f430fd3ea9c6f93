use Rattle.rd_audit_file.proofs.OneReadingLemmas.{one_reading}
use Rattle.rd_audit_file.proofs.laws.journal_texts_have_one_reading.Goals as goal

pub returns : goal.returns
returns c = one_reading c.args.ids.now c.args.text.now
