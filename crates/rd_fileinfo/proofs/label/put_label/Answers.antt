use Rattle.rd_fileinfo.proofs.WrittenLemmas.{label_spelled}
use Rattle.rd_fileinfo.proofs.label.put_label.Goals as goal

pub returns-clause-spelled : goal.returns-clause-spelled
returns-clause-spelled c = label_spelled c.args.label.now c.requires (rw c.as_slice-units.ensures at c.put_path.ensures.fit)
