use Rattle.rd_base.proofs.ClassLemmas.{all_read}
use Rattle.rd_fileinfo.specs.Label.{label_set}
use Rattle.rd_fileinfo.proofs.label.read_label.Goals as goal

pub returns : goal.returns
returns c =
    let whole = all_read label_set c.args.bytes.now _ _ c.label_of.result c.type_inv.bytes c.new-cursor.ensures c.label_of.ensures in
    record { spelled = whole.spelled; refused = whole.refused }
