use Rattle.rd_base.proofs.ClassLemmas.{whole_read}
use Rattle.rd_fileinfo.specs.SetInfo.{set_classes}
use Rattle.rd_fileinfo.proofs.set_info.read_set_info.Goals as goal

pub returns : goal.returns
returns c =
    let whole = whole_read set_classes c.args.class c.args.bytes.now _ _ c.set_info_of.result c.type_inv.bytes c.new-cursor.ensures c.set_info_of.ensures in
    record { spelled = whole.spelled; refused = whole.refused; class = whole.class }
