use Rattle.rd_base.proofs.ClassLemmas.{whole_read}
use Rattle.rd_dirinfo.specs.Entry.{entry_classes}
use Rattle.rd_dirinfo.proofs.entry.read_entry.Goals as goal

pub returns : goal.returns
returns c =
    let whole = whole_read entry_classes c.args.class c.args.bytes.now _ _ c.entry_of.result c.type_inv.bytes c.new-cursor.ensures c.entry_of.ensures in
    record { spelled = whole.spelled; refused = whole.refused; class = whole.class }
