use Rattle.rd_base.proofs.ClassLemmas.{whole_read}
use Rattle.rd_fileinfo.specs.FileInfo.{file_classes}
use Rattle.rd_fileinfo.proofs.file_info.read_file_info.Goals as goal

pub returns : goal.returns
returns c =
    let whole = whole_read file_classes c.args.class c.args.bytes.now _ _ c.file_info_of.result c.type_inv.bytes c.new-cursor.ensures c.file_info_of.ensures.read in
    record { spelled = whole.spelled; refused = whole.refused; class = whole.class; memory = c.file_info_of.ensures.memory }
