use Rattle.rd_base.proofs.ClassLemmas.{whole_read}
use Rattle.rd_fileinfo.specs.VolumeInfo.{volume_classes}
use Rattle.rd_fileinfo.proofs.volume_info.read_volume.Goals as goal

pub returns : goal.returns
returns c =
    let whole = whole_read volume_classes c.args.class c.args.bytes.now _ _ c.volume_of.result c.type_inv.bytes c.new-cursor.ensures c.volume_of.ensures in
    record { spelled = whole.spelled; refused = whole.refused; class = whole.class }
