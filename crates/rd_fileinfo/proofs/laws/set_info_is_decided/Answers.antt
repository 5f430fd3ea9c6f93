use Rattle.rd_base.proofs.ClassLemmas.{class_one_of}
use Rattle.rd_fileinfo.specs.SetInfo.{set_classes}
use Rattle.rd_fileinfo.proofs.laws.set_info_is_decided.Goals as goal

pub returns : goal.returns
returns c = class_one_of set_classes c.args.class _ c.type_inv.bytes
