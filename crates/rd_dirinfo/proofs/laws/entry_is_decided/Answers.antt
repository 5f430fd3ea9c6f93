use Rattle.rd_base.proofs.ClassLemmas.{class_one_of}
use Rattle.rd_dirinfo.specs.Entry.{entry_classes}
use Rattle.rd_dirinfo.proofs.laws.entry_is_decided.Goals as goal

pub returns : goal.returns
returns c = class_one_of entry_classes c.args.class _ c.type_inv.bytes
