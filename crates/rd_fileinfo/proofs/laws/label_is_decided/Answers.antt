use Rattle.rd_base.proofs.LayoutLemmas.{layout_one_of}
use Rattle.rd_fileinfo.specs.Label.{label_set}
use Rattle.rd_fileinfo.proofs.laws.label_is_decided.Goals as goal

pub returns : goal.returns
returns c = layout_one_of label_set _ c.type_inv.bytes
