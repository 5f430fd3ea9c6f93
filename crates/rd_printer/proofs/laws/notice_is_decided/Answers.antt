use Rattle.rd_base.proofs.LayoutLemmas.{layout_one_of}
use Rattle.rd_printer.specs.Notice.{notice}
use Rattle.rd_printer.proofs.laws.notice_is_decided.Goals as goal

pub returns : goal.returns
returns c = layout_one_of notice _ c.type_inv.bytes
