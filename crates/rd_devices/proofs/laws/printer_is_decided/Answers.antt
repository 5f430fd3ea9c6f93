use Rattle.rd_base.proofs.LayoutLemmas.{layout_one_of}
use Rattle.rd_devices.specs.PrinterInfo.{printer_info}
use Rattle.rd_devices.proofs.laws.printer_is_decided.Goals as goal

pub returns : goal.returns
returns c = layout_one_of printer_info _ c.type_inv.bytes
