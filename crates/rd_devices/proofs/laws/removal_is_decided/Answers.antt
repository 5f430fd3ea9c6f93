use Rattle.rd_base.proofs.LayoutLemmas.{layout_one_of}
use Rattle.rd_devices.specs.Removal.{removal}
use Rattle.rd_devices.proofs.laws.removal_is_decided.Goals as goal

pub returns : goal.returns
returns c = layout_one_of removal _ c.type_inv.bytes
