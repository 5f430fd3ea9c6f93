use Rattle.rd_base.proofs.LayoutLemmas.{layout_one_of}
use Rattle.rd_devices.specs.DeviceList.{device_list}
use Rattle.rd_devices.proofs.laws.list_is_decided.Goals as goal

pub returns : goal.returns
returns c = layout_one_of device_list _ c.type_inv.bytes
