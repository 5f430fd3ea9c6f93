use Rattle.rd_base.proofs.LayoutLemmas.{layout_one_of}
use Rattle.rd_devices.specs.DeviceReply.{device_reply}
use Rattle.rd_devices.proofs.laws.reply_is_decided.Goals as goal

pub returns : goal.returns
returns c = layout_one_of device_reply _ c.type_inv.bytes
