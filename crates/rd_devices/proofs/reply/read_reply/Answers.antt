use Rattle.rd_base.proofs.MessageLemmas.{read_all}
use Rattle.rd_devices.specs.DeviceReply.{device_reply}
use Rattle.rd_devices.proofs.reply.read_reply.Goals as goal

pub returns-clause-spelled : goal.returns-clause-spelled
returns-clause-spelled c = read_all device_reply _ _ _ _ _ _ c.type_inv.bytes c.new-cursor.ensures c.in_ok-reply.ensures c.rest.ensures c.tail_len.ensures
