use Rattle.rd_base.proofs.MessageLemmas.{read_all}
use Rattle.rd_devices.specs.DeviceList.{device_list}
use Rattle.rd_devices.proofs.list.read_list.Goals as goal

pub returns-clause-spelled : goal.returns-clause-spelled
returns-clause-spelled c = read_all device_list _ _ _ _ _ _ c.type_inv.bytes c.new-cursor.ensures c.in_ok-list.ensures c.rest.ensures c.tail_len.ensures
