use Rattle.rd_base.proofs.MessageLemmas.{read_all}
use Rattle.rd_devices.specs.Removal.{removal}
use Rattle.rd_devices.proofs.removal.read_removal.Goals as goal

pub returns-clause-spelled : goal.returns-clause-spelled
returns-clause-spelled c = read_all removal _ _ _ _ _ _ c.type_inv.bytes c.new-cursor.ensures c.in_ok-ids.ensures c.rest.ensures c.tail_len.ensures
