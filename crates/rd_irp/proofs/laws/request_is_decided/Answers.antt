use Rattle.rd_irp.proofs.RequestLemmas.{request_one_of}
use Rattle.rd_irp.proofs.laws.request_is_decided.Goals as goal

pub returns : goal.returns
returns c = request_one_of _ c.type_inv.bytes
