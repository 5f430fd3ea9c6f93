use Rattle.rd_base.proofs.NumberLemmas.{are_bytes}
use Rattle.rd_host_front.proofs.hearing.are_bytes.Goals as goal

pub returns : goal.returns
returns c = are_bytes c.args.bytes.now c.type_inv.bytes
