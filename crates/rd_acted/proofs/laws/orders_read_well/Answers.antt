use Rattle.rd_acted.proofs.OrderLemmas.{orders_read}
use Rattle.rd_acted.proofs.laws.orders_read_well.Goals as goal

pub returns : goal.returns
returns c devices deeds ordered = orders_read devices deeds ordered
