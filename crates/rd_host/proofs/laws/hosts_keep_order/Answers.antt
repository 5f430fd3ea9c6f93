use Rattle.rd_host.proofs.OrderLemmas.{events_in_order, waiting_in_order}
use Rattle.rd_host.proofs.laws.hosts_keep_order.Goals as goal

pub returns-clause-ordered : goal.returns-clause-ordered
returns-clause-ordered c = events_in_order

pub returns-clause-waits : goal.returns-clause-waits
returns-clause-waits c = waiting_in_order
