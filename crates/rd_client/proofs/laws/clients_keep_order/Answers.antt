use Rattle.rd_client.proofs.OrderLemmas.{stands_at_first, event_in_order, events_in_order, waiting_in_order}
use Rattle.rd_client.proofs.laws.clients_keep_order.Goals as goal

pub returns-clause-ordered : goal.returns-clause-ordered
returns-clause-ordered c = events_in_order

pub returns-clause-waits : goal.returns-clause-waits
returns-clause-waits c = waiting_in_order

pub returns-clause-first : goal.returns-clause-first
returns-clause-first c = stands_at_first

pub returns-clause-event : goal.returns-clause-event
returns-clause-event c = event_in_order
