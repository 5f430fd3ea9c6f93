use Rattle.rd_controls.proofs.RunsParts.{reached_behind}
use Rattle.rd_orders.proofs.ClientOrdering.{behind_client_ordered}
use Rattle.rd_orders.proofs.HostOrdering.{behind_host_ordered}
use Rattle.rd_orders.proofs.laws.sessions_are_in_order.Goals as goal

pub returns-clause-host : goal.returns-clause-host
returns-clause-host c lines starves w premises writable reached channel = (behind_host_ordered lines starves premises writable w (reached_behind lines starves w reached)).orders channel

pub returns-clause-client : goal.returns-clause-client
returns-clause-client c lines starves w premises writable reached channel = (behind_client_ordered lines starves premises writable w (reached_behind lines starves w reached)).orders channel
