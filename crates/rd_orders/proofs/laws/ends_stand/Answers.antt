use Rattle.rd_controls.proofs.RunsParts.{reached_behind}
use Rattle.rd_orders.proofs.ClientOrdering.{behind_client_ordered}
use Rattle.rd_orders.proofs.HostOrdering.{behind_host_ordered}
use Rattle.rd_orders.proofs.Meeting.{behind_meets}
use Rattle.rd_orders.proofs.laws.ends_stand.Goals as goal

pub returns-clause-fine : goal.returns-clause-fine
returns-clause-fine c lines starves w premises writable reached opened =
    let m = (behind_meets lines starves premises writable w (reached_behind lines starves w reached)).now opened in record { client = m.client_fine; host = m.host_fine }

pub returns-clause-client : goal.returns-clause-client
returns-clause-client c lines starves w premises writable reached opened =
    let n = (behind_client_ordered lines starves premises writable w (reached_behind lines starves w reached)).now opened in record { stand = n.stand; is = n.is; at = n.at }

pub returns-clause-host : goal.returns-clause-host
returns-clause-host c lines starves w premises writable reached opened =
    let n = (behind_host_ordered lines starves premises writable w (reached_behind lines starves w reached)).now opened in
    record { stand = n.stand; replying = n.replying; is = n.is; at = n.at; none_due = n.lives.none_due }
