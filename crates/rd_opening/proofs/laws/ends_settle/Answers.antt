use Rattle.std.proofs.Common.{ap}
use Rattle.rd_client.specs.Order.{is_client_ready}
use Rattle.rd_host.specs.Order.{is_host_ready}
use Rattle.rd_orders.proofs.RunsResting.{quiet}
use Rattle.rd_opening.proofs.QuietLemmas.{both_ready, client_settled, heard_all, host_settled}
use Rattle.rd_opening.proofs.laws.ends_settle.Goals as goal

pub returns-clause-ready : goal.returns-clause-ready
returns-clause-ready c lines starves w premises writable reached opened silent =
    let b = both_ready lines starves premises writable w reached opened silent in (ap is_client_ready b.0, ap is_host_ready b.1)

pub returns-clause-heard : goal.returns-clause-heard
returns-clause-heard c lines starves w premises writable reached opened silent = heard_all lines starves premises writable w reached opened silent

pub returns-clause-client : goal.returns-clause-client
returns-clause-client c lines starves w premises writable reached opened silent = client_settled lines starves premises writable w reached opened silent

pub returns-clause-host : goal.returns-clause-host
returns-clause-host c lines starves w premises writable reached opened silent = host_settled lines starves premises writable w reached opened silent

pub returns-clause-rests : goal.returns-clause-rests
returns-clause-rests c lines starves w premises writable reached opened rests =
    (client_settled lines starves premises writable w reached opened (quiet w rests), host_settled lines starves premises writable w reached opened (quiet w rests))
