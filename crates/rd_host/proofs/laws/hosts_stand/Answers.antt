use Rattle.rd_host.proofs.OrderLemmas.{stands_at_first, event_stands}
use Rattle.rd_host.proofs.laws.hosts_stand.Goals as goal

pub returns-clause-begins : goal.returns-clause-begins
returns-clause-begins c = stands_at_first

pub returns-clause-step : goal.returns-clause-step
returns-clause-step c = event_stands
