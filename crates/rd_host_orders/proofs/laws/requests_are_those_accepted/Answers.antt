use Rattle.std.proofs.Common.{sym}
use Rattle.rd_host_orders.proofs.RequestLemmas.{all_sent, asked, still_waiting, submitted_are}
use Rattle.rd_host_orders.proofs.laws.requests_are_those_accepted.Goals as goal

pub returns-clause-first : goal.returns-clause-first
returns-clause-first c deeds may channel = let a = asked deeds channel may in (a.unsent, sym a.whole)

pub returns-clause-others : goal.returns-clause-others
returns-clause-others c deeds may channel is = still_waiting deeds channel may is

pub returns-clause-all : goal.returns-clause-all
returns-clause-all c later before channel may none = all_sent later before channel may none

pub returns-clause-submitted : goal.returns-clause-submitted
returns-clause-submitted c deeds may channel = submitted_are deeds channel may
