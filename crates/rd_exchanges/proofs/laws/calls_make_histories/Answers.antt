use Rattle.rd_exchanges.proofs.HistoryLemmas.{accepted_in_order, held_before, holds_on, leads}
use Rattle.rd_exchanges.proofs.laws.calls_make_histories.Goals as goal

pub returns-clause-leads : goal.returns-clause-leads
returns-clause-leads c h cs = leads cs h

pub returns-clause-holds : goal.returns-clause-holds
returns-clause-holds c h cs = (held_before cs h, λ both. holds_on cs h both.0 both.1)

pub returns-clause-accepted : goal.returns-clause-accepted
returns-clause-accepted c h cs = accepted_in_order cs h
