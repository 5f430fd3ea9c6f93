use Rattle.rd_workers.proofs.StoringLemmas.{AreOpened}
use Rattle.rd_workers.proofs.storing.open_desks.Given as goal

abbrev pub invariant-loop-station : goal.invariant-loop-station
invariant-loop-station g l = AreOpened l.ids l.fn.list.items l.place l.station-iterator.rest.items l.desks l.passes
