use Rattle.rd_world.proofs.FinishingLemmas.{AreStored}
use Rattle.rd_world.proofs.finishing.store_all.Given as goal

-- the stations so far are done with
abbrev pub invariant-loop-station : goal.invariant-loop-station
invariant-loop-station l = AreStored l.fn.stations l.ids.items l.place l.station-iterator.rest.items l.books l.documents.entries
