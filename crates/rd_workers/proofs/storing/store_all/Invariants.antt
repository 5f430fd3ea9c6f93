use Rattle.std.proofs.Common.{◌≡◌}
use Rattle.rd_sharing.specs.Closing.{station_devices, trouble_after}
use Rattle.rd_workers.proofs.StoringLemmas.{AreStored}
use Rattle.rd_workers.proofs.storing.store_all.Given as goal

-- the journals of the stations so far are in the books, and the folders of their devices are closed
abbrev pub invariant-loop-station : goal.invariant-loop-station
invariant-loop-station g l = record {
  stored : AreStored l.ids l.fn.stations.items l.place l.station-iterator.rest.items l.books;
  opened : g.D.Folders.opened l.folders ≡ g.D.Folders.opened l.initial.folders;
  failures : g.D.Folders.failures l.folders ≡ g.D.Folders.failures l.initial.folders;
  trouble : trouble_after (g.D.Folders.trouble l.folders) (station_devices l.station-iterator.rest.items) ≡ trouble_after (g.D.Folders.trouble l.initial.folders) (station_devices l.fn.stations.items);
}
