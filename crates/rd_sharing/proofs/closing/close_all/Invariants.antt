use Rattle.std.proofs.Common.{◌≡◌}
use Rattle.rd_sharing.specs.Closing.{station_devices, trouble_after}
use Rattle.rd_sharing.proofs.closing.close_all.Given as goal

-- the folders so far are closed
abbrev pub invariant-loop-station : goal.invariant-loop-station
invariant-loop-station g l = record {
  opened : g.D.Folders.opened l.folders ≡ g.D.Folders.opened l.initial.folders;
  failures : g.D.Folders.failures l.folders ≡ g.D.Folders.failures l.initial.folders;
  trouble : trouble_after (g.D.Folders.trouble l.folders) (station_devices l.station-iterator.rest.items) ≡ trouble_after (g.D.Folders.trouble l.initial.folders) (station_devices l.fn.stations.items);
}
