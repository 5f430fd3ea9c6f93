use Rattle.rd_station.proofs.Calls.{all_kept, reached_kept}
use Rattle.rd_station.proofs.laws.stations_are_kept.Goals as goal

pub returns : goal.returns
returns g c = record {
  calls = all_kept g.D.Device.runs g.D.Device.parked g.D.Device.cuts;
  reached = reached_kept g.D.Device.runs g.D.Device.parked g.D.Device.cuts;
}
