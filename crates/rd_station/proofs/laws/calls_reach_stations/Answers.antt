use Rattle.rd_station.proofs.Calls.{reached_new, reached_step}
use Rattle.rd_station.proofs.laws.calls_reach_stations.Goals as goal

pub returns : goal.returns
returns g c = record {
  first = reached_new g.D.Device.runs g.D.Device.parked g.D.Device.cuts;
  next = reached_step g.D.Device.runs g.D.Device.parked g.D.Device.cuts;
}
