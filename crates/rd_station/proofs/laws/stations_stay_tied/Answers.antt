use Rattle.rd_station.proofs.Tying.{all_tied}
use Rattle.rd_station.proofs.laws.stations_stay_tied.Goals as goal

pub returns-clause-calls : goal.returns-clause-calls
returns-clause-calls g c = λ step cut requests device calls s by_step nothing own steps. all_tied step cut requests g.D.Device.runs g.D.Device.parked g.D.Device.cuts by_step device calls s nothing own steps

pub returns-clause-reached : goal.returns-clause-reached
returns-clause-reached g c = λ step cut requests s is by_step own. all_tied step cut requests g.D.Device.runs g.D.Device.parked g.D.Device.cuts by_step is.device is.calls s is.nothing own is.steps
