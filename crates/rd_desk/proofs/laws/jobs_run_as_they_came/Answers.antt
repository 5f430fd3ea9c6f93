use Rattle.rd_desk.proofs.RunLemmas.{history_own, history_then, history_tied, puts_are_own}
use Rattle.rd_desk.proofs.laws.jobs_run_as_they_came.Goals as goal

pub returns : goal.returns
returns g c = record {
  own = history_own g.D.Device.runs g.D.Device.parked g.D.Device.cuts;
  put = puts_are_own g.D.Device.runs g.D.Device.parked g.D.Device.cuts;
  tied = history_tied g.D.Device.runs g.D.Device.parked g.D.Device.cuts;
  moments = λ told. history_then told g.D.Device.runs g.D.Device.parked g.D.Device.cuts;
}
