use Rattle.rd_station.proofs.Parts.{may_parts}
use Rattle.rd_station.proofs.station.Station.may_put.Goals as goal

pub returns : goal.returns
returns g c = may_parts _ _ _ _ _ _ _ _ _ _ c.self.invariant.0 c.len.result c.args.key c.may_come.result c.len.ensures.count c.may_come.ensures c.args.self.now c.self.view_is
