use Rattle.std.proofs.Common.{◌∙◌, sym, ap, map}
use Rattle.rd_station.specs.Station.{StationState}
use Rattle.rd_station.specs.Tied.{as_parked}
use Rattle.rd_station.proofs.Parts.{kept_parts}
use Rattle.rd_station.proofs.station.Station.device.Goals as goal

pub returns-clause-parked : goal.returns-clause-parked
returns-clause-parked g c = ap (λ (s : StationState _). map as_parked s.parked) (sym c.self.view_is) ∙ (kept_parts _ _ _ _ _ _ _ _ _ _ c.self.invariant.0).parked
