use Rattle.std.proofs.Common.{subst}
use Rattle.rd_base.specs.Lawful.{IsLawful}
use Rattle.rd_station.specs.Station.{StationState}
use Rattle.rd_station.proofs.Parts.{kept_parts}
use Rattle.rd_station.proofs.station.Station.journal.Goals as goal

pub returns-clause-lawful : goal.returns-clause-lawful
returns-clause-lawful g c = subst (λ (s : StationState _). IsLawful s.journal) c.self.view_is (kept_parts _ _ _ _ _ _ _ _ _ _ c.self.invariant.0).lawful
