use Rattle.rd_station.proofs.Parts.{take_parts}
use Rattle.rd_station.proofs.station.Station.take.Goals as goal

pub invariant_of-self-2 : goal.invariant_of-self-2
invariant_of-self-2 g c =
    let some = c.in-Some.ensures.some in
    (take_parts _ _ _ _ _ _ _ _ _ _ c.self.invariant.0 c.in-Some.job c.take.new.self c.if-self.false some.0 some.1, c.self.invariant.1)

pub returns-clause-reached : goal.returns-clause-reached
returns-clause-reached g c = (invariant_of-self-2 g c).0.reached
