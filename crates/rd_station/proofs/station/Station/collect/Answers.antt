use Rattle.rd_station.proofs.Parts.{collect_parts}
use Rattle.rd_station.proofs.station.Station.collect.Goals as goal

pub invariant_of-self-2 : goal.invariant_of-self-2
invariant_of-self-2 g c =
    let some = c.in_ok-completion.ensures.some in
    (collect_parts _ _ _ _ _ _ _ _ _ _ c.self.invariant.0 c.in_ok-completion.completion c.collect.new.self c.add.new.self.items c.add.new.self.spare some.0 some.1 c.in_ok-completion.ensures.keys c.add.ensures.items c.add.ensures.spare, c.self.invariant.1)

pub returns-clause-reached : goal.returns-clause-reached
returns-clause-reached g c = (invariant_of-self-2 g c).0.reached
