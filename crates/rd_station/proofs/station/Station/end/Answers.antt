use Rattle.std.proofs.Common.{refl}
use Rattle.rd_station.specs.Queues.{job_count}
use Rattle.rd_station.proofs.Parts.{end_parts}
use Rattle.rd_station.proofs.station.Station.end.Goals as goal

pub invariant_of-self : goal.invariant_of-self
invariant_of-self g c =
    let sound = end_parts _ _ _ _ _ _ _ _ _ _ c.self.invariant.0 _ _ _ _ c.cut_off.ensures.cut c.cut_off.ensures.keys (c.cut_off.ensures.dropped c.self.inside.ended) c.cut_off.new.journal.spare (job_count c.self.inside.held) c.cut_off.new.memory refl c.cut_off.ensures.memory in
    (sound, c.self.invariant.1)

pub returns-clause-reached : goal.returns-clause-reached
returns-clause-reached g c = (invariant_of-self g c).0.reached
