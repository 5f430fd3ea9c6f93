use Rattle.rd_world.proofs.BitsLemmas.{marked_places}
use Rattle.rd_world.proofs.stations.Stations.waiting.Goals as goal

pub returns-clause-places : goal.returns-clause-places
returns-clause-places c = rw (← c.self.view_is) (marked_places _ _ _ c.self.invariant.waiting_marks)

pub returns-clause-marks : goal.returns-clause-marks
returns-clause-marks c = rw (← c.self.view_is) c.self.invariant.waiting_marks
