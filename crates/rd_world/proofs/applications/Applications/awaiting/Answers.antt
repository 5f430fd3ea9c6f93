use Rattle.rd_world.proofs.BitsLemmas.{marked_places}
use Rattle.rd_world.proofs.applications.Applications.awaiting.Goals as goal

pub returns-clause-places : goal.returns-clause-places
returns-clause-places c = rw (← c.self.view_is) (marked_places _ _ _ c.self.invariant.awaiting_marks)

pub returns-clause-kept : goal.returns-clause-kept
returns-clause-kept c = rw (← c.self.view_is) c.self.invariant.are
