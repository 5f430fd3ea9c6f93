use Rattle.rd_world.proofs.BitsLemmas.{marked_places}
use Rattle.rd_world.proofs.hands.Hands.free.Goals as goal

pub returns-clause-places : goal.returns-clause-places
returns-clause-places c = rw (← c.self.view_is) (marked_places _ _ _ c.self.invariant.free_marks)
