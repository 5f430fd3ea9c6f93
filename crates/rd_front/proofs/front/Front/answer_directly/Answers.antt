use Rattle.std.proofs.Common.{refl, add-zero}
use Rattle.rd_front.proofs.front.Front.answer_directly.Goals as goal

pub returns-in-Ok : goal.returns-in-Ok
returns-in-Ok g c = rw (← c.self.view_is) (c.direct.result, (c.direct.ensures.step, rw c.in-Ok.is refl), rw c.in-Ok.is c.done.ensures)

pub returns-in-Err : goal.returns-in-Err
returns-in-Err g c = rw (← c.self.view_is) (c.direct.result, (c.direct.ensures.step, rw (c.in-Err.is, add-zero c.self.inside.unsent) refl), rw c.in-Err.is refl)
