use Rattle.std.proofs.Common.{refl}
use Rattle.rd_front.proofs.front.Front.learn.Goals as goal

pub returns-in-Ok : goal.returns-in-Ok
returns-in-Ok g c = rw (← c.self.view_is) (c.hear.result, c.hear.ensures, refl, rw c.in-Ok.is c.done.ensures)

pub returns-in-Err : goal.returns-in-Err
returns-in-Err g c = rw (← c.self.view_is) (c.hear.result, c.hear.ensures, refl, rw c.in-Err.is refl)
