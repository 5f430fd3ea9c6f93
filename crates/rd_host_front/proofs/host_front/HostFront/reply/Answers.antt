use Rattle.std.proofs.Common.{refl, add-zero}
use Rattle.rd_host_front.proofs.host_front.HostFront.reply.Goals as goal

pub returns-in-Ok-clause-replied : goal.returns-in-Ok-clause-replied
returns-in-Ok-clause-replied g c = rw (← c.self.view_is) (c.reply.result, (c.reply.ensures.step, rw c.in-Ok.is refl), rw c.in-Ok.is refl)

pub returns-in-Err-clause-replied : goal.returns-in-Err-clause-replied
returns-in-Err-clause-replied g c = rw (← c.self.view_is) (c.reply.result, (c.reply.ensures.step, rw (c.in-Err.is, add-zero c.self.inside.unsent) refl), rw c.in-Err.is refl)
