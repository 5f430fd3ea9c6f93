use Rattle.std.proofs.Common.{refl}
use Rattle.rd_host_front.specs.State.{HostFrontState}
use Rattle.rd_host_front.proofs.host_front.HostFront.begin_channel.Goals as goal

pub returns-in-Ok : goal.returns-in-Ok
returns-in-Ok g c =
    let next : HostFrontState = record { core = c.begin.new.self; table = c.self.inside.table; channel = c.self.inside.channel; on = c.self.inside.on; unsent = 1 } in
    rw (← c.self.view_is) (c.begin.result, next, c.begin.ensures.step, rw c.in-Ok.is refl, rw c.in-Ok.is c.begin_table.ensures)

pub returns-in-Err : goal.returns-in-Err
returns-in-Err g c =
    let next : HostFrontState = record { core = c.begin.new.self; table = c.self.inside.table; channel = c.self.inside.channel; on = c.self.inside.on; unsent = c.self.inside.unsent } in
    rw (← c.self.view_is) (c.begin.result, next, c.begin.ensures.step, rw c.in-Err.is refl, rw c.in-Err.is (refl, refl))
