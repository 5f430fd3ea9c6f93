use Rattle.std.proofs.Common.{refl}
use Rattle.rd_host_front.specs.State.{HostFrontState}
use Rattle.rd_host_front.proofs.host_front.HostFront.end_channel.Goals as goal

pub returns : goal.returns
returns g c =
    let next : HostFrontState = record { core = c.self.inside.core; table = c.drop_channel.new.self; channel = c.self.inside.channel; on = c.self.inside.on; unsent = c.self.inside.unsent } in
    rw (← c.self.view_is) (next, (c.drop_channel.ensures, refl), c.clear.ensures, c.done.ensures)
