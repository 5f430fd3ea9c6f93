use Rattle.std.proofs.Common.{◌≡◌, sym, subst, rules, lit≤, List, []}
use Rattle.std.specs.List.{IsDistinct}
use Rattle.rd_client.specs.Core.{AreDevices}
use Rattle.rd_devices.specs.declared.list.Announce.{Announce}
use Rattle.rd_front_tests.proofs.tests.a_channel_begins_beside_the_writer.Goals as goal

-- no devices are a client's
none : AreDevices []
unfolding IsDistinct
none = record { few = lit≤ tt; apart = tt; fit = (lit≤ tt, lit≤ tt) }

pub new-requires-7-clause-devices : goal.new-requires-7-clause-devices
new-requires-7-clause-devices g c =
    let empty : c.of.result ≡ [] = search rules in
    subst (λ (ds : List Announce). AreDevices ds) (sym empty) none
