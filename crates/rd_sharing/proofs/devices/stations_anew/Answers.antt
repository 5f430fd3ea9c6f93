use Rattle.std.proofs.Common.{◌∙◌, ap, subst}
use Rattle.std.specs.List.{AllByRecursion}
use Rattle.rd_station.specs.Station.{new_station}
use Rattle.rd_served_devices.specs.ServedDevices as served
use Rattle.rd_served_devices.specs.ServedDevices.{ServedDeviceState}
use Rattle.rd_declared.specs.declared.device.SessionDevice.{SessionDevice}
use Rattle.rd_sharing.specs.Devices.{IsQuietStation}
use Rattle.rd_sharing.proofs.DevicesLemmas.{anew_more}
use Rattle.rd_sharing.proofs.devices.stations_anew.Goals as goal

pub new-requires : goal.new-requires
new-requires g c =
    let rest = subst (AllByRecursion IsQuietStation) c.in-Some.ensures.steps.0 c.loop-given.invariant.quiet in
    rw (c.made.ensures, c.finish-device.ensures.device) rest.0

pub loop-given-preserved : goal.loop-given-preserved
loop-given-preserved g c =
    let rest = subst (AllByRecursion IsQuietStation) c.in-Some.ensures.steps.0 c.loop-given.invariant.quiet in
    record {
      so_far = rw c.in_ok-push.ensures.items (anew_more c.loop-given.stations.items c.loop-given.given-iterator.rest.items c.next.new.self.rest.items c.args.list.items c.in-Some.given c.in-Ok.station
          c.loop-given.invariant.so_far c.in-Some.ensures.steps.0 (c.in-Ok.ensures.made ∙ ap (λ (d : ServedDeviceState). new_station d) (c.made.ensures ∙ ap (λ (d : SessionDevice). served.made d) c.finish-device.ensures.device)));
      quiet = rest.1;
    }
