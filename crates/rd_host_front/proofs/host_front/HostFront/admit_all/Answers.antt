use Rattle.std.proofs.Common.{subst, Bool, arith}
use Rattle.rd_host_front.specs.HostFront.{Admits}
use Rattle.rd_host_front.proofs.ListedLemmas.{admits_end, admits_next, admits_stops}
use Rattle.rd_host_front.proofs.host_front.HostFront.admit_all.Goals as goal

pub admit-requires-clause-ready : goal.admit-requires-clause-ready
admit-requires-clause-ready g c = c.loop-device.invariant.ready

pub admit-requires-clause-few : goal.admit-requires-clause-few
admit-requires-clause-few g c = omega (arith, c.loop-device.invariant.few, c.requires.few, c.requires.ready.1, c.loop-device-test.true)

pub returns-then-not-admit : goal.returns-then-not-admit
returns-then-not-admit g c =
    let did = subst (λ (b : Bool). Admits c.loop-device.self c.device-item.result b c.admit.new.self) c.if-not-admit.true c.admit.ensures.admitted in
    admits_stops c.args.devices.now c.loop-device.device-index c.device-item.result c.args.self.now c.loop-device.self c.admit.new.self c.loop-device-test.true c.device-item.is did c.loop-device.invariant.on

pub loop-device-preserved : goal.loop-device-preserved
loop-device-preserved g c =
    let did = subst (λ (b : Bool). Admits c.loop-device.self c.device-item.result b c.admit.new.self) c.if-not-admit.false c.admit.ensures.admitted in
    record {
      on = admits_next c.args.devices.now c.loop-device.device-index c.device-item.result c.args.self.now c.loop-device.self c.admit.new.self c.loop-device-test.true c.device-item.is did c.loop-device.invariant.on;
      ready = c.admit.ensures.ready;
      few = omega (arith, c.admit.ensures.more, c.loop-device.invariant.few);
    }

pub returns : goal.returns
returns g c = admits_end c.args.devices.now c.loop-device.device-index c.args.self.now c.loop-device.self c.loop-device-test.false c.loop-device.invariant.on
