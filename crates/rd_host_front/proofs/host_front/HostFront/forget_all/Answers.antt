use Rattle.rd_host_front.proofs.ListedLemmas.{forgets_end, forgets_next}
use Rattle.rd_host_front.proofs.host_front.HostFront.forget_all.Goals as goal

pub loop-device-preserved : goal.loop-device-preserved
loop-device-preserved g c =
    forgets_next c.args.devices.now c.loop-device.device-index c.args.self.now c.loop-device.self c.forget.new.self c.loop-device-test.true c.forget.ensures c.loop-device.invariant

pub returns : goal.returns
returns g c = forgets_end c.args.devices.now c.loop-device.device-index c.args.self.now c.loop-device.self c.loop-device-test.false c.loop-device.invariant
