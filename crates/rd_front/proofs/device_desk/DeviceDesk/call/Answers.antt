use Rattle.std.proofs.Common.{refl}
use Rattle.rd_front.proofs.DeskLemmas.{replied_by}
use Rattle.rd_front.proofs.device_desk.DeviceDesk.call.Goals as goal

pub returns : goal.returns
returns g c =
    let did = c.call.ensures in
    rw (← c.self.view_is) (record {
      id = refl;
      turn = refl;
      same = did.same;
      called = did.called;
      legal = did.legal;
      replied = replied_by c.self.inside.turn.now c.self.inside.pass c.call.new.pass c.args.call c.call.result c.self.invariant.reached did.called did.legal;
    })
