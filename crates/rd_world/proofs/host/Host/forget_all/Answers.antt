use Rattle.std.proofs.Common.{◌≡◌, ◌∙◌, ap, sym, Bool}
use Rattle.std.proofs.Math.ListN.{get_or}
use Rattle.std.proofs.lemmas.List.Sums.{fold_more}
use Rattle.rd_pending.specs.Table.{TableState}
use Rattle.rd_deeds.specs.Host.{HostSide, forgets}
use Rattle.rd_world.proofs.host.Host.forget_all.Goals as goal

pub loop-device-preserved : goal.loop-device-preserved
loop-device-preserved c =
    let start = c.args.self.now in
    let inside = c.loop-device.self-inside in
    let devices = c.args.devices.now in
    let i = c.loop-device.device-index in
    let removed : forgets (record { core = inside.core; table = inside.table }) (get_or devices i 0) ≡ record { core = inside.core; table = c.remove.new.self } =
    ap (λ (x : TableState × Bool). record { core = inside.core; table = x.0 }) c.remove.ensures.step in
    sym removed ∙ ap (λ (h : HostSide). forgets h (get_or devices i 0)) c.loop-device.invariant
    ∙ sym (fold_more forgets start devices i 0 c.loop-device-test.true)
