use Rattle.std.proofs.Common.{◌∙◌, ap, sym, fold}
use Rattle.std.proofs.Math.ListN.{take}
use Rattle.std.proofs.lemmas.List.Sums.{fold_more}
use Rattle.rd_deeds.specs.Host.{HostSide, admits}
use Rattle.rd_world.proofs.host.Host.admit_all.Goals as goal

pub loop-device-preserved : goal.loop-device-preserved
loop-device-preserved c =
    let start = c.args.self.now in
    let devices = c.args.devices.now in
    let i = c.loop-device.device-index in
    let device = c.device-item.result in
    record {
      admitted = c.in_ok-admit.ensures.admitted ∙ ap (λ (h : HostSide). admits h device) c.loop-device.invariant.admitted
          ∙ ap (λ d. admits (fold admits start (take i devices)) d) c.device-item.is
          ∙ sym (fold_more admits start devices i device c.loop-device-test.true);
      ready = c.in_ok-admit.ensures.ready;
    }
