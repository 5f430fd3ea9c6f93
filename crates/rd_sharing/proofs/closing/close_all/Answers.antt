use Rattle.std.proofs.Common.{◌∙◌}
use Rattle.rd_sharing.proofs.ClosingLemmas.{closed_more}
use Rattle.rd_sharing.proofs.closing.close_all.Goals as goal

pub loop-station-preserved : goal.loop-station-preserved
loop-station-preserved g c = record {
  opened = c.close_device.ensures.opened ∙ c.loop-station.invariant.opened;
  failures = c.close_device.ensures.failures ∙ c.loop-station.invariant.failures;
  trouble = closed_more _ _ _ _ _ _ _ c.loop-station.invariant.trouble c.in-Some.ensures.steps.0 c.finish-device.ensures.device c.close_device.ensures.trouble;
}
