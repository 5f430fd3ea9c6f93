use Rattle.std.proofs.Common.{refl, []}
use Rattle.rd_cli.specs.declared.stop.Stop.{Stop}
use Rattle.rd_cli.specs.Outside.{stream}
use Rattle.rd_cli.specs.Playing.{StopsForRecording}
use Rattle.rd_cli.proofs.PlayingLemmas.{err_is, stopped_early}
use Rattle.rd_world.specs.Wire.{IsCutRun}
use Rattle.rd_world.specs.World.{WorldState}
use Rattle.rd_cli.proofs.playing.session_of.Goals as goal

pub returns-in_err-run-clause-err : goal.returns-in_err-run-clause-err
returns-in_err-run-clause-err g c =
    let cut : (x : WorldState) × IsCutRun (g.R.Sink.held c.args.recording.now) (g.R.Sink.held c.run.new.wire) c.args.script.now.lines x = rw c.as_slice-lines.ensures at c.in_err-run.ensures.cut in
    err_is _ _ (λ (s : Stop). StopsForRecording c.args.script.now (stream g.R.Sink.held g.R.Sink.faults c.args.recording.now) (stream g.R.Sink.held g.R.Sink.faults c.run.new.wire) [] s) c.from_residual-in_err-run.ensures.1
    (stopped_early c.args.script.now _ _ [] _ c.requires cut c.in_err-run.ensures.counted refl)

pub returns-clause-played : goal.returns-clause-played
returns-clause-played g c = record {
  run = rw c.as_slice-lines.ensures at c.in_ok-run.ensures.ran;
  recorded = record { written = c.in_ok-run.ensures.recorded; faultless = c.in_ok-run.ensures.counted };
}
