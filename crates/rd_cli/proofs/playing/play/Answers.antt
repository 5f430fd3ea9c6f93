use Rattle.std.proofs.Common.{refl, inr}
use Rattle.rd_cli.specs.declared.stop.Stop.{Stop}
use Rattle.rd_cli.specs.Outside.{stream}
use Rattle.rd_cli.specs.Playing.{StopsForRecording}
use Rattle.rd_cli.proofs.PlayingLemmas.{err_is, played}
use Rattle.rd_cli.proofs.playing.play.Goals as goal

pub returns-in_err-world-clause-err : goal.returns-in_err-world-clause-err
returns-in_err-world-clause-err g c =
    err_is _ _ (λ (s : Stop). StopsForRecording c.args.script.now (stream g.R.Sink.held g.R.Sink.faults c.args.recording.now) (stream g.R.Sink.held g.R.Sink.faults c.session_of.new.recording) c.args.books.now s)
    c.from_residual.ensures.1 (rw c.requires.books c.in_err-world.ensures.err)

pub returns-in_err-finish-clause-err : goal.returns-in_err-finish-clause-err
returns-in_err-finish-clause-err g c =
    let session = c.in_ok-world.ensures.played in
    err_is _ _ (λ (s : Stop). StopsForRecording c.args.script.now (stream g.R.Sink.held g.R.Sink.faults c.args.recording.now) (stream g.R.Sink.held g.R.Sink.faults c.session_of.new.recording) c.finish.new.books s)
    c.from_residual-in_err-finish.ensures.1 (inr (inr (record { world = c.in_ok-world.world; run = session.run; recorded = session.recorded; stored = c.in_err-finish.ensures.some })))

pub returns-clause-played : goal.returns-clause-played
returns-clause-played g c =
    let session = c.in_ok-world.ensures.played in
    played c.args.script.now _ _ _ _ c.in_ok-world.world.deeds c.requires.script
    (record { world = c.in_ok-world.world; run = session.run; did = refl; stored = c.in_ok-finish.ensures.stored; tells = c.in_ok-finish.ensures.told }) session.recorded
