use Rattle.std.proofs.Common.{◌≡◌, ℕ, None, ap, sym, ◌∙◌}
use Rattle.std.specs.Option.{option_map}
use Rattle.std.proofs.lemmas.Result.{on_ok_weaker}
use Rattle.rd_world.specs.Recording.{recording_of_deeds}
use Rattle.rd_world.specs.Run.{asked_by}
use Rattle.rd_world.specs.World.{Asked, WorldState}
use Rattle.rd_world.proofs.GoingLemmas.{plays_line_goes}
use Rattle.rd_world.proofs.PlayingLemmas.{queues_line}
use Rattle.rd_world.proofs.RoundsLemmas.{stays_same}
use Rattle.rd_world.proofs.WireLemmas.{any_cut, cut_at_once, cut_control, cut_weaker, records_stays}
use Rattle.rd_world.proofs.world.World.play_line.Goals as goal

pub returns-in-Some-clause-played : goal.returns-in-Some-clause-played
returns-in-Some-clause-played g c =
    on_ok_weaker c.queue.result
    (λ queued. queues_line c.args.self.now c.queue.new.self 0 c.args.line.now.line c.args.line.now.number c.in-Some.a (sym c.in-Some.is ∙ c.application_of.ensures) queued)
    c.queue.ensures.queued

pub returns-in-Some-clause-recorded : goal.returns-in-Some-clause-recorded
returns-in-Some-clause-recorded g c =
    on_ok_weaker c.queue.result
    (λ queued. records_stays (g.R.Sink.held c.args.wire.now) c.args.self.now c.queue.new.self c.args.recorder.now c.args.recorder.now
    (stays_same c.args.self.now c.queue.new.self c.args.recorder.now (ap (λ (w : WorldState). recording_of_deeds w.deeds) queued)))
    c.queue.ensures.queued

pub returns-in-None-clause-cut : goal.returns-in-None-clause-cut
returns-in-None-clause-cut g c =
    let asks : None ≡ option_map (λ (e : ℕ × Asked). e.0) (asked_by c.args.line.now.line) = sym c.in-None.is ∙ c.application_of.ensures in
    cut_weaker _ _ c.control.result (λ x. (x.0, cut_control _ _ c.args.self.now c.args.recorder.now x.0 c.args.line.now asks x.1)) c.control.ensures.cut

pub returns-in-Some-clause-cut : goal.returns-in-Some-clause-cut
returns-in-Some-clause-cut g c =
    any_cut _ c.queue.result (
      c.args.self.now,
      cut_at_once _ c.args.self.now c.args.recorder.now _ (λ starves most. plays_line_goes starves most c.args.self.now c.args.line.now) c.stand.ensures,
    )
