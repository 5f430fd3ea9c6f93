use Rattle.std.proofs.Common.{rules, ◌≡◌, ◌∙◌, ap, subst, length, List}
use Rattle.rd_station.specs.Station.{StationSteps}
use Rattle.rd_desk.specs.declared.batch.Run.{Run}
use Rattle.rd_desk.specs.Desk.{applied_calls, taken_calls}
use Rattle.rd_desk.proofs.StepLemmas.{steps_append}
use Rattle.rd_desk.proofs.desk.work.Goals as goal

pub returns : goal.returns
returns g c =
    let runs : c.room.inside.runs.items ≡ c.args.batch = search rules in (
      steps_append g.D.Device.runs g.D.Device.parked g.D.Device.cuts c.args.station.now c.apply_all.new.station c.take_all-over.new.station
          (applied_calls c.args.batch c.apply_all.new.applied.items) (taken_calls c.take_all-over.new.jobs.items c.take_all-over.result)
          (subst (λ (rs : List Run). StationSteps g.D.Device.runs g.D.Device.parked g.D.Device.cuts c.args.station.now (applied_calls rs c.apply_all.new.applied.items) c.apply_all.new.station) runs c.apply_all.ensures.steps)
          c.take_all-over.ensures.steps,
      record {
        answers = c.apply_all.ensures.answers ∙ ap (λ (rs : List Run). length rs) runs;
        few = c.take_all-over.ensures.few;
        left = c.waits.ensures;
        ready = c.has_ready.ensures;
        over = c.take_all-over.ensures.over;
      },
    )
