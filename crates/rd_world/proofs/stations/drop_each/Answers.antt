use Rattle.std.proofs.Common.{◌≡◌, ◌≢◌, ◌<◌, ◌∙◌, ap, get_or, length, arith, get_or-set_other}
use Rattle.std.proofs.lemmas.List.{length-set}
use Rattle.rd_station.specs.Station.{StationState}
use Rattle.rd_world.proofs.StationsLemmas.{dropped_all, dropped_more}
use Rattle.rd_declared.specs.declared.device.SessionDevice.{SessionDevice}
use Rattle.rd_world.proofs.stations.drop_each.Goals as goal

pub loop-place-preserved : goal.loop-place-preserved
loop-place-preserved c =
    let kept = c.loop-place.invariant in
    let within : c.loop-place.place < length c.loop-place.list = omega (arith, kept.same) in
    record {
      dropped = dropped_more _ _ _ (get_or c.loop-place.list c.loop-place.place c.index-list-place.result) _ kept.dropped kept.rest kept.same within
          (ap (λ (d : StationState SessionDevice). get_or c.loop-place.list c.loop-place.place d) c.index-list-place.is) (record { step = c.drop_channel.ensures.step; reached = c.drop_channel.ensures.reached });
      rest = λ j d le.
          let apart : j ≢ c.loop-place.place = λ (e : j ≡ c.loop-place.place). omega arith in
          get_or-set_other c.loop-place.list c.loop-place.place j c.drop_channel.new.self d apart ∙ kept.rest j d (omega arith);
      same = length-set c.loop-place.list c.loop-place.place c.drop_channel.new.self ∙ kept.same;
    }

pub returns : goal.returns
returns c =
    let kept = c.loop-place.invariant in
    dropped_all _ _ _ kept.dropped (omega (arith, kept.same)) kept.same
