use Rattle.std.proofs.Common.{◌≡◌, rules, true, false, refl}
use Rattle.std.specs.Prelude.{◌&&◌, is_err}
use Rattle.std.proofs.lemmas.Result.{on_ok_weaker}
use Rattle.rd_world.specs.Events.{drops, is_channel_open}
use Rattle.rd_world.specs.Run.{some_left}
use Rattle.rd_world.proofs.GoingLemmas.{ends_session_goes}
use Rattle.rd_world.proofs.PlayingLemmas.{ended_dropped, ended_still}
use Rattle.rd_world.proofs.SettlingLemmas.{when_ok}
use Rattle.rd_world.proofs.WireLemmas.{cut_at_once, cut_ending, cut_weaker, dropped_records, records_none}
use Rattle.rd_world.proofs.world.World.end.Goals as goal

pub returns-else-is_err : goal.returns-else-is_err
returns-else-is_err g c =
    let left : (is_channel_open c.args.self.now && some_left c.args.self.now) ≡ true = search rules in
    let dropped : c.drop_channel.new.self ≡ drops c.args.self.now = search rules in
    let ok : is_err c.drop_channel.result ≡ false = search rules in
    let added = when_ok _ c.drop_channel.result ok c.drop_channel.ensures.recorded in
    record {
      ended = on_ok_weaker c.settle.result (λ settles. ended_dropped c.args.self.now c.drop_channel.new.self c.settle.new.self left dropped settles) c.settle.ensures.settled;
      counted = c.settle.ensures.counted;
      recorded = on_ok_weaker c.settle.result
          (λ records. dropped_records _ _ c.args.self.now c.drop_channel.new.self c.settle.new.self c.args.recorder.now c.drop_channel.new.recorder _ dropped added records)
          c.settle.ensures.recorded;
      cut = cut_weaker _ _ c.settle.result
          (λ x. (x.0, cut_ending _ _ c.args.self.now c.drop_channel.new.self x.0 c.args.recorder.now c.drop_channel.new.recorder left dropped added c.stand.ensures x.1))
          c.settle.ensures.cut;
    }

pub returns-in-Ok-false : goal.returns-in-Ok-false
returns-in-Ok-false g c =
    let left : (is_channel_open c.args.self.now && some_left c.args.self.now) ≡ false = search rules in
    record {
      ended = ended_still c.args.self.now left;
      counted = refl;
      recorded = records_none (g.R.Sink.held c.args.wire.now) c.args.self.now c.args.recorder.now;
      cut = tt;
    }

pub returns-then-is_err-clause-cut : goal.returns-then-is_err-clause-cut
returns-then-is_err-clause-cut g c = (
  c.args.self.now,
  cut_at_once _ c.args.self.now c.args.recorder.now _ (λ starves most. ends_session_goes starves most c.args.self.now) c.stand.ensures,
)

pub returns-in-Err-clause-cut : goal.returns-in-Err-clause-cut
returns-in-Err-clause-cut g c = (
  c.args.self.now,
  cut_at_once _ c.args.self.now c.args.recorder.now _ (λ starves most. ends_session_goes starves most c.args.self.now) c.stand.ensures,
)
