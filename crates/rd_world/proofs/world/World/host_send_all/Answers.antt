use Rattle.std.proofs.Common.{rules, ◌≡◌, true, sym, ap, ◌∙◌}
use Rattle.rd_world.specs.Events as event
use Rattle.rd_world.specs.Events.{host_has_message, host_sends_next}
use Rattle.rd_world.specs.Run.{all_host_sends}
use Rattle.rd_world.specs.World.{WorldState}
use Rattle.rd_world.proofs.RoundsLemmas.{event_stays, host_sends_more, host_sent, stays_then}
use Rattle.rd_world.proofs.world.World.host_send_all.Goals as goal

pub sending-preserved : goal.sending-preserved
sending-preserved c =
    let w : WorldState = c.sending.self in
    let some : host_has_message w ≡ true = search rules in
    let sent : c.host_send.new.self ≡ host_sends_next w = search rules in
    record {
      reached = λ starves.
          c.sending.invariant.reached starves ∙ host_sends_more starves w some ∙ ap (all_host_sends starves) (sym sent);
      recorded = stays_then c.args.self.now w c.host_send.new.self c.args.recorder.now c.sending.recorder c.host_send.new.recorder c.sending.invariant.recorded
          (event_stays (λ key. true) w c.host_send.new.self event.host_send c.sending.recorder c.host_send.new.recorder sent (search rules));
    }

pub returns-clause-sent : goal.returns-clause-sent
returns-clause-sent c = λ starves.
    sym (c.sending.invariant.reached starves ∙ host_sent starves c.sending.self (search rules))
