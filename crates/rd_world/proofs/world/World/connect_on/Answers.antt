use Rattle.std.proofs.Common.{rules, ◌≡◌, ◌+◌, ℕ, suc, Bool, true, false, sym, ap, ◌∙◌, arith}
use Rattle.rd_base.specs.declared.journal.Key.{Key}
use Rattle.rd_world.specs.Events as event
use Rattle.rd_world.specs.Events.{connects}
use Rattle.rd_world.specs.Run.{all_client_sends, client_reads_all, host_reads_all, is_quiet, rounds}
use Rattle.rd_world.specs.World.{WorldState}
use Rattle.rd_world.proofs.RoundsLemmas.{event_stays, round, rounds_done, rounds_more, stays_same, stays_then}
use Rattle.rd_world.proofs.world.World.connect_on.Goals as goal

pub rounds-init : goal.rounds-init
rounds-init c =
    let begun : c.connect.new.self ≡ connects c.args.self.now = c.in_ok-connect.ensures.begun in
    record {
      reached = (
        0,
        λ most starves.
            ap (λ (n : ℕ). rounds starves n (connects c.args.self.now)) (omega arith) ∙ ap (λ (w : WorldState). rounds starves most w) (sym begun),
      );
      recorded = event_stays (λ key. true) c.args.self.now c.connect.new.self event.connect c.args.recorder.now c.connect.new.recorder begun
          c.in_ok-connect.ensures.recorded;
    }

pub returns-then-is_quiet-clause-connected : goal.returns-then-is_quiet-clause-connected
returns-then-is_quiet-clause-connected c =
    let r = c.rounds.invariant.reached in
    let quiet : is_quiet c.rounds.self ≡ true = search rules in
    (r.0 + 1, λ starves. r.1 1 starves ∙ rounds_done starves c.rounds.self quiet)

pub rounds-preserved : goal.rounds-preserved
rounds-preserved c =
    let r = c.rounds.invariant.reached in
    let busy : is_quiet c.rounds.self ≡ false = search rules in
    let came : (starves : Key → Bool) → c.host_read_all.new.self ≡ round starves c.rounds.self = λ starves.
    c.in_ok-host_read_all.ensures.read starves
    ∙ ap (host_reads_all starves) (c.in_ok-client_read_all.ensures.read starves
    ∙ ap (client_reads_all starves) (c.in_ok-client_send_all.ensures.sent starves
    ∙ ap (all_client_sends starves) (c.in_ok-host_send_all.ensures.sent starves))) in
    record {
      reached = (
        r.0 + 1,
        λ most starves.
            ap (λ (n : ℕ). rounds starves n (connects c.args.self.now)) (omega arith) ∙ r.1 (suc most) starves
            ∙ rounds_more starves most c.rounds.self c.host_read_all.new.self busy (came starves),
      );
      recorded = stays_then c.args.self.now c.client_send_all.new.self c.host_read_all.new.self c.args.recorder.now c.client_send_all.new.recorder c.client_send_all.new.recorder
          (stays_then c.args.self.now c.host_send_all.new.self c.client_send_all.new.self c.args.recorder.now c.host_send_all.new.recorder c.client_send_all.new.recorder
          (stays_then c.args.self.now c.rounds.self c.host_send_all.new.self c.args.recorder.now c.rounds.recorder c.host_send_all.new.recorder
          c.rounds.invariant.recorded c.in_ok-host_send_all.ensures.recorded) c.in_ok-client_send_all.ensures.recorded)
          (stays_same c.client_send_all.new.self c.host_read_all.new.self c.client_send_all.new.recorder (c.in_ok-host_read_all.ensures.recorded ∙ c.in_ok-client_read_all.ensures.recorded));
    }
