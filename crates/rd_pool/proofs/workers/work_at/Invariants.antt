use Rattle.std.proofs.Common.{◌≡◌}
use Rattle.std.specs.Prelude.{All}
use Rattle.rd_turn.specs.History.{calls_of}
use Rattle.rd_desk.specs.Batch.{jobs_of}
use Rattle.rd_desk.specs.Own.{HasMoment, WereGiven}
use Rattle.rd_pool.specs.Desks.{KeepsMoment, AllByHand}
use Rattle.rd_pool.proofs.workers.work_at.Given as goal

abbrev pub invariant-loop : goal.invariant-loop
invariant-loop g l = record {
  given : WereGiven (calls_of l.hand.pass.number l.hand.pass.seen) (jobs_of l.batch);
  turn : l.hand.turn ≡ l.initial.hand.turn;
  number : l.hand.pass.number ≡ l.initial.hand.pass.number;
  batch : All (HasMoment (g.X.Outside.moment l.outside)) l.batch;
  moments : KeepsMoment (g.X.Outside.moment l.outside) l.initial.hand.pass → KeepsMoment (g.X.Outside.moment l.outside) l.hand.pass;
  by_hand : AllByHand l.initial.hand.pass → AllByHand l.hand.pass;
}
