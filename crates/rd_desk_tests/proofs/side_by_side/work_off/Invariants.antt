use Rattle.std.proofs.Common.{◌≡◌}
use Rattle.rd_turn.specs.History.{calls_of}
use Rattle.rd_turn.specs.Pass.{IsSamePass}
use Rattle.rd_desk.specs.Batch.{jobs_of}
use Rattle.rd_desk.specs.Own.{WereGiven}
use Rattle.rd_desk_tests.proofs.side_by_side.work_off.Given as goal

abbrev pub invariant-loop : goal.invariant-loop
invariant-loop g l = record {
  given : WereGiven (calls_of l.hand.pass.number l.hand.pass.seen) (jobs_of l.batch);
  turn : l.hand.turn ≡ l.turn;
  same : IsSamePass l.fn.pass l.hand.pass;
}
