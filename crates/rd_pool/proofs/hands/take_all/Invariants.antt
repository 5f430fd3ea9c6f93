use Rattle.std.proofs.Common.{◌≡◌, ◌≢◌, ◌+◌, ◌≤◌, ◌++◌, map, drop}
use Rattle.std.specs.Prelude.{All}
use Rattle.std.specs.List.{AllZip}
use Rattle.std.specs.VecDeque.{deque_capacity, deque_len}
use Rattle.rd_desk.specs.Hand.{HandState}
use Rattle.rd_pool.specs.Desks.{IsFresh, AllByHand}
use Rattle.rd_pool.proofs.hands.take_all.Given as goal

abbrev pub invariant-loop-pass : goal.invariant-loop-pass
invariant-loop-pass g l = record {
  turns : map (λ (hand : HandState g.row.D.Denot). hand.turn) l.hands.items ++ drop l.at l.turns.items ≡ l.turns.items;
  passes : map (λ (hand : HandState g.row.D.Denot). hand.pass) l.hands.items ++ l.passes.items ≡ l.initial.passes.items;
  fresh : AllZip IsFresh (drop l.at l.turns.items) l.passes.items;
  others : All (λ (hand : HandState g.row.D.Denot). hand.pass.number ≢ 0) l.hands.items;
  by_hand : All (λ (hand : HandState g.row.D.Denot). AllByHand hand.pass) l.hands.items;
  room : deque_len l.hands + deque_len l.passes ≤ deque_capacity l.hands;
  capacity : deque_capacity l.passes ≡ deque_capacity l.initial.passes;
}

abbrev pub decreases-loop-pass : goal.decreases-loop-pass
decreases-loop-pass g l = deque_len l.passes
