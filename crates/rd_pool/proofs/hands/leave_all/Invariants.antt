use Rattle.std.proofs.Common.{◌≡◌, ◌≢◌, ◌+◌, ◌≤◌, ◌++◌, map}
use Rattle.std.specs.Prelude.{All}
use Rattle.std.specs.VecDeque.{deque_capacity, deque_len}
use Rattle.rd_desk.specs.Hand.{HandState}
use Rattle.rd_pool.specs.Desks.{IsOther}
use Rattle.rd_pool.proofs.ZipLemmas.{ZipsOn}
use Rattle.rd_pool.proofs.hands.leave_all.Given as goal

abbrev pub invariant-loop-hand : goal.invariant-loop-hand
invariant-loop-hand g l = record {
  passes : ZipsOn IsOther (map (λ (hand : HandState g.row.D.Denot). hand.turn) l.initial.hands.items) (map (λ (hand : HandState g.row.D.Denot). hand.turn) l.hands.items) l.passes.items;
  same : l.passes.items ++ map (λ (hand : HandState g.row.D.Denot). hand.pass) l.hands.items ≡ map (λ (hand : HandState g.row.D.Denot). hand.pass) l.initial.hands.items;
  others : All (λ (hand : HandState g.row.D.Denot). hand.pass.number ≢ 0) l.hands.items;
  len : deque_len l.passes + deque_len l.hands ≡ deque_len l.initial.hands;
  room : deque_len l.passes + deque_len l.hands ≤ deque_capacity l.passes;
  capacity : deque_capacity l.passes ≡ deque_capacity l.initial.passes;
}

abbrev pub decreases-loop-hand : goal.decreases-loop-hand
decreases-loop-hand g l = deque_len l.hands
