use Rattle.std.proofs.Common.{◌≡◌, ◌+◌, ◌≤◌, drop}
use Rattle.std.specs.List.{AllZip, zip}
use Rattle.std.specs.VecDeque.{deque_capacity, deque_len}
use Rattle.rd_pool.specs.Desks.{IsFirst, IsJoined, IsOther}
use Rattle.rd_pool.proofs.ZipLemmas.{ZipsOn}
use Rattle.rd_pool.proofs.desks.join_all.Given as goal

abbrev pub invariant-loop-pass : goal.invariant-loop-pass
invariant-loop-pass g l = record {
  joined : ZipsOn IsJoined (zip l.initial.from.items l.initial.others.items) (zip l.from.items l.others.items) l.to.items;
  ready : ZipsOn IsFirst l.turns.items (drop l.at l.turns.items) l.to.items;
  first : AllZip IsFirst (drop l.at l.turns.items) l.from.items;
  others : AllZip IsOther (drop l.at l.turns.items) l.others.items;
  len : deque_len l.to + deque_len l.from ≡ deque_len l.initial.from;
  room : deque_len l.to + deque_len l.from ≤ deque_capacity l.to;
  capacity : deque_capacity l.from ≡ deque_capacity l.initial.from;
}

abbrev pub decreases-loop-pass : goal.decreases-loop-pass
decreases-loop-pass g l = deque_len l.from
