use Rattle.std.proofs.Common.{◌≡◌, ◌+◌, ◌-◌, [], None, ◌++◌}
use Rattle.std.specs.Option.{option_to_list}
use Rattle.std.specs.VecDeque.{deque_capacity, deque_len}
use Rattle.rd_station.proofs.Settling.{Settling}
use Rattle.rd_station.proofs.held.settle_all.Given as goal

abbrev pub invariant-jobs : goal.invariant-jobs
invariant-jobs l = record {
  settling : Settling l.fn.parked.items l.fn.ready.items l.fn.ends l.parked.items l.ready.items (option_to_list l.next ++ l.ends) (l.end - l.counter);
  capacity : (deque_capacity l.parked ≡ deque_capacity l.fn.parked) × (deque_capacity l.ready ≡ deque_capacity l.fn.ready);
  last : l.next ≡ None → l.ends ≡ [];
  count : deque_len l.parked + deque_len l.ready ≡ deque_len l.fn.parked + deque_len l.fn.ready;
}
