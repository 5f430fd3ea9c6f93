use Rattle.std.proofs.Common.{◌≡◌, ◌+◌, ◌≤◌, ◌++◌, map}
use Rattle.std.specs.VecDeque.{deque_capacity, deque_len}
use Rattle.rd_station.specs.Station.{cancelled_parked}
use Rattle.rd_station.proofs.held.cancel_all.Given as goal

abbrev pub invariant-loop-job : goal.invariant-loop-job
invariant-loop-job l = record {
  ready : l.ready.items ++ map cancelled_parked l.parked.items ≡ l.initial.ready.items ++ map cancelled_parked l.initial.parked.items;
  room : deque_len l.ready + deque_len l.parked ≤ deque_capacity l.ready;
  capacity : (deque_capacity l.parked ≡ deque_capacity l.initial.parked) × (deque_capacity l.ready ≡ deque_capacity l.initial.ready);
}

abbrev pub decreases-loop-job : goal.decreases-loop-job
decreases-loop-job l = deque_len l.parked
