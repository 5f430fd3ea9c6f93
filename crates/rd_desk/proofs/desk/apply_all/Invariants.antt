use Rattle.std.proofs.Common.{◌≡◌, ◌+◌, ◌≤◌}
use Rattle.std.specs.VecDeque.{deque_capacity, deque_len}
use Rattle.rd_desk.proofs.StepLemmas.{AppliesOn}
use Rattle.rd_desk.proofs.desk.apply_all.Given as goal

abbrev pub invariant-loop-run : goal.invariant-loop-run
invariant-loop-run g l = record {
  steps : AppliesOn g.D.Device.runs g.D.Device.parked g.D.Device.cuts l.initial.station l.initial.runs.items l.station l.runs.items l.applied.items;
  count : deque_len l.applied + deque_len l.runs ≡ deque_len l.initial.runs;
  room : deque_len l.applied + deque_len l.runs ≤ deque_capacity l.applied;
  capacity : (deque_capacity l.runs ≡ deque_capacity l.initial.runs) × (deque_capacity l.applied ≡ deque_capacity l.initial.applied);
}

abbrev pub decreases-loop-run : goal.decreases-loop-run
decreases-loop-run g l = deque_len l.runs
