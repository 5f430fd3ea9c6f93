use Rattle.std.proofs.Common.{◌≡◌, ◌+◌, ◌≤◌, ◌++◌, map}
use Rattle.std.specs.VecDeque.{deque_capacity, deque_len}
use Rattle.rd_base.specs.declared.journal.Item.TheVariants.{Cancelled}
use Rattle.rd_drive.specs.declared.plan.Job.{Job}
use Rattle.rd_station.specs.Station.{cancelled_waiting}
use Rattle.rd_station.proofs.held.cancel_unrun.Given as goal

abbrev pub invariant-loop-job : goal.invariant-loop-job
invariant-loop-job l = record {
  ready : l.ready.items ++ map cancelled_waiting l.waiting.items ≡ l.initial.ready.items ++ map cancelled_waiting l.initial.waiting.items;
  room : deque_len l.ready + deque_len l.waiting ≤ deque_capacity l.ready;
  capacity : (deque_capacity l.waiting ≡ deque_capacity l.initial.waiting) × (deque_capacity l.ready ≡ deque_capacity l.initial.ready);
  entries : l.journal.items ++ map (λ (job : Job). Cancelled job.key) l.waiting.items ≡ l.initial.journal.items ++ map (λ (job : Job). Cancelled job.key) l.initial.waiting.items;
  spare : l.journal.spare + deque_len l.initial.waiting ≡ l.initial.journal.spare + deque_len l.waiting;
}

abbrev pub decreases-loop-job : goal.decreases-loop-job
decreases-loop-job l = deque_len l.waiting
