use Rattle.std.proofs.Common.{◌≡◌, ◌≤◌, ◌<◌, false}
use Rattle.std.specs.VecDeque.{deque_capacity, deque_len}
use Rattle.rd_desk.proofs.StepLemmas.{TakesOn}
use Rattle.rd_desk.proofs.desk.take_all.Given as goal

abbrev pub invariant-loop : goal.invariant-loop
invariant-loop g l = record {
  steps : TakesOn g.D.Device.runs g.D.Device.parked g.D.Device.cuts l.initial.station l.station l.jobs.items;
  count : deque_len l.jobs ≡ l.counter;
  goes_on : 0 < l.counter → l.station.ended ≡ false;
  room : 4 ≤ deque_capacity l.jobs;
  capacity : deque_capacity l.jobs ≡ deque_capacity l.initial.jobs;
}
