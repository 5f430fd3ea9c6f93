use Rattle.std.proofs.Common.{◌≡◌, ◌+◌, ◌≤◌, ◌++◌, map}
use Rattle.std.specs.VecDeque.{deque_capacity, deque_len}
use Rattle.rd_drive.specs.declared.plan.Job.{Job}
use Rattle.rd_desk.specs.declared.batch.Run.{Run}
use Rattle.rd_desk.specs.Batch.{jobs_of}
use Rattle.rd_desk.proofs.batch.plan_all.Given as goal

abbrev pub invariant-loop-job : goal.invariant-loop-job
invariant-loop-job l = record {
  jobs : jobs_of l.runs.items ++ l.jobs.items ≡ l.initial.jobs.items;
  moments : map (λ (run : Run). run.moment) l.runs.items ++ map (λ (job : Job). l.moment) l.jobs.items ≡ map (λ (job : Job). l.moment) l.initial.jobs.items;
  room : deque_len l.runs + deque_len l.jobs ≤ deque_capacity l.runs;
  capacity : (deque_capacity l.jobs ≡ deque_capacity l.initial.jobs) × (deque_capacity l.runs ≡ deque_capacity l.initial.runs);
}

abbrev pub decreases-loop-job : goal.decreases-loop-job
decreases-loop-job l = deque_len l.jobs
