-- What a hand gives back at a desk, and what it is given.
use Rattle.std.specs.Prelude.{Bool, List, map}
use Rattle.rd_drive.specs.declared.plan.Job.{Job}
use Rattle.rd_station.specs.declared.answers.Applied.{Applied}
use Rattle.rd_desk.specs.declared.batch.Run.{Run}

-- plans to be run, what came of them, and jobs that were given
pub record RoomState : Type 0 where
  pub runs : List Run
  pub applied : List Applied
  pub jobs : List Job

-- What a hand is given: what came of each plan that it gave back, the jobs that it takes, whether jobs are left that no hand took, whether a completion
-- can be collected, and whether the session is over.
pub record WorkedState : Type 0 where
  pub applied : List Applied
  pub jobs : List Job
  pub left : Bool
  pub ready : Bool
  pub over : Bool

-- the jobs of plans
abbrev pub jobs_of : List Run → List Job
jobs_of runs = map (λ (run : Run). run.plan.job) runs
