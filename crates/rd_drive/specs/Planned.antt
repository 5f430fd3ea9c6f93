-- A job that a device is to run.
use Rattle.std.specs.Prelude.{Bool}
use Rattle.rd_drive.specs.declared.plan.Job.{Job}

-- the job, and whether no memory was found for it
pub record Planned : Type 0 where
  pub job : Job
  pub starved : Bool
