-- What comes of a job over a folder: before the requests that wait are looked at, and after.
use Rattle.std.specs.Prelude.{◌≡◌, ℕ, Result}
use Rattle.rd_base.specs.declared.status.Status.{Status}
use Rattle.rd_irp.specs.declared.op.Op.TheVariants.{Close}
use Rattle.rd_irp.specs.Fits.{kind_of}
use Rattle.rd_drive.specs.declared.plan.Job.{Job}
use Rattle.rd_drive.specs.Device.{Parked, may_wait}
use Rattle.rd_drive.specs.DriveStep.{outcome_of}
use Rattle.rd_folder_drive.specs.declared.table.Table.{Table}
use Rattle.rd_folder_drive.specs.declared.table.Done.{Done}
use Rattle.rd_folder_drive.specs.Served.{Seen, Serves, ServesClose}
use Rattle.rd_folder_drive.specs.Waits.{WaitsBy}

-- Every operation but a Close comes to what the definition says, or is refused by the folder.
abbrev pub ServesOther : Table → Seen → Table → Seen → Job → ℕ → Result Done Status → Type 0
ServesOther old before new after job moment result =
    (job.op ≡ Close → ⊥) → Serves old before new after (λ s. outcome_of s job.key job.file job.op moment) result

-- A Close does too, or the folder keeps the node.
abbrev pub ServesClosing : Table → Seen → Table → Seen → Job → Result Done Status → Type 0
ServesClosing old before new after job result = job.op ≡ Close → ServesClose old before new after job.file result

-- the request itself, as one that waits
abbrev pub parked_job : Job → Parked
parked_job job = record { key = job.key; kind = kind_of job.op }

-- Only an operation that may wait is left waiting.
abbrev pub WaitsForJob : Table → Table → Job → Result Done Status → Type 0
WaitsForJob old new job result = WaitsBy old new (parked_job job) (may_wait job.op) result
