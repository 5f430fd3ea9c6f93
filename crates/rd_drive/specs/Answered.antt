-- What a drive answers, whatever its state: a reply of the operation's layout, or the request waits.
use Rattle.std.specs.Prelude.{◌≡◌, ℕ, ◌≤◌, Bool, true, false, List, [], ◌∷◌, ◌++◌, map, length}
use Rattle.std.specs.List.{AllByRecursion}
use Rattle.rd_base.specs.declared.journal.Key.{Key}
use Rattle.rd_irp.specs.declared.op.Op.{Op}
use Rattle.rd_irp.specs.declared.completion.Kind.{Kind}
use Rattle.rd_irp.specs.declared.completion.Kind.TheVariants as kind
use Rattle.rd_irp.specs.Fits.{kind_of, IsReplyTo}
use Rattle.rd_dirinfo.specs.Paths.{is_within_limits}
use Rattle.rd_drive.specs.declared.plan.Job.{Job}
use Rattle.rd_drive.specs.Planned.{Planned}
use Rattle.rd_drive.specs.declared.step.End.{End}
use Rattle.rd_drive.specs.declared.step.Step.{Step}
use Rattle.rd_drive.specs.declared.step.Step.TheVariants as step
use Rattle.rd_drive.specs.DriveState.{DriveState, Node, Wish, Ranges, Notice, Waiting}
use Rattle.rd_drive.specs.Outcome.{Outcome}
use Rattle.rd_drive.specs.Stepped.{Stepped, ran_step}
use Rattle.rd_drive.specs.DriveStep.{drive_cut, drive_step}
use Rattle.rd_drive.specs.Device.{IsAnswerTo, Parked, Parks, is_starved, may_wait}

-- the layout of the completion of a request with this wish
abbrev pub wish_kind : Wish → Kind
wish_kind (Ranges exclusive ranges) = kind.Lock
wish_kind (Notice deep filter) = kind.Buffer

abbrev pub parked_of : Waiting → Parked
parked_of w = record { key = w.key; kind = wish_kind w.wish }

-- the requests that wait in a drive
abbrev pub drive_parked : DriveState → List Parked
drive_parked s = map parked_of s.waiting

-- a drive in memory: its nodes are limited, and neither the label nor a path is past its limit
pub record IsFitting (s : DriveState) : Type 0 where
  pub limited : s.limited ≡ true
  pub label : length s.label ≤ 32
  pub paths : AllByRecursion (λ (node : Node). is_within_limits node.path ≡ true) s.nodes

-- A reply is of the operation's layout, and never says that no memory was found; then those that wait are as before. Otherwise the request waits
-- after them, and is one that may.
abbrev pub IsAnsweredBy : DriveState → Key → Op → Step → DriveState → Type 0
IsAnsweredBy s key op (step.Reply reply) new = IsReplyTo op reply × (is_starved (step.Reply reply) ≡ false) × (new.waiting ≡ s.waiting)
IsAnsweredBy s key op step.Parked new =
    (w : Waiting) × (parked_of w ≡ record { key = key; kind = kind_of op }) × (new.waiting ≡ s.waiting ++ w ∷ []) × (may_wait op ≡ true)

-- what an operation comes to is such an answer
pub record IsAnswered (s : DriveState) (key : Key) (op : Op) (outcome : Outcome) : Type 0 where
  pub by : IsAnsweredBy s key op outcome.answer outcome.state

-- what a job comes to at a moment, or nothing where no memory was found
abbrev pub drive_ran : DriveState → Job → ℕ → Bool → Stepped DriveState
drive_ran s job moment starved = ran_step drive_step s job.key job.file job.op moment starved

-- A drive runs a job: its state after it, the answer, and the ends of requests that waited are what the job comes to, or nothing came of it
-- where it says that no memory was found.
abbrev pub drive_runs : DriveState → Planned → ℕ → Step → List End → DriveState → Type 0
drive_runs old planned moment answer ends new =
    drive_ran old planned.job moment (is_starved answer) ≡ record { state = new; answer = answer; ends = ends }

-- a drive is cut off
abbrev pub drive_cuts : DriveState → DriveState → Type 0
drive_cuts old new = (drive_cut old).state ≡ new

-- What a drive does with a job for which memory was found: it runs it, answers it by a reply of its layout or lets it wait, and ends some of those
-- that wait.
pub record IsServed (old : DriveState) (job : Job) (moment : ℕ) (answer : Step) (ends : List End) (new : DriveState) : Type 0 where
  pub runs : drive_ran old job moment (is_starved answer) ≡ record { state = new; answer = answer; ends = ends }
  pub answers : IsAnswerTo job.op answer
  pub parks : Parks job (drive_parked old) answer ends (drive_parked new)
