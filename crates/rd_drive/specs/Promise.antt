-- What every device promises, whatever its states.
use Rattle.std.specs.Prelude.{◌≡◌, ℕ, List, [], map, IsTrue, IsFalse}
use Rattle.rd_base.specs.declared.journal.Key.{Key}
use Rattle.rd_irp.specs.declared.op.Op.{Op}
use Rattle.rd_irp.specs.declared.op.Op.TheVariants.{Close}
use Rattle.rd_drive.specs.declared.plan.Job.{Job}
use Rattle.rd_drive.specs.declared.step.Step.{Step}
use Rattle.rd_drive.specs.declared.step.End.{End}
use Rattle.rd_drive.specs.Planned.{Planned}
use Rattle.rd_drive.specs.Device.{IsAnswerTo, Parked, Parks, is_starved}
use Rattle.rd_drive.specs.Outcome.{fault}
use Rattle.rd_base.specs.Statuses.{cancelled}
use Rattle.rd_drive.specs.Stepped.{Settled, Stepped}

-- What a device promises of a job that it is given at a moment. `Runs` relates the device before, the job, the moment, the answer, the ends of requests
-- that waited, and the device after; `parked` are the requests that wait in it.
pub record Applies {S : Type 0} (Runs : S → Planned → ℕ → Step → List End → S → Type 0) (parked : S → List Parked) (old : S) (planned : Planned) (moment : ℕ) (answer : Step) (ends : List End) (new : S) : Type 0 where
  -- it runs the job
  pub runs : Runs old planned moment answer ends new
  -- a reply is one to the operation, and only what may wait is left waiting
  pub answers : IsAnswerTo planned.job.op answer
  -- some of the requests that wait end, and the request itself waits last where it isn't answered
  pub parks : Parks planned.job (parked old) answer ends (parked new)
  -- where no memory was found for the job, the answer says so
  pub starved : IsTrue planned.starved → IsTrue (is_starved answer)
  -- that to a Close never does
  pub close : planned.job.op ≡ Close → IsFalse (is_starved answer)

-- What a device promises of a cut, which `Cuts` relates: none waits after it.
pub record CutsOff {S : Type 0} (Cuts : S → S → Type 0) (parked : S → List Parked) (old new : S) : Type 0 where
  pub cuts : Cuts old new
  pub none : parked new ≡ []

-- the end of a request that waited when its device was cut off
abbrev pub cut_end : Parked → End
cut_end waiting = record { key = waiting.key; reply = fault cancelled }

-- A device with states of the type S, given by what a request comes to and what a cut comes to; `parked` are the requests that wait in it.
module _ {S : Type 0} (step : S → Key → ℕ → Op → ℕ → Stepped S) (cut : S → Settled S) (parked : S → List Parked) where
  -- A cut ends each request that waits with CANCELLED, in their order, and leaves none.
  pub record Cancels (s : S) : Type 0 where
    pub ends : (cut s).ends ≡ map cut_end (parked s)
    pub none : parked (cut s).state ≡ []

  -- Whatever it is asked in a state that is fit, it is left in one, and does to the requests that wait what every device does; so does a cut.
  pub record IsDevice (IsFit : S → Type 0) : Type 0 where
    pub stays : (s : S) (key : Key) (file : ℕ) (op : Op) (moment : ℕ) → IsFit s → IsFit (step s key file op moment).state
    pub parks : (s : S) (job : Job) (moment : ℕ) → IsFit s → let came = step s job.key job.file job.op moment in Parks job (parked s) came.answer came.ends (parked came.state)
    pub cut_stays : (s : S) → IsFit s → IsFit (cut s).state
    pub cancels : (s : S) → IsFit s → Cancels s
