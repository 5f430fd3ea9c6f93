-- What comes of a request, and of a cut, whatever the device and its states.
use Rattle.std.specs.Prelude.{ℕ, Bool, if◌then◌else◌, List, []}
use Rattle.rd_base.specs.declared.journal.Key.{Key}
use Rattle.rd_irp.specs.declared.op.Op.{Op}
use Rattle.rd_drive.specs.declared.step.Step.{Step}
use Rattle.rd_drive.specs.declared.step.Step.TheVariants as step
use Rattle.rd_drive.specs.declared.step.End.{End}
use Rattle.rd_drive.specs.Outcome.{fault}
use Rattle.rd_base.specs.Statuses.{no_memory}

-- What comes of a request: the state after it, the answer, and the ends of the requests that waited and that it ends, in the order in which they
-- began to wait.
pub record Stepped (S : Type 0) : Type 0 where
  pub state : S
  pub answer : Step
  pub ends : List End

-- the state, and the requests that were ended, in the order in which they began to wait
pub record Settled (S : Type 0) : Type 0 where
  pub state : S
  pub ends : List End

-- What comes of a request for which no memory was found. A Close needs none.
abbrev pub starved_step : {S : Type 0} → S → Stepped S
starved_step s = record { state = s; answer = step.Reply (fault no_memory); ends = [] }

-- What comes of a request by a device's step, or nothing where no memory was found.
abbrev pub ran_step : {S : Type 0} → (S → Key → ℕ → Op → ℕ → Stepped S) → S → Key → ℕ → Op → ℕ → Bool → Stepped S
ran_step step s key file op moment starved = if starved then starved_step s else step s key file op moment
