-- What always holds of a station in code.
use Rattle.std.specs.Prelude.{◌≡◌, ℕ, ◌≤◌, Bool, if◌then◌else◌, List, [], ◌∷◌, ◌++◌, map}
use Rattle.rd_base.specs.declared.journal.Item.{Item}
use Rattle.rd_base.specs.declared.journal.Item.TheVariants.{Ran}
use Rattle.rd_base.specs.declared.journal.Key.{Key}
use Rattle.rd_irp.specs.Fits.{kind_of}
use Rattle.rd_drive.specs.declared.plan.Job.{Job}
use Rattle.rd_drive.specs.declared.step.End.{End}
use Rattle.rd_drive.specs.declared.step.Step.{Step}
use Rattle.rd_drive.specs.Device.{Parked, is_parked, is_starved}
use Rattle.rd_drive.specs.Planned.{Planned}
use Rattle.rd_drive.specs.Promise.{Applies}
use Rattle.rd_station.specs.declared.answers.Applied.{Applied}
use Rattle.rd_station.specs.declared.answers.Applied.TheVariants as answered
use Rattle.rd_station.specs.declared.held.InHand.{InHand}
use Rattle.rd_station.specs.declared.memory.Memory.{Memory}
use Rattle.rd_station.specs.Memory.{Remembers}
use Rattle.rd_station.specs.Queues.{AreKeys, AreRising, Queues, settled_jobs}
use Rattle.rd_station.specs.Station.{StationState, held, own_completion, reserved}
use Rattle.rd_station.specs.Tied.{IsReached}

-- the keys of what is in hands, and then of what waits
abbrev pub unrun_keys : {S : Type 0} → StationState S → List Key
unrun_keys s = map (λ (t : InHand). t.key) s.taken ++ map (λ (job : Job). job.key) s.waiting

-- A station with the keys that its code finds by completion id, with so many reserved places of its journal, and with what it remembers of that.
pub record IsSound {S : Type 0} (Runs : S → Planned → ℕ → Step → List End → S → Type 0) (parked_in : S → List Parked) (Cuts : S → S → Type 0) (s : StationState S) (keys : List (ℕ × Key)) (spare : ℕ) (memory : Memory) : Type 0 where
  -- it came to be by calls
  pub reached : IsReached Runs parked_in Cuts s
  pub keys_found : AreKeys keys (held s)
  pub rising : AreRising (unrun_keys s)
  -- each entry that a place is spoken for has one
  pub room : reserved s ≤ spare
  pub remembers : Remembers s memory

-- a station by its parts
abbrev pub station_with : {S : Type 0} → S → Bool → Bool → Queues → List Item → StationState S
station_with device live ended q journal =
    record { device = device; live = live; ended = ended; waiting = q.waiting; taken = q.taken; parked = q.parked; ready = q.ready; journal = journal }

-- Whatever comes of the job, each request that ends by that is one of those that wait.
abbrev pub SettlesAll : {S : Type 0} → (S → Planned → ℕ → Step → List End → S → Type 0) → (S → List Parked) → S → Queues → Planned → ℕ → Type 0
SettlesAll {S} Runs parked_in device q planned moment =
    (answer : Step) (ends : List End) (new : S) → Applies Runs parked_in device planned moment answer ends new → (settled_jobs q.parked ends).2 ≡ []

-- The device ran the job of a hand, and this came of it: the job's own completion is ready first, then those of the requests that it ended; else it
-- waits inside the device after the others.
pub record RunsJob {S : Type 0} (Runs : S → Planned → ℕ → Step → List End → S → Type 0) (parked_in : S → List Parked) (old : S) (q : Queues) (journal : List Item) (t : InHand) (planned : Planned) (moment : ℕ) (applied : Applied) (new : S) (q_then : Queues) (journal_then : List Item) : Type 0 where
  pub answer : Step
  pub ends : List End
  pub promise : Applies Runs parked_in old planned moment answer ends new
  pub held : q_then ≡ record q {
    parked = (settled_jobs q.parked ends).1 ++ (if is_parked answer then record { key = t.key; completion = t.completion; kind = kind_of planned.job.op } ∷ [] else []);
    ready = q.ready ++ own_completion t (kind_of planned.job.op) answer ++ (settled_jobs q.parked ends).0;
  }
  pub entry : journal_then ≡ journal ++ Ran t.key moment (is_starved answer) (is_parked answer) ∷ []
  pub is : applied ≡ (if is_parked answer then answered.Parked else answered.Ran)
