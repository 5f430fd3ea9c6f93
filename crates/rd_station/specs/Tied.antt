-- What ties a station to its journal, in every state.
use Rattle.std.specs.Prelude.{◌≡◌, ◌≢◌, ◌≤◌, ℕ, List, [], All, AllPairs, length, map}
use Rattle.rd_base.specs.declared.journal.Key.{Key}
use Rattle.rd_base.specs.Lawful.{IsLawful}
use Rattle.rd_irp.specs.declared.op.Op.{Op}
use Rattle.rd_irp.specs.declared.request.Request.{Request}
use Rattle.rd_drive.specs.declared.step.End.{End}
use Rattle.rd_drive.specs.declared.step.Step.{Step}
use Rattle.rd_drive.specs.Device.{CompletesKind, Parked, is_starved}
use Rattle.rd_drive.specs.Planned.{Planned}
use Rattle.rd_drive.specs.Promise.{Cancels}
use Rattle.rd_drive.specs.Replies.{AreToldBy, IsAnswer, last_state_by, replies_by}
use Rattle.rd_drive.specs.Stepped.{Settled, Stepped, ran_step}
use Rattle.rd_station.specs.declared.answers.Completion.{Completion}
use Rattle.rd_station.specs.declared.held.ParkedJob.{ParkedJob}
use Rattle.rd_station.specs.Station.{DidRun, StationCall, StationState, applies, entry_count, held, max_entries, max_held, new_station, StationSteps}

-- a parked job, as the device tells it
abbrev pub as_parked : ParkedJob → Parked
as_parked p = record { key = p.key; kind = p.kind }

-- What holds of a station over any device, which tells what is parked in it. A station may be made where nothing is.
pub record IsKept {S : Type 0} (parked_in : S → List Parked) (s : StationState S) : Type 0 where
  pub lawful : IsLawful s.journal
  -- the parked jobs are those of the device
  pub parked : map as_parked s.parked ≡ parked_in s.device
  -- each completion that is ready fits its layout, and can be sent
  pub ready : All (λ (c : Completion). CompletesKind c.kind c.reply) s.ready
  -- few jobs are held, and no two have the same key or the same completion id
  pub few : length (held s) ≤ max_held
  pub keys_apart : AllPairs (λ (a : Key × ℕ) (b : Key × ℕ). a.0 ≢ b.0) (held s)
  pub completions_apart : AllPairs (λ (a : Key × ℕ) (b : Key × ℕ). a.1 ≢ b.1) (held s)
  -- the journal has room for each entry that a place is spoken for
  pub room : entry_count s ≤ max_entries

-- A station that came to be by calls: it was made over a device in which nothing was parked.
pub record IsReached {S : Type 0} (Runs : S → Planned → ℕ → Step → List End → S → Type 0) (parked_in : S → List Parked) (Cuts : S → S → Type 0) (s : StationState S) : Type 0 where
  pub device : S
  pub nothing : parked_in device ≡ []
  pub calls : List StationCall
  pub steps : StationSteps Runs parked_in Cuts (new_station device) calls s

-- A job that was run is that of its key's request.
abbrev pub RunsOwn : (Key → Request) → StationCall → Type 0
RunsOwn requests (applies planned moment answer) = DidRun answer → let r = requests planned.job.key in (planned.job.file ≡ r.file) × (planned.job.op ≡ r.op)
RunsOwn requests _ = Unit {0}

-- What a device's runs and cuts relate is what a step and a cut compute.
pub record IsRunBy {S : Type 0} (step : S → Key → ℕ → Op → ℕ → Stepped S) (cut : S → Settled S) (Runs : S → Planned → ℕ → Step → List End → S → Type 0) (parked_in : S → List Parked) (Cuts : S → S → Type 0) : Type 0 where
  -- a run is the step, or nothing where the answer says that no memory was found
  pub runs : (old : S) (planned : Planned) (moment : ℕ) (answer : Step) (ends : List End) (new : S) → Runs old planned moment answer ends new
      → ran_step step old planned.job.key planned.job.file planned.job.op moment (is_starved answer) ≡ record { state = new; answer = answer; ends = ends }
  pub cuts : (old new : S) → Cuts old new → (cut old).state ≡ new
  -- a cut ends each request that waits with CANCELLED, and leaves none
  pub cancels : (s : S) → Cancels step cut parked_in s

-- A device with states of the type S, by what a request comes to and what a cut comes to. Each key names a request.
module _ {S : Type 0} (step : S → Key → ℕ → Op → ℕ → Stepped S) (cut : S → Settled S) (requests : Key → Request) where
  -- The marks of the journal are those of the device, which is as its journal leaves it, and what is ready is the answer to its key: so it stays where
  -- each job that is run is that of its key's request.
  pub record IsTied (opening : S) (s : StationState S) : Type 0 where
    pub marked : AreToldBy step cut requests opening s.journal
    pub device : s.device ≡ last_state_by step cut requests opening s.journal
    pub ready : All (λ (c : Completion). IsAnswer (replies_by step cut requests opening s.journal) s.journal c.key c.reply) s.ready
