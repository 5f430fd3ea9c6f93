-- Whose jobs are given back: what each pass was given, at which moment that is to be run, and of which request each job is.
use Rattle.std.specs.Prelude.{◌≡◌, ℕ, List, [], ◌∷◌, ◌++◌, All, Contains, IfSome, None, Option, find}
use Rattle.std.specs.List.{flat_map}
use Rattle.std.specs.Option.{option_map_or}
use Rattle.rd_base.specs.declared.journal.Key.{Key}
use Rattle.rd_irp.specs.declared.op.Op.TheVariants.{Close}
use Rattle.rd_irp.specs.declared.request.Request.{Request}
use Rattle.rd_drive.specs.declared.plan.Job.{Job}
use Rattle.rd_station.specs.Station.{StationCall, is_key, puts}
use Rattle.rd_turn.specs.declared.object.Entry.{Entry}
use Rattle.rd_desk.specs.declared.batch.Run.{Run}
use Rattle.rd_desk.specs.declared.calls.DeskCall.{DeskCall}
use Rattle.rd_desk.specs.declared.calls.DeskReply.{DeskReply}
use Rattle.rd_desk.specs.declared.calls.DeskReply.TheVariants as reply
use Rattle.rd_desk.specs.Batch.{jobs_of}
use Rattle.rd_desk.specs.Desk.{runs_of}

-- ---- what is given and given back

-- the jobs that a call gives back
abbrev pub jobs_back : DeskCall → List Job
jobs_back asked = jobs_of (runs_of asked)

-- the jobs that a reply gives
abbrev pub jobs_given : DeskReply → List Job
jobs_given (reply.Worked w) = w.jobs
jobs_given _ = []

-- the jobs that were given in calls
abbrev pub given_to : List (Entry DeskCall DeskReply) → List Job
given_to entries = flat_map (λ (e : Entry DeskCall DeskReply). jobs_given e.reply) entries

-- each of these jobs was given in those calls
abbrev pub WereGiven : List (Entry DeskCall DeskReply) → List Job → Type 0
WereGiven entries jobs = All (Contains (given_to entries)) jobs

-- The calls of one pass: each job that one of them gives back was given in an earlier one.
pub record GivesOwnBack (entries : List (Entry DeskCall DeskReply)) : Type 0 where
  pub each : (before later : List (Entry DeskCall DeskReply)) (e : Entry DeskCall DeskReply) → entries ≡ before ++ e ∷ later → WereGiven before (jobs_back e.call)

-- ---- at which moment it is given back

-- the plan is to be run at the moment that was told, where one was
abbrev pub HasMoment : Option ℕ → Run → Type 0
HasMoment told run = IfSome told (λ moment. run.moment ≡ moment)

-- each plan that one of these calls gives back is to be run at that moment
abbrev pub GivesBackAt : Option ℕ → List (Entry DeskCall DeskReply) → Type 0
GivesBackAt told entries = All (λ (e : Entry DeskCall DeskReply). All (HasMoment told) (runs_of e.call)) entries

-- ---- of which request a job is

-- the job is that of its key's request
abbrev pub IsOwnJob : (Key → Request) → Job → Type 0
IsOwnJob requests job = let r = requests job.key in (job.file ≡ r.file) × (job.op ≡ r.op)

-- a job that comes is that of its key's request
abbrev pub PutsOwn : (Key → Request) → StationCall → Type 0
PutsOwn requests (puts job None) = IsOwnJob requests job
PutsOwn requests _ = Unit {0}

-- the job that comes, where one does
abbrev pub job_come : StationCall → List Job
job_come (puts job None) = job ∷ []
job_come _ = []

-- a job's request, as far as a station knows it
abbrev pub job_request : Job → Request
job_request job = record { device = 0; file = job.file; completion = job.completion; op = job.op }

-- what stands for the request of a key under which no job came
abbrev pub no_job_request : Request
no_job_request = record { device = 0; file = 0; completion = 0; op = Close }

-- the request of the first job that came under a key
abbrev pub request_put : List StationCall → Key → Request
request_put calls key = option_map_or job_request (find (λ (job : Job). is_key job.key key) (flat_map job_come calls)) no_job_request
