-- The jobs that a station holds, by how far they got, as the code keeps them.
use Rattle.std.specs.Prelude.{◌≡◌, ℕ, ◌+◌, ◌*◌, ◌<◌, List, [], ◌∷◌, ◌++◌, Contains, Some, false, length, if◌then◌else◌}
use Rattle.std.specs.List.{AllByRecursion}
use Rattle.std.specs.Map.{lookup}
use Rattle.std.specs.Ordering.{nat_cmp}
use Rattle.std.specs.BTreeMap.{is_at}
use Rattle.rd_base.specs.declared.journal.Key.{Key}
use Rattle.rd_drive.specs.declared.plan.Job.{Job}
use Rattle.rd_drive.specs.declared.step.End.{End}
use Rattle.rd_station.specs.declared.answers.Completion.{Completion}
use Rattle.rd_station.specs.declared.held.InHand.{InHand}
use Rattle.rd_station.specs.declared.held.ParkedJob.{ParkedJob}
use Rattle.rd_station.specs.Station.{completion_of, is_key}

-- the four lists of a station, and the key of each job that is held by its completion id
pub record Queues : Type 0 where
  pub waiting : List Job
  pub taken : List InHand
  pub parked : List ParkedJob
  pub ready : List Completion
  pub keys : List (ℕ × Key)

-- nothing is held
abbrev pub no_jobs : Queues
no_jobs = record { waiting = []; taken = []; parked = []; ready = []; keys = [] }

-- how many jobs are held
abbrev pub job_count : Queues → ℕ
job_count q = length q.waiting + length q.taken + length q.parked + length q.ready

-- how many entries of the journal they still need: two for each job that hasn't run, and one for each other
abbrev pub owed_count : Queues → ℕ
owed_count q = 2 * (length q.waiting + length q.taken) + length q.parked + length q.ready

-- a job as it is in a hand
abbrev pub in_hand : Job → InHand
in_hand job = record { key = job.key; completion = job.completion; removed = false }

-- What ends make of the jobs that wait inside a device, both in the order in which they began to wait: what becomes ready, what waits on, and the ends
-- that are of none of them.
abbrev pub settled_jobs : List ParkedJob → List End → List Completion × List ParkedJob × List End
settled_jobs [] ends = ([], [], ends)
settled_jobs (p ∷ parked) [] = ([], p ∷ parked, [])
settled_jobs (p ∷ parked) (end ∷ ends) =
    if is_key p.key end.key then (let later = settled_jobs parked ends in (completion_of p.key p.completion p.kind end.reply ∷ later.0, later.1, later.2))
    else (let later = settled_jobs parked (end ∷ ends) in (later.0, p ∷ later.1, later.2))

-- keys whose indices rise
abbrev pub AreRising : List Key → Type 0
AreRising [] = Unit {0}
AreRising (key ∷ keys) = AllByRecursion (λ (later : Key). key.index < later.index) keys × AreRising keys

-- The key of each job that is held, and of no other, is found by its completion id.
pub record AreKeys (keys : List (ℕ × Key)) (jobs : List (Key × ℕ)) : Type 0 where
  pub of_held : (job : Key × ℕ) → Contains jobs job → lookup (is_at (nat_cmp job.1)) keys ≡ Some job.0
  pub held : (id : ℕ) (key : Key) → lookup (is_at (nat_cmp id)) keys ≡ Some key → Contains jobs (key, id)

-- What the next end makes of the first of the jobs that wait inside a device: it is ready where the end is its own, and else waits after the others.
abbrev pub by_first : ParkedJob → List ParkedJob → List Completion → List End → List ParkedJob × List Completion × List End
by_first job jobs ready [] = (jobs ++ job ∷ [], ready, [])
by_first job jobs ready (end ∷ ends) =
    if is_key job.key end.key then (jobs, ready ++ completion_of job.key job.completion job.kind end.reply ∷ [], ends)
    else (jobs ++ job ∷ [], ready, end ∷ ends)
