-- A desk: a station as an object, which its reader, its writer and many hands call one after the other. No public standard has one: these are this
-- project's own rules.
use Rattle.std.specs.Prelude.{◌≡◌, ◌≢◌, ◌≤◌, ◌↔◌, ℕ, Bool, nat_lt, if◌then◌else◌, List, [], ◌∷◌, ◌++◌, length, map, Some, None, Ok, Err, IsTrue}
use Rattle.std.specs.List.{flat_map}
use Rattle.rd_drive.specs.declared.plan.Job.{Job}
use Rattle.rd_drive.specs.declared.step.Step.{Step}
use Rattle.rd_drive.specs.declared.step.End.{End}
use Rattle.rd_drive.specs.Device.{Parked}
use Rattle.rd_drive.specs.Planned.{Planned}
use Rattle.rd_station.specs.declared.answers.Applied.{Applied}
use Rattle.rd_station.specs.declared.answers.Given.TheVariants as given
use Rattle.rd_station.specs.Station.{StationCall, StationState, StationSteps, announces, applies, collects, drops, ends, puts, puts_unfit, removes, takes}
use Rattle.rd_turn.specs.declared.object.Entry.{Entry}
use Rattle.rd_desk.specs.declared.batch.Run.{Run}
use Rattle.rd_desk.specs.declared.calls.DeskCall.{DeskCall}
use Rattle.rd_desk.specs.declared.calls.DeskCall.TheVariants as call
use Rattle.rd_desk.specs.declared.calls.DeskReply.{DeskReply}
use Rattle.rd_desk.specs.declared.calls.DeskReply.TheVariants as reply
use Rattle.rd_desk.specs.Batch.{WorkedState}

-- the most jobs that a hand is given in one call
abbrev pub most_given : ℕ
most_given = 4

-- ---- which calls of the station an entry tells

-- plans are given back one after the other, and this came of them
abbrev pub applied_calls : List Run → List Applied → List StationCall
applied_calls [] answers = []
applied_calls (run ∷ runs) [] = []
applied_calls (run ∷ runs) (answer ∷ answers) = applies run.plan run.moment answer ∷ applied_calls runs answers

-- Jobs are taken one after the other. Where they are fewer than a hand may be given, the next time none was given.
abbrev pub taken_calls : List Job → Bool → List StationCall
taken_calls jobs over =
    map (λ (job : Job). takes (given.Job job)) jobs
    ++ (if nat_lt (length jobs) most_given then takes (if over then given.Over else given.Nothing) ∷ [] else [])

-- the job that a call puts, where it puts one
abbrev pub job_put : DeskCall → List Job
job_put (call.Put job) = job ∷ []
job_put _ = []

-- the plans that a call gives back
abbrev pub runs_of : DeskCall → List Run
runs_of (call.Work runs) = runs
runs_of _ = []

-- the calls of the station that a call of the desk makes, by its reply, in their order
abbrev pub told_by : DeskCall → DeskReply → List StationCall
told_by asked (reply.Announced answer) = announces answer ∷ []
told_by asked (reply.Put (Ok done)) = map (λ (job : Job). puts job None) (job_put asked)
told_by asked (reply.Put (Err refusal)) = map (λ (job : Job). puts job (Some refusal)) (job_put asked)
told_by asked (reply.Unfit back) = map (λ (job : Job). puts_unfit job back) (job_put asked)
told_by asked (reply.Worked w) = applied_calls (runs_of asked) w.applied ++ taken_calls w.jobs w.over
told_by asked (reply.Collected answer) = collects answer ∷ []
told_by asked (reply.Removed answer) = removes answer ∷ []
told_by asked reply.Dropped = drops ∷ []
told_by asked reply.Ended = ends ∷ []

-- the calls of the station that the entries of a desk's history tell, in their order
abbrev pub told_calls : List (Entry DeskCall DeskReply) → List StationCall
told_calls entries = flat_map (λ (e : Entry DeskCall DeskReply). told_by e.call e.reply) entries

-- ---- the calls

-- What a hand is given beside the calls that it makes: an answer for each plan, few jobs, and what is true of the station that it leaves.
pub record IsWorked {S : Type 0} (runs : List Run) (w : WorkedState) (new : StationState S) : Type 0 where
  pub answers : length w.applied ≡ length runs
  pub few : length w.jobs ≤ most_given
  pub left : IsTrue w.left ↔ (new.waiting ≢ [])
  pub ready : IsTrue w.ready ↔ (new.ready ≢ [])
  pub over : w.over ≡ new.ended

module _ {S : Type 0} where
  -- the reply is one to the call
  abbrev pub Replies : DeskCall → DeskReply → StationState S → Type 0
  Replies call.Announce (reply.Announced answer) new = Unit {0}
  Replies (call.Put job) (reply.Put answer) new = Unit {0}
  Replies (call.Put job) (reply.Unfit back) new = Unit {0}
  Replies (call.Work runs) (reply.Worked w) new = IsWorked runs w new
  Replies call.Collect (reply.Collected answer) new = Unit {0}
  Replies call.Remove (reply.Removed answer) new = Unit {0}
  Replies call.DropChannel reply.Dropped new = Unit {0}
  Replies call.End reply.Ended new = Unit {0}
  Replies _ _ new = ⊥

-- The station of a desk before a call and after it, over a device by its relations: it goes by the calls that this one tells.
abbrev pub DeskStep : {S : Type 0} → (S → Planned → ℕ → Step → List End → S → Type 0) → (S → List Parked) → (S → S → Type 0) → StationState S → DeskCall → DeskReply → StationState S → Type 0
DeskStep Runs parked Cuts old call reply new = StationSteps Runs parked Cuts old (told_by call reply) new × Replies call reply new
