-- Each run of a history is of the job that came under its key, at the moment that was told.
use Rattle.std.proofs.Common.{◌≡◌, ◌∙◌, refl, sym, ap, subst, inl, inr, ℕ, ◌≤◌, ◌==◌, Bool, true, false, cond, List, [], ◌∷◌, ◌++◌, map, append_assoc, append-nil, arith, eq-eqb}
use Rattle.std.specs.Prelude.{All, Contains, Err, IfSome, None, Ok, Option, Some, find, nat_lt, length}
use Rattle.std.specs.List.{AllByRecursion, flat_map}
use Rattle.std.specs.Option.{option_map_or}
use Rattle.std.proofs.lemmas.List.Elements.{All-contains, All-from_recursion, All-weaker, recursion_from_All}
use Rattle.rd_base.specs.declared.journal.Item.TheVariants.{Came}
use Rattle.rd_base.specs.declared.journal.Key.{Key}
use Rattle.rd_base.specs.Lawful.{IsBelow, RunsAt, named_key}
use Rattle.rd_irp.specs.declared.op.Op.{Op}
use Rattle.rd_irp.specs.declared.request.Request.{Request}
use Rattle.rd_drive.specs.declared.plan.Job.{Job}
use Rattle.rd_drive.specs.declared.step.Step.{Step}
use Rattle.rd_drive.specs.declared.step.End.{End}
use Rattle.rd_drive.specs.Device.{Parked}
use Rattle.rd_drive.specs.Planned.{Planned}
use Rattle.rd_drive.specs.Stepped.{Settled, Stepped}
use Rattle.rd_station.specs.declared.answers.Applied.{Applied}
use Rattle.rd_station.specs.declared.answers.Given.TheVariants as given
use Rattle.rd_station.specs.Station.{StationCall, StationState, StationStep, StationSteps, announces, applies, collects, drops, ends, is_key, new_station, puts, puts_unfit, removes, takes}
use Rattle.rd_station.specs.Tied.{IsRunBy, IsTied, RunsOwn}
use Rattle.rd_station.proofs.Members.{Has, all_of, from_contains, has_append, has_left, has_map, has_right, key_self, same_key, to_contains}
use Rattle.rd_turn.specs.declared.object.Entry.{Entry}
use Rattle.rd_turn.specs.History.{Leads, calls_of}
use Rattle.rd_turn.proofs.HistoryLemmas.{by_at, calls_of-at}
use Rattle.rd_desk.specs.declared.batch.Run.{Run}
use Rattle.rd_desk.specs.declared.calls.DeskCall.{DeskCall}
use Rattle.rd_desk.specs.declared.calls.DeskReply.{DeskReply}
use Rattle.rd_desk.specs.declared.calls.DeskReply.TheVariants as reply
use Rattle.rd_desk.specs.Desk.{DeskStep, applied_calls, job_put, most_given, runs_of, taken_calls, told_calls, told_by}
use Rattle.rd_desk.specs.Own.{GivesBackAt, GivesOwnBack, HasMoment, IsOwnJob, PutsOwn, WereGiven, given_to, job_come, jobs_back, jobs_given, no_job_request, job_request, request_put}
use Rattle.rd_station.proofs.Tying.{all_tied}
use Rattle.rd_desk.proofs.StepLemmas.{led_steps}
use Rattle.rd_desk.proofs.OwnLemmas.{given_append}
use Rattle.rd_desk.proofs.WaitingLemmas.{IsThen, came_now, given_waited, moment_of, step_goes}

abbrev E : Type 0
E = Entry DeskCall DeskReply

-- ---- facts of each member

all_left : {X : Type 0} (P : X → Type 0) (xs ys : List X) → AllByRecursion P (xs ++ ys) → AllByRecursion P xs
all_left P [] ys all = tt
all_left P (x ∷ xs) ys all = (all.0, all_left P xs ys all.1)

all_right : {X : Type 0} (P : X → Type 0) (xs ys : List X) → AllByRecursion P (xs ++ ys) → AllByRecursion P ys
all_right P [] ys all = all
all_right P (x ∷ xs) ys all = all_right P xs ys all.1

all_both : {X : Type 0} (P : X → Type 0) (xs ys : List X) → AllByRecursion P xs → AllByRecursion P ys → AllByRecursion P (xs ++ ys)
all_both P [] ys left right = right
all_both P (x ∷ xs) ys left right = (left.0, all_both P xs ys left.1 right)

all_has : {X : Type 0} (P : X → Type 0) (xs : List X) → AllByRecursion P xs → (x : X) → Has x xs → P x
all_has P (y ∷ xs) all x (inl same) = subst P (sym same) all.0
all_has P (y ∷ xs) all x (inr later) = all_has P xs all.1 x later
all_has P [] all x none = absurd none

-- ---- what a call of the desk tells

-- a call of a station that gives back no plan
abbrev IsIdle : StationCall → Type 0
IsIdle (applies planned moment answer) = ⊥
IsIdle _ = Unit {0}

-- What holds of each call of a station that gives back no plan, and of each that gives back one of these, holds of each that a call of the desk tells.
module _ (P : StationCall → Type 0) (idle : (c : StationCall) → IsIdle c → P c) where
  applies_each : (runs : List Run) (answers : List Applied) → ((run : Run) (answer : Applied) → Has run runs → P (applies run.plan run.moment answer)) → AllByRecursion P (applied_calls runs answers)
  applies_each [] answers each = tt
  applies_each (run ∷ runs) [] each = tt
  applies_each (run ∷ runs) (answer ∷ answers) each = (each run answer (inl refl), applies_each runs answers (λ r a has. each r a (inr has)))

  takes_each : (jobs : List Job) (last : List StationCall) → AllByRecursion P last → AllByRecursion P (map (λ (job : Job). takes (given.Job job)) jobs ++ last)
  takes_each [] last all = all
  takes_each (job ∷ jobs) last all = (idle (takes (given.Job job)) tt, takes_each jobs last all)

  last_each : (b over : Bool) → AllByRecursion P (cond b (takes (cond over given.Over given.Nothing) ∷ []) [])
  last_each true over = (idle (takes (cond over given.Over given.Nothing)) tt, tt)
  last_each false over = tt

  puts_each : (jobs : List Job) (f : Job → StationCall) → ((job : Job) → IsIdle (f job)) → AllByRecursion P (map f jobs)
  puts_each [] f each = tt
  puts_each (job ∷ jobs) f each = (idle (f job) (each job), puts_each jobs f each)

  told_each : (asked : DeskCall) (answer : DeskReply) → ((run : Run) (done : Applied) → Has run (runs_of asked) → P (applies run.plan run.moment done)) → AllByRecursion P (told_by asked answer)
  told_each asked (reply.Announced r) each = (idle (announces r) tt, tt)
  told_each asked (reply.Put (Ok done)) each = puts_each (job_put asked) (λ job. puts job None) (λ job. tt)
  told_each asked (reply.Put (Err refusal)) each = puts_each (job_put asked) (λ job. puts job (Some refusal)) (λ job. tt)
  told_each asked (reply.Unfit back) each = puts_each (job_put asked) (λ job. puts_unfit job back) (λ job. tt)
  told_each asked (reply.Worked w) each = all_both P (applied_calls (runs_of asked) w.applied) (taken_calls w.jobs w.over)
      (applies_each (runs_of asked) w.applied each) (takes_each w.jobs (cond (nat_lt (length w.jobs) most_given) (takes (cond w.over given.Over given.Nothing) ∷ []) []) (last_each (nat_lt (length w.jobs) most_given) w.over))
  told_each asked (reply.Collected r) each = (idle (collects r) tt, tt)
  told_each asked (reply.Removed r) each = (idle (removes r) tt, tt)
  told_each asked reply.Dropped each = (idle drops tt, tt)
  told_each asked reply.Ended each = (idle ends tt, tt)

module _ (requests : Key → Request) where
  -- a job that comes is its request's
  comes_own : (c : StationCall) → PutsOwn requests c → (job : Job) → Has job (job_come c) → IsOwnJob requests job
  comes_own (puts j None) own job (inl same) = subst (IsOwnJob requests) (sym same) own
  comes_own (puts j None) own job (inr none) = absurd none
  comes_own (puts j (Some refusal)) own job none = absurd none
  comes_own (announces r) own job none = absurd none
  comes_own (puts_unfit j back) own job none = absurd none
  comes_own (takes r) own job none = absurd none
  comes_own (applies p moment r) own job none = absurd none
  comes_own (collects r) own job none = absurd none
  comes_own (removes r) own job none = absurd none
  comes_own drops own job none = absurd none
  comes_own ends own job none = absurd none

  -- a job that is given is its request's
  abbrev GivesOwn : StationCall → Type 0
  GivesOwn (takes (given.Job job)) = IsOwnJob requests job
  GivesOwn _ = Unit {0}

  -- so a call of the desk that gives back such jobs runs its requests
  idle_own : (c : StationCall) → IsIdle c → RunsOwn requests c
  idle_own (announces r) is = tt
  idle_own (puts j r) is = tt
  idle_own (puts_unfit j back) is = tt
  idle_own (takes r) is = tt
  idle_own (applies p moment r) is = absurd is
  idle_own (collects r) is = tt
  idle_own (removes r) is = tt
  idle_own drops is = tt
  idle_own ends is = tt

  told_own : (asked : DeskCall) (answer : DeskReply) → ((job : Job) → Has job (jobs_back asked) → IsOwnJob requests job) → AllByRecursion (RunsOwn requests) (told_by asked answer)
  told_own asked answer own = told_each (RunsOwn requests) idle_own asked answer (λ run done has. λ did. own run.plan.job (has_map (λ (r : Run). r.plan.job) run (runs_of asked) has))

  -- what the takes of a call give
  takes_give : (jobs : List Job) (last : List StationCall) → AllByRecursion GivesOwn (map (λ (job : Job). takes (given.Job job)) jobs ++ last) → (job : Job) → Has job jobs → IsOwnJob requests job
  takes_give (j ∷ jobs) last all job (inl same) = subst (IsOwnJob requests) (sym same) all.0
  takes_give (j ∷ jobs) last all job (inr later) = takes_give jobs last all.1 job later
  takes_give [] last all job none = absurd none

  given_own : (asked : DeskCall) (answer : DeskReply) → AllByRecursion GivesOwn (told_by asked answer) → (job : Job) → Has job (jobs_given answer) → IsOwnJob requests job
  given_own asked (reply.Worked w) all job has = takes_give w.jobs (cond (nat_lt (length w.jobs) most_given) (takes (cond w.over given.Over given.Nothing) ∷ []) [])
      (all_right GivesOwn (applied_calls (runs_of asked) w.applied) (taken_calls w.jobs w.over) all) job has
  given_own asked (reply.Announced r) all job none = absurd none
  given_own asked (reply.Put r) all job none = absurd none
  given_own asked (reply.Unfit back) all job none = absurd none
  given_own asked (reply.Collected r) all job none = absurd none
  given_own asked (reply.Removed r) all job none = absurd none
  given_own asked reply.Dropped all job none = absurd none
  given_own asked reply.Ended all job none = absurd none

  module _ {S : Type 0} (Runs : S → Planned → ℕ → Step → List End → S → Type 0) (parked : S → List Parked) (Cuts : S → S → Type 0) where
    -- what waits is its request's
    abbrev WaitsOwn : StationState S → Type 0
    WaitsOwn s = (job : Job) → Has job s.waiting → IsOwnJob requests job

    step_gives : (old new : StationState S) (c : StationCall) → StationStep Runs parked Cuts old c new → WaitsOwn old → GivesOwn c
    step_gives old new (takes (given.Job job)) e own = own job (given_waited old Runs parked Cuts new job e)
    step_gives old new (takes given.Nothing) e own = tt
    step_gives old new (takes given.Over) e own = tt
    step_gives old new (announces r) e own = tt
    step_gives old new (puts j r) e own = tt
    step_gives old new (puts_unfit j back) e own = tt
    step_gives old new (applies p moment r) e own = tt
    step_gives old new (collects r) e own = tt
    step_gives old new (removes r) e own = tt
    step_gives old new drops e own = tt
    step_gives old new ends e own = tt

    steps_give : (calls : List StationCall) (old new : StationState S) → StationSteps Runs parked Cuts old calls new → WaitsOwn old → AllByRecursion (PutsOwn requests) calls → WaitsOwn new × AllByRecursion GivesOwn calls
    steps_give [] old new e own puts_own = (subst WaitsOwn (sym e) own, tt)
    steps_give (c ∷ calls) old new e own puts_own =
        let goes = step_goes old Runs parked Cuts e.0 c e.1 in
        let next : WaitsOwn e.0 = λ job has. elim (goes.waits job has) [ inl before ↦ own job before | inr came ↦ comes_own c puts_own.0 job came ] in
        let later = steps_give calls e.0 new e.2 next puts_own.1 in
        (later.0, (step_gives old e.0 c e.1 own, later.1))

    -- Where each call gives back what was given before, each run is of its key's request.
    led_own : (all before later : List E) (here t : StationState S) → all ≡ before ++ later → Leads (DeskStep Runs parked Cuts) here later t → WaitsOwn here → ((job : Job) → Has job (given_to before) → IsOwnJob requests job)
        → ((b l : List E) (e : E) → all ≡ b ++ e ∷ l → WereGiven b (jobs_back e.call)) → AllByRecursion (PutsOwn requests) (told_calls later) → AllByRecursion (RunsOwn requests) (told_calls later)
    led_own all before [] here t is leads own given gives puts_own = tt
    led_own all before (e ∷ later) here t is leads own given gives puts_own =
        let goes = steps_give (told_by e.call e.reply) here leads.0 leads.1.0 own (all_left (PutsOwn requests) (told_by e.call e.reply) (told_calls later) puts_own) in
        let back : (job : Job) → Has job (jobs_back e.call) → IsOwnJob requests job = λ job has. given job (from_contains (given_to before) job (All-contains (Contains (given_to before)) (jobs_back e.call) job (gives before later e is) (to_contains (jobs_back e.call) job has))) in
        let next : (job : Job) → Has job (given_to (before ++ e ∷ [])) → IsOwnJob requests job = λ job has.
        elim (has_append job (given_to before) (jobs_given e.reply) (subst (Has job) (given_append before (e ∷ []) ∙ ap (λ l. given_to before ++ l) (append-nil (jobs_given e.reply))) has)) [
          | inl earlier ↦ given job earlier
          | inr now ↦ given_own e.call e.reply goes.1 job now
        ] in
        all_both (RunsOwn requests) (told_by e.call e.reply) (told_calls later) (told_own e.call e.reply back)
        (led_own all (before ++ e ∷ []) later leads.0 t (is ∙ sym (append_assoc before (e ∷ []) later)) leads.2 goes.0 next gives (all_right (PutsOwn requests) (told_by e.call e.reply) (told_calls later) puts_own))

-- what a pass was given was given
given_among : (number : ℕ) (entries : List E) (job : Job) → Has job (given_to (calls_of number entries)) → Has job (given_to entries)
given_among number [] job none = absurd none
given_among number (e ∷ entries) job has = by (e.by == number) (given_among number entries job) has
  where
    by : (b : Bool) → (Has job (given_to (calls_of number entries)) → Has job (given_to entries)) → Has job (given_to (cond b (e ∷ calls_of number entries) (calls_of number entries))) → Has job (given_to (e ∷ entries))
    by true among has = elim (has_append job (jobs_given e.reply) (given_to (calls_of number entries)) has) [
      | inl here ↦ has_left job (jobs_given e.reply) (given_to entries) here
      | inr later ↦ has_right job (jobs_given e.reply) (given_to entries) (among later)
    ]
    by false among has = has_right job (jobs_given e.reply) (given_to entries) (among has)

-- where each pass gives back what it was given, so does each call of the whole history
whole_gives : (most : ℕ) (entries : List E) → All (λ (e : E). e.by ≤ most) entries → ((number : ℕ) → number ≤ most → GivesOwnBack (calls_of number entries))
    → (b l : List E) (e : E) → entries ≡ b ++ e ∷ l → WereGiven b (jobs_back e.call)
whole_gives most entries few gives b l e is =
    All-weaker (Contains (given_to (calls_of e.by b))) (Contains (given_to b)) (λ job has. to_contains (given_to b) job (given_among e.by b job (from_contains (given_to (calls_of e.by b)) job has))) (jobs_back e.call)
    ((gives e.by (by_at most entries b l e few is)).each (calls_of e.by b) (calls_of e.by l) e (calls_of-at entries b l e is))

pub history_own : {S : Type 0} (Runs : S → Planned → ℕ → Step → List End → S → Type 0) (parked : S → List Parked) (Cuts : S → S → Type 0) (requests : Key → Request) (s t : StationState S) (entries : List E) (most : ℕ)
    → Leads (DeskStep Runs parked Cuts) s entries t → All (λ (e : E). e.by ≤ most) entries → ((number : ℕ) → number ≤ most → GivesOwnBack (calls_of number entries))
    → AllByRecursion (IsOwnJob requests) s.waiting → AllByRecursion (PutsOwn requests) (told_calls entries) → AllByRecursion (RunsOwn requests) (told_calls entries)
history_own Runs parked Cuts requests s t entries most leads few gives waiting puts_own =
    led_own requests Runs parked Cuts entries [] entries s t refl leads (all_has (IsOwnJob requests) s.waiting waiting) (λ job none. absurd none) (whole_gives most entries few gives) puts_own

-- ---- each key has one job

-- a job of another key isn't found
find_past : (key : Key) (before xs : List Job) → ((job : Job) → Has job before → is_key job.key key ≡ false) → find (λ (job : Job). is_key job.key key) (before ++ xs) ≡ find (λ (job : Job). is_key job.key key) xs
find_past key [] xs others = refl
find_past key (j ∷ before) xs others =
    ap (λ b. cond {A = Option Job} b (Some j) (find (λ (job : Job). is_key job.key key) (before ++ xs))) (others j (inl refl)) ∙ find_past key before xs (λ job has. others job (inr has))

not_below : (k : Key) → IsBelow k k → ⊥
not_below k (inl less) = omega (arith, less)
not_below k (inr less) = omega (arith, less.1)

below_other : (k key : Key) → IsBelow k key → is_key k key ≡ false
below_other k key below = by (is_key k key) refl
  where
    by : (b : Bool) → is_key k key ≡ b → is_key k key ≡ false
    by true e = absurd (not_below key (subst (λ (x : Key). IsBelow x key) (same_key k key e) below))
    by false e = e

abbrev request_in : List Job → Key → Request
request_in jobs key = option_map_or job_request (find (λ (job : Job). is_key job.key key) jobs) no_job_request

-- the job that comes after those of other keys is the one of its key
found_own : (before later : List Job) (job : Job) → ((j : Job) → Has j before → IsBelow j.key job.key) → IsOwnJob (request_in (before ++ job ∷ later)) job
found_own before later job below =
    let past = find_past job.key before (job ∷ later) (λ j has. below_other j.key job.key (below j has)) in
    let here : find (λ (j : Job). is_key j.key job.key) (job ∷ later) ≡ Some job = ap (λ b. cond {A = Option Job} b (Some job) (find (λ (j : Job). is_key j.key job.key) later)) (key_self job.key) in
    let is : request_in (before ++ job ∷ later) job.key ≡ job_request job = ap (λ o. option_map_or job_request o no_job_request) (past ∙ here) in
    (ap (λ (r : Request). r.file) (sym is), ap (λ (r : Request). r.op) (sym is))

module _ {S : Type 0} (Runs : S → Planned → ℕ → Step → List End → S → Type 0) (parked : S → List Parked) (Cuts : S → S → Type 0) where
  -- the journal names the key of each of these jobs
  abbrev AreNamed : List Job → StationState S → Type 0
  AreNamed jobs s = (job : Job) → Has job jobs → Has (Came job.key) s.journal

  call_own : (all before later : List Job) (old new : StationState S) (c : StationCall) → all ≡ before ++ (job_come c ++ later) → AreNamed before old → StationStep Runs parked Cuts old c new → PutsOwn (request_in all) c
  call_own all before later old new (puts job None) is named e = subst (λ (jobs : List Job). IsOwnJob (request_in jobs) job) (sym is)
      (found_own before later job (λ j has. All-contains (λ entry. IfSome (named_key entry) (λ earlier. IsBelow earlier job.key)) old.journal (Came j.key) e.0.above (to_contains old.journal (Came j.key) (named j has))))
  call_own all before later old new (puts job (Some refusal)) is named e = tt
  call_own all before later old new (announces r) is named e = tt
  call_own all before later old new (puts_unfit j back) is named e = tt
  call_own all before later old new (takes r) is named e = tt
  call_own all before later old new (applies p moment r) is named e = tt
  call_own all before later old new (collects r) is named e = tt
  call_own all before later old new (removes r) is named e = tt
  call_own all before later old new drops is named e = tt
  call_own all before later old new ends is named e = tt

  all_own : (all before : List Job) (calls : List StationCall) (old new : StationState S) → all ≡ before ++ flat_map job_come calls → AreNamed before old → StationSteps Runs parked Cuts old calls new → AllByRecursion (PutsOwn (request_in all)) calls
  all_own all before [] old new is named e = tt
  all_own all before (c ∷ calls) old new is named e =
      let goes = step_goes old Runs parked Cuts e.0 c e.1 in
      let next : AreNamed (before ++ job_come c) e.0 = λ job has. elim (has_append job before (job_come c) has) [
        | inl earlier ↦ subst (Has (Came job.key)) (sym goes.grows) (has_left (Came job.key) old.journal goes.more (named job earlier))
        | inr now ↦ came_now old Runs parked Cuts e.0 c e.1 job now
      ] in
      (call_own all before (flat_map job_come calls) old e.0 c is named e.1, all_own all (before ++ job_come c) calls e.0 new (is ∙ sym (append_assoc before (job_come c) (flat_map job_come calls))) next e.2)

  pub puts_are_own : (calls : List StationCall) (old new : StationState S) → StationSteps Runs parked Cuts old calls new → AllByRecursion (PutsOwn (request_put calls)) calls
  puts_are_own calls old new steps = all_own (flat_map job_come calls) [] calls old new refl (λ job none. absurd none) steps

-- So over a new station of a device that a step and a cut compute, the station is tied to its journal by the requests of the jobs that came.
pub history_tied : {S : Type 0} (Runs : S → Planned → ℕ → Step → List End → S → Type 0) (parked : S → List Parked) (Cuts : S → S → Type 0) (step : S → Key → ℕ → Op → ℕ → Stepped S) (cut : S → Settled S) (device : S) (t : StationState S) (entries : List E)
    (most : ℕ) → IsRunBy step cut Runs parked Cuts → parked device ≡ [] → Leads (DeskStep Runs parked Cuts) (new_station device) entries t → All (λ (e : E). e.by ≤ most) entries
    → ((number : ℕ) → number ≤ most → GivesOwnBack (calls_of number entries)) → IsTied step cut (request_put (told_calls entries)) device t
history_tied Runs parked Cuts step cut device t entries most by_step nothing leads few gives =
    let steps = led_steps Runs parked Cuts (new_station device) t entries leads in
    all_tied step cut (request_put (told_calls entries)) Runs parked Cuts by_step device (told_calls entries) t nothing
    (history_own Runs parked Cuts (request_put (told_calls entries)) (new_station device) t entries most leads few gives tt (puts_are_own Runs parked Cuts (told_calls entries) (new_station device) t steps)) steps

-- ---- at which moment each run is

module _ (told : ℕ) where
  -- what a call runs it runs at the moment that was told
  abbrev RunsThen : StationCall → Type 0
  RunsThen c = IsThen told (moment_of c)

  idle_then : (c : StationCall) → IsIdle c → RunsThen c
  idle_then (announces r) is = tt
  idle_then (puts j r) is = tt
  idle_then (puts_unfit j back) is = tt
  idle_then (takes r) is = tt
  idle_then (applies p moment r) is = absurd is
  idle_then (collects r) is = tt
  idle_then (removes r) is = tt
  idle_then drops is = tt
  idle_then ends is = tt

  told_then : (entries : List E) → AllByRecursion (λ (e : E). All (HasMoment (Some told)) (runs_of e.call)) entries → AllByRecursion RunsThen (told_calls entries)
  told_then [] at = tt
  told_then (e ∷ entries) at = all_both RunsThen (told_by e.call e.reply) (told_calls entries)
      (told_each RunsThen idle_then e.call e.reply (λ run done has. All-contains (HasMoment (Some told)) (runs_of e.call) run at.0 (to_contains (runs_of e.call) run has))) (told_then entries at.1)

  -- what stands in the whole history stands among the calls of its pass
  among_own : (e : E) (entries : List E) → Has e entries → Has e (calls_of e.by entries)
  among_own e [] none = absurd none
  among_own e (x ∷ entries) (inl same) = subst (λ (b : Bool). Has e (cond b (x ∷ calls_of e.by entries) (calls_of e.by entries))) (sym (eq-eqb x.by e.by (ap (λ (y : E). y.by) (sym same)))) (inl same)
  among_own e (x ∷ entries) (inr later) = by (x.by == e.by) (among_own e entries later)
    where
      by : (b : Bool) → Has e (calls_of e.by entries) → Has e (cond b (x ∷ calls_of e.by entries) (calls_of e.by entries))
      by true among = inr among
      by false among = among

  -- where each call of each pass gives back at that moment, so does each of the whole history
  whole_then : (most : ℕ) (entries : List E) → All (λ (e : E). e.by ≤ most) entries → ((number : ℕ) → number ≤ most → GivesBackAt (Some told) (calls_of number entries)) → GivesBackAt (Some told) entries
  whole_then most entries few at = all_of (λ (e : E). All (HasMoment (Some told)) (runs_of e.call)) entries (λ e has.
      All-contains (λ (x : E). All (HasMoment (Some told)) (runs_of x.call)) (calls_of e.by entries) e (at e.by (All-contains (λ (x : E). x.by ≤ most) entries e few (to_contains entries e has)))
      (to_contains (calls_of e.by entries) e (among_own e entries has)))

  module _ {S : Type 0} (Runs : S → Planned → ℕ → Step → List End → S → Type 0) (parked : S → List Parked) (Cuts : S → S → Type 0) where
    steps_then : (calls : List StationCall) (old new : StationState S) → StationSteps Runs parked Cuts old calls new → AllByRecursion RunsThen calls → AllByRecursion (RunsAt told) old.journal → AllByRecursion (RunsAt told) new.journal
    steps_then [] old new e at before = subst (λ (s : StationState S). AllByRecursion (RunsAt told) s.journal) (sym e) before
    steps_then (c ∷ calls) old new e at before =
        let goes = step_goes old Runs parked Cuts e.0 c e.1 in
        steps_then calls e.0 new e.2 at.1 (subst (AllByRecursion (RunsAt told)) (sym goes.grows) (all_both (RunsAt told) old.journal goes.more before (goes.runs told at.0)))

    pub history_then : (s t : StationState S) (entries : List E) (most : ℕ) → Leads (DeskStep Runs parked Cuts) s entries t → All (λ (e : E). e.by ≤ most) entries
        → ((number : ℕ) → number ≤ most → GivesBackAt (Some told) (calls_of number entries)) → All (RunsAt told) s.journal → All (RunsAt told) t.journal
    history_then s t entries most leads few at before =
        All-from_recursion (RunsAt told) t.journal (steps_then (told_calls entries) s t (led_steps Runs parked Cuts s t entries leads)
        (told_then entries (recursion_from_All (λ (e : E). All (HasMoment (Some told)) (runs_of e.call)) entries (whole_then most entries few at)))
        (recursion_from_All (RunsAt told) s.journal before))
