-- Where each pass of a desk gives back what it was given, what holds of each job that comes holds of each that is given back.
use Rattle.std.proofs.Common.{◌≡◌, ◌∙◌, refl, sym, ap, subst, inl, inr, ℕ, ◌==◌, Bool, true, false, cond, List, [], ◌∷◌, ◌++◌, map, append_assoc, append-nil}
use Rattle.std.specs.Prelude.{All, Contains, Err, None, Ok, Some, nat_lt, length}
use Rattle.std.specs.List.{AllByRecursion}
use Rattle.std.proofs.lemmas.List.Elements.{All-contains, All-head, All-tail, All-weaker}
use Rattle.std.proofs.lemmas.Grind.{flat_map-append}
use Rattle.rd_desk.specs.Desk.{applied_calls, job_put, most_given, runs_of, taken_calls, told_by, told_calls}
use Rattle.rd_desk.specs.Own.{WereGiven, given_to, job_come, jobs_back, jobs_given}
use Rattle.rd_desk.specs.declared.batch.Run.{Run}
use Rattle.rd_desk.specs.declared.calls.DeskCall.{DeskCall}
use Rattle.rd_desk.specs.declared.calls.DeskCall.TheVariants as desk
use Rattle.rd_desk.specs.declared.calls.DeskReply.{DeskReply}
use Rattle.rd_desk.specs.declared.calls.DeskReply.TheVariants as replied
use Rattle.rd_desk.proofs.OwnLemmas.{given_append}
use Rattle.rd_desk.proofs.WaitingLemmas.{given_waited, step_goes}
use Rattle.rd_drive.specs.declared.plan.Job.{Job}
use Rattle.rd_drive.proofs.AllLemmas.{all_append}
use Rattle.rd_front.specs.State.{SessionDeskStep, SessionStation}
use Rattle.rd_refused.proofs.JournalsCallLemmas.{OfJob}
use Rattle.rd_station.specs.Station.{StationCall, StationStep, announces, applies, collects, drops, ends, puts, puts_unfit, removes, takes}
use Rattle.rd_station.specs.declared.answers.Applied.{Applied}
use Rattle.rd_station.specs.declared.answers.Given.TheVariants as given
use Rattle.rd_station.proofs.Members.{Has, from_contains, has_append, has_left, has_map, has_right, to_contains}
use Rattle.rd_turn.specs.declared.object.Entry.{Entry}
use Rattle.rd_turn.specs.History.{Leads, calls_of}
use Rattle.rd_turn.proofs.HistoryLemmas.{calls_of-append, calls_of-at}
use Rattle.rd_served.specs.Served.{IsHandCall}
use Rattle.rd_served.proofs.WorkLemmas.{Steps}
use Rattle.rd_served_replies.specs.Premises.{GivesOwn}
use Rattle.rd_served.specs.ServedDevices.{served_cuts, served_parked, served_runs}

abbrev Of : Type 0
Of = SessionStation

abbrev E : Type 0
E = Entry DeskCall DeskReply

-- ---- lists

pub all_left : {X : Type 0} (P : X → Type 0) (xs ys : List X) → AllByRecursion P (xs ++ ys) → AllByRecursion P xs
all_left P [] ys all = tt
all_left P (x ∷ xs) ys all = (all.0, all_left P xs ys all.1)

pub all_right : {X : Type 0} (P : X → Type 0) (xs ys : List X) → AllByRecursion P (xs ++ ys) → AllByRecursion P ys
all_right P [] ys all = all
all_right P (x ∷ xs) ys all = all_right P xs ys all.1

pub told_append : (xs ys : List E) → told_calls (xs ++ ys) ≡ told_calls xs ++ told_calls ys
told_append xs ys = flat_map-append (λ (e : E). told_by e.call e.reply) xs ys

-- what gives back its own did so before
pub own_before : (xs ys : List E) → GivesOwn (xs ++ ys) → GivesOwn xs
own_before xs ys gives number = record {
  each = λ before later e is. (gives number).each before (later ++ calls_of number ys) e
      (calls_of-append number xs ys ∙ ap (λ (es : List E). es ++ calls_of number ys) is ∙ append_assoc before (e ∷ later) (calls_of number ys));
}

-- ---- what a call of a desk tells

-- a call of a station by which no job comes, and none is given back
abbrev IsIdle : StationCall → Type 0
IsIdle (applies planned moment answer) = ⊥
IsIdle (puts job None) = ⊥
IsIdle _ = Unit {0}

module _ (P : StationCall → Type 0) (idle : (c : StationCall) → IsIdle c → P c) where
  applies_each : (runs : List Run) (answers : List Applied) → ((run : Run) (answer : Applied) → Has run runs → P (applies run.plan run.moment answer)) → AllByRecursion P (applied_calls runs answers)
  applies_each [] answers each = tt
  applies_each (run ∷ runs) [] each = tt
  applies_each (run ∷ runs) (answer ∷ answers) each = (each run answer (inl refl), applies_each runs answers (λ r a has. each r a (inr has)))

  takes_each : (jobs : List Job) (last : List StationCall) → AllByRecursion P last → AllByRecursion P (map (λ (job : Job). takes (given.Job job)) jobs ++ last)
  takes_each [] last all = all
  takes_each (job ∷ jobs) last all = (idle (takes (given.Job job)) tt, takes_each jobs last all)

  last_each : (b over : Bool) → AllByRecursion P (cond b (takes (cond over given.Over given.Nothing) ∷ []) [])
  last_each true over = (idle (takes (cond over given.Over given.Nothing)) tt, tt)
  last_each false over = tt

  map_each : (jobs : List Job) (f : Job → StationCall) → ((job : Job) → Has job jobs → P (f job)) → AllByRecursion P (map f jobs)
  map_each [] f each = tt
  map_each (job ∷ jobs) f each = (each job (inl refl), map_each jobs f (λ j has. each j (inr has)))

  told_each : (asked : DeskCall) (answer : DeskReply) → ((run : Run) (done : Applied) → Has run (runs_of asked) → P (applies run.plan run.moment done)) → ((done : Unit {0}) → answer ≡ replied.Put (Ok done) → (job : Job) → Has job (job_put asked) → P (puts job None))
      → AllByRecursion P (told_by asked answer)
  told_each asked (replied.Announced r) runs comes = (idle (announces r) tt, tt)
  told_each asked (replied.Put (Ok done)) runs comes = map_each (job_put asked) (λ job. puts job None) (comes done refl)
  told_each asked (replied.Put (Err refusal)) runs comes = map_each (job_put asked) (λ job. puts job (Some refusal)) (λ job has. idle (puts job (Some refusal)) tt)
  told_each asked (replied.Unfit back) runs comes = map_each (job_put asked) (λ job. puts_unfit job back) (λ job has. idle (puts_unfit job back) tt)
  told_each asked (replied.Worked w) runs comes = all_append P (applied_calls (runs_of asked) w.applied) (taken_calls w.jobs w.over)
      (applies_each (runs_of asked) w.applied runs) (takes_each w.jobs (cond (nat_lt (length w.jobs) most_given) (takes (cond w.over given.Over given.Nothing) ∷ []) []) (last_each (nat_lt (length w.jobs) most_given) w.over))
  told_each asked (replied.Collected r) runs comes = (idle (collects r) tt, tt)
  told_each asked (replied.Removed r) runs comes = (idle (removes r) tt, tt)
  told_each asked replied.Dropped runs comes = (idle drops tt, tt)
  told_each asked replied.Ended runs comes = (idle ends tt, tt)

-- a job that comes is so
abbrev pub PutOf : (Job → Type 0) → StationCall → Type 0
PutOf J (puts job None) = J job
PutOf J _ = Unit {0}

-- a job that is given is so
abbrev GivesOf : (Job → Type 0) → StationCall → Type 0
GivesOf J (takes (given.Job job)) = J job
GivesOf J _ = Unit {0}

-- one kind of job is another
pub put_weaker : (J K : Job → Type 0) → ((job : Job) → J job → K job) → (c : StationCall) → PutOf J c → PutOf K c
put_weaker J K weaker (puts job None) is = weaker job is
put_weaker J K weaker (puts job (Some refusal)) is = tt
put_weaker J K weaker (announces r) is = tt
put_weaker J K weaker (puts_unfit j back) is = tt
put_weaker J K weaker (takes r) is = tt
put_weaker J K weaker (applies p moment r) is = tt
put_weaker J K weaker (collects r) is = tt
put_weaker J K weaker (removes r) is = tt
put_weaker J K weaker drops is = tt
put_weaker J K weaker ends is = tt

module _ (J : Job → Type 0) where
  idle_put : (c : StationCall) → IsIdle c → PutOf J c
  idle_put (puts job None) is = absurd is
  idle_put (puts job (Some refusal)) is = tt
  idle_put (announces r) is = tt
  idle_put (puts_unfit j back) is = tt
  idle_put (takes r) is = tt
  idle_put (applies p moment r) is = tt
  idle_put (collects r) is = tt
  idle_put (removes r) is = tt
  idle_put drops is = tt
  idle_put ends is = tt

  idle_of : (c : StationCall) → IsIdle c → OfJob J c
  idle_of (puts job None) is = absurd is
  idle_of (puts job (Some refusal)) is = tt
  idle_of (announces r) is = tt
  idle_of (puts_unfit j back) is = tt
  idle_of (takes r) is = tt
  idle_of (applies p moment r) is = absurd is
  idle_of (collects r) is = tt
  idle_of (removes r) is = tt
  idle_of drops is = tt
  idle_of ends is = tt

  pub told_puts : (asked : DeskCall) (answer : DeskReply) → ((done : Unit {0}) → answer ≡ replied.Put (Ok done) → (job : Job) → Has job (job_put asked) → J job) → AllByRecursion (PutOf J) (told_by asked answer)
  told_puts asked answer comes = told_each (PutOf J) idle_put asked answer (λ run done has. tt) comes

  -- by what hands do no job comes
  hand_puts : (asked : DeskCall) (answer : DeskReply) → IsHandCall asked → AllByRecursion (PutOf J) (told_by asked answer)
  hand_puts (desk.Work runs) answer hand = told_puts (desk.Work runs) answer (λ done is job none. absurd none)
  hand_puts desk.Announce answer hand = absurd hand
  hand_puts (desk.Put job) answer hand = absurd hand
  hand_puts desk.Collect answer hand = absurd hand
  hand_puts desk.Remove answer hand = absurd hand
  hand_puts desk.DropChannel answer hand = absurd hand
  hand_puts desk.End answer hand = absurd hand

  pub hands_put : (entries : List E) → All (λ (e : E). IsHandCall e.call) entries → AllByRecursion (PutOf J) (told_calls entries)
  hands_put [] hands = tt
  hands_put (e ∷ entries) hands = all_append (PutOf J) (told_by e.call e.reply) (told_calls entries)
      (hand_puts e.call e.reply (All-head (λ (x : E). IsHandCall x.call) e entries hands)) (hands_put entries (All-tail (λ (x : E). IsHandCall x.call) e entries hands))

  -- ---- what waits, what is given, and what is given back

  abbrev pub WaitsOf : Of → Type 0
  WaitsOf s = (job : Job) → Has job s.waiting → J job

  pub comes_of : (c : StationCall) → PutOf J c → (job : Job) → Has job (job_come c) → J job
  comes_of (puts j None) own job (inl same) = subst J (sym same) own
  comes_of (puts j None) own job (inr none) = absurd none
  comes_of (puts j (Some refusal)) own job none = absurd none
  comes_of (announces r) own job none = absurd none
  comes_of (puts_unfit j back) own job none = absurd none
  comes_of (takes r) own job none = absurd none
  comes_of (applies p moment r) own job none = absurd none
  comes_of (collects r) own job none = absurd none
  comes_of (removes r) own job none = absurd none
  comes_of drops own job none = absurd none
  comes_of ends own job none = absurd none

  step_gives : (old new : Of) (c : StationCall) → StationStep served_runs served_parked served_cuts old c new → WaitsOf old → GivesOf J c
  step_gives old new (takes (given.Job job)) e own = own job (given_waited old served_runs served_parked served_cuts new job e)
  step_gives old new (takes given.Nothing) e own = tt
  step_gives old new (takes given.Over) e own = tt
  step_gives old new (announces r) e own = tt
  step_gives old new (puts j r) e own = tt
  step_gives old new (puts_unfit j back) e own = tt
  step_gives old new (applies p moment r) e own = tt
  step_gives old new (collects r) e own = tt
  step_gives old new (removes r) e own = tt
  step_gives old new drops e own = tt
  step_gives old new ends e own = tt

  pub waits_then : (old new : Of) (c : StationCall) → StationStep served_runs served_parked served_cuts old c new → WaitsOf old → PutOf J c → WaitsOf new
  waits_then old new c e own put job has = elim ((step_goes old served_runs served_parked served_cuts new c e).waits job has) [ inl before ↦ own job before | inr came ↦ comes_of c put job came ]

  steps_give : (calls : List StationCall) (old new : Of) → Steps old calls new → WaitsOf old → AllByRecursion (PutOf J) calls → WaitsOf new × AllByRecursion (GivesOf J) calls
  steps_give [] old new e own put = (subst WaitsOf (sym e) own, tt)
  steps_give (c ∷ calls) old new e own put =
      let later = steps_give calls e.0 new e.2 (waits_then old e.0 c e.1 own put.0) put.1 in
      (later.0, (step_gives old e.0 c e.1 own, later.1))

  put_jobs : (jobs : List Job) → AllByRecursion (PutOf J) (map (λ (job : Job). puts job None) jobs) → (job : Job) → Has job jobs → J job
  put_jobs [] all job none = absurd none
  put_jobs (j ∷ jobs) all job (inl same) = subst J (sym same) all.0
  put_jobs (j ∷ jobs) all job (inr later) = put_jobs jobs all.1 job later

  told_of : (asked : DeskCall) (answer : DeskReply) → ((job : Job) → Has job (jobs_back asked) → J job) → AllByRecursion (PutOf J) (told_by asked answer) → AllByRecursion (OfJob J) (told_by asked answer)
  told_of asked answer back put =
      told_each (OfJob J) idle_of asked answer (λ run done has. back run.plan.job (has_map (λ (r : Run). r.plan.job) run (runs_of asked) has))
      (λ done is. put_jobs (job_put asked) (subst (λ (r : DeskReply). AllByRecursion (PutOf J) (told_by asked r)) is put))

  takes_give : (jobs : List Job) (last : List StationCall) → AllByRecursion (GivesOf J) (map (λ (job : Job). takes (given.Job job)) jobs ++ last) → (job : Job) → Has job jobs → J job
  takes_give (j ∷ jobs) last all job (inl same) = subst J (sym same) all.0
  takes_give (j ∷ jobs) last all job (inr later) = takes_give jobs last all.1 job later
  takes_give [] last all job none = absurd none

  given_of : (asked : DeskCall) (answer : DeskReply) → AllByRecursion (GivesOf J) (told_by asked answer) → (job : Job) → Has job (jobs_given answer) → J job
  given_of asked (replied.Worked w) all job has = takes_give w.jobs (cond (nat_lt (length w.jobs) most_given) (takes (cond w.over given.Over given.Nothing) ∷ []) [])
      (all_right (GivesOf J) (applied_calls (runs_of asked) w.applied) (taken_calls w.jobs w.over) all) job has
  given_of asked (replied.Announced r) all job none = absurd none
  given_of asked (replied.Put r) all job none = absurd none
  given_of asked (replied.Unfit back) all job none = absurd none
  given_of asked (replied.Collected r) all job none = absurd none
  given_of asked (replied.Removed r) all job none = absurd none
  given_of asked replied.Dropped all job none = absurd none
  given_of asked replied.Ended all job none = absurd none

  -- where each call gives back what was given before
  led_of : (all before later : List E) (here t : Of) → all ≡ before ++ later → Leads SessionDeskStep here later t → WaitsOf here → ((job : Job) → Has job (given_to before) → J job)
      → ((b l : List E) (e : E) → all ≡ b ++ e ∷ l → WereGiven b (jobs_back e.call)) → AllByRecursion (PutOf J) (told_calls later) → AllByRecursion (OfJob J) (told_calls later)
  led_of all before [] here t is leads own was gives put = tt
  led_of all before (e ∷ later) here t is leads own was gives put =
      let mine : AllByRecursion (PutOf J) (told_by e.call e.reply) = all_left (PutOf J) (told_by e.call e.reply) (told_calls later) put in
      let goes = steps_give (told_by e.call e.reply) here leads.0 leads.1.0 own mine in
      let back : (job : Job) → Has job (jobs_back e.call) → J job = λ job has. was job (from_contains (given_to before) job (All-contains (Contains (given_to before)) (jobs_back e.call) job (gives before later e is) (to_contains (jobs_back e.call) job has))) in
      let next : (job : Job) → Has job (given_to (before ++ e ∷ [])) → J job = λ job has.
      elim (has_append job (given_to before) (jobs_given e.reply) (subst (Has job) (given_append before (e ∷ []) ∙ ap (λ l. given_to before ++ l) (append-nil (jobs_given e.reply))) has)) [
        | inl earlier ↦ was job earlier
        | inr now ↦ given_of e.call e.reply goes.1 job now
      ] in
      all_append (OfJob J) (told_by e.call e.reply) (told_calls later) (told_of e.call e.reply back mine)
      (led_of all (before ++ e ∷ []) later leads.0 t (is ∙ sym (append_assoc before (e ∷ []) later)) leads.2 goes.0 next gives (all_right (PutOf J) (told_by e.call e.reply) (told_calls later) put))

-- what a pass was given was given
given_among : (number : ℕ) (entries : List E) (job : Job) → Has job (given_to (calls_of number entries)) → Has job (given_to entries)
given_among number [] job none = absurd none
given_among number (e ∷ entries) job has = by (e.by == number) (given_among number entries job) has
  where
    by : (b : Bool) → (Has job (given_to (calls_of number entries)) → Has job (given_to entries)) → Has job (given_to (cond b (e ∷ calls_of number entries) (calls_of number entries))) → Has job (given_to (e ∷ entries))
    by true among has = elim (has_append job (jobs_given e.reply) (given_to (calls_of number entries)) has) [
      | inl here ↦ has_left job (jobs_given e.reply) (given_to entries) here
      | inr later ↦ has_right job (jobs_given e.reply) (given_to entries) (among later)
    ]
    by false among has = has_right job (jobs_given e.reply) (given_to entries) (among has)

whole_gives : (entries : List E) → GivesOwn entries → (b l : List E) (e : E) → entries ≡ b ++ e ∷ l → WereGiven b (jobs_back e.call)
whole_gives entries gives b l e is =
    All-weaker (Contains (given_to (calls_of e.by b))) (Contains (given_to b)) (λ job has. to_contains (given_to b) job (given_among e.by b job (from_contains (given_to (calls_of e.by b)) job has))) (jobs_back e.call)
    ((gives e.by).each (calls_of e.by b) (calls_of e.by l) e (calls_of-at entries b l e is))

-- Each job that comes or is given back in a history is so, where each that comes is.
pub history_of : (J : Job → Type 0) (s t : Of) (entries : List E) → Leads SessionDeskStep s entries t → GivesOwn entries → WaitsOf J s → AllByRecursion (PutOf J) (told_calls entries) → AllByRecursion (OfJob J) (told_calls entries)
history_of J s t entries leads gives own put = led_of J entries [] entries s t refl leads own (λ job none. absurd none) (whole_gives entries gives) put
