-- A desk's calls as calls of its station, one after the other.
use Rattle.std.proofs.Common.{◌≡◌, ◌∙◌, refl, sym, ap, subst, ℕ, Bool, true, false, cond, List, [], ◌∷◌, ◌++◌, append_assoc, append-nil, map, length, ◌<◌, ◌≤◌, lt-ltb, le-ltb}
use Rattle.std.specs.Prelude.{Result, Ok, Err, Some, None, OnOk, IfErr}
use Rattle.std.proofs.lemmas.List.{map-append}
use Rattle.rd_drive.specs.declared.plan.Job.{Job}
use Rattle.rd_drive.specs.declared.step.Step.{Step}
use Rattle.rd_drive.specs.declared.step.End.{End}
use Rattle.rd_drive.specs.Device.{Parked}
use Rattle.rd_drive.specs.Planned.{Planned}
use Rattle.rd_station.specs.declared.answers.Applied.{Applied}
use Rattle.rd_station.specs.declared.answers.Given.{Given}
use Rattle.rd_station.specs.declared.answers.Given.TheVariants as given
use Rattle.rd_station.specs.declared.refusals.PutNo.{PutNo}
use Rattle.rd_station.specs.Station.{StationCall, StationState, StationStep, StationSteps, applies, new_station, puts, take, take_first, takes}
use Rattle.rd_station.specs.Tied.{IsReached}
use Rattle.rd_turn.specs.declared.object.Entry.{Entry}
use Rattle.rd_turn.specs.History.{Leads}
use Rattle.rd_desk.specs.declared.batch.Run.{Run}
use Rattle.rd_desk.specs.declared.calls.DeskCall.{DeskCall}
use Rattle.rd_desk.specs.declared.calls.DeskCall.TheVariants as call
use Rattle.rd_desk.specs.declared.calls.DeskReply.{DeskReply}
use Rattle.rd_desk.specs.declared.calls.DeskReply.TheVariants as reply
use Rattle.rd_desk.specs.Desk.{DeskStep, applied_calls, taken_calls, told_calls, told_by}

module _ {S : Type 0} (Runs : S → Planned → ℕ → Step → List End → S → Type 0) (parked : S → List Parked) (Cuts : S → S → Type 0) where
  -- calls after calls
  pub steps_append : (old mid new : StationState S) (xs ys : List StationCall) → StationSteps Runs parked Cuts old xs mid → StationSteps Runs parked Cuts mid ys new → StationSteps Runs parked Cuts old (xs ++ ys) new
  steps_append old mid new [] ys before after = subst (λ (s : StationState S). StationSteps Runs parked Cuts s ys new) before after
  steps_append old mid new (x ∷ xs) ys before after = (before.0, before.1, steps_append before.0 mid new xs ys before.2 after)

  -- one call
  pub one_step : (old new : StationState S) (c : StationCall) → StationStep Runs parked Cuts old c new → StationSteps Runs parked Cuts old (c ∷ []) new
  one_step old new c step = (new, step, refl)

  -- a job that may come, whether it does or not
  pub put_told : (old new : StationState S) (job : Job) (answer : Result (Unit {0}) PutNo)
      → OnOk answer (StationStep Runs parked Cuts old (puts job None) new) → IfErr answer (λ no. StationStep Runs parked Cuts old (puts job (Some no)) new)
      → StationSteps Runs parked Cuts old (told_by (call.Put job) (reply.Put answer)) new
  put_told old new job (Ok done) came refused = one_step old new (puts job None) came
  put_told old new job (Err refusal) came refused = one_step old new (puts job (Some refusal)) refused

  -- ---- plans that are given back

  -- Where the plans that are left lead somewhere, those that were given back and then these do.
  abbrev pub AppliesOn : StationState S → List Run → StationState S → List Run → List Applied → Type 0
  AppliesOn first all here runs applied = (t : StationState S) (answers : List Applied) → StationSteps Runs parked Cuts here (applied_calls runs answers) t → StationSteps Runs parked Cuts first (applied_calls all (applied ++ answers)) t

  pub applies_none : (first : StationState S) (all : List Run) (applied : List Applied) → applied ≡ [] → AppliesOn first all first all applied
  applies_none first all applied none t answers steps = subst (λ (l : List Applied). StationSteps Runs parked Cuts first (applied_calls all (l ++ answers)) t) (sym none) steps

  pub applies_next : (first : StationState S) (all : List Run) (here next : StationState S) (runs later : List Run) (run : Run) (applied after : List Applied) (answer : Applied) → runs ≡ run ∷ later → after ≡ applied ++ answer ∷ []
      → StationStep Runs parked Cuts here (applies run.plan run.moment answer) next → AppliesOn first all here runs applied → AppliesOn first all next later after
  applies_next first all here next runs later run applied after answer is more step on t answers steps =
      subst (λ (l : List Applied). StationSteps Runs parked Cuts first (applied_calls all l) t) (sym (ap (λ l. l ++ answers) more ∙ append_assoc applied (answer ∷ []) answers))
      (on t (answer ∷ answers) (subst (λ (rs : List Run). StationSteps Runs parked Cuts here (applied_calls rs (answer ∷ answers)) t) (sym is) (next, step, steps)))

  pub applies_all : (first : StationState S) (all : List Run) (here : StationState S) (runs : List Run) (applied : List Applied) → runs ≡ [] → AppliesOn first all here runs applied → StationSteps Runs parked Cuts first (applied_calls all applied) here
  applies_all first all here runs applied none on =
      subst (λ (l : List Applied). StationSteps Runs parked Cuts first (applied_calls all l) here) (append-nil applied)
      (on here [] (subst (λ (rs : List Run). StationSteps Runs parked Cuts here (applied_calls rs []) here) (sym none) refl))

  -- ---- jobs that are taken

  -- Where calls lead on from here, the takes of these jobs and then those calls lead from the first station.
  abbrev pub TakesOn : StationState S → StationState S → List Job → Type 0
  TakesOn first here jobs = (t : StationState S) (calls : List StationCall) → StationSteps Runs parked Cuts here calls t → StationSteps Runs parked Cuts first (map (λ (job : Job). takes (given.Job job)) jobs ++ calls) t

  pub takes_none : (first : StationState S) (jobs : List Job) → jobs ≡ [] → TakesOn first first jobs
  takes_none first jobs none t calls steps = subst (λ (js : List Job). StationSteps Runs parked Cuts first (map (λ (job : Job). takes (given.Job job)) js ++ calls) t) (sym none) steps

  pub takes_next : (first here next : StationState S) (jobs after : List Job) (job : Job) → after ≡ jobs ++ job ∷ [] → StationStep Runs parked Cuts here (takes (given.Job job)) next → TakesOn first here jobs → TakesOn first next after
  takes_next first here next jobs after job more step on t calls steps =
      subst (λ (cs : List StationCall). StationSteps Runs parked Cuts first cs t) (sym (ap (λ l. l ++ calls) (ap (map (λ (j : Job). takes (given.Job j))) more ∙ map-append (λ (j : Job). takes (given.Job j)) jobs (job ∷ [])) ∙ append_assoc (map (λ (j : Job). takes (given.Job j)) jobs) (takes (given.Job job) ∷ []) calls))
      (on t (takes (given.Job job) ∷ calls) (next, step, steps))

  -- the next time none was given
  pub takes_fewer : (first here new : StationState S) (jobs : List Job) (over : Bool) → length jobs < 4 → StationStep Runs parked Cuts here (takes (cond over given.Over given.Nothing)) new → TakesOn first here jobs
      → StationSteps Runs parked Cuts first (taken_calls jobs over) new
  takes_fewer first here new jobs over few step on =
      subst (λ (b : Bool). StationSteps Runs parked Cuts first (map (λ (job : Job). takes (given.Job job)) jobs ++ cond b (takes (cond over given.Over given.Nothing) ∷ []) []) new) (sym (lt-ltb (length jobs) 4 few))
      (on new (takes (cond over given.Over given.Nothing) ∷ []) (one_step here new (takes (cond over given.Over given.Nothing)) step))

  -- as many were given as may be
  pub takes_most : (first here : StationState S) (jobs : List Job) (over : Bool) → 4 ≤ length jobs → TakesOn first here jobs → StationSteps Runs parked Cuts first (taken_calls jobs over) here
  takes_most first here jobs over many on =
      subst (λ (b : Bool). StationSteps Runs parked Cuts first (map (λ (job : Job). takes (given.Job job)) jobs ++ cond b (takes (cond over given.Over given.Nothing) ∷ []) []) here) (sym (le-ltb (length jobs) 4 many))
      (on here [] refl)

-- a station that gives a job goes on, and so does one that has none to give; it is over where it says so
pub given_goes_on : {S : Type 0} (old new : StationState S) (job : Job) → take old ≡ (new, given.Job job) → new.ended ≡ false
given_goes_on {S} old new job is = by old.ended refl is
  where
    first : (jobs : List Job) → old.ended ≡ false → take_first old jobs ≡ (new, given.Job job) → new.ended ≡ false
    first [] goes e = absurd (cc (ap (λ (x : StationState S × Given). x.1) e))
    first (j ∷ jobs) goes e = sym (ap (λ (x : StationState S × Given). (x.0).ended) e) ∙ goes

    by : (b : Bool) → old.ended ≡ b → cond {A = StationState S × Given} b (old, given.Over) (take_first old old.waiting) ≡ (new, given.Job job) → new.ended ≡ false
    by true goes e = absurd (cc (ap (λ (x : StationState S × Given). x.1) e))
    by false goes e = first old.waiting goes e

-- the same call of the same station
pub same_step : {S : Type 0} (Runs : S → Planned → ℕ → Step → List End → S → Type 0) (parked : S → List Parked) (Cuts : S → S → Type 0) (old old' new new' : StationState S) (asked asked' : DeskCall) (answer answer' : DeskReply)
    → old' ≡ old → asked' ≡ asked → answer' ≡ answer → new' ≡ new → DeskStep Runs parked Cuts old asked answer new → DeskStep Runs parked Cuts old' asked' answer' new'
same_step {S} Runs parked Cuts old old' new new' asked asked' answer answer' o a r n step =
    subst (λ (s : StationState S). DeskStep Runs parked Cuts s asked' answer' new') (sym o)
    (subst (λ (c : DeskCall). DeskStep Runs parked Cuts old c answer' new') (sym a)
    (subst (λ (c : DeskReply). DeskStep Runs parked Cuts old asked c new') (sym r)
    (subst (λ (s : StationState S). DeskStep Runs parked Cuts old asked answer s) (sym n) step)))

-- ---- histories

module _ {S : Type 0} (Runs : S → Planned → ℕ → Step → List End → S → Type 0) (parked : S → List Parked) (Cuts : S → S → Type 0) where
  pub led_steps : (s t : StationState S) (entries : List (Entry DeskCall DeskReply)) → Leads (DeskStep Runs parked Cuts) s entries t → StationSteps Runs parked Cuts s (told_calls entries) t
  led_steps s t [] leads = sym leads
  led_steps s t (e ∷ entries) leads = steps_append Runs parked Cuts s leads.0 t (told_by e.call e.reply) (told_calls entries) leads.1.0 (led_steps leads.0 t entries leads.2)

  pub led_reached : (s t : StationState S) (entries : List (Entry DeskCall DeskReply)) → IsReached Runs parked Cuts s → Leads (DeskStep Runs parked Cuts) s entries t → IsReached Runs parked Cuts t
  led_reached s t entries is leads = record {
    device = is.device;
    nothing = is.nothing;
    calls = is.calls ++ told_calls entries;
    steps = steps_append Runs parked Cuts (new_station is.device) s t is.calls (told_calls entries) is.steps (led_steps s t entries leads);
  }
