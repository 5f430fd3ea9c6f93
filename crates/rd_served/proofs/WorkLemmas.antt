-- What hands do at a desk, as calls of its station; and what a station stored.
use Rattle.std.proofs.Common.{◌≡◌, ◌∙◌, refl, sym, ap, subst, Bool, true, false, List, [], ◌∷◌, ◌++◌, append_assoc, append-nil, map, length}
use Rattle.std.specs.Prelude.{All, if◌then◌else◌, nat_lt}
use Rattle.std.specs.List.{AllByRecursion}
use Rattle.std.proofs.lemmas.List.Elements.{All-head, All-tail}
use Rattle.rd_base.specs.declared.journal.Item.{Item}
use Rattle.rd_desk.specs.Desk.{applied_calls, most_given, taken_calls, told_by}
use Rattle.rd_desk.specs.declared.batch.Run.{Run}
use Rattle.rd_desk.specs.declared.calls.DeskCall.{DeskCall}
use Rattle.rd_desk.specs.declared.calls.DeskCall.TheVariants as desk
use Rattle.rd_desk.specs.declared.calls.DeskReply.{DeskReply}
use Rattle.rd_desk.specs.declared.calls.DeskReply.TheVariants as replied
use Rattle.rd_desk.proofs.StepLemmas.{steps_append}
use Rattle.rd_drive.specs.declared.plan.Job.{Job}
use Rattle.rd_front.specs.State.{SessionDeskStep, SessionStation}
use Rattle.rd_station.specs.Station.{StationCall, StationSteps, takes}
use Rattle.rd_station.specs.declared.answers.Applied.{Applied}
use Rattle.rd_station.specs.declared.answers.Given.TheVariants as given
use Rattle.rd_turn.specs.declared.object.Entry.{Entry}
use Rattle.rd_turn.specs.History.{Leads}
use Rattle.rd_served.specs.Served.{IsHandCall, IsWork, Works}
use Rattle.rd_served.proofs.StoreLemmas.{step_stores}
use Rattle.rd_served_devices.specs.ServedDevices.{served_cuts, served_parked, served_runs}

abbrev Of : Type 0
Of = SessionStation

abbrev E : Type 0
E = Entry DeskCall DeskReply

abbrev pub Steps : Of → List StationCall → Of → Type 0
Steps old calls new = StationSteps served_runs served_parked served_cuts old calls new

-- ---- what hands do

both : (xs ys : List StationCall) → AllByRecursion IsWork xs → AllByRecursion IsWork ys → AllByRecursion IsWork (xs ++ ys)
both [] ys first second = second
both (x ∷ xs) ys first second = (first.0, both xs ys first.1 second)

applied_work : (runs : List Run) (answers : List Applied) → AllByRecursion IsWork (applied_calls runs answers)
applied_work [] answers = tt
applied_work (run ∷ runs) [] = tt
applied_work (run ∷ runs) (answer ∷ answers) = (tt, applied_work runs answers)

given_work : (jobs : List Job) → AllByRecursion IsWork (map (λ (job : Job). takes (given.Job job)) jobs)
given_work [] = tt
given_work (job ∷ jobs) = (tt, given_work jobs)

last_work : (few over : Bool) → AllByRecursion IsWork (if few then takes (if over then given.Over else given.Nothing) ∷ [] else [])
last_work true over = (tt, tt)
last_work false over = tt

taken_work : (jobs : List Job) (over : Bool) → AllByRecursion IsWork (taken_calls jobs over)
taken_work jobs over = both (map (λ (job : Job). takes (given.Job job)) jobs) _ (given_work jobs) (last_work (nat_lt (length jobs) most_given) over)

works_none : (s : Of) → Works s s
works_none s = record { calls = []; work = tt; steps = refl }

pub works_on : (a b c : Of) → Works a b → Works b c → Works a c
works_on a b c first second = record {
  calls = first.calls ++ second.calls;
  work = both first.calls second.calls first.work second.work;
  steps = steps_append served_runs served_parked served_cuts a b c first.calls second.calls first.steps second.steps;
}

call_works : (old new : Of) (does : DeskCall) (back : DeskReply) → IsHandCall does → SessionDeskStep old does back new → Works old new
call_works old new (desk.Work runs) (replied.Worked w) hand step =
    record { calls = applied_calls runs w.applied ++ taken_calls w.jobs w.over; work = both (applied_calls runs w.applied) (taken_calls w.jobs w.over) (applied_work runs w.applied) (taken_work w.jobs w.over); steps = step.0 }
call_works old new (desk.Work runs) (replied.Announced answer) hand step = absurd step.1
call_works old new (desk.Work runs) (replied.Put answer) hand step = absurd step.1
call_works old new (desk.Work runs) (replied.Unfit back) hand step = absurd step.1
call_works old new (desk.Work runs) (replied.Collected answer) hand step = absurd step.1
call_works old new (desk.Work runs) (replied.Removed answer) hand step = absurd step.1
call_works old new (desk.Work runs) replied.Dropped hand step = absurd step.1
call_works old new (desk.Work runs) replied.Ended hand step = absurd step.1
call_works old new desk.Announce back hand step = absurd hand
call_works old new (desk.Put job) back hand step = absurd hand
call_works old new desk.Collect back hand step = absurd hand
call_works old new desk.Remove back hand step = absurd hand
call_works old new desk.DropChannel back hand step = absurd hand
call_works old new desk.End back hand step = absurd hand

-- Calls of hands, one after the other.
pub hands_work : (old : Of) (entries : List E) (new : Of) → All (λ (e : E). IsHandCall e.call) entries → Leads SessionDeskStep old entries new → Works old new
hands_work old [] new hands is = subst (λ (s : Of). Works old s) is (works_none old)
hands_work old (e ∷ entries) new hands leads =
    works_on old leads.0 new (call_works old leads.0 e.call e.reply (All-head (λ (x : E). IsHandCall x.call) e entries hands) leads.1)
    (hands_work leads.0 entries new (All-tail (λ (x : E). IsHandCall x.call) e entries hands) leads.2)

-- ---- what is stored

-- A station's journal becomes longer.
pub record Longer (old new : Of) : Type 0 where
  pub items : List Item
  pub stored : new.journal ≡ old.journal ++ items

pub longer_on : (a b c : Of) → Longer a b → Longer b c → Longer a c
longer_on a b c first second = record {
  items = first.items ++ second.items;
  stored = second.stored ∙ ap (λ (j : List Item). j ++ second.items) first.stored ∙ append_assoc a.journal first.items second.items;
}

pub steps_longer : (calls : List StationCall) (old new : Of) → Steps old calls new → Longer old new
steps_longer [] old new is = record { items = []; stored = ap (λ (s : Of). s.journal) is ∙ sym (append-nil old.journal) }
steps_longer (call ∷ calls) old new steps =
    let stores = step_stores served_runs served_parked served_cuts old steps.0 call steps.1 in
    longer_on old steps.0 new (record { items = stores.more; stored = stores.longer }) (steps_longer calls steps.0 new steps.2)

pub works_longer : (old new : Of) → Works old new → Longer old new
works_longer old new works = steps_longer works.calls old new works.steps

pub call_longer : (old new : Of) (does : DeskCall) (back : DeskReply) → SessionDeskStep old does back new → Longer old new
call_longer old new does back step = steps_longer (told_by does back) old new step.0
