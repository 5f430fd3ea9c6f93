-- What a station holds after a call by which no job comes was held before.
use Rattle.std.proofs.Common.{◌≡◌, ◌⊎◌, ◌∙◌, refl, sym, ap, subst, inl, inr, ℕ, Bool, true, false, cond, not, List, [], ◌∷◌, ◌++◌, ◌-◌, ◌==◌, ◌≢◌, length, map, eqb-true}
use Rattle.std.specs.Prelude.{All, Err, None, Ok, Option, Result, Some, find, nat_le, nat_lt}
use Rattle.std.specs.Option.{option_map_or}
use Rattle.std.specs.List.{AllByRecursion}
use Rattle.std.proofs.lemmas.List.Elements.{All-contains}
use Rattle.rd_base.specs.declared.journal.Cause.TheVariants.{Dropped}
use Rattle.rd_base.specs.declared.journal.Item.TheVariants.{Came, Cut, Sent}
use Rattle.rd_base.specs.declared.journal.Key.{Key}
use Rattle.rd_drive.specs.Device.{is_parked}
use Rattle.rd_drive.specs.Planned.{Planned}
use Rattle.rd_drive.specs.Stepped.{Stepped}
use Rattle.rd_drive.specs.declared.plan.Job.{Job}
use Rattle.rd_drive.specs.declared.step.End.{End}
use Rattle.rd_drive.specs.declared.step.Step.{Step}
use Rattle.rd_front.specs.State.{SessionStation}
use Rattle.rd_irp.specs.Fits.{kind_of}
use Rattle.rd_irp.specs.declared.completion.Reply.{Reply}
use Rattle.rd_station.specs.Station as station
use Rattle.rd_station.specs.Station.{CameOf, PutRefused, StationCall, announces, applies, apply_from, cancelled_in_hand, collects, drop_channel, drops, emptied, ends, entry_count, held, is_key, max_entries, max_held, put_refusal, put_unless, puts, puts_unfit, ran, removes, take_first, takes}
use Rattle.rd_station.specs.declared.answers.Applied.{Applied}
use Rattle.rd_station.specs.declared.answers.Applied.TheVariants as applied
use Rattle.rd_station.specs.declared.answers.Completion.{Completion}
use Rattle.rd_station.specs.declared.answers.Given.{Given}
use Rattle.rd_station.specs.declared.answers.Given.TheVariants as given
use Rattle.rd_station.specs.declared.held.InHand.{InHand}
use Rattle.rd_station.specs.declared.held.ParkedJob.{ParkedJob}
use Rattle.rd_station.specs.declared.refusals.AnnounceNo.{AnnounceNo}
use Rattle.rd_station.specs.declared.refusals.AnnounceNo.TheVariants as unannounced
use Rattle.rd_station.specs.declared.refusals.PutWhy.{PutWhy}
use Rattle.rd_station.specs.declared.refusals.PutWhy.TheVariants as why
use Rattle.rd_station.proofs.Calls.{reached_keeps}
use Rattle.rd_station.proofs.Holding.{in_held}
use Rattle.rd_station.proofs.Keeping as keeping
use Rattle.rd_station.proofs.Keeping.{held_at}
use Rattle.rd_station.proofs.Members.{find_has, from_contains, has_append, has_left, has_map, has_right, same_key, to_contains}
use Rattle.rd_deeds.specs.Talk.{Has}
use Rattle.rd_journals.specs.Jobs.{OwnsAll}
use Rattle.rd_journals.proofs.CallLemmas.{OfJob}
use Rattle.rd_served.specs.Served.{IsWork, Works}
use Rattle.rd_served.proofs.OwnsLemmas.{owns_call}
use Rattle.rd_served.proofs.StationLemmas.{IsBeside, Step as ServedStep, put_refused}
use Rattle.rd_served.proofs.WorkLemmas.{Steps}
use Rattle.rd_served_devices.specs.ServedDevices.{IsServedReached, ServedDeviceState, made, over, served_cuts, served_parked, served_runs}

abbrev Of : Type 0
Of = SessionStation

abbrev pub HeldIn : Of → Key × ℕ → Type 0
HeldIn s x = Has x (held s)

-- ---- what waits

waits_same : (old new s : Of) → new ≡ s → s.waiting ≡ old.waiting → (job : Job) → Has job new.waiting → Has job old.waiting
waits_same old new s is same job has = subst (λ (js : List Job). Has job js) (ap (λ (x : Of). x.waiting) is ∙ same) has

announced_waits : (old new : Of) (answer : Result (Unit {0}) AnnounceNo) → station.announce old ≡ (new, answer) → (job : Job) → Has job new.waiting → Has job old.waiting
announced_waits old new answer e = waits_same old new (station.announce old).0 (sym (ap (λ (r : Of × Result (Unit {0}) AnnounceNo). r.0) e)) (by old.live (nat_le max_entries (entry_count old)))
  where
    by : (a b : Bool) → let s = (cond {A = Of × Result (Unit {0}) AnnounceNo} a (old, Err unannounced.Live) (cond b (old, Err (unannounced.Worn (entry_count old))) (record old { live = true }, Ok tt))).0 in s.waiting ≡ old.waiting
    by true b = refl
    by false true = refl
    by false false = refl

waits_less : (old new : Of) (call : StationCall) → IsBeside call → ServedStep old call new → (job : Job) → Has job new.waiting → Has job old.waiting
waits_less old new (announces (Ok done)) own e = announced_waits old new (Ok done) e
waits_less old new (announces (Err unannounced.Memory)) own e = waits_same old new old e.1 refl
waits_less old new (announces (Err unannounced.Live)) own e = announced_waits old new (Err unannounced.Live) e
waits_less old new (announces (Err (unannounced.Worn count))) own e = announced_waits old new (Err (unannounced.Worn count)) e
waits_less old new (puts job None) own e = absurd own
waits_less old new (puts job (Some refusal)) own e = waits_same old new old (put_refused old new job refusal.why e.1) refl
waits_less old new (puts_unfit job back) own e = waits_same old new old e.1 refl
waits_less old new (takes answer) own e = by old.ended old.waiting refl e
  where
    by : (b : Bool) (jobs : List Job) → old.waiting ≡ jobs → cond {A = Of × Given} b (old, given.Over) (take_first old jobs) ≡ (new, answer) → (job : Job) → Has job new.waiting → Has job old.waiting
    by true jobs f e = waits_same old new old (sym (ap (λ (r : Of × Given). r.0) e)) refl
    by false [] f e = waits_same old new old (sym (ap (λ (r : Of × Given). r.0) e)) refl
    by false (first ∷ jobs) f e = λ job has. subst (λ (js : List Job). Has job js) (sym f) (inr (subst (λ (js : List Job). Has job js) (sym (ap (λ (r : Of × Given). (r.0).waiting) e)) has))
waits_less old new (applies planned moment answer) own e = by (find (λ (t : InHand). is_key t.key planned.job.key) old.taken) e.1
  where
    hand : (t : InHand) (b : Bool)
        → cond {A = Of × Applied} b (cancelled_in_hand old t (kind_of planned.job.op), applied.Cancelled) (ran old t (kind_of planned.job.op) moment e.0, cond (is_parked (e.0).answer) applied.Parked applied.Ran) ≡ (new, answer)
        → (job : Job) → Has job new.waiting → Has job old.waiting
    hand t true f = waits_same old new _ (sym (ap (λ (r : Of × Applied). r.0) f)) refl
    hand t false f = waits_same old new _ (sym (ap (λ (r : Of × Applied). r.0) f)) refl

    by : (found : Option InHand) → apply_from old planned.job moment e.0 found ≡ (new, answer) → (job : Job) → Has job new.waiting → Has job old.waiting
    by None f = waits_same old new old (sym (ap (λ (r : Of × Applied). r.0) f)) refl
    by (Some t) f = hand t t.removed f
waits_less old new (collects answer) own e = by old.ready e
  where
    by : (cs : List Completion) → station.collect_first old cs ≡ (new, answer) → (job : Job) → Has job new.waiting → Has job old.waiting
    by [] f = waits_same old new old (sym (ap (λ (r : Of × Option Completion). r.0) f)) refl
    by (c ∷ cs) f = waits_same old new _ (sym (ap (λ (r : Of × Option Completion). r.0) f)) refl
waits_less old new (removes answer) own e = by old.live e.1
  where
    gone : Of
    gone = (station.remove (record old { live = true }) e.0).0

    by : (b : Bool) → cond {A = Of × Bool} (not b) (old, false) (gone, true) ≡ (new, answer) → (job : Job) → Has job new.waiting → Has job old.waiting
    by false f = waits_same old new old (sym (ap (λ (r : Of × Bool). r.0) f)) refl
    by true f = λ job has. absurd (subst (λ (js : List Job). Has job js) (sym (ap (λ (r : Of × Bool). (r.0).waiting) f)) has)
waits_less old new drops own e = absurd own
waits_less old new ends own e = absurd own

-- ---- the other lists

abbrev OwnedBy : Of → Of → Type 0
OwnedBy old new = OwnsAll (λ key completion. HeldIn old (key, completion)) (λ key completion kind. HeldIn old (key, completion)) (λ (r : Reply). Unit {0}) new.taken new.parked new.ready

abbrev of_waiting : List Job → List (Key × ℕ)
of_waiting js = map (λ (j : Job). (j.key, j.completion)) js

abbrev of_taken : List InHand → List (Key × ℕ)
of_taken ts = map (λ (t : InHand). (t.key, t.completion)) ts

abbrev of_parked : List ParkedJob → List (Key × ℕ)
of_parked ps = map (λ (p : ParkedJob). (p.key, p.completion)) ps

abbrev of_ready : List Completion → List (Key × ℕ)
of_ready cs = map (λ (c : Completion). (c.key, c.completion)) cs

module _ (s : Of) (x : Key × ℕ) where
  in_waiting : Has x (of_waiting s.waiting) → HeldIn s x
  in_waiting has = has_left {A = Key × ℕ} x (of_waiting s.waiting ++ of_taken s.taken ++ of_parked s.parked) (of_ready s.ready)
      (has_left {A = Key × ℕ} x (of_waiting s.waiting ++ of_taken s.taken) (of_parked s.parked) (has_left {A = Key × ℕ} x (of_waiting s.waiting) (of_taken s.taken) has))

  in_taken : Has x (of_taken s.taken) → HeldIn s x
  in_taken has = has_left {A = Key × ℕ} x (of_waiting s.waiting ++ of_taken s.taken ++ of_parked s.parked) (of_ready s.ready)
      (has_left {A = Key × ℕ} x (of_waiting s.waiting ++ of_taken s.taken) (of_parked s.parked) (has_right {A = Key × ℕ} x (of_waiting s.waiting) (of_taken s.taken) has))

  in_parked : Has x (of_parked s.parked) → HeldIn s x
  in_parked has = has_left {A = Key × ℕ} x (of_waiting s.waiting ++ of_taken s.taken ++ of_parked s.parked) (of_ready s.ready)
      (has_right {A = Key × ℕ} x (of_waiting s.waiting ++ of_taken s.taken) (of_parked s.parked) has)

  in_ready : Has x (of_ready s.ready) → HeldIn s x
  in_ready has = has_right {A = Key × ℕ} x (of_waiting s.waiting ++ of_taken s.taken ++ of_parked s.parked) (of_ready s.ready) has

waiting_held : (s : Of) (job : Job) → Has job s.waiting → HeldIn s (job.key, job.completion)
waiting_held s job has = in_waiting s (job.key, job.completion) (has_map {A = Job} {B = Key × ℕ} (λ (j : Job). (j.key, j.completion)) job s.waiting has)

taken_held : (s : Of) (t : InHand) → Has t s.taken → HeldIn s (t.key, t.completion)
taken_held s t has = in_taken s (t.key, t.completion) (has_map {A = InHand} {B = Key × ℕ} (λ (u : InHand). (u.key, u.completion)) t s.taken has)

parked_held : (s : Of) (p : ParkedJob) → Has p s.parked → HeldIn s (p.key, p.completion)
parked_held s p has = in_parked s (p.key, p.completion) (has_map {A = ParkedJob} {B = Key × ℕ} (λ (u : ParkedJob). (u.key, u.completion)) p s.parked has)

pub ready_held : (s : Of) (x : Completion) → Has x s.ready → HeldIn s (x.key, x.completion)
ready_held s x has = in_ready s (x.key, x.completion) (has_map {A = Completion} {B = Key × ℕ} (λ (u : Completion). (u.key, u.completion)) x s.ready has)

owned_itself : (s : Of) → OwnedBy s s
owned_itself s = record { taken = taken_held s; parked = parked_held s; ready = λ x has. (ready_held s x has, tt) }

owns_step : (old new : Of) (call : StationCall) → ServedStep old call new → OfJob (λ (job : Job). HeldIn old (job.key, job.completion)) call → OwnedBy old new
owns_step old new call step of =
    owns_call served_runs served_parked served_cuts (λ key completion. HeldIn old (key, completion)) (λ key completion kind. HeldIn old (key, completion)) (λ (r : Reply). Unit {0}) (λ (job : Job). HeldIn old (job.key, job.completion)) tt
    (λ job completion own is. is) (λ job own. own) (λ s planned moment came own runs. record { answer = λ r e. tt; ends = λ e has. tt }) old new (waiting_held old) (owned_itself old) call step of

-- the same plan for a job with another completion id
abbrev with_id : Planned → ℕ → Planned
with_id planned id = record { job = record planned.job { completion = id }; starved = planned.starved }

-- what a device does with it doesn't go by its completion id
runs_too : (s new : ServedDeviceState) (planned : Planned) (id moment : ℕ) (answer : Step) (es : List End) → served_runs s planned moment answer es new → served_runs s (with_id planned id) moment answer es new
runs_too (made old) (made new) planned id moment answer es runs = runs
runs_too (made old) (over new) planned id moment answer es runs = absurd runs
runs_too (over old) (made new) planned id moment answer es runs = absurd runs
runs_too (over old) (over new) planned id moment answer es runs = (
  λ s told.
      let (left, goes, files, parked, does) = runs.0 s told in
      (left, goes, files, parked, elim does [ inl step ↦ inl (record { comes = step.comes; calm = step.calm }) | inr refused ↦ inr refused ]),
  runs.1,
  elim runs.2 [
    | inl unblamed ↦ inl unblamed
    | inr other ↦ elim other [
      | inl fault ↦ inr (inl (record { no = fault.no; some = fault.some; found = fault.found; answered = fault.answered; counted = fault.counted; same = fault.same }))
      | inr closed ↦ inr (inr closed)
    ]
  ],
  runs.3,
  runs.4,
)

came_too : (s : ServedDeviceState) (planned : Planned) (id moment : ℕ) (came : Stepped ServedDeviceState) → CameOf served_runs served_parked served_cuts s planned moment came → CameOf served_runs served_parked served_cuts s (with_id planned id) moment came
came_too s planned id moment came promise = record {
  runs = runs_too s came.state planned id moment came.answer came.ends promise.runs;
  answers = promise.answers;
  parks = record { left = promise.parks.left; ended = promise.parks.ended; waits = promise.parks.waits; few = promise.parks.few };
  starved = promise.starved;
  close = promise.close;
}

applied_owned : (old new : Of) (planned : Planned) (moment : ℕ) (answer : Applied) → ServedStep old (applies planned moment answer) new → OwnedBy old new
applied_owned old new planned moment answer (came, e, promise) = by (find (λ (t : InHand). is_key t.key planned.job.key) old.taken) refl
  where
    by : (found : Option InHand) → find (λ (t : InHand). is_key t.key planned.job.key) old.taken ≡ found → OwnedBy old new
    by None f =
        let same : (old, applied.Stale) ≡ (new, answer) = sym (ap (apply_from old planned.job moment came) f) ∙ e in
        subst (OwnedBy old) (ap (λ (r : Of × Applied). r.0) same) (owned_itself old)
    by (Some t) f =
        let here = find_has (λ (u : InHand). is_key u.key planned.job.key) t old.taken f in
        owns_step old new (applies (with_id planned t.completion) moment answer) (came, e, λ did. came_too old.device planned t.completion moment came (promise did))
        (subst (λ (k : Key). HeldIn old (k, t.completion)) (same_key t.key planned.job.key here.1) ((owned_itself old).taken t here.0))

step_owned : (old new : Of) (call : StationCall) → IsBeside call → ServedStep old call new → OwnedBy old new
step_owned old new (announces answer) own e = owns_step old new (announces answer) e tt
step_owned old new (puts job None) own e = absurd own
step_owned old new (puts job (Some refusal)) own e = owns_step old new (puts job (Some refusal)) e tt
step_owned old new (puts_unfit job back) own e = owns_step old new (puts_unfit job back) e tt
step_owned old new (takes answer) own e = owns_step old new (takes answer) e tt
step_owned old new (applies planned moment answer) own e = applied_owned old new planned moment answer e
step_owned old new (collects answer) own e = owns_step old new (collects answer) e tt
step_owned old new (removes answer) own e = owns_step old new (removes answer) e tt
step_owned old new drops own e = absurd own
step_owned old new ends own e = absurd own

-- What is held after a call by which no job comes was held before.
pub held_less : (old new : Of) (call : StationCall) → IsBeside call → ServedStep old call new → (x : Key × ℕ) → HeldIn new x → HeldIn old x
held_less old new call own e =
    let owned = step_owned old new call own e in
    in_held (HeldIn old) new (λ job has. waiting_held old job (waits_less old new call own e job has)) owned.taken owned.parked (λ x has. (owned.ready x has).0)

pub works_less : (calls : List StationCall) (old new : Of) → AllByRecursion IsWork calls → Steps old calls new → (x : Key × ℕ) → HeldIn new x → HeldIn old x
works_less [] old new work is x has = subst (λ (s : Of). HeldIn s x) is has
works_less (call ∷ calls) old new work steps x has = held_less old steps.0 call (beside call work.0) steps.1 x (works_less calls steps.0 new work.1 steps.2 x has)
  where
    beside : (c : StationCall) → IsWork c → IsBeside c
    beside (takes answer) is = tt
    beside (applies planned moment answer) is = tt
    beside (announces answer) is = absurd is
    beside (puts job answer) is = absurd is
    beside (puts_unfit job back) is = absurd is
    beside (collects answer) is = absurd is
    beside (removes answer) is = absurd is
    beside drops is = absurd is
    beside ends is = absurd is

pub work_less : (old new : Of) → Works old new → (x : Key × ℕ) → HeldIn new x → HeldIn old x
work_less old new works = works_less works.calls old new works.work works.steps

-- where the channel ends nothing is held
dropped_none : (old new : Of) (cut : ServedDeviceState) → drop_channel old cut ≡ new → held new ≡ []
dropped_none old new cut is = ap held (sym is) ∙ by old.live
  where
    by : (b : Bool) → held (cond b (record (emptied old) { device = cut; live = false; journal = old.journal ++ Cut Dropped ∷ [] }) (emptied old)) ≡ []
    by true = refl
    by false = refl

pub drop_none : (old new : Of) → ServedStep old drops new → held new ≡ []
drop_none old new e = dropped_none old new e.0 e.1

pub end_none : (old new : Of) → ServedStep old ends new → held new ≡ []
end_none old new e = ap held (sym e.1) ∙ dropped_none old (drop_channel old e.0) e.0 refl

-- a job that came
pub put_more : (old new : Of) (job : Job) → station.put old job ≡ (new, None) → (x : Key × ℕ) → HeldIn new x → HeldIn old x ⊎ (x ≡ (job.key, job.completion))
put_more old new job e = by (put_refusal old job) e
  where
    by : (found : Option PutWhy) → put_unless old job found ≡ (new, None) → (x : Key × ℕ) → HeldIn new x → HeldIn old x ⊎ (x ≡ (job.key, job.completion))
    by (Some cause) f = absurd (let g : Some cause ≡ None = ap (λ (r : Of × Option PutWhy). r.1) f in cc (g))
    by None f = λ x has.
        let with_job : Of = record old { waiting = old.waiting ++ job ∷ []; journal = old.journal ++ Came job.key ∷ [] } in
        let there : HeldIn with_job x = subst (λ (s : Of). HeldIn s x) (sym (ap (λ (r : Of × Option PutWhy). r.0) f)) has in
        let owned = owned_itself old in
        in_held (λ (y : Key × ℕ). HeldIn old y ⊎ (y ≡ (job.key, job.completion))) with_job
        (λ j among. elim (has_append j old.waiting (job ∷ []) among) [ inl was ↦ inl (waiting_held old j was) | inr last ↦ elim last [ inl same ↦ inr (ap (λ (i : Job). (i.key, i.completion)) same) | inr none ↦ absurd none ] ])
        (λ t among. inl (owned.taken t among)) (λ p among. inl (owned.parked p among)) (λ y among. inl (owned.ready y among).0) x there

-- ---- what is held came, and wasn't sent

pub held_came : (s : Of) → IsServedReached s → (x : Key × ℕ) → HeldIn s x → Has (Came x.0) s.journal
held_came s reached x has = let (c, keeps) = reached_keeps served_runs served_parked served_cuts s reached in from_contains s.journal (Came x.0) (held_at served_parked c s keeps x has).1

pub held_unsent : (s : Of) → IsServedReached s → (x : Key × ℕ) → HeldIn s x → Has (Sent x.0) s.journal → ⊥
held_unsent s reached = by (reached_keeps served_runs served_parked served_cuts s reached)
  where
    not_sent : (key : Key) → All (λ x. x ≢ Sent key) s.journal → Has (Sent key) s.journal → ⊥
    not_sent key none sent = All-contains (λ x. x ≢ Sent key) s.journal (Sent key) none (to_contains s.journal (Sent key) sent) refl

    by_hand : (removed : Bool) (key : Key) → keeping.IsHeld removed key s.journal → Has (Sent key) s.journal → ⊥
    by_hand true key is sent = not_sent key is.unrun.unsent sent
    by_hand false key is sent = not_sent key is.unrun.unsent sent

    by : ((c : ℕ) × keeping.Keeps served_parked c s) → (x : Key × ℕ) → HeldIn s x → Has (Sent x.0) s.journal → ⊥
    by (c, keeps) = in_held (λ (x : Key × ℕ). Has (Sent x.0) s.journal → ⊥) s
        (λ job has sent. not_sent job.key (keeps.waiting job has).1.unrun.unsent sent)
        (λ t has sent. by_hand t.removed t.key (keeps.taken t has).1 sent)
        (λ p has sent. not_sent p.key (keeps.parked_run p has).1.unsent sent)
        (λ x has sent. not_sent x.key (keeps.ready_done x has).1.run.unsent sent)

-- ---- a completion id that is in use

abbrev later_causes : Of → Option PutWhy
later_causes s = cond (nat_le max_held (length (held s))) (Some (why.Full (length (held s)))) (cond (nat_lt (max_entries - 3) (entry_count s)) (Some (why.Worn (entry_count s))) None)

pub found_in_use : (s new : Of) (job : Job) (key : Key) → PutRefused s job (why.Duplicate key) new → HeldIn s (key, job.completion)
found_in_use s new job key e = by s.live (sym (told (put_refusal s job)) ∙ ap (λ (r : Of × Option PutWhy). r.1) e)
  where
    free : (a b : Bool) (n m : ℕ) → cond a (Some (why.Full n)) (cond b (Some (why.Worn m)) None) ≡ Some (why.Duplicate key) → ⊥
    free true b n m f = cc (f)
    free false true n m f = cc (f)
    free false false n m f = cc (f)

    told : (found : Option PutWhy) → (put_unless s job found).1 ≡ found
    told None = refl
    told (Some cause) = refl

    at : (found : Option (Key × ℕ)) → find (λ (other : Key × ℕ). other.1 == job.completion) (held s) ≡ found → option_map_or (λ (other : Key × ℕ). Some (why.Duplicate other.0)) found (later_causes s) ≡ Some (why.Duplicate key) → HeldIn s (key, job.completion)
    at None f g = absurd (free (nat_le max_held (length (held s))) (nat_lt (max_entries - 3) (entry_count s)) (length (held s)) (entry_count s) g)
    at (Some other) f g =
        let has = find_has (λ (o : Key × ℕ). o.1 == job.completion) other (held s) f in
        let same : other.0 ≡ key = cc (g) in
        let id : other.1 ≡ job.completion = eqb-true other.1 job.completion has.1 in
        subst (HeldIn s) (λ i. (same i, id i)) has.0

    by : (b : Bool) → cond (not b) (Some why.Gone) (option_map_or (λ (other : Key × ℕ). Some (why.Duplicate other.0)) (find (λ (other : Key × ℕ). other.1 == job.completion) (held s)) (later_causes s)) ≡ Some (why.Duplicate key) → HeldIn s (key, job.completion)
    by true g = at (find (λ (other : Key × ℕ). other.1 == job.completion) (held s)) refl g
    by false g = absurd (cc (g))
