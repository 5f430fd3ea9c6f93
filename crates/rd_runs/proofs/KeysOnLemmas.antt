-- The requests that a client holds came on the channel that began last.
use Rattle.std.proofs.Common.{◌≡◌, ◌∙◌, refl, sym, ap, subst, ℕ, Bool, true, false, cond, not, List, [], ◌∷◌, ◌++◌, map, filter, Some, None, Option, Result, Ok, Err}
use Rattle.std.specs.Prelude.{find, if◌then◌else◌, nat_le}
use Rattle.std.specs.List.{AllByRecursion, flat_map}
use Rattle.std.specs.Option.{IfSome, option_map_or}
use Rattle.rd_base.specs.declared.journal.Cause.TheVariants.{Removed}
use Rattle.rd_base.specs.declared.journal.Item.TheVariants.{Cancelled, Cut, Sent}
use Rattle.rd_base.specs.declared.journal.Key.{Key}
use Rattle.rd_drive.proofs.AllLemmas.{all_append}
use Rattle.rd_drive.specs.declared.plan.Job.{Job}
use Rattle.rd_drive.specs.declared.step.End.{End}
use Rattle.rd_drive.specs.declared.step.Step.{Step}
use Rattle.rd_drive.specs.declared.step.Step.TheVariants as step
use Rattle.rd_drive.specs.Device.{is_parked}
use Rattle.rd_drive.specs.Stepped.{Stepped}
use Rattle.rd_irp.specs.declared.completion.Kind.{Kind}
use Rattle.rd_irp.specs.Fits.{kind_of}
use Rattle.rd_station.specs.declared.answers.Applied.{Applied}
use Rattle.rd_station.specs.declared.answers.Applied.TheVariants as applied
use Rattle.rd_station.specs.declared.answers.Completion.{Completion}
use Rattle.rd_station.specs.declared.answers.Given.{Given}
use Rattle.rd_station.specs.declared.answers.Given.TheVariants as given
use Rattle.rd_station.specs.declared.held.InHand.{InHand}
use Rattle.rd_station.specs.declared.held.ParkedJob.{ParkedJob}
use Rattle.rd_station.specs.declared.refusals.AnnounceNo.{AnnounceNo}
use Rattle.rd_station.specs.declared.refusals.AnnounceNo.TheVariants as refused
use Rattle.rd_station.specs.declared.refusals.PutWhy.{PutWhy}
use Rattle.rd_station.specs.Station as station
use Rattle.rd_station.specs.Station.{StationState, apply_from, cancelled_in_hand, cancelled_parked, cancelled_waiting, ended_completion, entry_count, is_ended, is_key, marked_removed, max_entries, own_completion, parked_after, put_refusal, put_unless, ran, take_first, without_taken}
use Rattle.rd_declared.specs.declared.device.SessionDevice.{SessionDevice}
use Rattle.rd_runs.proofs.IdleLemmas.{IsIdle}

-- ---- lists

module _ {A : Type 0} (P : A → Type 0) where
  pub all_filtered : (p : A → Bool) (xs : List A) → AllByRecursion P xs → AllByRecursion P (filter p xs)
  all_filtered p [] all = tt
  all_filtered p (x ∷ xs) all = by (p x) (all_filtered p xs all.1)
    where
      by : (b : Bool) → AllByRecursion P (filter p xs) → AllByRecursion P (cond b (x ∷ filter p xs) (filter p xs))
      by true later = (all.0, later)
      by false later = later

  pub found_one : (p : A → Bool) (xs : List A) → AllByRecursion P xs → IfSome (find p xs) P
  found_one p [] all = tt
  found_one p (x ∷ xs) all = by (p x) (found_one p xs all.1)
    where
      by : (b : Bool) → IfSome (find p xs) P → IfSome (cond b (Some x) (find p xs)) P
      by true later = all.0
      by false later = later

  pub all_mapped : {B : Type 0} (f : B → A) (Q : B → Type 0) → ((x : B) → Q x → P (f x)) → (xs : List B) → AllByRecursion Q xs → AllByRecursion P (map f xs)
  all_mapped f Q one [] all = tt
  all_mapped f Q one (x ∷ xs) all = (one x all.0, all_mapped f Q one xs all.1)

  pub all_flat : {B : Type 0} (f : B → List A) → ((x : B) → AllByRecursion P (f x)) → (xs : List B) → AllByRecursion P (flat_map f xs)
  all_flat f one [] = tt
  all_flat f one (x ∷ xs) = all_append P (f x) (flat_map f xs) (one x) (all_flat f one xs)

-- ---- a station

-- each job that it holds came on the channel
pub record HeldOn (c : ℕ) (s : StationState SessionDevice) : Type 0 where
  pub waiting : AllByRecursion (λ (job : Job). (job.key).channel ≡ c) s.waiting
  pub taken : AllByRecursion (λ (t : InHand). (t.key).channel ≡ c) s.taken
  pub parked : AllByRecursion (λ (p : ParkedJob). (p.key).channel ≡ c) s.parked
  pub ready : AllByRecursion (λ (x : Completion). (x.key).channel ≡ c) s.ready

-- where nothing is held any channel will do
pub idle_on : (c : ℕ) (s : StationState SessionDevice) → IsIdle s → HeldOn c s
idle_on c s idle = record { waiting = rw idle.waiting tt; taken = rw idle.taken tt; parked = rw idle.parked tt; ready = rw idle.ready tt }

module _ (c : ℕ) (s : StationState SessionDevice) (h : HeldOn c s) where
  abbrev OnC : Completion → Type 0
  OnC x = (x.key).channel ≡ c

  pub announced_on : HeldOn c (station.announce s).0
  announced_on = by s.live (nat_le max_entries (entry_count s))
    where
      by : (live worn : Bool)
          → HeldOn c (cond {A = StationState SessionDevice × Result (Unit {0}) AnnounceNo} live (s, Err refused.Live)
          (cond worn (s, Err (refused.Worn (entry_count s))) (record s { live = true }, Ok tt))).0
      by true worn = h
      by false true = h
      by false false = record { waiting = h.waiting; taken = h.taken; parked = h.parked; ready = h.ready }

  pub put_on : (job : Job) → (job.key).channel ≡ c → (o : Option PutWhy) → HeldOn c (put_unless s job o).0
  put_on job own None = record {
    waiting = all_append (λ (job : Job). (job.key).channel ≡ c) s.waiting (job ∷ []) h.waiting (own, tt);
    taken = h.taken;
    parked = h.parked;
    ready = h.ready;
  }
  put_on job own (Some cause) = h

  pub took_on : (after : StationState SessionDevice) (job : Job) → station.take s ≡ (after, given.Job job) → HeldOn c after
  took_on after job made = by s.ended refl s.waiting refl
    where
      by : (b : Bool) → s.ended ≡ b → (jobs : List Job) → s.waiting ≡ jobs → HeldOn c after
      by true over jobs is = let none : station.take s ≡ (s, given.Over) = rw over refl in absurd (cc (ap (λ r. r.1) none, ap (λ r. r.1) made))
      by false over [] is = let none : station.take s ≡ (s, given.Nothing) = rw (over, is) refl in absurd (cc (ap (λ r. r.1) none, ap (λ r. r.1) made))
      by false over (first ∷ jobs) is =
          let now : StationState SessionDevice = record s { waiting = jobs; taken = s.taken ++ record { key = first.key; completion = first.completion; removed = false } ∷ [] } in
          let one : station.take s ≡ (now, given.Job first) = rw (over, is) refl in
          let all = subst (AllByRecursion (λ (job : Job). (job.key).channel ≡ c)) is h.waiting in
          subst (HeldOn c) (ap (λ (r : StationState SessionDevice × Given). r.0) (sym one ∙ made)) (record {
            waiting = all.1;
            taken = all_append (λ (t : InHand). (t.key).channel ≡ c) s.taken (record { key = first.key; completion = first.completion; removed = false } ∷ []) h.taken (all.0, tt);
            parked = h.parked;
            ready = h.ready;
          })

  own_on : (t : InHand) (kind : Kind) (answer : Step) → (t.key).channel ≡ c → AllByRecursion OnC (own_completion t kind answer)
  own_on t kind (step.Reply reply) own = (own, tt)
  own_on t kind step.Parked own = tt

  ended_on : (e : End) → AllByRecursion OnC (ended_completion s.parked e)
  ended_on e = by (find (λ (p : ParkedJob). is_key p.key e.key) s.parked) (found_one (λ (p : ParkedJob). (p.key).channel ≡ c) (λ (p : ParkedJob). is_key p.key e.key) s.parked h.parked)
    where
      by : (o : Option ParkedJob) → IfSome o (λ (p : ParkedJob). (p.key).channel ≡ c)
          → AllByRecursion OnC (option_map_or (λ (p : ParkedJob). station.completion_of p.key p.completion p.kind e.reply ∷ []) o [])
      by None own = tt
      by (Some p) own = (own, tt)

  without_on : (key : Key) → AllByRecursion (λ (t : InHand). (t.key).channel ≡ c) (without_taken key s.taken)
  without_on key = all_filtered (λ (t : InHand). (t.key).channel ≡ c) (λ (t : InHand). not (is_key t.key key)) s.taken h.taken

  parked_on : (t : InHand) (kind : Kind) (answer : Step) (ends : List End) → (t.key).channel ≡ c
      → AllByRecursion (λ (p : ParkedJob). (p.key).channel ≡ c) (parked_after s.parked t kind answer ends)
  parked_on t kind answer ends own =
      let P : ParkedJob → Type 0 = λ p. (p.key).channel ≡ c in
      all_append P (filter (λ p. not (is_ended ends p)) s.parked) _ (all_filtered P (λ p. not (is_ended ends p)) s.parked h.parked) (by (is_parked answer))
    where
      by : (b : Bool) → AllByRecursion (λ (p : ParkedJob). (p.key).channel ≡ c) (if b then record { key = t.key; completion = t.completion; kind = kind } ∷ [] else [])
      by true = (own, tt)
      by false = tt

  pub applied_on : (job : Job) (moment : ℕ) (came : Stepped SessionDevice) → HeldOn c (station.apply s job moment came).0
  applied_on job moment came =
      by (find (λ (t : InHand). is_key t.key job.key) s.taken) (found_one (λ (t : InHand). (t.key).channel ≡ c) (λ (t : InHand). is_key t.key job.key) s.taken h.taken)
    where
      by : (o : Option InHand) → IfSome o (λ (t : InHand). (t.key).channel ≡ c) → HeldOn c (apply_from s job moment came o).0
      by None own = h
      by (Some t) own = hand t.removed
        where
          hand : (removed : Bool)
              → HeldOn c (cond {A = StationState SessionDevice × Applied} removed (cancelled_in_hand s t (kind_of job.op), applied.Cancelled)
              (ran s t (kind_of job.op) moment came, cond (is_parked came.answer) applied.Parked applied.Ran)).0
          hand true = record { waiting = h.waiting; taken = without_on t.key; parked = h.parked; ready = all_append OnC s.ready (_ ∷ []) h.ready (own, tt) }
          hand false = record {
            waiting = h.waiting;
            taken = without_on t.key;
            parked = parked_on t (kind_of job.op) came.answer came.ends own;
            ready = all_append OnC (s.ready ++ own_completion t (kind_of job.op) came.answer) (flat_map (ended_completion s.parked) came.ends)
                (all_append OnC s.ready (own_completion t (kind_of job.op) came.answer) h.ready (own_on t (kind_of job.op) came.answer own))
                (all_flat OnC (ended_completion s.parked) ended_on came.ends);
          }

  pub collected_on : (after : StationState SessionDevice) (x : Completion) → station.collect s ≡ (after, Some x) → ((x.key).channel ≡ c) × HeldOn c after
  collected_on after x made = by s.ready refl
    where
      by : (xs : List Completion) → s.ready ≡ xs → ((x.key).channel ≡ c) × HeldOn c after
      by [] is = let none : station.collect s ≡ (s, None) = rw is refl in absurd (cc (ap (λ r. r.1) none, ap (λ r. r.1) made))
      by (first ∷ xs) is =
          let now : StationState SessionDevice = record s { ready = xs; journal = s.journal ++ Sent first.key ∷ [] } in
          let one : station.collect s ≡ (now, Some first) = rw is refl in
          let all = subst (AllByRecursion OnC) is h.ready in
          let same : first ≡ x = (let both : Some first ≡ Some x = ap (λ (r : StationState SessionDevice × Option Completion). r.1) (sym one ∙ made) in cc) in (
            subst OnC same all.0,
            subst (HeldOn c) (ap (λ (r : StationState SessionDevice × Option Completion). r.0) (sym one ∙ made))
                (record { waiting = h.waiting; taken = h.taken; parked = h.parked; ready = all.1 }),
          )

  pub removed_on : (cut : SessionDevice) → HeldOn c (station.remove s cut).0
  removed_on cut = by s.live
    where
      gone : StationState SessionDevice
      gone = record s {
        device = cut;
        live = false;
        waiting = [];
        taken = map marked_removed s.taken;
        parked = [];
        ready = s.ready ++ map cancelled_parked s.parked ++ map cancelled_waiting s.waiting;
        journal = s.journal ++ Cut Removed ∷ map (λ (job : Job). Cancelled job.key) s.waiting;
      }

      by : (live : Bool) → HeldOn c (cond {A = StationState SessionDevice × Bool} (not live) (s, false) (gone, true)).0
      by false = h
      by true = record {
        waiting = tt;
        taken = all_mapped (λ (t : InHand). (t.key).channel ≡ c) marked_removed (λ (t : InHand). (t.key).channel ≡ c) (λ t own. own) s.taken h.taken;
        parked = tt;
        ready = all_append OnC (s.ready ++ map cancelled_parked s.parked) (map cancelled_waiting s.waiting)
            (all_append OnC s.ready (map cancelled_parked s.parked) h.ready (all_mapped OnC cancelled_parked (λ (p : ParkedJob). (p.key).channel ≡ c) (λ p own. own) s.parked h.parked))
            (all_mapped OnC cancelled_waiting (λ (job : Job). (job.key).channel ≡ c) (λ job own. own) s.waiting h.waiting);
      }
