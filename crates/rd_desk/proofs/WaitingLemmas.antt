-- What each call of a station makes of the jobs that no hand took, and of the journal.
use Rattle.std.proofs.Common.{◌≡◌, ◌⊎◌, refl, sym, ap, subst, inl, inr, ℕ, Bool, true, false, not, cond, List, [], ◌∷◌, ◌++◌, map, append-nil}
use Rattle.std.specs.Prelude.{Err, IfSome, None, Ok, Option, Result, Some, find, nat_le}
use Rattle.std.specs.List.{AllByRecursion}
use Rattle.rd_base.specs.declared.journal.Cause.TheVariants.{Removed, Dropped}
use Rattle.rd_base.specs.declared.journal.Item.{Item}
use Rattle.rd_base.specs.declared.journal.Item.TheVariants.{Came, Cancelled, Cut, Ran, Sent}
use Rattle.rd_base.specs.Lawful.{RunsAt}
use Rattle.rd_irp.specs.Fits.{kind_of}
use Rattle.rd_drive.specs.declared.plan.Job.{Job}
use Rattle.rd_drive.specs.declared.step.Step.{Step}
use Rattle.rd_drive.specs.declared.step.End.{End}
use Rattle.rd_drive.specs.Device.{Parked, is_parked, is_starved}
use Rattle.rd_drive.specs.Planned.{Planned}
use Rattle.rd_drive.specs.Stepped.{Stepped}
use Rattle.rd_station.specs.declared.answers.Applied.{Applied}
use Rattle.rd_station.specs.declared.answers.Applied.TheVariants as applied
use Rattle.rd_station.specs.declared.answers.Completion.{Completion}
use Rattle.rd_station.specs.declared.answers.Given.{Given}
use Rattle.rd_station.specs.declared.answers.Given.TheVariants as given
use Rattle.rd_station.specs.declared.held.InHand.{InHand}
use Rattle.rd_station.specs.declared.refusals.AnnounceNo.{AnnounceNo}
use Rattle.rd_station.specs.declared.refusals.AnnounceNo.TheVariants as refused
use Rattle.rd_station.specs.declared.refusals.PutWhy.{PutWhy}
use Rattle.rd_station.specs.declared.refusals.PutWhy.TheVariants as why
use Rattle.rd_station.specs.Station.{PutRefused, StationCall, StationState, StationStep, announce, announces, applies, apply_from, cancelled_in_hand, cancelled_parked, cancelled_waiting, collect_first, collects, drop_channel, drops, emptied, ends, entry_count, is_key, marked_removed, max_entries, put_refusal, put_unless, puts, puts_unfit, ran, remove, removes, take, take_first, takes}
use Rattle.rd_station.proofs.Members.{Has, has_append, has_right}
use Rattle.rd_desk.specs.Own.{job_come}

-- the moment at which a call may run a job, if it may run one
abbrev pub moment_of : StationCall → Option ℕ
moment_of (applies planned moment answer) = Some moment
moment_of _ = None

-- it is the moment that was told
abbrev pub IsThen : ℕ → Option ℕ → Type 0
IsThen told at = IfSome at (λ moment. moment ≡ told)

-- what is given up doesn't run
cancels_run_none : (told : ℕ) (jobs : List Job) → AllByRecursion (RunsAt told) (map (λ (job : Job). Cancelled job.key) jobs)
cancels_run_none told [] = tt
cancels_run_none told (job ∷ jobs) = (tt, cancels_run_none told jobs)

module _ {S : Type 0} (old : StationState S) where
  -- What waits afterwards waited or came, and the journal only grows; what runs does so at this moment, if any does.
  pub record Goes (come : List Job) (at : Option ℕ) (new : StationState S) : Type 0 where
    pub waits : (job : Job) → Has job new.waiting → Has job old.waiting ⊎ Has job come
    pub more : List Item
    pub grows : new.journal ≡ old.journal ++ more
    pub runs : (told : ℕ) → IsThen told at → AllByRecursion (RunsAt told) more

  -- the same jobs wait, and these entries are new
  with_more : (come : List Job) (at : Option ℕ) (new : StationState S) (more : List Item) → new.waiting ≡ old.waiting → new.journal ≡ old.journal ++ more → ((told : ℕ) → IsThen told at → AllByRecursion (RunsAt told) more) → Goes come at new
  with_more come at new more same grows runs = record { waits = λ job has. inl (subst (Has job) same has); more = more; grows = grows; runs = runs }

  -- none wait, and these entries are new
  emptied_with : (new : StationState S) (more : List Item) → new.waiting ≡ [] → new.journal ≡ old.journal ++ more → ((told : ℕ) → AllByRecursion (RunsAt told) more) → Goes [] None new
  emptied_with new more none grows runs = record { waits = λ job has. absurd (subst (Has job) none has); more = more; grows = grows; runs = λ told then. runs told }

  stays : (come : List Job) (at : Option ℕ) → Goes come at old
  stays come at = with_more come at old [] refl (sym (append-nil old.journal)) (λ told then. tt)

  announced : Goes [] None (announce old).0
  announced = by old.live
    where
      room : (b : Bool) → Goes [] None (cond {A = StationState S × Result (Unit {0}) AnnounceNo} b (old, Err (refused.Worn (entry_count old))) (record old { live = true }, Ok tt)).0
      room true = stays [] None
      room false = with_more [] None (record old { live = true }) [] refl (sym (append-nil old.journal)) (λ told then. tt)

      by : (b : Bool) → Goes [] None (cond {A = StationState S × Result (Unit {0}) AnnounceNo} b (old, Err refused.Live)
          (cond (nat_le max_entries (entry_count old)) (old, Err (refused.Worn (entry_count old))) (record old { live = true }, Ok tt))).0
      by true = stays [] None
      by false = room (nat_le max_entries (entry_count old))

  taken_first : (jobs : List Job) → old.waiting ≡ jobs → Goes [] None (take_first old jobs).0
  taken_first [] is = stays [] None
  taken_first (j ∷ jobs) is = record { waits = λ job has. inl (subst (Has job) (sym is) (inr has)); more = []; grows = sym (append-nil old.journal); runs = λ told then. tt }

  taken : Goes [] None (take old).0
  taken = by old.ended
    where
      by : (b : Bool) → Goes [] None (cond {A = StationState S × Given} b (old, given.Over) (take_first old old.waiting)).0
      by true = stays [] None
      by false = taken_first old.waiting refl

  given_back : (job : Job) (moment : ℕ) (came : Stepped S) (found : Option InHand) → Goes [] (Some moment) (apply_from old job moment came found).0
  given_back job moment came None = stays [] (Some moment)
  given_back job moment came (Some t) = by t.removed
    where
      by : (b : Bool) → Goes [] (Some moment) (cond {A = StationState S × Applied} b (cancelled_in_hand old t (kind_of job.op), applied.Cancelled)
          (ran old t (kind_of job.op) moment came, cond (is_parked came.answer) applied.Parked applied.Ran)).0
      by true = with_more [] (Some moment) (cancelled_in_hand old t (kind_of job.op)) (Cancelled t.key ∷ []) refl refl (λ told then. (tt, tt))
      by false = with_more [] (Some moment) (ran old t (kind_of job.op) moment came) (Ran t.key moment (is_starved came.answer) (is_parked came.answer) ∷ []) refl refl (λ told then. (then, tt))

  collected : (cs : List Completion) → Goes [] None (collect_first old cs).0
  collected [] = stays [] None
  collected (c ∷ cs) = with_more [] None (record old { ready = cs; journal = old.journal ++ Sent c.key ∷ [] }) (Sent c.key ∷ []) refl refl (λ told then. (tt, tt))

  removed : (cut : S) → Goes [] None (remove old cut).0
  removed cut = by (not old.live)
    where
      then : StationState S
      then = record old {
        device = cut;
        live = false;
        waiting = [];
        taken = map marked_removed old.taken;
        parked = [];
        ready = old.ready ++ map cancelled_parked old.parked ++ map cancelled_waiting old.waiting;
        journal = old.journal ++ Cut Removed ∷ map (λ (job : Job). Cancelled job.key) old.waiting;
      }

      by : (b : Bool) → Goes [] None (cond {A = StationState S × Bool} b (old, false) (then, true)).0
      by true = stays [] None
      by false = emptied_with then (Cut Removed ∷ map (λ (job : Job). Cancelled job.key) old.waiting) refl refl (λ told. (tt, cancels_run_none told old.waiting))

  dropped : (cut : S) → Goes [] None (drop_channel old cut)
  dropped cut = by old.live
    where
      by : (b : Bool) → Goes [] None (cond b (record (emptied old) { device = cut; live = false; journal = old.journal ++ Cut Dropped ∷ [] }) (emptied old))
      by true = emptied_with (record (emptied old) { device = cut; live = false; journal = old.journal ++ Cut Dropped ∷ [] }) (Cut Dropped ∷ []) refl refl (λ told. (tt, tt))
      by false = emptied_with (emptied old) [] refl (sym (append-nil old.journal)) (λ told. tt)

  ended : (s : StationState S) → Goes [] None s → Goes [] None (record s { ended = true })
  ended s is = record { waits = is.waits; more = is.more; grows = is.grows; runs = is.runs }

  -- a job that comes is the last that waits, and the journal says so
  put_comes : (job : Job) (new : StationState S) (found : Option PutWhy) → put_unless old job found ≡ (new, None) → Goes (job ∷ []) None new × (new.journal ≡ old.journal ++ Came job.key ∷ [])
  put_comes job new None e =
      let then : StationState S = record old { waiting = old.waiting ++ job ∷ []; journal = old.journal ++ Came job.key ∷ [] } in
      let same : then ≡ new = ap (λ (x : StationState S × Option PutWhy). x.0) e in (
        record { waits = λ j has. has_append j old.waiting (job ∷ []) (subst (λ (s : StationState S). Has j s.waiting) (sym same) has); more = Came job.key ∷ []; grows = ap (λ (s : StationState S). s.journal) (sym same); runs = λ told then. (tt, tt) },
        ap (λ (s : StationState S). s.journal) (sym same),
      )
  put_comes job new (Some cause) e = absurd (cc (ap (λ (x : StationState S × Option PutWhy). x.1) e))

  put_stays : (job : Job) (new : StationState S) (cause : PutWhy) (found : Option PutWhy) → put_unless old job found ≡ (new, Some cause) → new ≡ old
  put_stays job new cause None e = absurd (cc (ap (λ (x : StationState S × Option PutWhy). x.1) e))
  put_stays job new cause (Some other) e = sym (ap (λ (x : StationState S × Option PutWhy). x.0) e)

  put_fails : (job : Job) (new : StationState S) (cause : PutWhy) → PutRefused old job cause new → new ≡ old
  put_fails job new why.Memory e = e.1
  put_fails job new why.Gone e = put_stays job new why.Gone (put_refusal old job) e
  put_fails job new (why.Duplicate key) e = put_stays job new (why.Duplicate key) (put_refusal old job) e
  put_fails job new (why.Full count) e = put_stays job new (why.Full count) (put_refusal old job) e
  put_fails job new (why.Worn count) e = put_stays job new (why.Worn count) (put_refusal old job) e

  module _ (Runs : S → Planned → ℕ → Step → List End → S → Type 0) (parked : S → List Parked) (Cuts : S → S → Type 0) (new : StationState S) where
    goes : {A : Type 0} (at : Option ℕ) (made : StationState S × A) (answer : A) → made ≡ (new, answer) → Goes [] at made.0 → Goes [] at new
    goes {A} at made answer e is = subst (Goes [] at) (ap (λ (x : StationState S × A). x.0) e) is

    unchanged : new ≡ old → Goes [] None new
    unchanged same = subst (Goes [] None) (sym same) (stays [] None)

    pub step_goes : (call : StationCall) → StationStep Runs parked Cuts old call new → Goes (job_come call) (moment_of call) new
    step_goes (announces (Ok done)) e = goes None (announce old) (Ok done) e announced
    step_goes (announces (Err refused.Memory)) e = unchanged e.1
    step_goes (announces (Err refused.Live)) e = goes None (announce old) (Err refused.Live) e announced
    step_goes (announces (Err (refused.Worn count))) e = goes None (announce old) (Err (refused.Worn count)) e announced
    step_goes (puts job None) e = (put_comes job new (put_refusal old job) e.1).0
    step_goes (puts job (Some refusal)) e = unchanged (put_fails job new refusal.why e.1)
    step_goes (puts_unfit job back) e = unchanged e.1
    step_goes (takes answer) e = goes None (take old) answer e taken
    step_goes (applies planned moment answer) e = goes (Some moment) (apply_from old planned.job moment e.0 (find (λ (t : InHand). is_key t.key planned.job.key) old.taken)) answer e.1 (given_back planned.job moment e.0 (find (λ (t : InHand). is_key t.key planned.job.key) old.taken))
    step_goes (collects answer) e = goes None (collect_first old old.ready) answer e (collected old.ready)
    step_goes (removes answer) e = goes None (remove old e.0) answer e.1 (removed e.0)
    step_goes drops e = subst (Goes [] None) e.1 (dropped e.0)
    step_goes ends e = subst (Goes [] None) e.1 (ended (drop_channel old e.0) (dropped e.0))

    -- a job that is given waited
    pub given_waited : (job : Job) → StationStep Runs parked Cuts old (takes (given.Job job)) new → Has job old.waiting
    given_waited job e = by old.ended e
      where
        first : (jobs : List Job) → take_first old jobs ≡ (new, given.Job job) → Has job jobs
        first [] e = absurd (cc (ap (λ (x : StationState S × Given). x.1) e))
        first (j ∷ jobs) e = let same : given.Job j ≡ given.Job job = ap (λ (x : StationState S × Given). x.1) e in inl (sym (cc (same)))

        by : (b : Bool) → cond {A = StationState S × Given} b (old, given.Over) (take_first old old.waiting) ≡ (new, given.Job job) → Has job old.waiting
        by true e = absurd (cc (ap (λ (x : StationState S × Given). x.1) e))
        by false e = first old.waiting e

    -- the journal names the key of a job that comes
    pub came_now : (call : StationCall) → StationStep Runs parked Cuts old call new → (job : Job) → Has job (job_come call) → Has (Came job.key) new.journal
    came_now (puts j None) e job (inl same) =
        subst (Has (Came job.key)) (sym (put_comes j new (put_refusal old j) e.1).1) (has_right (Came job.key) old.journal (Came j.key ∷ []) (inl (ap (λ (x : Job). Came x.key) same)))
    came_now (puts j None) e job (inr none) = absurd none
    came_now (puts j (Some refusal)) e job none = absurd none
    came_now (announces r) e job none = absurd none
    came_now (puts_unfit j back) e job none = absurd none
    came_now (takes r) e job none = absurd none
    came_now (applies p moment r) e job none = absurd none
    came_now (collects r) e job none = absurd none
    came_now (removes r) e job none = absurd none
    came_now drops e job none = absurd none
    came_now ends e job none = absurd none
