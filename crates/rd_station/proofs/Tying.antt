-- A station stays tied to its journal.
use Rattle.std.proofs.Common.{◌≡◌, ◌≢◌, ◌⊎◌, ◌∙◌, refl, sym, ap, subst, inl, inr, ℕ, Bool, true, false, cond, not, List, [], ◌∷◌, ◌++◌, map}
use Rattle.std.specs.Prelude.{All, IsFalse, Some, None, Option, Result, Ok, Err, find, nat_le}
use Rattle.std.specs.List.{AllByRecursion, flat_map}
use Rattle.std.specs.Option.{option_map_or}
use Rattle.std.proofs.lemmas.List.{append_assoc, append-nil}
use Rattle.std.proofs.lemmas.List.Elements.{All-contains, All-nil}
use Rattle.rd_base.specs.declared.journal.Key.{Key}
use Rattle.rd_base.specs.declared.journal.Cause.TheVariants.{Removed, Dropped}
use Rattle.rd_base.specs.declared.journal.Item.{Item}
use Rattle.rd_base.specs.declared.journal.Item.TheVariants.{Came, Ran, Cancelled, Sent, Cut}
use Rattle.rd_irp.specs.declared.completion.Kind.{Kind}
use Rattle.rd_irp.specs.declared.op.Op.{Op}
use Rattle.rd_irp.specs.declared.op.Op.TheVariants.{Close}
use Rattle.rd_irp.specs.declared.request.Request.{Request}
use Rattle.rd_irp.specs.Fits.{kind_of}
use Rattle.rd_drive.specs.declared.plan.Job.{Job}
use Rattle.rd_drive.specs.declared.step.Step.{Step}
use Rattle.rd_drive.specs.declared.step.Step.TheVariants as step
use Rattle.rd_drive.specs.declared.step.End.{End}
use Rattle.rd_drive.specs.Device.{Parked, is_parked, is_starved}
use Rattle.rd_drive.specs.Planned.{Planned}
use Rattle.rd_drive.specs.Promise.{cut_end}
use Rattle.rd_drive.specs.Replies.{AreToldBy, IsAnswer, KeyedReply, cancellation, end_reply, last_state_by, own_reply, replies_at, replies_by, run_of, state_after}
use Rattle.rd_drive.specs.Stepped.{Settled, Stepped, ran_step}
use Rattle.rd_station.specs.declared.answers.Applied.{Applied}
use Rattle.rd_station.specs.declared.answers.Applied.TheVariants as applied
use Rattle.rd_station.specs.declared.answers.Completion.{Completion}
use Rattle.rd_station.specs.declared.answers.Given.{Given}
use Rattle.rd_station.specs.declared.answers.Given.TheVariants as given
use Rattle.rd_station.specs.declared.refusals.AnnounceNo.{AnnounceNo}
use Rattle.rd_station.specs.declared.refusals.AnnounceNo.TheVariants as refused
use Rattle.rd_station.specs.declared.refusals.PutWhy.{PutWhy}
use Rattle.rd_station.specs.declared.refusals.PutWhy.TheVariants as why
use Rattle.rd_station.specs.declared.held.InHand.{InHand}
use Rattle.rd_station.specs.declared.held.ParkedJob.{ParkedJob}
use Rattle.rd_station.specs.Station.{CameOf, DidRun, PutRefused, StationCall, StationState, StationStep, StationSteps, announce, announces, applies, apply_from, cancelled_in_hand, cancelled_parked, cancelled_waiting, collect, collect_first, collects, completion_of, drop_channel, drops, emptied, ended_completion, ends, entry_count, is_key, marked_removed, max_entries, new_station, own_completion, put_refusal, put_unless, puts, puts_unfit, ran, remove, removes, take, take_first, takes}
use Rattle.rd_station.specs.Tied.{IsReached, IsRunBy, IsTied, RunsOwn, as_parked}
use Rattle.rd_station.proofs.Members.{Has, all_of, find_has, from_contains, has_append, has_left, has_map, has_right, map_has, same_key, to_contains}
use Rattle.rd_station.proofs.Cancelling.{cancellations}
use Rattle.rd_station.proofs.Calls.{did_run, reached_kept, reached_new, reached_step, was_removed}

-- ---- the replies of completions

-- a completion's reply, with its key
abbrev pub keyed : Completion → KeyedReply
keyed x = (x.key, x.reply)

-- the job's own completion has its own reply
own_keyed : (t : InHand) (kind : Kind) (answer : Step) (x : Completion) → Has x (own_completion t kind answer) → Has (keyed x) (own_reply t.key answer)
own_keyed t kind (step.Reply reply) x (inl same) = inl (ap keyed same)
own_keyed t kind (step.Reply reply) x (inr none) = absurd none
own_keyed t kind step.Parked x none = absurd none

-- what becomes ready by an end has the end's reply
one_keyed : (ps : List ParkedJob) (e : End) (found : Option ParkedJob) → find (λ (p : ParkedJob). is_key p.key e.key) ps ≡ found → (x : Completion)
    → Has x (option_map_or (λ (p : ParkedJob). completion_of p.key p.completion p.kind e.reply ∷ []) found []) → keyed x ≡ end_reply e
one_keyed ps e None f x none = absurd none
one_keyed ps e (Some p) f x (inl same) =
    let key : p.key ≡ e.key = same_key p.key e.key (find_has (λ (q : ParkedJob). is_key q.key e.key) p ps f).1 in
    ap keyed same ∙ ap (λ (k : Key). (k, e.reply)) key
one_keyed ps e (Some p) f x (inr none) = absurd none

ends_keyed : (ps : List ParkedJob) (es : List End) (x : Completion) → Has x (flat_map (ended_completion ps) es) → Has (keyed x) (map end_reply es)
ends_keyed ps [] x none = absurd none
ends_keyed ps (e ∷ es) x has = elim (has_append x (ended_completion ps e) (flat_map (ended_completion ps) es) has) [
  | inl here ↦ inl (one_keyed ps e (find (λ (p : ParkedJob). is_key p.key e.key) ps) refl x here)
  | inr later ↦ inr (ends_keyed ps es x later)
]

-- a parked job that is cancelled has the reply that its cut gives it
parked_keyed : (p : ParkedJob) (ps : List ParkedJob) → Has p ps → Has (keyed (cancelled_parked p)) (map end_reply (map cut_end (map as_parked ps)))
parked_keyed p ps has = has_map end_reply (cut_end (as_parked p)) (map cut_end (map as_parked ps)) (has_map cut_end (as_parked p) (map as_parked ps) (has_map as_parked p ps has))

-- a job that no hand took is cancelled by its entry
waiting_cancelled : (job : Job) (ws : List Job) → Has job ws → Has (Cancelled job.key) (cancellations ws)
waiting_cancelled job ws has = has_map (λ (j : Job). Cancelled j.key) job ws has

-- ---- journals with more entries

module _ {S : Type 0} (step : S → Key → ℕ → Op → ℕ → Stepped S) (cut : S → Settled S) (requests : Key → Request) where
  last_append : (s : S) (a b : List Item) → last_state_by step cut requests s (a ++ b) ≡ last_state_by step cut requests (last_state_by step cut requests s a) b
  last_append s [] b = refl
  last_append s (x ∷ a) b = last_append (state_after step cut requests s x) a b

  told_append : (s : S) (a b : List Item) → AreToldBy step cut requests s a → AreToldBy step cut requests (last_state_by step cut requests s a) b → AreToldBy step cut requests s (a ++ b)
  told_append s [] b one other = other
  told_append s (x ∷ a) b one other = (one.0, told_append (state_after step cut requests s x) a b one.1 other)

  replies_append : (s : S) (a b : List Item)
      → replies_by step cut requests s (a ++ b) ≡ replies_by step cut requests s a ++ replies_by step cut requests (last_state_by step cut requests s a) b
  replies_append s [] b = refl
  replies_append s (x ∷ a) b =
      let after = state_after step cut requests s x in
      ap (λ (rs : List KeyedReply). replies_at step cut requests s x ++ rs) (replies_append after a b)
      ∙ sym (append_assoc (replies_at step cut requests s x) (replies_by step cut requests after a) (replies_by step cut requests (last_state_by step cut requests after a) b))

  -- cancellations leave the device as it is, and have no marks
  cancels_last : (s : S) (ws : List Job) → last_state_by step cut requests s (cancellations ws) ≡ s
  cancels_last s [] = refl
  cancels_last s (w ∷ ws) = cancels_last s ws

  cancels_told : (s : S) (ws : List Job) → AreToldBy step cut requests s (cancellations ws)
  cancels_told s [] = tt
  cancels_told s (w ∷ ws) = (tt, cancels_told s ws)

  -- the answer to a key, by entries that begin in a state
  abbrev Answers : S → List Item → Completion → Type 0
  Answers s entries x = Has (keyed x) (replies_by step cut requests s entries) ⊎ (Has (Cancelled x.key) entries × (x.reply ≡ cancellation))

  -- what was the answer stays it, and what later entries answer is
  answer_before : (s : S) (a b : List Item) (x : Completion) → IsAnswer (replies_by step cut requests s a) a x.key x.reply → Answers s (a ++ b) x
  answer_before s a b x (inl has) = inl (subst (Has (keyed x)) (sym (replies_append s a b))
      (has_left (keyed x) (replies_by step cut requests s a) (replies_by step cut requests (last_state_by step cut requests s a) b) (from_contains (replies_by step cut requests s a) (keyed x) has)))
  answer_before s a b x (inr is) = inr (has_left (Cancelled x.key) a b (from_contains a (Cancelled x.key) is.0), is.1)

  answer_after : (s : S) (a b : List Item) (x : Completion) → Answers (last_state_by step cut requests s a) b x → Answers s (a ++ b) x
  answer_after s a b x (inl has) = inl (subst (Has (keyed x)) (sym (replies_append s a b)) (has_right (keyed x) (replies_by step cut requests s a) (replies_by step cut requests (last_state_by step cut requests s a) b) has))
  answer_after s a b x (inr is) = inr (has_right (Cancelled x.key) a b is.0, is.1)

  is_answer : (s : S) (entries : List Item) (x : Completion) → Answers s entries x → IsAnswer (replies_by step cut requests s entries) entries x.key x.reply
  is_answer s entries x (inl has) = inl (to_contains (replies_by step cut requests s entries) (keyed x) has)
  is_answer s entries x (inr is) = inr (to_contains entries (Cancelled x.key) is.0, is.1)

  -- ---- a station with more entries

  module _ (opening : S) (s : StationState S) (tied : IsTied step cut requests opening s) where
    -- a completion that was ready is an answer
    was_answer : (x : Completion) → Has x s.ready → IsAnswer (replies_by step cut requests opening s.journal) s.journal x.key x.reply
    was_answer x has = All-contains (λ (c : Completion). IsAnswer (replies_by step cut requests opening s.journal) s.journal c.key c.reply) s.ready x tied.ready (to_contains s.ready x has)

    -- where the device is as the entries leave it, and what is ready was so or is an answer of theirs
    tied_more : (new : StationState S) (entries : List Item) → new.journal ≡ s.journal ++ entries → AreToldBy step cut requests s.device entries
        → new.device ≡ last_state_by step cut requests s.device entries → ((x : Completion) → Has x new.ready → Has x s.ready ⊎ Answers s.device entries x)
        → IsTied step cut requests opening new
    tied_more new entries journal told device ready = record {
      marked = subst (AreToldBy step cut requests opening) (sym journal)
          (told_append opening s.journal entries tied.marked (subst (λ (d : S). AreToldBy step cut requests d entries) tied.device told));
      device = device ∙ ap (λ (d : S). last_state_by step cut requests d entries) tied.device ∙ sym (last_append opening s.journal entries)
          ∙ ap (last_state_by step cut requests opening) (sym journal);
      ready = subst (λ (j : List Item). All (λ (c : Completion). IsAnswer (replies_by step cut requests opening j) j c.key c.reply) new.ready) (sym journal)
          (all_of (λ (c : Completion). IsAnswer (replies_by step cut requests opening (s.journal ++ entries)) (s.journal ++ entries) c.key c.reply) new.ready
          (λ x has. is_answer opening (s.journal ++ entries) x (answer x (ready x has))));
    }
      where
        answer : (x : Completion) → Has x s.ready ⊎ Answers s.device entries x → Answers opening (s.journal ++ entries) x
        answer x (inl before) = answer_before opening s.journal entries x (was_answer x before)
        answer x (inr after) = answer_after opening s.journal entries x (subst (λ (d : S). Answers d entries x) tied.device after)

    -- where none is added
    tied_same : (new : StationState S) → new.journal ≡ s.journal → new.device ≡ s.device → ((x : Completion) → Has x new.ready → Has x s.ready) → IsTied step cut requests opening new
    tied_same new journal device ready = tied_more new [] (journal ∙ sym (append-nil s.journal)) tt device (λ x has. inl (ready x has))

    -- nothing changed
    unchanged : (new : StationState S) → new ≡ s → IsTied step cut requests opening new
    unchanged new e = subst (IsTied step cut requests opening) (sym e) tied

    -- ---- each call

    tied_announce : IsTied step cut requests opening (announce s).0
    tied_announce = by s.live (nat_le max_entries (entry_count s))
      where
        by : (a b : Bool) → IsTied step cut requests opening (cond {A = StationState S × Result (Unit {0}) AnnounceNo} a (s, Err refused.Live) (cond b (s, Err (refused.Worn (entry_count s))) (record s { live = true }, Ok tt))).0
        by true b = tied
        by false true = tied
        by false false = tied_same (record s { live = true }) refl refl (λ x has. has)

    tied_put : (job : Job) (found : Option PutWhy) → IsTied step cut requests opening (put_unless s job found).0
    tied_put job None = tied_more (put_unless s job None).0 (Came job.key ∷ []) refl (tt, tt) refl (λ x has. inl has)
    tied_put job (Some cause) = tied

    tied_take : IsTied step cut requests opening (take s).0
    tied_take = by s.ended (first s.waiting)
      where
        first : (ws : List Job) → IsTied step cut requests opening (take_first s ws).0
        first [] = tied
        first (job ∷ jobs) = tied_same (take_first s (job ∷ jobs)).0 refl refl (λ x has. has)

        by : (b : Bool) → IsTied step cut requests opening (take_first s s.waiting).0 → IsTied step cut requests opening (cond {A = StationState S × Given} b (s, given.Over) (take_first s s.waiting)).0
        by true next = tied
        by false next = next

    tied_collect : IsTied step cut requests opening (collect s).0
    tied_collect = by s.ready refl
      where
        by : (rs : List Completion) → s.ready ≡ rs → IsTied step cut requests opening (collect_first s rs).0
        by [] e = tied
        by (x ∷ rs) e = tied_more (collect_first s (x ∷ rs)).0 (Sent x.key ∷ []) refl (tt, tt) refl (λ y has. inl (subst (Has y) (sym e) (inr has)))

    tied_cancel : (t : InHand) (kind : Kind) → IsTied step cut requests opening (cancelled_in_hand s t kind)
    tied_cancel t kind = tied_more (cancelled_in_hand s t kind) (Cancelled t.key ∷ []) refl (tt, tt) refl ready
      where
        ready : (x : Completion) → Has x (s.ready ++ completion_of t.key t.completion kind cancellation ∷ []) → Has x s.ready ⊎ Answers s.device (Cancelled t.key ∷ []) x
        ready x has = elim (has_append x s.ready (completion_of t.key t.completion kind cancellation ∷ []) has) [
          | inl h ↦ inl h
          | inr h ↦ elim h [ inl same ↦ inr (inr (inl (ap (λ (y : Completion). Cancelled y.key) same), ap (λ (y : Completion). y.reply) same)) | inr none ↦ absurd none ]
        ]

    -- a job is run, as the step has it
    module _ (t : InHand) (kind : Kind) (moment : ℕ) (came : Stepped S) (is : run_of step cut requests s.device t.key moment (is_starved came.answer) ≡ came)
        (fed : is_starved came.answer ≡ true → (requests t.key).op ≢ Close) where
      abbrev entry : Item
      entry = Ran t.key moment (is_starved came.answer) (is_parked came.answer)

      gives : own_reply t.key came.answer ++ map end_reply came.ends ≡ replies_by step cut requests s.device (entry ∷ [])
      gives = ap (λ (r : Stepped S). own_reply t.key r.answer ++ map end_reply r.ends) (sym is) ∙ sym (append-nil (replies_at step cut requests s.device entry))

      ran_ready : (x : Completion) → Has x (s.ready ++ own_completion t kind came.answer ++ flat_map (ended_completion s.parked) came.ends) → Has x s.ready ⊎ Answers s.device (entry ∷ []) x
      ran_ready x has = elim (has_append x (s.ready ++ own_completion t kind came.answer) (flat_map (ended_completion s.parked) came.ends) has) [
        | inl h ↦ elim (has_append x s.ready (own_completion t kind came.answer) h) [
          | inl g ↦ inl g
          | inr g ↦ inr (inl (subst (Has (keyed x)) gives (has_left (keyed x) (own_reply t.key came.answer) (map end_reply came.ends) (own_keyed t kind came.answer x g))))
        ]
        | inr h ↦ inr (inl (subst (Has (keyed x)) gives (has_right (keyed x) (own_reply t.key came.answer) (map end_reply came.ends) (ends_keyed s.parked came.ends x h))))
      ]

      tied_run : IsTied step cut requests opening (ran s t kind moment came)
      tied_run = tied_more (ran s t kind moment came) (entry ∷ []) refl ((ap (λ (r : Stepped S). is_parked r.answer) is, fed), tt) (ap (λ (r : Stepped S). r.state) (sym is)) ran_ready

    -- the device is cut off
    module _ (left : S) where
      tied_remove : ((cut s.device).ends ≡ map cut_end (map as_parked s.parked)) → (s.live ≡ true → (cut s.device).state ≡ left) → IsTied step cut requests opening (remove s left).0
      tied_remove cancelled leaves = by s.live refl
        where
          then : StationState S
          then = record s {
            device = left;
            live = false;
            waiting = [];
            taken = map marked_removed s.taken;
            parked = [];
            ready = s.ready ++ map cancelled_parked s.parked ++ map cancelled_waiting s.waiting;
            journal = s.journal ++ Cut Removed ∷ cancellations s.waiting;
          }

          ready : (x : Completion) → Has x (s.ready ++ map cancelled_parked s.parked ++ map cancelled_waiting s.waiting) → Has x s.ready ⊎ Answers s.device (Cut Removed ∷ cancellations s.waiting) x
          ready x has = elim (has_append x (s.ready ++ map cancelled_parked s.parked) (map cancelled_waiting s.waiting) has) [
            | inl h ↦ elim (has_append x s.ready (map cancelled_parked s.parked) h) [
              | inl g ↦ inl g
              | inr g ↦
                  let (p, among, same) = map_has cancelled_parked x s.parked g in
                  inr (inl (has_left (keyed x) (map end_reply (cut s.device).ends) (replies_by step cut requests (cut s.device).state (cancellations s.waiting))
                  (subst (λ (es : List End). Has (keyed x) (map end_reply es)) (sym cancelled)
                  (subst (λ (y : Completion). Has (keyed y) (map end_reply (map cut_end (map as_parked s.parked)))) (sym same) (parked_keyed p s.parked among)))))
            ]
            | inr h ↦
                let (job, among, same) = map_has cancelled_waiting x s.waiting h in
                inr (inr (inr (subst (λ (y : Completion). Has (Cancelled y.key) (cancellations s.waiting)) (sym same) (waiting_cancelled job s.waiting among)), ap (λ (y : Completion). y.reply) same))
          ]

          by : (b : Bool) → s.live ≡ b → IsTied step cut requests opening (cond {A = StationState S × Bool} (not b) (s, false) (then, true)).0
          by false e = tied
          by true e = tied_more then (Cut Removed ∷ cancellations s.waiting) refl (tt, cancels_told (cut s.device).state s.waiting) (sym (leaves e) ∙ sym (cancels_last (cut s.device).state s.waiting)) ready

      tied_drop : (s.live ≡ true → (cut s.device).state ≡ left) → IsTied step cut requests opening (drop_channel s left)
      tied_drop leaves = by s.live refl
        where
          by : (b : Bool) → s.live ≡ b → IsTied step cut requests opening (cond b (record (emptied s) { device = left; live = false; journal = s.journal ++ Cut Dropped ∷ [] }) (emptied s))
          by true e = tied_more (record (emptied s) { device = left; live = false; journal = s.journal ++ Cut Dropped ∷ [] }) (Cut Dropped ∷ []) refl (tt, tt) (sym (leaves e)) (λ x none. absurd none)
          by false e = tied_same (emptied s) refl refl (λ x none. absurd none)

  -- ---- calls, by a device that the step and the cut compute

  module _ (Runs : S → Planned → ℕ → Step → List End → S → Type 0) (parked_in : S → List Parked) (Cuts : S → S → Type 0) (by_step : IsRunBy step cut Runs parked_in Cuts) (opening : S) where
    -- a run of the job of a key's request is what the step has
    run_is : (s : StationState S) (t : InHand) (planned : Planned) → t.key ≡ planned.job.key → (moment : ℕ) (came : Stepped S) → Runs s.device planned moment came.answer came.ends came.state
        → (planned.job.file ≡ (requests planned.job.key).file) × (planned.job.op ≡ (requests planned.job.key).op) → run_of step cut requests s.device t.key moment (is_starved came.answer) ≡ came
    run_is s t planned same moment came did own =
        ap (λ (k : Key). run_of step cut requests s.device k moment (is_starved came.answer)) same
        ∙ (λ i. ran_step step s.device planned.job.key (sym own.0 i) (sym own.1 i) moment (is_starved came.answer))
        ∙ by_step.runs s.device planned moment came.answer came.ends came.state did

    -- a Close found its memory
    close_fed : (answer : Step) (o asked : Op) → o ≡ asked → (o ≡ Close → IsFalse (is_starved answer)) → is_starved answer ≡ true → asked ≢ Close
    close_fed answer o asked same close starved is_close = let never : is_starved answer ≡ false = close (same ∙ is_close) in cc (never, starved)

    module _ (old new : StationState S) (tied : IsTied step cut requests opening old) where
      -- the station after is that which the call makes
      goes : {A : Type 0} (made : StationState S × A) (answer : A) → made ≡ (new, answer) → IsTied step cut requests opening made.0 → IsTied step cut requests opening new
      goes {A} made answer e is = subst (IsTied step cut requests opening) (ap (λ (x : StationState S × A). x.0) e) is

      -- a job doesn't come
      put_fails : (job : Job) (cause : PutWhy) → PutRefused old job cause new → IsTied step cut requests opening new
      put_fails job why.Memory e = unchanged opening old tied new e.1
      put_fails job why.Gone e = goes (put_unless old job (put_refusal old job)) (Some why.Gone) e (tied_put opening old tied job (put_refusal old job))
      put_fails job (why.Duplicate key) e = goes (put_unless old job (put_refusal old job)) (Some (why.Duplicate key)) e (tied_put opening old tied job (put_refusal old job))
      put_fails job (why.Full count) e = goes (put_unless old job (put_refusal old job)) (Some (why.Full count)) e (tied_put opening old tied job (put_refusal old job))
      put_fails job (why.Worn count) e = goes (put_unless old job (put_refusal old job)) (Some (why.Worn count)) e (tied_put opening old tied job (put_refusal old job))

      -- a job is given back, whether it is in a hand or not
      applied_goes : (planned : Planned) (moment : ℕ) (came : Stepped S) (answer : Applied) → (DidRun answer → CameOf Runs parked_in Cuts old.device planned moment came) → RunsOwn requests (applies planned moment answer)
          → (found : Option InHand) → find (λ (t : InHand). is_key t.key planned.job.key) old.taken ≡ found → apply_from old planned.job moment came found ≡ (new, answer) → IsTied step cut requests opening new
      applied_goes planned moment came answer promise own None f e = goes (old, applied.Stale) answer e tied
      applied_goes planned moment came answer promise own (Some t) f e = hand t.removed e
        where
          same : t.key ≡ planned.job.key
          same = same_key t.key planned.job.key (find_has (λ (u : InHand). is_key u.key planned.job.key) t old.taken f).1

          hand : (b : Bool)
              → cond {A = StationState S × Applied} b (cancelled_in_hand old t (kind_of planned.job.op), applied.Cancelled) (ran old t (kind_of planned.job.op) moment came, cond (is_parked came.answer) applied.Parked applied.Ran) ≡ (new, answer)
              → IsTied step cut requests opening new
          hand true e = goes (cancelled_in_hand old t (kind_of planned.job.op), applied.Cancelled) answer e (tied_cancel opening old tied t (kind_of planned.job.op))
          hand false e =
              let it_ran = subst DidRun (ap (λ (x : StationState S × Applied). x.1) e) (did_run (is_parked came.answer)) in
              let so = promise it_ran in
              let its = own it_ran in
              let asked : planned.job.op ≡ (requests t.key).op = its.1 ∙ ap (λ (k : Key). (requests k).op) (sym same) in
              goes (ran old t (kind_of planned.job.op) moment came, cond (is_parked came.answer) applied.Parked applied.Ran) answer e
              (tied_run opening old tied t (kind_of planned.job.op) moment came (run_is old t planned same moment came so.runs its) (close_fed came.answer planned.job.op (requests t.key).op asked so.close))

      removal_goes : (left : S) (answer : Bool) → map as_parked old.parked ≡ parked_in old.device → remove old left ≡ (new, answer) → (answer ≡ true → (cut old.device).state ≡ left) → IsTied step cut requests opening new
      removal_goes left answer parked e leaves =
          goes (remove old left) answer e
          (tied_remove opening old tied left ((by_step.cancels old.device).ends ∙ ap (map cut_end) (sym parked)) (λ live. leaves (sym (ap (λ (x : StationState S × Bool). x.1) e) ∙ was_removed old.live _ _ live)))

      step_ties : (call : StationCall) → map as_parked old.parked ≡ parked_in old.device → RunsOwn requests call → StationStep Runs parked_in Cuts old call new → IsTied step cut requests opening new
      step_ties (announces (Ok done)) parked own e = goes (announce old) (Ok done) e (tied_announce opening old tied)
      step_ties (announces (Err refused.Memory)) parked own e = unchanged opening old tied new e.1
      step_ties (announces (Err refused.Live)) parked own e = goes (announce old) (Err refused.Live) e (tied_announce opening old tied)
      step_ties (announces (Err (refused.Worn count))) parked own e = goes (announce old) (Err (refused.Worn count)) e (tied_announce opening old tied)
      step_ties (puts job None) parked own e = goes (put_unless old job (put_refusal old job)) None e.1 (tied_put opening old tied job (put_refusal old job))
      step_ties (puts job (Some refusal)) parked own e = put_fails job refusal.why e.1
      step_ties (puts_unfit job back) parked own e = unchanged opening old tied new e.1
      step_ties (takes answer) parked own e = goes (take old) answer e (tied_take opening old tied)
      step_ties (applies planned moment answer) parked own e = applied_goes planned moment e.0 answer e.2 own (find (λ (t : InHand). is_key t.key planned.job.key) old.taken) refl e.1
      step_ties (collects answer) parked own e = goes (collect old) answer e (tied_collect opening old tied)
      step_ties (removes answer) parked own e = removal_goes e.0 answer parked e.1 (λ gone. by_step.cuts old.device e.0 (e.2 gone).cuts)
      step_ties drops parked own e = subst (IsTied step cut requests opening) e.1 (tied_drop opening old tied e.0 (λ live. by_step.cuts old.device e.0 (e.2 live).cuts))
      step_ties ends parked own e =
          let dropped = tied_drop opening old tied e.0 (λ live. by_step.cuts old.device e.0 (e.2 live).cuts) in
          subst (IsTied step cut requests opening) e.1 (tied_same opening (drop_channel old e.0) dropped (record (drop_channel old e.0) { ended = true }) refl refl (λ x has. has))

    -- calls, one after the other
    steps_tie : (calls : List StationCall) (old new : StationState S) → IsReached Runs parked_in Cuts old → IsTied step cut requests opening old → AllByRecursion (RunsOwn requests) calls
        → StationSteps Runs parked_in Cuts old calls new → IsTied step cut requests opening new
    steps_tie [] old new reached tied own e = subst (IsTied step cut requests opening) (sym e) tied
    steps_tie (call ∷ calls) old new reached tied own e =
        steps_tie calls e.0 new (reached_step Runs parked_in Cuts old e.0 call reached e.1)
        (step_ties old e.0 tied call (reached_kept Runs parked_in Cuts old reached).parked own.0 e.1) own.1 e.2

    -- a new station is tied, and so is one after calls
    pub all_tied : (calls : List StationCall) (s : StationState S) → parked_in opening ≡ [] → AllByRecursion (RunsOwn requests) calls → StationSteps Runs parked_in Cuts (new_station opening) calls s
        → IsTied step cut requests opening s
    all_tied calls s nothing own steps =
        steps_tie calls (new_station opening) s (reached_new Runs parked_in Cuts opening nothing)
        (record { marked = tt; device = refl; ready = All-nil (λ (c : Completion). IsAnswer [] [] c.key c.reply) }) own steps
