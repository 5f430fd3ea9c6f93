-- Whatever calls a station is given, what always holds of it holds.
use Rattle.std.proofs.Common.{◌≡◌, ◌≢◌, ◌∙◌, refl, sym, ap, subst, ℕ, suc, ◌≤◌, Bool, true, false, cond, not, List, [], ◌∷◌, ◌++◌, arith, eq-eqb}
use Rattle.std.specs.Prelude.{AllPairs, IfSome, Some, None, Option, Ok, Err, find}
use Rattle.std.proofs.lemmas.List.Elements.{All-nil}
use Rattle.std.proofs.lemmas.List.Kept.{AllPairs-cons}
use Rattle.rd_base.specs.declared.journal.Key.{Key}
use Rattle.rd_base.specs.declared.journal.Item.{Item}
use Rattle.rd_base.specs.Lawful.{CancelsRemoved, CutsFewUnsent, EachEntry, IsLawful, NamesRemembered, RisesAbove, RunsUncut, SendsFirst, SettlesFirst, is_unsent, named_key}
use Rattle.rd_irp.specs.Fits.{kind_of}
use Rattle.rd_drive.specs.declared.plan.Job.{Job}
use Rattle.rd_drive.specs.declared.step.Step.{Step}
use Rattle.rd_drive.specs.declared.step.End.{End}
use Rattle.rd_drive.specs.Device.{CompletesKind, Parked, is_parked}
use Rattle.rd_drive.specs.Planned.{Planned}
use Rattle.rd_drive.specs.Stepped.{Stepped}
use Rattle.rd_station.specs.declared.answers.Applied.{Applied}
use Rattle.rd_station.specs.declared.answers.Applied.TheVariants as applied
use Rattle.rd_station.specs.declared.answers.Completion.{Completion}
use Rattle.rd_station.specs.declared.refusals.AnnounceNo.TheVariants as refused
use Rattle.rd_station.specs.declared.refusals.PutWhy.{PutWhy}
use Rattle.rd_station.specs.declared.refusals.PutWhy.TheVariants as why
use Rattle.rd_station.specs.declared.held.InHand.{InHand}
use Rattle.rd_station.specs.Station.{CameOf, cancelled_in_hand, DidRun, MayPut, PutRefused, StationCall, StationState, StationStep, StationSteps, announces, applies, apply_from, collects, drop_channel, drops, ends, held, is_key, new_station, put_refusal, put_unless, puts, puts_unfit, ran, remove, removes, takes}
use Rattle.rd_station.specs.Tied.{IsKept, IsReached}
use Rattle.rd_station.proofs.Members.{Has, all_of, find_has, key_self, same_key}
use Rattle.rd_station.proofs.Counts.{cnt, cnt_all, cnt_cons, cnt_is, cnt_nil, cnt_some}
use Rattle.rd_station.proofs.Holding.{every, in_one, with_id, with_key}
use Rattle.rd_station.proofs.Keeping.{Keeps, keeps_announce, keeps_cancel, keeps_collect, keeps_drop, keeps_none, keeps_put, keeps_remove, keeps_run, keeps_take}

-- ---- what always holds, of each member and of each two

-- where each value is that of one member at most, no two members have the same
apart_pairs : {X A : Type 0} (f : X → A) (same : A → X → Bool) → ((x : X) → same (f x) x ≡ true) → (xs : List X) → ((a : A) → cnt (same a) xs ≤ 1) → AllPairs (λ x y. f x ≢ f y) xs
apart_pairs f same itself [] few = λ i j d low less. absurd (omega (arith, less))
apart_pairs {X} {A} f same itself (x ∷ xs) few =
    AllPairs-cons (λ x y. f x ≢ f y) x xs
    (all_of (λ y. f x ≢ f y) xs (λ y has e. omega (arith, few (f x), cnt_cons (same (f x)) x xs, one, cnt_some (same (f x)) y xs has (ap (λ (a : A). same a y) e ∙ itself y))))
    (apart_pairs f same itself xs (λ a. omega (arith, few a, cnt_cons (same a) x xs)))
  where
    one : cond {A = ℕ} (same (f x) x) 1 0 ≡ 1
    one = ap (λ b. cond {A = ℕ} b 1 0) (itself x)

-- what always holds is what is said of a station
pub is_kept : {S : Type 0} (parked_in : S → List Parked) (c : ℕ) (s : StationState S) → Keeps parked_in c s → IsKept parked_in s
is_kept parked_in c s keeps = record {
  lawful = keeps.lawful;
  parked = keeps.parked;
  ready = all_of (λ (x : Completion). CompletesKind x.kind x.reply) s.ready keeps.ready;
  few = omega (arith, cnt_all (held s), in_one every s, keeps.few.few);
  keys_apart = apart_pairs (λ (x : Key × ℕ). x.0) with_key (λ x. key_self x.0) (held s) (λ k. omega (arith, in_one (with_key k) s, keeps.few.keys k));
  completions_apart = apart_pairs (λ (x : Key × ℕ). x.1) with_id (λ x. eq-eqb x.1 x.1 refl) (held s) (λ id. omega (arith, in_one (with_id id) s, keeps.few.ids id));
  room = keeps.room;
}

-- ---- what calls answer

-- what isn't cancelled or stale ran
pub did_run : (b : Bool) → DidRun (cond b applied.Parked applied.Ran)
did_run true = tt
did_run false = tt

-- a device that is live is removed
pub was_removed : {A : Type 0} (b : Bool) (x y : A) → b ≡ true → (cond {A = A × Bool} (not b) (x, false) (y, true)).1 ≡ true
was_removed true x y e = refl
was_removed false x y e = absurd (cc)

module _ {S : Type 0} (Runs : S → Planned → ℕ → Step → List End → S → Type 0) (parked_in : S → List Parked) (Cuts : S → S → Type 0) where
  -- on some channel
  abbrev pub IsGood : StationState S → Type 0
  IsGood s = (c : ℕ) × Keeps parked_in c s

  module _ (c : ℕ) (old new : StationState S) (keeps : Keeps parked_in c old) where
    -- nothing changed
    same : new ≡ old → IsGood new
    same e = (c, subst (Keeps parked_in c) (sym e) keeps)

    -- a job comes or not, by what speaks against it
    put_goes : (job : Job) → MayPut old job.key → (found : Option PutWhy) → put_refusal old job ≡ found → (answer : Option PutWhy) → put_unless old job found ≡ (new, answer) → IsGood new
    put_goes job may None free answer e = (job.key.channel, subst (Keeps parked_in job.key.channel) (ap (λ (x : StationState S × Option PutWhy). x.0) e) (keeps_put parked_in c old keeps job may free))
    put_goes job may (Some cause) free answer e = same (sym (ap (λ (x : StationState S × Option PutWhy). x.0) e))

    -- a job doesn't come
    put_fails : (job : Job) → MayPut old job.key → (cause : PutWhy) → PutRefused old job cause new → IsGood new
    put_fails job may why.Memory e = same e.1
    put_fails job may why.Gone e = put_goes job may (put_refusal old job) refl (Some why.Gone) e
    put_fails job may (why.Duplicate key) e = put_goes job may (put_refusal old job) refl (Some (why.Duplicate key)) e
    put_fails job may (why.Full count) e = put_goes job may (put_refusal old job) refl (Some (why.Full count)) e
    put_fails job may (why.Worn count) e = put_goes job may (put_refusal old job) refl (Some (why.Worn count)) e

    -- a job is given back, whether it is in a hand or not
    applied_goes : (planned : Planned) (moment : ℕ) (came : Stepped S) (answer : Applied) → (DidRun answer → CameOf Runs parked_in Cuts old.device planned moment came)
        → (found : Option InHand) → find (λ (t : InHand). is_key t.key planned.job.key) old.taken ≡ found → apply_from old planned.job moment came found ≡ (new, answer) → IsGood new
    applied_goes planned moment came answer promise None f e = same (sym (ap (λ (x : StationState S × Applied). x.0) e))
    applied_goes planned moment came answer promise (Some t) f e = hand t.removed refl e
      where
        here : Has t old.taken × (is_key t.key planned.job.key ≡ true)
        here = find_has (λ (t : InHand). is_key t.key planned.job.key) t old.taken f

        hand : (b : Bool) → t.removed ≡ b
            → cond {A = StationState S × Applied} b (cancelled_in_hand old t (kind_of planned.job.op), applied.Cancelled) (ran old t (kind_of planned.job.op) moment came, cond (is_parked came.answer) applied.Parked applied.Ran) ≡ (new, answer) → IsGood new
        hand true gone e = (c, subst (Keeps parked_in c) (ap (λ (x : StationState S × Applied). x.0) e) (keeps_cancel parked_in c old keeps t here.0 gone (kind_of planned.job.op)))
        hand false stays e =
            let so = promise (subst DidRun (ap (λ (x : StationState S × Applied). x.1) e) (did_run (is_parked came.answer))) in
            (c, subst (Keeps parked_in c) (ap (λ (x : StationState S × Applied). x.0) e) (keeps_run parked_in c old keeps t here.0 stays planned.job (same_key t.key planned.job.key here.1) moment came so.answers so.parks))

    -- the device is removed
    removal_goes : (cut : S) (answer : Bool) → remove old cut ≡ (new, answer) → (answer ≡ true → parked_in cut ≡ []) → IsGood new
    removal_goes cut answer e none =
        (c, subst (Keeps parked_in c) (ap (λ (x : StationState S × Bool). x.0) e) (keeps_remove parked_in c old keeps cut (λ live. none (sym (ap (λ (x : StationState S × Bool). x.1) e) ∙ was_removed old.live _ _ live))))

    -- the session is over
    ended : (d : ℕ) (s : StationState S) → Keeps parked_in d s → Keeps parked_in d (record s { ended = true })
    ended d s k = record {
      lawful = k.lawful;
      low = k.low;
      waiting = k.waiting;
      taken = k.taken;
      parked_run = k.parked_run;
      ready_done = k.ready_done;
      unsent = k.unsent;
      parked = k.parked;
      ready = k.ready;
      few = record { few = k.few.few; ids = k.few.ids; keys = k.few.keys };
      room = k.room;
      idle = k.idle;
    }

    -- each call
    step_keeps : (call : StationCall) → StationStep Runs parked_in Cuts old call new → IsGood new
    step_keeps (announces (Ok done)) e = (c, subst (Keeps parked_in c) (ap (λ x. x.0) e) (keeps_announce parked_in c old keeps))
    step_keeps (announces (Err refused.Memory)) e = same e.1
    step_keeps (announces (Err refused.Live)) e = (c, subst (Keeps parked_in c) (ap (λ x. x.0) e) (keeps_announce parked_in c old keeps))
    step_keeps (announces (Err (refused.Worn count))) e = (c, subst (Keeps parked_in c) (ap (λ x. x.0) e) (keeps_announce parked_in c old keeps))
    step_keeps (puts job None) e = put_goes job e.0 (put_refusal old job) refl None e.1
    step_keeps (puts job (Some refusal)) e = put_fails job e.0 refusal.why e.1
    step_keeps (puts_unfit job back) e = same e.1
    step_keeps (takes answer) e = (c, subst (Keeps parked_in c) (ap (λ x. x.0) e) (keeps_take parked_in c old keeps))
    step_keeps (applies planned moment answer) e = applied_goes planned moment e.0 answer e.2 (find (λ (t : InHand). is_key t.key planned.job.key) old.taken) refl e.1
    step_keeps (collects answer) e = (c, subst (Keeps parked_in c) (ap (λ x. x.0) e) (keeps_collect parked_in c old keeps))
    step_keeps (removes answer) e = removal_goes e.0 answer e.1 (λ t. (e.2 t).none)
    step_keeps drops e = (suc c, subst (Keeps parked_in (suc c)) e.1 (keeps_drop parked_in c old keeps e.0 (λ live. (e.2 live).none)))
    step_keeps ends e = (suc c, subst (Keeps parked_in (suc c)) e.1 (ended (suc c) (drop_channel old e.0) (keeps_drop parked_in c old keeps e.0 (λ live. (e.2 live).none))))

  -- calls, one after the other
  steps_keep : (calls : List StationCall) (old new : StationState S) → IsGood old → StationSteps Runs parked_in Cuts old calls new → IsGood new
  steps_keep [] old new good e = subst IsGood (sym e) good
  steps_keep (call ∷ calls) old new good e = steps_keep calls e.0 new (step_keeps good.0 old e.0 good.1 call e.1) e.2

  -- nothing is asked of no entries
  nothing_after : (P : List Item → Item → Type 0) → EachEntry P []
  nothing_after P [] entry after e = absurd (cc)
  nothing_after P (x ∷ before) entry after e = absurd (cc)

  -- so a journal without entries is lawful
  none_lawful : IsLawful []
  none_lawful = record {
    keys_rise = nothing_after RisesAbove;
    runs_once = nothing_after SettlesFirst;
    sent_once = nothing_after SendsFirst;
    no_run_after_cut = nothing_after RunsUncut;
    cancelled_after_removal = nothing_after CancelsRemoved;
    drop_forgets = nothing_after NamesRemembered;
    few_unsent = (nothing_after CutsFewUnsent, λ c low. omega (arith, cnt_is (is_unsent [] c) [], cnt_nil (is_unsent [] c)));
  }

  -- a new station
  begins : (device : S) → parked_in device ≡ [] → Keeps parked_in 0 (new_station device)
  begins device nothing = keeps_none parked_in 0 (new_station device) refl none_lawful (All-nil (λ entry. IfSome (named_key entry) (λ key. key.channel ≤ 0))) (cnt_nil (is_unsent [] 0)) (sym nothing) (omega arith)

  -- what always holds of a station that is reached
  pub reached_keeps : (s : StationState S) → IsReached Runs parked_in Cuts s → IsGood s
  reached_keeps s is = steps_keep is.calls (new_station is.device) s (0, begins is.device is.nothing) is.steps

  -- a station after calls is kept
  pub all_kept : (device : S) (calls : List StationCall) (s : StationState S) → parked_in device ≡ [] → StationSteps Runs parked_in Cuts (new_station device) calls s → IsKept parked_in s
  all_kept device calls s nothing steps = let good = steps_keep calls (new_station device) s (0, begins device nothing) steps in is_kept parked_in good.0 s good.1

  -- one call more
  more : (calls : List StationCall) (old mid new : StationState S) (call : StationCall) → StationSteps Runs parked_in Cuts old calls mid → StationStep Runs parked_in Cuts mid call new → StationSteps Runs parked_in Cuts old (calls ++ call ∷ []) new
  more [] old mid new call e step = (new, subst (λ (s : StationState S). StationStep Runs parked_in Cuts s call new) e step, refl)
  more (first ∷ calls) old mid new call e step = (e.0, e.1, more calls e.0 mid new call e.2 step)

  -- a new station is reached
  pub reached_new : (device : S) → parked_in device ≡ [] → IsReached Runs parked_in Cuts (new_station device)
  reached_new device nothing = record { device = device; nothing = nothing; calls = []; steps = refl }

  -- a call of one that is reached reaches another
  pub reached_step : (old new : StationState S) (call : StationCall) → IsReached Runs parked_in Cuts old → StationStep Runs parked_in Cuts old call new → IsReached Runs parked_in Cuts new
  reached_step old new call is step = record { device = is.device; nothing = is.nothing; calls = is.calls ++ call ∷ []; steps = more is.calls (new_station is.device) old new call is.steps step }

  -- each that is reached is kept
  pub reached_kept : (s : StationState S) → IsReached Runs parked_in Cuts s → IsKept parked_in s
  reached_kept s is = all_kept is.device is.calls s is.nothing is.steps
