-- What a call of a desk leaves of its station: whether jobs may come there, and the room in its journal.
use Rattle.std.proofs.Common.{◌≡◌, ◌∙◌, ◌⊎◌, refl, sym, ap, subst, ℕ, ◌≤◌, Bool, true, false, cond, List, [], ◌∷◌, Option, Some, None, Result, Ok, Err, arith}
use Rattle.std.specs.Prelude.{find}
use Rattle.std.specs.List.{AllByRecursion}
use Rattle.rd_desk.specs.Desk.{DeskStep}
use Rattle.rd_desk.specs.declared.calls.DeskCall.TheVariants as desk
use Rattle.rd_desk.specs.declared.calls.DeskReply.TheVariants as replied
use Rattle.rd_drive.specs.Device.{Parked, is_parked}
use Rattle.rd_drive.specs.Planned.{Planned}
use Rattle.rd_drive.specs.Stepped.{Stepped}
use Rattle.rd_drive.specs.declared.plan.Job.{Job}
use Rattle.rd_drive.specs.declared.step.End.{End}
use Rattle.rd_drive.specs.declared.step.Step.{Step}
use Rattle.rd_irp.specs.Fits.{kind_of}
use Rattle.rd_station.proofs.Calls.{reached_keeps, reached_step}
use Rattle.rd_station.specs.Station as station
use Rattle.rd_station.specs.Station.{PutRefused, StationCall, StationState, StationStep, StationSteps, announce, announces, applies, apply_from, cancelled_in_hand, collect_first, collects, drops, ends, entry_count, is_key, max_entries, put_refusal, put_unless, puts, puts_unfit, ran, remove, removes, take_first, takes}
use Rattle.rd_station.specs.Tied.{IsReached}
use Rattle.rd_station.specs.declared.answers.Applied.{Applied}
use Rattle.rd_station.specs.declared.answers.Applied.TheVariants as applied
use Rattle.rd_station.specs.declared.answers.Completion.{Completion}
use Rattle.rd_station.specs.declared.answers.Given.{Given}
use Rattle.rd_station.specs.declared.answers.Given.TheVariants as given
use Rattle.rd_station.specs.declared.held.InHand.{InHand}
use Rattle.rd_station.specs.declared.refusals.AnnounceNo.{AnnounceNo}
use Rattle.rd_station.specs.declared.refusals.AnnounceNo.TheVariants as refused
use Rattle.rd_station.specs.declared.refusals.PutNo.{PutNo}
use Rattle.rd_station.specs.declared.refusals.PutWhy.{PutWhy}
use Rattle.rd_station.specs.declared.refusals.PutWhy.TheVariants as why
use Rattle.rd_served_causes.proofs.WornLemmas.{announced_open, refused_gone, refused_worn, step_grows, worn_free}
use Rattle.rd_served_causes.specs.Worn.{EndsNoChannel, IsWorn}

-- a call of a station that leaves it live, or not
abbrev pub LeavesLive : StationCall → Type 0
LeavesLive (puts job answer) = Unit {0}
LeavesLive (puts_unfit job back) = Unit {0}
LeavesLive (takes answer) = Unit {0}
LeavesLive (applies planned moment answer) = Unit {0}
LeavesLive (collects answer) = Unit {0}
LeavesLive _ = ⊥

-- ---- what stays live

module _ {S : Type 0} where
  put_live : (s : StationState S) (job : Job) (found : Option PutWhy) → ((put_unless s job found).0).live ≡ s.live
  put_live s job None = refl
  put_live s job (Some cause) = refl

  take_live : (s : StationState S) → ((station.take s).0).live ≡ s.live
  take_live s = by s.ended s.waiting
    where
      by : (b : Bool) (jobs : List Job) → ((cond {A = StationState S × Given} b (s, given.Over) (take_first s jobs)).0).live ≡ s.live
      by true jobs = refl
      by false [] = refl
      by false (job ∷ jobs) = refl

  apply_live : (s : StationState S) (job : Job) (moment : ℕ) (come : Stepped S) (found : Option InHand) → ((apply_from s job moment come found).0).live ≡ s.live
  apply_live s job moment come None = refl
  apply_live s job moment come (Some t) = by t.removed
    where
      by : (b : Bool) → ((cond {A = StationState S × Applied} b (cancelled_in_hand s t (kind_of job.op), applied.Cancelled) (ran s t (kind_of job.op) moment come, cond (is_parked come.answer) applied.Parked applied.Ran)).0).live ≡ s.live
      by true = refl
      by false = refl

  collect_live : (s : StationState S) → ((station.collect s).0).live ≡ s.live
  collect_live s = by s.ready
    where
      by : (cs : List Completion) → ((collect_first s cs).0).live ≡ s.live
      by [] = refl
      by (c ∷ cs) = refl

  remove_off : (s : StationState S) (cut : S) → ((remove s cut).0).live ≡ false
  remove_off s cut = by s.live refl
    where
      by : (b : Bool) → s.live ≡ b → let gone = (remove (record s { live = b }) cut).0 in gone.live ≡ false
      by true e = refl
      by false e = refl

module _ {S : Type 0} (Runs : S → Planned → ℕ → Step → List End → S → Type 0) (parked_in : S → List Parked) (Cuts : S → S → Type 0) where
  refused_live : (s new : StationState S) (job : Job) (cause : PutWhy) → PutRefused s job cause new → new.live ≡ s.live
  refused_live s new job why.Memory e = ap (λ (x : StationState S). x.live) e.1
  refused_live s new job why.Gone e = sym (ap (λ (x : StationState S × Option PutWhy). (x.0).live) e) ∙ put_live s job (put_refusal s job)
  refused_live s new job (why.Duplicate key) e = sym (ap (λ (x : StationState S × Option PutWhy). (x.0).live) e) ∙ put_live s job (put_refusal s job)
  refused_live s new job (why.Full count) e = sym (ap (λ (x : StationState S × Option PutWhy). (x.0).live) e) ∙ put_live s job (put_refusal s job)
  refused_live s new job (why.Worn count) e = sym (ap (λ (x : StationState S × Option PutWhy). (x.0).live) e) ∙ put_live s job (put_refusal s job)

  step_live : (s new : StationState S) (call : StationCall) → LeavesLive call → StationStep Runs parked_in Cuts s call new → new.live ≡ s.live
  step_live s new (puts job None) on e = sym (ap (λ (x : StationState S × Option PutWhy). (x.0).live) e.1) ∙ put_live s job (put_refusal s job)
  step_live s new (puts job (Some refusal)) on e = refused_live s new job refusal.why e.1
  step_live s new (puts_unfit job back) on e = ap (λ (x : StationState S). x.live) e.1
  step_live s new (takes answer) on e = sym (ap (λ (x : StationState S × Given). (x.0).live) e) ∙ take_live s
  step_live s new (applies planned moment answer) on e = sym (ap (λ (x : StationState S × Applied). (x.0).live) e.1) ∙ apply_live s planned.job moment e.0 (find (λ (t : InHand). is_key t.key planned.job.key) s.taken)
  step_live s new (collects answer) on e = sym (ap (λ (x : StationState S × Option Completion). (x.0).live) e) ∙ collect_live s
  step_live s new (announces answer) on e = absurd on
  step_live s new (removes answer) on e = absurd on
  step_live s new drops on e = absurd on
  step_live s new ends on e = absurd on

  -- ---- what is known of a station after calls

  -- A station goes on: no room is made in its journal, and it is live as it was.
  pub record Stays (s new : StationState S) : Type 0 where
    pub reached : IsReached Runs parked_in Cuts new
    pub grows : entry_count s ≤ entry_count new
    pub live : new.live ≡ s.live

  abbrev pub IsPlain : StationCall → Type 0
  IsPlain call = EndsNoChannel call × LeavesLive call

  one_grows : (s new : StationState S) (call : StationCall) → IsReached Runs parked_in Cuts s → EndsNoChannel call → StationStep Runs parked_in Cuts s call new → entry_count s ≤ entry_count new
  one_grows s new call reached on step = let good = reached_keeps Runs parked_in Cuts s reached in step_grows Runs parked_in Cuts good.0 s new good.1 call on step

  pub steps_stay : (calls : List StationCall) (s new : StationState S) → AllByRecursion IsPlain calls → IsReached Runs parked_in Cuts s → StationSteps Runs parked_in Cuts s calls new → Stays s new
  steps_stay [] s new all reached e = record { reached = subst (IsReached Runs parked_in Cuts) (sym e) reached; grows = (let same : entry_count new ≡ entry_count s = ap (λ (x : StationState S). entry_count x) e in omega (arith, same)); live = ap (λ (x : StationState S). x.live) e }
  steps_stay (call ∷ calls) s new all reached e =
      let later = steps_stay calls e.0 new all.1 (reached_step Runs parked_in Cuts s e.0 call reached e.1) e.2 in
      record { reached = later.reached; grows = (let first = one_grows s e.0 call reached (all.0).0 e.1 in let second = later.grows in omega (arith, first, second)); live = later.live ∙ step_live s e.0 call (all.0).1 e.1 }

  -- one call alone
  module _ (s new : StationState S) (reached : IsReached Runs parked_in Cuts s) where
    one : (call : StationCall) → EndsNoChannel call → StationSteps Runs parked_in Cuts s (call ∷ []) new → entry_count s ≤ entry_count new
    one call on e = subst (λ (x : StationState S). entry_count s ≤ entry_count x) (sym e.2) (one_grows s e.0 call reached on e.1)

    single : (call : StationCall) → IsPlain call → StationSteps Runs parked_in Cuts s (call ∷ []) new → Stays s new
    single call plain e = steps_stay (call ∷ []) s new (plain, tt) reached e

    -- ---- calls of a desk

    pub put_came : (job : Job) → DeskStep Runs parked_in Cuts s (desk.Put job) (replied.Put (Ok tt)) new → (IsWorn s → ⊥) × Stays s new
    put_came job step = (λ worn. came (put_refusal s job) refl ((step.0).1).1 worn, single (puts job None) (tt, tt) step.0)
      where
        came : (found : Option PutWhy) → put_refusal s job ≡ found → put_unless s job found ≡ ((step.0).0, None) → IsWorn s → ⊥
        came None free e worn = let good = reached_keeps Runs parked_in Cuts s reached in worn_free Runs parked_in Cuts good.0 s s good.1 job worn free
        came (Some cause) free e worn = let some : Some cause ≡ None = ap (λ (r : StationState S × Option PutWhy). r.1) e in cc (some)

    put_same : (job : Job) (cause : PutWhy) (found : Option PutWhy) → put_refusal s job ≡ found → (after : StationState S) → put_unless s job found ≡ (after, Some cause) → (put_refusal s job ≡ Some cause) × (after ≡ s)
    put_same job cause None free after e = let none : None ≡ Some cause = ap (λ (r : StationState S × Option PutWhy). r.1) e in absurd (cc (none))
    put_same job cause (Some other) free after e = (free ∙ ap (λ (r : StationState S × Option PutWhy). r.1) e, sym (ap (λ (r : StationState S × Option PutWhy). r.0) e))

    pub put_gone : (job : Job) (refusal : PutNo) → refusal.why ≡ why.Gone → DeskStep Runs parked_in Cuts s (desk.Put job) (replied.Put (Err refusal)) new → new.live ≡ false
    put_gone job refusal cause step =
        let so : PutRefused s job why.Gone (step.0).0 = subst (λ (c : PutWhy). PutRefused s job c (step.0).0) cause (((step.0).1).1) in
        let is = put_same job why.Gone (put_refusal s job) refl (step.0).0 so in
        ap (λ (x : StationState S). x.live) ((step.0).2 ∙ is.1) ∙ refused_gone s job is.0

    pub put_worn : (job : Job) (refusal : PutNo) (count : ℕ) → refusal.why ≡ why.Worn count → DeskStep Runs parked_in Cuts s (desk.Put job) (replied.Put (Err refusal)) new → (new.live ≡ true) × IsWorn new
    put_worn job refusal count cause step =
        let so : PutRefused s job (why.Worn count) (step.0).0 = subst (λ (c : PutWhy). PutRefused s job c (step.0).0) cause (((step.0).1).1) in
        let is = put_same job (why.Worn count) (put_refusal s job) refl (step.0).0 so in
        subst (λ (x : StationState S). (x.live ≡ true) × IsWorn x) (sym ((step.0).2 ∙ is.1)) (refused_worn s job count is.0)

    -- an announced station is live, or its journal is worn, where memory was found
    pub announce_open : (answer : Result (Unit {0}) AnnounceNo) → (answer ≡ Err refused.Memory → ⊥) → DeskStep Runs parked_in Cuts s desk.Announce (replied.Announced answer) new → ((new.live ≡ true) ⊎ IsWorn new) × (entry_count s ≤ entry_count new)
    announce_open answer found step = (subst (λ (x : StationState S). (x.live ≡ true) ⊎ IsWorn x) (sym (step.0).2) (by answer found (step.0).1), one (announces answer) tt step.0)
      where
        by : (a : Result (Unit {0}) AnnounceNo) → (a ≡ Err refused.Memory → ⊥) → StationStep Runs parked_in Cuts s (announces a) (step.0).0 → (((step.0).0).live ≡ true) ⊎ IsWorn (step.0).0
        by (Ok done) found e = announced_open s (step.0).0 (Ok done) e
        by (Err refused.Memory) found e = absurd (found refl)
        by (Err refused.Live) found e = announced_open s (step.0).0 (Err refused.Live) e
        by (Err (refused.Worn count)) found e = announced_open s (step.0).0 (Err (refused.Worn count)) e

    pub removed_off : (answer : Bool) → DeskStep Runs parked_in Cuts s desk.Remove (replied.Removed answer) new → (new.live ≡ false) × (entry_count s ≤ entry_count new)
    removed_off answer step =
        let e = (step.0).1 in
        (ap (λ (x : StationState S). x.live) (step.0).2 ∙ sym (ap (λ (x : StationState S × Bool). (x.0).live) e.1) ∙ remove_off s e.0, one (removes answer) tt step.0)
