-- No call of a station makes room in its journal, but the end of a channel.
use Rattle.std.proofs.Common.{◌≡◌, ◌⊎◌, refl, sym, ap, subst, inl, inr, ℕ, ◌<◌, ◌≤◌, ◌+◌, ◌-◌, ◌*◌, ◌==◌, Bool, true, false, cond, not, List, [], ◌∷◌, ◌++◌, length, map, Option, Some, None, Result, Ok, Err, arith}
use Rattle.std.specs.Prelude.{find, nat_le, nat_lt}
use Rattle.std.specs.Option.{option_map_or}
use Rattle.std.proofs.lemmas.Bool.{leb-true, ltb-true}
use Rattle.std.proofs.lemmas.List.{length-append, length-map}
use Rattle.rd_base.specs.declared.journal.Cause.TheVariants.{Removed}
use Rattle.rd_base.specs.declared.journal.Item.TheVariants.{Came, Cancelled, Cut, Ran, Sent}
use Rattle.rd_base.specs.declared.journal.Key.{Key}
use Rattle.rd_drive.specs.Device.{Parked, is_parked, is_starved}
use Rattle.rd_drive.specs.Planned.{Planned}
use Rattle.rd_drive.specs.Replies.{cancellation}
use Rattle.rd_drive.specs.Stepped.{Stepped}
use Rattle.rd_drive.specs.declared.plan.Job.{Job}
use Rattle.rd_drive.specs.declared.step.End.{End}
use Rattle.rd_drive.specs.declared.step.Step.{Step}
use Rattle.rd_irp.specs.Fits.{kind_of}
use Rattle.rd_irp.specs.declared.completion.Kind.{Kind}
use Rattle.rd_station.proofs.Calls.{did_run}
use Rattle.rd_station.proofs.Holding.{size_held}
use Rattle.rd_station.proofs.Keeping.{Keeps, as_many, free, one_less}
use Rattle.rd_station.proofs.Members.{Has, find_has, same_key}
use Rattle.rd_station.specs.Station as station
use Rattle.rd_station.specs.Station.{CameOf, DidRun, MayPut, PutRefused, StationCall, StationState, StationStep, StationSteps, announce, announces, applies, apply_from, cancelled_in_hand, cancelled_parked, cancelled_waiting, collect_first, collects, drops, ends, entry_count, held, is_key, marked_removed, max_entries, max_held, put_refusal, put_unless, puts, puts_unfit, ran, remove, removes, take_first, takes}
use Rattle.rd_station.specs.declared.answers.Applied.{Applied}
use Rattle.rd_station.specs.declared.answers.Applied.TheVariants as applied
use Rattle.rd_station.specs.declared.answers.Completion.{Completion}
use Rattle.rd_station.specs.declared.answers.Given.{Given}
use Rattle.rd_station.specs.declared.answers.Given.TheVariants as given
use Rattle.rd_station.specs.declared.held.InHand.{InHand}
use Rattle.rd_station.specs.declared.refusals.AnnounceNo.{AnnounceNo}
use Rattle.rd_station.specs.declared.refusals.AnnounceNo.TheVariants as refused
use Rattle.rd_station.specs.declared.refusals.PutWhy.{PutWhy}
use Rattle.rd_station.specs.declared.refusals.PutWhy.TheVariants as why
use Rattle.rd_served_causes.specs.Worn.{EndsNoChannel, IsWorn}

module _ {S : Type 0} where
  -- ---- single calls

  announce_grows : (s : StationState S) → entry_count s ≤ entry_count (announce s).0
  announce_grows s = by s.live refl (nat_le max_entries (entry_count s))
    where
      by : (a : Bool) → s.live ≡ a → (b : Bool) → entry_count s ≤ entry_count (cond {A = StationState S × Result (Unit {0}) AnnounceNo} a (s, Err refused.Live) (cond b (s, Err (refused.Worn (entry_count s))) (record s { live = true }, Ok tt))).0
      by true e b = omega arith
      by false e true = omega arith
      by false e false = let none : cond {A = ℕ} s.live 1 0 ≡ 0 = ap (λ (a : Bool). cond {A = ℕ} a 1 0) e in omega (arith, none)

  put_grows : (s : StationState S) (job : Job) (found : Option PutWhy) → entry_count s ≤ entry_count (put_unless s job found).0
  put_grows s job None = omega (arith, length-append s.waiting (job ∷ []), length-append s.journal (Came job.key ∷ []))
  put_grows s job (Some cause) = omega arith

  take_grows : (s : StationState S) → entry_count s ≤ entry_count (station.take s).0
  take_grows s = by s.ended s.waiting refl
    where
      by : (b : Bool) (jobs : List Job) → s.waiting ≡ jobs → entry_count s ≤ entry_count (cond {A = StationState S × Given} b (s, given.Over) (take_first s jobs)).0
      by true jobs e = omega arith
      by false [] e = omega arith
      by false (job ∷ jobs) e =
          let size : length s.waiting ≡ length (job ∷ jobs) = ap (length {A = Job}) e in
          omega (arith, size, length-append s.taken (record { key = job.key; completion = job.completion; removed = false } ∷ []))

  collect_grows : (s : StationState S) → entry_count s ≤ entry_count (station.collect s).0
  collect_grows s = by s.ready refl
    where
      by : (cs : List Completion) → s.ready ≡ cs → entry_count s ≤ entry_count (collect_first s cs).0
      by [] e = omega arith
      by (c ∷ cs) e = let size : length s.ready ≡ length (c ∷ cs) = ap (length {A = Completion}) e in omega (arith, size, length-append s.journal (Sent c.key ∷ []))

  remove_grows : (s : StationState S) (cut : S) → entry_count s ≤ entry_count (remove s cut).0
  remove_grows s cut = by s.live refl
    where
      by : (a : Bool) → s.live ≡ a → entry_count s ≤ entry_count (cond {A = StationState S × Bool} (not a) (s, false) (
        record s {
          device = cut;
          live = false;
          waiting = [];
          taken = map marked_removed s.taken;
          parked = [];
          ready = s.ready ++ map cancelled_parked s.parked ++ map cancelled_waiting s.waiting;
          journal = s.journal ++ Cut Removed ∷ map (λ (job : Job). Cancelled job.key) s.waiting;
        },
        true,
      )).0
      by false e = omega arith
      by true e =
          let one : cond {A = ℕ} s.live 1 0 ≡ 1 = ap (λ (a : Bool). cond {A = ℕ} a 1 0) e in
          omega (
            arith,
            one,
            length-map s.taken marked_removed,
            length-append (s.ready ++ map cancelled_parked s.parked) (map cancelled_waiting s.waiting),
            length-append s.ready (map cancelled_parked s.parked),
            length-map s.parked cancelled_parked,
            length-map s.waiting cancelled_waiting,
            length-append s.journal (Cut Removed ∷ map (λ (job : Job). Cancelled job.key) s.waiting),
            length-map s.waiting (λ (job : Job). Cancelled job.key),
          )

-- ---- each call

module _ {S : Type 0} (Runs : S → Planned → ℕ → Step → List End → S → Type 0) (parked_in : S → List Parked) (Cuts : S → S → Type 0) where
  module _ (c : ℕ) (s new : StationState S) (keeps : Keeps parked_in c s) where
    -- it is one of these
    grows_as : (made : StationState S) → made ≡ new → entry_count s ≤ entry_count made → entry_count s ≤ entry_count new
    grows_as made is = subst (λ (x : StationState S). entry_count s ≤ entry_count x) is

    grows_same : new ≡ s → entry_count s ≤ entry_count new
    grows_same is = grows_as s (sym is) (omega arith)

    put_fails : (job : Job) (cause : PutWhy) → PutRefused s job cause new → entry_count s ≤ entry_count new
    put_fails job why.Memory e = grows_same e.1
    put_fails job why.Gone e = grows_as _ (ap (λ (x : StationState S × Option PutWhy). x.0) e) (put_grows s job (put_refusal s job))
    put_fails job (why.Duplicate key) e = grows_as _ (ap (λ (x : StationState S × Option PutWhy). x.0) e) (put_grows s job (put_refusal s job))
    put_fails job (why.Full count) e = grows_as _ (ap (λ (x : StationState S × Option PutWhy). x.0) e) (put_grows s job (put_refusal s job))
    put_fails job (why.Worn count) e = grows_as _ (ap (λ (x : StationState S × Option PutWhy). x.0) e) (put_grows s job (put_refusal s job))

    cancel_grows : (t : InHand) → Has t s.taken → (kind : Kind) → entry_count s ≤ entry_count (cancelled_in_hand s t kind)
    cancel_grows t has kind =
        let done : Completion = station.completion_of t.key t.completion kind cancellation in
        omega (arith, one_less parked_in c s keeps t has, length-append s.ready (done ∷ []), length-append s.journal (Cancelled t.key ∷ []))

    run_grows : (t : InHand) → Has t s.taken → t.removed ≡ false → (planned : Planned) → t.key ≡ planned.job.key → (moment : ℕ) (came : Stepped S) → CameOf Runs parked_in Cuts s.device planned moment came
        → entry_count s ≤ entry_count (ran s t (kind_of planned.job.op) moment came)
    run_grows t has stays planned same moment came so =
        omega (arith, one_less parked_in c s keeps t has, length-append s.journal (Ran t.key moment (is_starved came.answer) (is_parked came.answer) ∷ []), as_many parked_in c s keeps t has stays planned.job same moment came so.answers so.parks)

    apply_grows : (planned : Planned) (moment : ℕ) (came : Stepped S) (answer : Applied) → (DidRun answer → CameOf Runs parked_in Cuts s.device planned moment came)
        → (found : Option InHand) → find (λ (t : InHand). is_key t.key planned.job.key) s.taken ≡ found → apply_from s planned.job moment came found ≡ (new, answer) → entry_count s ≤ entry_count new
    apply_grows planned moment came answer promise None f e = grows_same (sym (ap (λ (x : StationState S × Applied). x.0) e))
    apply_grows planned moment came answer promise (Some t) f e = hand t.removed refl e
      where
        here : Has t s.taken × (is_key t.key planned.job.key ≡ true)
        here = find_has (λ (t : InHand). is_key t.key planned.job.key) t s.taken f

        hand : (b : Bool) → t.removed ≡ b
            → cond {A = StationState S × Applied} b (cancelled_in_hand s t (kind_of planned.job.op), applied.Cancelled) (ran s t (kind_of planned.job.op) moment came, cond (is_parked came.answer) applied.Parked applied.Ran) ≡ (new, answer) → entry_count s ≤ entry_count new
        hand true gone e = grows_as _ (ap (λ (x : StationState S × Applied). x.0) e) (cancel_grows t here.0 (kind_of planned.job.op))
        hand false stays e =
            let so = promise (subst DidRun (ap (λ (x : StationState S × Applied). x.1) e) (did_run (is_parked came.answer))) in
            grows_as _ (ap (λ (x : StationState S × Applied). x.0) e) (run_grows t here.0 stays planned (same_key t.key planned.job.key here.1) moment came so)

    pub step_grows : (call : StationCall) → EndsNoChannel call → StationStep Runs parked_in Cuts s call new → entry_count s ≤ entry_count new
    step_grows (announces (Ok done)) on e = grows_as _ (ap (λ x. x.0) e) (announce_grows s)
    step_grows (announces (Err refused.Memory)) on e = grows_same e.1
    step_grows (announces (Err refused.Live)) on e = grows_as _ (ap (λ x. x.0) e) (announce_grows s)
    step_grows (announces (Err (refused.Worn count))) on e = grows_as _ (ap (λ x. x.0) e) (announce_grows s)
    step_grows (puts job None) on e = grows_as _ (ap (λ (x : StationState S × Option PutWhy). x.0) e.1) (put_grows s job (put_refusal s job))
    step_grows (puts job (Some refusal)) on e = put_fails job refusal.why e.1
    step_grows (puts_unfit job back) on e = grows_same e.1
    step_grows (takes answer) on e = grows_as _ (ap (λ x. x.0) e) (take_grows s)
    step_grows (applies planned moment answer) on e = apply_grows planned moment e.0 answer e.2 (find (λ (t : InHand). is_key t.key planned.job.key) s.taken) refl e.1
    step_grows (collects answer) on e = grows_as _ (ap (λ x. x.0) e) (collect_grows s)
    step_grows (removes answer) on e = grows_as _ (ap (λ x. x.0) e.1) (remove_grows s e.0)
    step_grows drops on e = absurd on
    step_grows ends on e = absurd on

    -- ---- what a worn journal comes to

    -- where it is worn, no job comes
    pub worn_free : (job : Job) → IsWorn s → put_refusal s job ≡ None → ⊥
    worn_free job worn free_of = let (live, none, few, room) = free parked_in s job free_of in omega (arith, worn, room)

-- a worn journal has so many entries
pub worn_entries_of : {S : Type 0} (s : StationState S) → length (held s) ≤ 128 → IsWorn s → 16776957 ≤ length s.journal
worn_entries_of s few worn = by s.live worn
  where
    by : (b : Bool) → 16777213 < length s.journal + (2 * (length s.waiting + length s.taken) + length s.parked + length s.ready + cond b 1 0) → 16776957 ≤ length s.journal
    by true worn = omega (arith, few, size_held s, worn)
    by false worn = omega (arith, few, size_held s, worn)

-- ---- announcements

-- An announced station is live, or its journal is worn.
pub announced_open : {S : Type 0} (s new : StationState S) (answer : Result (Unit {0}) AnnounceNo) → announce s ≡ (new, answer) → (new.live ≡ true) ⊎ IsWorn new
announced_open {S} s new answer is = subst (λ (x : StationState S). (x.live ≡ true) ⊎ IsWorn x) (ap (λ (x : StationState S × Result (Unit {0}) AnnounceNo). x.0) is) (by s.live refl (nat_le max_entries (entry_count s)) refl)
  where
    by : (a : Bool) → s.live ≡ a → (b : Bool) → nat_le max_entries (entry_count s) ≡ b
        → let x : StationState S = (cond {A = StationState S × Result (Unit {0}) AnnounceNo} a (s, Err refused.Live) (cond b (s, Err (refused.Worn (entry_count s))) (record s { live = true }, Ok tt))).0 in (x.live ≡ true) ⊎ IsWorn x
    by true live b e = inl live
    by false live true e = let full : max_entries ≤ entry_count s = leb-true max_entries (entry_count s) e in inr (omega (arith, full))
    by false live false e = inl refl

-- a job is refused for a worn journal only where it is worn, and for a device that is gone only where its station isn't live
pub refused_worn : {S : Type 0} (s : StationState S) (job : Job) (count : ℕ) → put_refusal s job ≡ Some (why.Worn count) → (s.live ≡ true) × IsWorn s
refused_worn s job count is = by s.live refl (find (λ (other : Key × ℕ). other.1 == job.completion) (held s)) (nat_le max_held (length (held s))) (nat_lt (max_entries - 3) (entry_count s)) refl is
  where
    by : (a : Bool) → s.live ≡ a → (o : Option (Key × ℕ)) (b c : Bool) → nat_lt (max_entries - 3) (entry_count s) ≡ c
        → cond (not a) (Some why.Gone) (option_map_or (λ (other : Key × ℕ). Some (why.Duplicate other.0)) o (cond b (Some (why.Full (length (held s)))) (cond c (Some (why.Worn (entry_count s))) None))) ≡ Some (why.Worn count) → (s.live ≡ true) × IsWorn s
    by false live o b c worn e = absurd (cc (e))
    by true live (Some x) b c worn e = absurd (cc (e))
    by true live None true c worn e = absurd (cc (e))
    by true live None false false worn e = absurd (cc (e))
    by true live None false true worn e = (live, ltb-true (max_entries - 3) (entry_count s) worn)

pub refused_gone : {S : Type 0} (s : StationState S) (job : Job) → put_refusal s job ≡ Some why.Gone → s.live ≡ false
refused_gone s job is = by s.live refl (find (λ (other : Key × ℕ). other.1 == job.completion) (held s)) (nat_le max_held (length (held s))) (nat_lt (max_entries - 3) (entry_count s)) is
  where
    by : (a : Bool) → s.live ≡ a → (o : Option (Key × ℕ)) (b c : Bool)
        → cond (not a) (Some why.Gone) (option_map_or (λ (other : Key × ℕ). Some (why.Duplicate other.0)) o (cond b (Some (why.Full (length (held s)))) (cond c (Some (why.Worn (entry_count s))) None))) ≡ Some why.Gone → s.live ≡ false
    by false live o b c e = live
    by true live (Some x) b c e = absurd (cc (e))
    by true live None true c e = absurd (cc (e))
    by true live None false true e = absurd (cc (e))
    by true live None false false e = absurd (cc (e))
