-- Whatever call a station does, and whatever its device: what it holds has the completion id and the layout of its key's request, and a good reply where it has one.
use Rattle.std.proofs.Common.{◌≡◌, refl, sym, ap, subst, inl, inr, ℕ, Bool, true, false, cond, not, List, [], ◌∷◌, ◌++◌, map}
use Rattle.std.specs.Prelude.{Err, None, Ok, Option, Result, Some, filter, find, nat_le}
use Rattle.std.specs.List.{flat_map}
use Rattle.std.specs.Option.{option_map_or}
use Rattle.rd_base.specs.declared.journal.Cause.TheVariants.{Dropped, Removed}
use Rattle.rd_base.specs.declared.journal.Item.TheVariants.{Cancelled, Cut}
use Rattle.rd_base.specs.declared.journal.Key.{Key}
use Rattle.rd_drive.specs.Device.{Parked, is_parked}
use Rattle.rd_drive.specs.Planned.{Planned}
use Rattle.rd_drive.specs.Replies.{cancellation}
use Rattle.rd_drive.specs.Stepped.{Stepped}
use Rattle.rd_drive.specs.declared.plan.Job.{Job}
use Rattle.rd_drive.specs.declared.step.End.{End}
use Rattle.rd_drive.specs.declared.step.Step.{Step}
use Rattle.rd_drive.specs.declared.step.Step.TheVariants as step
use Rattle.rd_irp.specs.Fits.{kind_of}
use Rattle.rd_irp.specs.declared.completion.Kind.{Kind}
use Rattle.rd_irp.specs.declared.completion.Reply.{Reply}
use Rattle.rd_station.specs.Station as station
use Rattle.rd_station.specs.Station.{CameOf, DidRun, PutRefused, StationCall, StationState, StationStep, announce, announces, applies, apply_from, cancelled_in_hand, cancelled_parked, cancelled_waiting, collect_first, collects, completion_of, drop_channel, drops, emptied, ended_completion, ends, entry_count, is_ended, is_key, marked_removed, max_entries, own_completion, put_refusal, put_unless, puts, puts_unfit, ran, remove, removes, take_first, takes, without_taken}
use Rattle.rd_station.specs.declared.answers.Applied.{Applied}
use Rattle.rd_station.specs.declared.answers.Applied.TheVariants as applied
use Rattle.rd_station.specs.declared.answers.Completion.{Completion}
use Rattle.rd_station.specs.declared.answers.Given.{Given}
use Rattle.rd_station.specs.declared.answers.Given.TheVariants as given
use Rattle.rd_station.specs.declared.held.InHand.{InHand}
use Rattle.rd_station.specs.declared.held.ParkedJob.{ParkedJob}
use Rattle.rd_station.specs.declared.refusals.AnnounceNo.{AnnounceNo}
use Rattle.rd_station.specs.declared.refusals.AnnounceNo.TheVariants as refused
use Rattle.rd_station.specs.declared.refusals.PutWhy.{PutWhy}
use Rattle.rd_station.specs.declared.refusals.PutWhy.TheVariants as why
use Rattle.rd_station.proofs.Calls.{did_run}
use Rattle.rd_station.proofs.Members.{filter_has, find_has, has_append, map_has, same_key}
use Rattle.rd_deeds.specs.Talk.{Has}
use Rattle.rd_journals.specs.Jobs.{OwnsAll}
use Rattle.rd_journals.proofs.CallLemmas.{OfJob}

-- what a run comes to has good replies
pub record IsGood {S : Type 0} (Good : Reply → Type 0) (came : Stepped S) : Type 0 where
  pub answer : (reply : Reply) → came.answer ≡ step.Reply reply → Good reply
  pub ends : (e : End) → Has e came.ends → Good e.reply

-- A device with states of the type S: what a run of it relates, the requests that wait in it, and what a cut relates.
module _ {S : Type 0} (Runs : S → Planned → ℕ → Step → List End → S → Type 0) (parked_in : S → List Parked) (Cuts : S → S → Type 0) where
  module _ (T : Key → ℕ → Type 0) (K : Key → ℕ → Kind → Type 0) (Good : Reply → Type 0) (J : Job → Type 0) (lost : Good cancellation)
      (kinds : (job : Job) (completion : ℕ) → J job → T job.key completion → K job.key completion (kind_of job.op))
      (waits : (job : Job) → J job → T job.key job.completion)
      (runs : (s : S) (planned : Planned) (moment : ℕ) (came : Stepped S) → J planned.job → Runs s planned moment came.answer came.ends came.state → IsGood Good came) where
    abbrev Owns : StationState S → Type 0
    Owns s = OwnsAll T K Good s.taken s.parked s.ready

    module _ (old new : StationState S) (waiting : (job : Job) → Has job old.waiting → J job) (is : Owns old) where
      goes : {A : Type 0} (made : StationState S × A) (answer : A) → made ≡ (new, answer) → Owns made.0 → Owns new
      goes {A} made answer e owns = subst Owns (ap (λ (x : StationState S × A). x.0) e) owns

      announced : Owns (announce old).0
      announced = by old.live (nat_le max_entries (entry_count old))
        where
          by : (a b : Bool) → Owns (cond {A = StationState S × Result (Unit {0}) AnnounceNo} a (old, Err refused.Live) (cond b (old, Err (refused.Worn (entry_count old))) (record old { live = true }, Ok tt))).0
          by true b = is
          by false true = is
          by false false = is

      put : (job : Job) (found : Option PutWhy) → Owns (put_unless old job found).0
      put job None = is
      put job (Some cause) = is

      put_fails : (job : Job) (cause : PutWhy) → PutRefused old job cause new → Owns new
      put_fails job why.Memory e = subst Owns (sym e.1) is
      put_fails job why.Gone e = goes _ _ e (put job (put_refusal old job))
      put_fails job (why.Duplicate key) e = goes _ _ e (put job (put_refusal old job))
      put_fails job (why.Full count) e = goes _ _ e (put job (put_refusal old job))
      put_fails job (why.Worn count) e = goes _ _ e (put job (put_refusal old job))

      took : Owns (station.take old).0
      took = by old.ended old.waiting refl
        where
          by : (b : Bool) (jobs : List Job) → old.waiting ≡ jobs → Owns (cond {A = StationState S × Given} b (old, given.Over) (take_first old jobs)).0
          by true jobs e = is
          by false [] e = is
          by false (job ∷ jobs) e = record {
            taken = λ t has. elim (has_append t old.taken (record { key = job.key; completion = job.completion; removed = false } ∷ []) has) [
              | inl was ↦ is.taken t was
              | inr last ↦ elim last [ inl same ↦ subst (λ (u : InHand). T u.key u.completion) (sym same) (waits job (waiting job (subst (λ (ws : List Job). Has job ws) (sym e) (inl refl)))) | inr none ↦ absurd none ]
            ];
            parked = is.parked;
            ready = is.ready;
          }

      collected : Owns (station.collect old).0
      collected = by old.ready refl
        where
          by : (cs : List Completion) → old.ready ≡ cs → Owns (collect_first old cs).0
          by [] e = is
          by (x ∷ xs) e = record { taken = is.taken; parked = is.parked; ready = λ y has. is.ready y (subst (λ (ys : List Completion). Has y ys) (sym e) (inr has)) }

      -- the completion of a request that ended
      ended : (came : Stepped S) → IsGood Good came → (es : List End) → ((e : End) → Has e es → Has e came.ends) → (x : Completion) → Has x (flat_map (ended_completion old.parked) es) → K x.key x.completion x.kind × Good x.reply
      ended came good [] within x none = absurd none
      ended came good (e ∷ es) within x has = elim (has_append x (ended_completion old.parked e) (flat_map (ended_completion old.parked) es) has) [
        | inl here ↦ one (find (λ (p : ParkedJob). is_key p.key e.key) old.parked) refl here
        | inr later ↦ ended came good es (λ f there. within f (inr there)) x later
      ]
        where
          one : (found : Option ParkedJob) → find (λ (p : ParkedJob). is_key p.key e.key) old.parked ≡ found → Has x (option_map_or (λ (p : ParkedJob). completion_of p.key p.completion p.kind e.reply ∷ []) found []) → K x.key x.completion x.kind × Good x.reply
          one None f none = absurd none
          one (Some p) f (inr none) = absurd none
          one (Some p) f (inl same) = subst (λ (y : Completion). K y.key y.completion y.kind × Good y.reply) (sym same)
              (is.parked p (find_has (λ (q : ParkedJob). is_key q.key e.key) p old.parked f).0, good.ends e (within e (inl refl)))

      module _ (planned : Planned) (own : J planned.job) (moment : ℕ) (came : Stepped S) (t : InHand) (here : Has t old.taken) (its : t.key ≡ planned.job.key) where
        abbrev kind : Kind
        kind = kind_of planned.job.op

        mine : K t.key t.completion kind
        mine = subst (λ (k : Key). K k t.completion kind) (sym its) (kinds planned.job t.completion own (subst (λ (k : Key). T k t.completion) its (is.taken t here)))

        others : (u : InHand) → Has u (without_taken t.key old.taken) → T u.key u.completion
        others u has = is.taken u (filter_has (λ (v : InHand). not (is_key v.key t.key)) u old.taken has).0

        cancelled : Owns (cancelled_in_hand old t kind)
        cancelled = record {
          taken = others;
          parked = is.parked;
          ready = λ x has. elim (has_append x old.ready (completion_of t.key t.completion kind cancellation ∷ []) has) [
            | inl was ↦ is.ready x was
            | inr last ↦ elim last [ inl same ↦ subst (λ (y : Completion). K y.key y.completion y.kind × Good y.reply) (sym same) (mine, lost) | inr none ↦ absurd none ]
          ];
        }

        did : IsGood Good came → Owns (ran old t kind moment came)
        did good = record {
          taken = others;
          parked = λ p has. elim (has_append p (filter (λ q. not (is_ended came.ends q)) old.parked) (cond (is_parked came.answer) (record { key = t.key; completion = t.completion; kind = kind } ∷ []) []) has) [
            | inl was ↦ is.parked p (filter_has (λ q. not (is_ended came.ends q)) p old.parked was).0
            | inr last ↦ by_parked (is_parked came.answer) p last
          ];
          ready = λ x has. elim (has_append x (old.ready ++ own_completion t kind came.answer) (flat_map (ended_completion old.parked) came.ends) has) [
            | inl before ↦ elim (has_append x old.ready (own_completion t kind came.answer) before) [ inl was ↦ is.ready x was | inr answered ↦ by_answer came.answer refl x answered ]
            | inr later ↦ ended came good came.ends (λ e there. there) x later
          ];
        }
          where
            by_parked : (b : Bool) (p : ParkedJob) → Has p (cond b (record { key = t.key; completion = t.completion; kind = kind } ∷ []) []) → K p.key p.completion p.kind
            by_parked true p (inl same) = subst (λ (q : ParkedJob). K q.key q.completion q.kind) (sym same) mine
            by_parked true p (inr none) = absurd none
            by_parked false p none = absurd none

            by_answer : (a : Step) → came.answer ≡ a → (x : Completion) → Has x (own_completion t kind a) → K x.key x.completion x.kind × Good x.reply
            by_answer step.Parked e x none = absurd none
            by_answer (step.Reply reply) e x (inl same) = subst (λ (y : Completion). K y.key y.completion y.kind × Good y.reply) (sym same) (mine, good.answer reply e)
            by_answer (step.Reply reply) e x (inr none) = absurd none

      given_back : (planned : Planned) → J planned.job → (moment : ℕ) (came : Stepped S) (answer : Applied) → (DidRun answer → CameOf Runs parked_in Cuts old.device planned moment came)
          → (found : Option InHand) → find (λ (t : InHand). is_key t.key planned.job.key) old.taken ≡ found → apply_from old planned.job moment came found ≡ (new, answer) → Owns new
      given_back planned own moment came answer promise None f e = goes _ _ e is
      given_back planned own moment came answer promise (Some t) f e = hand t.removed e
        where
          at : Has t old.taken × (is_key t.key planned.job.key ≡ true)
          at = find_has (λ (u : InHand). is_key u.key planned.job.key) t old.taken f

          its : t.key ≡ planned.job.key
          its = same_key t.key planned.job.key at.1

          hand : (b : Bool) → cond {A = StationState S × Applied} b (cancelled_in_hand old t (kind_of planned.job.op), applied.Cancelled) (ran old t (kind_of planned.job.op) moment came, cond (is_parked came.answer) applied.Parked applied.Ran) ≡ (new, answer) → Owns new
          hand true e = goes _ _ e (cancelled planned own moment came t at.0 its)
          hand false e =
              let so = promise (subst DidRun (ap (λ (x : StationState S × Applied). x.1) e) (did_run (is_parked came.answer))) in
              goes _ _ e (did planned own moment came t at.0 its (runs old.device planned moment came own so.runs))

      gone : (cut : S) → Owns (remove old cut).0
      gone cut = by old.live
        where
          left : StationState S
          left = record old {
            device = cut;
            live = false;
            waiting = [];
            taken = map marked_removed old.taken;
            parked = [];
            ready = old.ready ++ map cancelled_parked old.parked ++ map cancelled_waiting old.waiting;
            journal = old.journal ++ Cut Removed ∷ map (λ (job : Job). Cancelled job.key) old.waiting;
          }

          by : (b : Bool) → Owns (cond {A = StationState S × Bool} (not b) (old, false) (left, true)).0
          by false = is
          by true = record {
            taken = λ t has. let (u, there, same) = map_has marked_removed t old.taken has in subst (λ (v : InHand). T v.key v.completion) (sym same) (is.taken u there);
            parked = λ p none. absurd none;
            ready = λ x has. elim (has_append x (old.ready ++ map cancelled_parked old.parked) (map cancelled_waiting old.waiting) has) [
              | inl before ↦ elim (has_append x old.ready (map cancelled_parked old.parked) before) [
                | inl was ↦ is.ready x was
                | inr one ↦ let (p, there, same) = map_has cancelled_parked x old.parked one in subst (λ (y : Completion). K y.key y.completion y.kind × Good y.reply) (sym same) (is.parked p there, lost)
              ]
              | inr one ↦
                  let (job, there, same) = map_has cancelled_waiting x old.waiting one in
                  let own : J job = waiting job there in
                  subst (λ (y : Completion). K y.key y.completion y.kind × Good y.reply) (sym same) (kinds job job.completion own (waits job own), lost)
            ];
          }

      emptied_owns : OwnsAll T K Good [] [] []
      emptied_owns = record { taken = λ t none. absurd none; parked = λ p none. absurd none; ready = λ x none. absurd none }

      cut_off : (cut : S) → Owns (drop_channel old cut)
      cut_off cut = by old.live
        where
          by : (b : Bool) → Owns (cond b (record (emptied old) { device = cut; live = false; journal = old.journal ++ Cut Dropped ∷ [] }) (emptied old))
          by true = emptied_owns
          by false = emptied_owns

      pub owns_call : (call : StationCall) → StationStep Runs parked_in Cuts old call new → OfJob J call → Owns new
      owns_call (announces (Ok done)) e of = goes _ _ e announced
      owns_call (announces (Err refused.Memory)) e of = subst Owns (sym e.1) is
      owns_call (announces (Err refused.Live)) e of = goes _ _ e announced
      owns_call (announces (Err (refused.Worn count))) e of = goes _ _ e announced
      owns_call (puts job None) e of = goes _ _ e.1 (put job (put_refusal old job))
      owns_call (puts job (Some refusal)) e of = put_fails job refusal.why e.1
      owns_call (puts_unfit job back) e of = subst Owns (sym e.1) is
      owns_call (takes answer) e of = goes _ _ e took
      owns_call (applies planned moment answer) e of = given_back planned of moment e.0 answer e.2 (find (λ (t : InHand). is_key t.key planned.job.key) old.taken) refl e.1
      owns_call (collects answer) e of = goes _ _ e collected
      owns_call (removes answer) e of = goes _ _ e.1 (gone e.0)
      owns_call drops e of = subst Owns e.1 (cut_off e.0)
      owns_call ends e of = subst Owns e.1 (cut_off e.0)
