-- What calls of a station store: only a removal cuts a device off as one that is gone.
use Rattle.std.proofs.Common.{◌≡◌, ◌∙◌, refl, sym, ap, subst, inl, inr, Bool, true, false, cond, List, [], ◌∷◌, ◌++◌, append_assoc, append-nil}
use Rattle.std.specs.Prelude.{Err, None, Ok, Option, Result, Some, find, nat_le}
use Rattle.std.specs.List.{AllByRecursion}
use Rattle.rd_base.specs.declared.journal.Cause.TheVariants.{Dropped, Removed}
use Rattle.rd_base.specs.declared.journal.Item.{Item}
use Rattle.rd_base.specs.declared.journal.Item.TheVariants.{Came, Cancelled, Cut, Ran, Sent}
use Rattle.rd_desk.specs.Desk.{told_by}
use Rattle.rd_desk.specs.declared.calls.DeskCall.{DeskCall}
use Rattle.rd_desk.specs.declared.calls.DeskReply.{DeskReply}
use Rattle.rd_drive.specs.Device.{is_parked, is_starved}
use Rattle.rd_drive.specs.declared.plan.Job.{Job}
use Rattle.rd_front.specs.State.{DeviceDeskState, SessionStation}
use Rattle.rd_irp.specs.Fits.{kind_of}
use Rattle.rd_station.specs.Station as station
use Rattle.rd_station.specs.Station.{StationCall, announces, applies, apply_from, cancelled_in_hand, collects, drop_channel, drops, emptied, ends, entry_count, is_key, max_entries, put_refusal, put_unless, puts, puts_unfit, ran, removes, take_first, takes}
use Rattle.rd_station.specs.declared.answers.Applied.{Applied}
use Rattle.rd_station.specs.declared.answers.Applied.TheVariants as applied
use Rattle.rd_station.specs.declared.answers.Completion.{Completion}
use Rattle.rd_station.specs.declared.answers.Given.{Given}
use Rattle.rd_station.specs.declared.answers.Given.TheVariants as given
use Rattle.rd_station.specs.declared.held.InHand.{InHand}
use Rattle.rd_station.specs.declared.refusals.AnnounceNo.{AnnounceNo}
use Rattle.rd_station.specs.declared.refusals.AnnounceNo.TheVariants as unannounced
use Rattle.rd_station.specs.declared.refusals.PutWhy.{PutWhy}
use Rattle.rd_station.proofs.Members.{has_append}
use Rattle.rd_deeds.specs.Talk.{Has}
use Rattle.rd_served.specs.Served.{CallsDesk, IsWork}
use Rattle.rd_served.proofs.StationLemmas.{Step, put_refused}
use Rattle.rd_served.proofs.WorkLemmas.{Steps}
use Rattle.rd_served.specs.ServedDevices.{ServedDeviceState}

abbrev Of : Type 0
Of = SessionStation

abbrev pub IsNoRemoval : StationCall → Type 0
IsNoRemoval (removes answer) = ⊥
IsNoRemoval _ = Unit {0}

pub record StoresMild (old new : Of) : Type 0 where
  pub more : List Item
  pub longer : new.journal ≡ old.journal ++ more
  pub mild : Has (Cut Removed) more → ⊥

mild_same : (old new s : Of) → new ≡ s → s.journal ≡ old.journal → StoresMild old new
mild_same old new s is same = record { more = []; longer = ap (λ (x : Of). x.journal) is ∙ same ∙ sym (append-nil old.journal); mild = λ none. none }

mild_some : (old new s : Of) (more : List Item) → new ≡ s → s.journal ≡ old.journal ++ more → (Has (Cut Removed) more → ⊥) → StoresMild old new
mild_some old new s more is longer none = record { more = more; longer = ap (λ (x : Of). x.journal) is ∙ longer; mild = none }

announce_mild : (old new : Of) (answer : Result (Unit {0}) AnnounceNo) → station.announce old ≡ (new, answer) → StoresMild old new
announce_mild old new answer e = mild_same old new (station.announce old).0 (sym (ap (λ (r : Of × Result (Unit {0}) AnnounceNo). r.0) e)) (by old.live (nat_le max_entries (entry_count old)))
  where
    by : (a b : Bool) → let s = (cond {A = Of × Result (Unit {0}) AnnounceNo} a (old, Err unannounced.Live) (cond b (old, Err (unannounced.Worn (entry_count old))) (record old { live = true }, Ok tt))).0 in s.journal ≡ old.journal
    by true b = refl
    by false true = refl
    by false false = refl

drop_mild : (old new : Of) (cut : ServedDeviceState) → new.journal ≡ (let s = drop_channel old cut in s.journal) → StoresMild old new
drop_mild old new cut e = by old.live e
  where
    by : (b : Bool) → new.journal ≡ (let s = cond b (record (emptied old) { device = cut; live = false; journal = old.journal ++ Cut Dropped ∷ [] }) (emptied old) in s.journal) → StoresMild old new
    by true f = record { more = Cut Dropped ∷ []; longer = f; mild = λ has. elim has [ inl same ↦ cc (same) | inr none ↦ none ] }
    by false f = record { more = []; longer = f ∙ sym (append-nil old.journal); mild = λ none. none }

pub step_mild : (old new : Of) (call : StationCall) → IsNoRemoval call → Step old call new → StoresMild old new
step_mild old new (announces (Ok done)) own e = announce_mild old new (Ok done) e
step_mild old new (announces (Err unannounced.Memory)) own e = mild_same old new old e.1 refl
step_mild old new (announces (Err unannounced.Live)) own e = announce_mild old new (Err unannounced.Live) e
step_mild old new (announces (Err (unannounced.Worn count))) own e = announce_mild old new (Err (unannounced.Worn count)) e
step_mild old new (puts job None) own e = by (put_refusal old job) e.1
  where
    by : (found : Option PutWhy) → put_unless old job found ≡ (new, None) → StoresMild old new
    by None f = mild_some old new (put_unless old job None).0 (Came job.key ∷ []) (sym (ap (λ (r : Of × Option PutWhy). r.0) f)) refl (λ has. elim has [ inl same ↦ cc (same) | inr none ↦ none ])
    by (Some cause) f = absurd (let g : Some cause ≡ None = ap (λ (r : Of × Option PutWhy). r.1) f in cc (g))
step_mild old new (puts job (Some refusal)) own e = mild_same old new old (put_refused old new job refusal.why e.1) refl
step_mild old new (puts_unfit job back) own e = mild_same old new old e.1 refl
step_mild old new (takes answer) own e = mild_same old new (station.take old).0 (sym (ap (λ (r : Of × Given). r.0) e)) (by old.ended old.waiting)
  where
    by : (b : Bool) (jobs : List Job) → let s = (cond {A = Of × Given} b (old, given.Over) (take_first old jobs)).0 in s.journal ≡ old.journal
    by true jobs = refl
    by false [] = refl
    by false (job ∷ jobs) = refl
step_mild old new (applies planned moment answer) own e = by (find (λ (t : InHand). is_key t.key planned.job.key) old.taken) e.1
  where
    hand : (t : InHand) (b : Bool)
        → cond {A = Of × Applied} b (cancelled_in_hand old t (kind_of planned.job.op), applied.Cancelled) (ran old t (kind_of planned.job.op) moment e.0, cond (is_parked (e.0).answer) applied.Parked applied.Ran) ≡ (new, answer) → StoresMild old new
    hand t true f = mild_some old new (cancelled_in_hand old t (kind_of planned.job.op)) (Cancelled t.key ∷ []) (sym (ap (λ (r : Of × Applied). r.0) f)) refl (λ has. elim has [ inl same ↦ cc (same) | inr none ↦ none ])
    hand t false f = mild_some old new (ran old t (kind_of planned.job.op) moment e.0) (Ran t.key moment (is_starved (e.0).answer) (is_parked (e.0).answer) ∷ []) (sym (ap (λ (r : Of × Applied). r.0) f)) refl
        (λ has. elim has [ inl same ↦ cc (same) | inr none ↦ none ])

    by : (found : Option InHand) → apply_from old planned.job moment e.0 found ≡ (new, answer) → StoresMild old new
    by None f = mild_same old new old (sym (ap (λ (r : Of × Applied). r.0) f)) refl
    by (Some t) f = hand t t.removed f
step_mild old new (collects answer) own e = by old.ready e
  where
    by : (cs : List Completion) → station.collect_first old cs ≡ (new, answer) → StoresMild old new
    by [] f = mild_same old new old (sym (ap (λ (r : Of × Option Completion). r.0) f)) refl
    by (c ∷ cs) f = mild_some old new (station.collect_first old (c ∷ cs)).0 (Sent c.key ∷ []) (sym (ap (λ (r : Of × Option Completion). r.0) f)) refl (λ has. elim has [ inl same ↦ cc (same) | inr none ↦ none ])
step_mild old new (removes answer) own e = absurd own
step_mild old new drops own e = drop_mild old new e.0 (ap (λ (s : Of). s.journal) (sym e.1))
step_mild old new ends own e = drop_mild old new e.0 (ap (λ (s : Of). s.journal) (sym e.1))

abbrev pub AreNoRemovals : List StationCall → Type 0
AreNoRemovals list = AllByRecursion IsNoRemoval list

pub steps_mild : (list : List StationCall) (old new : Of) → AreNoRemovals list → Steps old list new → StoresMild old new
steps_mild [] old new own is = mild_same old new old is refl
steps_mild (call ∷ others) old new own steps =
    let first = step_mild old steps.0 call own.0 steps.1 in
    let later = steps_mild others steps.0 new own.1 steps.2 in
    record {
      more = first.more ++ later.more;
      longer = later.longer ∙ ap (λ (j : List Item). j ++ later.more) first.longer ∙ append_assoc old.journal first.more later.more;
      mild = λ has. elim (has_append (Cut Removed) first.more later.more has) [ inl one ↦ first.mild one | inr other ↦ later.mild other ];
    }

pub work_no_removals : (list : List StationCall) → AllByRecursion IsWork list → AreNoRemovals list
work_no_removals [] work = tt
work_no_removals (call ∷ others) work = (one call work.0, work_no_removals others work.1)
  where
    one : (c : StationCall) → IsWork c → IsNoRemoval c
    one (takes answer) is = tt
    one (applies planned moment answer) is = tt
    one (announces answer) is = absurd is
    one (puts job answer) is = absurd is
    one (puts_unfit job back) is = absurd is
    one (collects answer) is = absurd is
    one (removes answer) is = absurd is
    one drops is = absurd is
    one ends is = absurd is

pub cancel : (xs ys zs : List Item) → xs ++ ys ≡ xs ++ zs → ys ≡ zs
cancel [] ys zs is = is
cancel (x ∷ xs) ys zs is = cancel xs ys zs (cc (is))

-- what a call of a desk stores that isn't a removal
pub called_mild : (d e : DeviceDeskState) (first last : Of) (does : DeskCall) (back : DeskReply) (items : List Item) → CallsDesk d e first does back items last → AreNoRemovals (told_by does back) → Has (Cut Removed) items → ⊥
called_mild d e first last does back items called none has =
    let work = steps_mild called.works.calls first called.middle (work_no_removals called.works.calls called.works.work) called.works.steps in
    let own = steps_mild (told_by does back) called.middle last none (called.step).0 in
    let both : last.journal ≡ first.journal ++ work.more ++ own.more = own.longer ∙ ap (λ (j : List Item). j ++ own.more) work.longer in
    let same : items ≡ work.more ++ own.more = cancel first.journal items (work.more ++ own.more) (sym called.stored ∙ both ∙ append_assoc first.journal work.more own.more) in
    elim (has_append (Cut Removed) work.more own.more (subst (Has (Cut Removed)) same has)) [ inl one ↦ work.mild one | inr other ↦ own.mild other ]
