-- What a station keeps of the keys that it names: what it stores is of what it holds, and where no job may come it was cut off after each that came.
use Rattle.std.proofs.Common.{◌≡◌, ◌⊎◌, ◌∙◌, refl, sym, ap, subst, inl, inr, ℕ, Bool, true, false, cond, not, List, [], ◌∷◌, ◌++◌, map, reverse, Option, Some, None, arith, append_assoc, append-nil}
use Rattle.std.specs.Prelude.{Result, Ok, Err, find, nat_le}
use Rattle.std.specs.List.{AllByRecursion}
use Rattle.std.proofs.lemmas.List.{reverse-append}
use Rattle.rd_base.specs.Lawful.{named_key}
use Rattle.rd_base.specs.declared.journal.Cause.{Cause}
use Rattle.rd_base.specs.declared.journal.Cause.TheVariants.{Dropped, Removed}
use Rattle.rd_base.specs.declared.journal.Item.{Item}
use Rattle.rd_base.specs.declared.journal.Item.TheVariants.{Came, Cancelled, Cut, Ran, Sent}
use Rattle.rd_base.specs.declared.journal.Key.{Key}
use Rattle.rd_desk.specs.Desk.{told_by}
use Rattle.rd_desk.specs.declared.calls.DeskCall.{DeskCall}
use Rattle.rd_desk.specs.declared.calls.DeskReply.{DeskReply}
use Rattle.rd_drive.specs.Device.{is_parked, is_starved}
use Rattle.rd_drive.specs.declared.plan.Job.{Job}
use Rattle.rd_front.specs.State.{DeviceDeskState, SessionStation}
use Rattle.rd_irp.specs.Fits.{kind_of}
use Rattle.rd_served_causes.proofs.JournalsHeldLemmas.{turned_has}
use Rattle.rd_served_causes.specs.JournalsReads.{IsGiven}
use Rattle.rd_served_causes.specs.ServedOnChannel.{IsServedOn}
use Rattle.rd_served_causes.proofs.ServedCallLemmas.{some_held}
use Rattle.rd_station.proofs.Members.{find_has, has_append, has_left, has_map, has_right, map_has, to_contains}
use Rattle.rd_station.specs.Memory.{NamesKey}
use Rattle.rd_station.specs.Station as station
use Rattle.rd_station.specs.Station.{StationCall, announces, applies, apply_from, cancelled_in_hand, cancelled_parked, cancelled_waiting, collects, drop_channel, drops, emptied, ends, entry_count, held, is_key, marked_removed, max_entries, new_station, put_refusal, put_unless, puts, puts_unfit, ran, removes, take_first, takes}
use Rattle.rd_station.specs.declared.answers.Applied.{Applied}
use Rattle.rd_station.specs.declared.answers.Applied.TheVariants as applied
use Rattle.rd_station.specs.declared.answers.Completion.{Completion}
use Rattle.rd_station.specs.declared.answers.Given.{Given}
use Rattle.rd_station.specs.declared.answers.Given.TheVariants as given
use Rattle.rd_station.specs.declared.held.InHand.{InHand}
use Rattle.rd_station.specs.declared.held.ParkedJob.{ParkedJob}
use Rattle.rd_station.specs.declared.refusals.AnnounceNo.{AnnounceNo}
use Rattle.rd_station.specs.declared.refusals.AnnounceNo.TheVariants as unannounced
use Rattle.rd_station.specs.declared.refusals.PutWhy.{PutWhy}
use Rattle.rd_station.specs.declared.refusals.PutWhy.TheVariants as why
use Rattle.rd_world.proofs.KeysLemmas.{Comes}
use Rattle.rd_deeds.specs.Talk.{Has}
use Rattle.rd_served_causes.proofs.ServedComesLemmas.{ComesBy, cancel}
use Rattle.rd_served_causes.proofs.ServedHeldLemmas.{HeldIn, drop_none, end_none, held_less, put_more, ready_held, work_less}
use Rattle.rd_served_causes.proofs.ServedKeyLemmas.{IsKeyed, current}
use Rattle.rd_served_causes.proofs.ServedStationLemmas.{Step, put_refused}
use Rattle.rd_served_causes.proofs.ServedWorkLemmas.{Steps}
use Rattle.rd_served_causes.specs.ServedServed.{CallsDesk, IsWork, Served}
use Rattle.rd_served_sessions.specs.Drops.{uncut_keys}
use Rattle.rd_served_causes.proofs.ServedStoreLemmas.{come_by, step_stores}
use Rattle.rd_served_causes.specs.ServedDevices.{IsServedReached, ServedDeviceState, served_cuts, served_parked, served_runs}

abbrev Of : Type 0
Of = SessionStation

-- ---- what is held

abbrev of_waiting : Of → List (Key × ℕ)
of_waiting s = map (λ (j : Job). (j.key, j.completion)) s.waiting

abbrev of_taken : Of → List (Key × ℕ)
of_taken s = map (λ (t : InHand). (t.key, t.completion)) s.taken

abbrev of_parked : Of → List (Key × ℕ)
of_parked s = map (λ (p : ParkedJob). (p.key, p.completion)) s.parked

abbrev of_ready : Of → List (Key × ℕ)
of_ready s = map (λ (c : Completion). (c.key, c.completion)) s.ready

waiting_held : (s : Of) (job : Job) → Has job s.waiting → HeldIn s (job.key, job.completion)
waiting_held s job has =
    let x : Key × ℕ = (job.key, job.completion) in
    has_left {A = Key × ℕ} x (of_waiting s ++ of_taken s ++ of_parked s) (of_ready s)
    (has_left {A = Key × ℕ} x (of_waiting s ++ of_taken s) (of_parked s) (has_left {A = Key × ℕ} x (of_waiting s) (of_taken s) (has_map {A = Job} {B = Key × ℕ} (λ (j : Job). (j.key, j.completion)) job s.waiting has)))

taken_held : (s : Of) (t : InHand) → Has t s.taken → HeldIn s (t.key, t.completion)
taken_held s t has =
    let x : Key × ℕ = (t.key, t.completion) in
    has_left {A = Key × ℕ} x (of_waiting s ++ of_taken s ++ of_parked s) (of_ready s)
    (has_left {A = Key × ℕ} x (of_waiting s ++ of_taken s) (of_parked s) (has_right {A = Key × ℕ} x (of_waiting s) (of_taken s) (has_map {A = InHand} {B = Key × ℕ} (λ (u : InHand). (u.key, u.completion)) t s.taken has)))

-- ---- what a call stores is of what is held, or comes by it

abbrev IsHeldOr : Of → StationCall → Key → Type 0
IsHeldOr s call key = ((id : ℕ) × HeldIn s (key, id)) ⊎ Comes call key

record StoresHeld (old new : Of) (call : StationCall) : Type 0 where
  more : List Item
  longer : new.journal ≡ old.journal ++ more
  of : (x : Item) → Has x more → (key : Key) → named_key x ≡ Some key → IsHeldOr old call key

named_is : (x y : Item) (k key : Key) → x ≡ y → named_key y ≡ Some k → named_key x ≡ Some key → key ≡ k
named_is x y k key same one names = let both : Some k ≡ Some key = sym one ∙ sym (ap named_key same) ∙ names in sym (cc (both))

held_same : (old new : Of) (call : StationCall) (s : Of) → new ≡ s → s.journal ≡ old.journal → StoresHeld old new call
held_same old new call s is same = record { more = []; longer = ap (λ (x : Of). x.journal) is ∙ same ∙ sym (append-nil old.journal); of = λ x none. absurd none }

held_one : (old new : Of) (call : StationCall) (s : Of) (y : Item) (k : Key) → new ≡ s → s.journal ≡ old.journal ++ y ∷ [] → named_key y ≡ Some k → IsHeldOr old call k → StoresHeld old new call
held_one old new call s y k is longer one own = record {
  more = y ∷ [];
  longer = ap (λ (x : Of). x.journal) is ∙ longer;
  of = λ x has key names. elim has [ inl same ↦ subst (IsHeldOr old call) (sym (named_is x y k key same one names)) own | inr none ↦ absurd none ];
}

announce_held : (old new : Of) (call : StationCall) (answer : Result (Unit {0}) AnnounceNo) → station.announce old ≡ (new, answer) → StoresHeld old new call
announce_held old new call answer e = held_same old new call (station.announce old).0 (sym (ap (λ (r : Of × Result (Unit {0}) AnnounceNo). r.0) e)) (by old.live (nat_le max_entries (entry_count old)))
  where
    by : (a b : Bool) → let s = (cond {A = Of × Result (Unit {0}) AnnounceNo} a (old, Err unannounced.Live) (cond b (old, Err (unannounced.Worn (entry_count old))) (record old { live = true }, Ok tt))).0 in s.journal ≡ old.journal
    by true b = refl
    by false true = refl
    by false false = refl

drop_held : (old new : Of) (call : StationCall) (cut : ServedDeviceState) → new.journal ≡ (let s = drop_channel old cut in s.journal) → StoresHeld old new call
drop_held old new call cut e = by old.live e
  where
    by : (b : Bool) → new.journal ≡ (let s = cond b (record (emptied old) { device = cut; live = false; journal = old.journal ++ Cut Dropped ∷ [] }) (emptied old) in s.journal) → StoresHeld old new call
    by true f = record {
      more = Cut Dropped ∷ [];
      longer = f;
      of = λ x has key names. elim has [ inl same ↦ absurd (let none = sym (ap named_key same) ∙ names in cc (none)) | inr none ↦ absurd none ];
    }
    by false f = record { more = []; longer = f ∙ sym (append-nil old.journal); of = λ x none. absurd none }

step_held : (old new : Of) (call : StationCall) → Step old call new → StoresHeld old new call
step_held old new (announces (Ok done)) e = announce_held old new (announces (Ok done)) (Ok done) e
step_held old new (announces (Err unannounced.Memory)) e = held_same old new (announces (Err unannounced.Memory)) old e.1 refl
step_held old new (announces (Err unannounced.Live)) e = announce_held old new (announces (Err unannounced.Live)) (Err unannounced.Live) e
step_held old new (announces (Err (unannounced.Worn count))) e = announce_held old new (announces (Err (unannounced.Worn count))) (Err (unannounced.Worn count)) e
step_held old new (puts job None) e = by (put_refusal old job) e.1
  where
    by : (found : Option PutWhy) → put_unless old job found ≡ (new, None) → StoresHeld old new (puts job None)
    by None f = held_one old new (puts job None) (put_unless old job None).0 (Came job.key) job.key (sym (ap (λ (r : Of × Option PutWhy). r.0) f)) refl refl (inr refl)
    by (Some cause) f = absurd (let g : Some cause ≡ None = ap (λ (r : Of × Option PutWhy). r.1) f in cc (g))
step_held old new (puts job (Some refusal)) e = held_same old new (puts job (Some refusal)) old (put_refused old new job refusal.why e.1) refl
step_held old new (puts_unfit job back) e = held_same old new (puts_unfit job back) old e.1 refl
step_held old new (takes answer) e = held_same old new (takes answer) (station.take old).0 (sym (ap (λ (r : Of × Given). r.0) e)) (by old.ended old.waiting)
  where
    by : (b : Bool) (jobs : List Job) → let s = (cond {A = Of × Given} b (old, given.Over) (take_first old jobs)).0 in s.journal ≡ old.journal
    by true jobs = refl
    by false [] = refl
    by false (job ∷ jobs) = refl
step_held old new (applies planned moment answer) e = by (find (λ (t : InHand). is_key t.key planned.job.key) old.taken) refl e.1
  where
    hand : (t : InHand) → Has t old.taken → (b : Bool)
        → cond {A = Of × Applied} b (cancelled_in_hand old t (kind_of planned.job.op), applied.Cancelled) (ran old t (kind_of planned.job.op) moment e.0, cond (is_parked (e.0).answer) applied.Parked applied.Ran) ≡ (new, answer) → StoresHeld old new (applies planned moment answer)
    hand t has true f = held_one old new (applies planned moment answer) (cancelled_in_hand old t (kind_of planned.job.op)) (Cancelled t.key) t.key (sym (ap (λ (r : Of × Applied). r.0) f)) refl refl (inl (t.completion, taken_held old t has))
    hand t has false f =
        held_one old new (applies planned moment answer) (ran old t (kind_of planned.job.op) moment e.0) (Ran t.key moment (is_starved (e.0).answer) (is_parked (e.0).answer)) t.key (sym (ap (λ (r : Of × Applied). r.0) f)) refl refl (inl (t.completion, taken_held old t has))

    by : (found : Option InHand) → find (λ (t : InHand). is_key t.key planned.job.key) old.taken ≡ found → apply_from old planned.job moment e.0 found ≡ (new, answer) → StoresHeld old new (applies planned moment answer)
    by None g f = held_same old new (applies planned moment answer) old (sym (ap (λ (r : Of × Applied). r.0) f)) refl
    by (Some t) g f = hand t (find_has (λ (u : InHand). is_key u.key planned.job.key) t old.taken g).0 t.removed f
step_held old new (collects answer) e = by old.ready refl e
  where
    by : (cs : List Completion) → old.ready ≡ cs → station.collect_first old cs ≡ (new, answer) → StoresHeld old new (collects answer)
    by [] g f = held_same old new (collects answer) old (sym (ap (λ (r : Of × Option Completion). r.0) f)) refl
    by (c ∷ cs) g f =
        held_one old new (collects answer) (station.collect_first old (c ∷ cs)).0 (Sent c.key) c.key (sym (ap (λ (r : Of × Option Completion). r.0) f)) refl refl
        (inl (c.completion, ready_held old c (subst (λ (l : List Completion). Has c l) (sym g) (inl refl))))
step_held old new (removes answer) e = by old.live e.1
  where
    gone : Of
    gone = record old {
      device = e.0;
      live = false;
      waiting = [];
      taken = map marked_removed old.taken;
      parked = [];
      ready = old.ready ++ map cancelled_parked old.parked ++ map cancelled_waiting old.waiting;
      journal = old.journal ++ Cut Removed ∷ map (λ (job : Job). Cancelled job.key) old.waiting;
    }

    by : (b : Bool) → cond {A = Of × Bool} (not b) (old, false) (gone, true) ≡ (new, answer) → StoresHeld old new (removes answer)
    by false f = held_same old new (removes answer) old (sym (ap (λ (r : Of × Bool). r.0) f)) refl
    by true f = record {
      more = Cut Removed ∷ map (λ (job : Job). Cancelled job.key) old.waiting;
      longer = sym (ap (λ (r : Of × Bool). (r.0).journal) f);
      of = λ x has key names. elim has [
        | inl same ↦ absurd (let none = sym (ap named_key same) ∙ names in cc (none))
        | inr later ↦ (let (job, waits, is) = map_has {A = Job} {B = Item} (λ (j : Job). Cancelled j.key) x old.waiting later in
            inl (job.completion, subst (λ (k : Key). HeldIn old (k, job.completion)) (sym (named_is x (Cancelled job.key) job.key key is refl names)) (waiting_held old job waits)))
      ];
    }
step_held old new drops e = drop_held old new drops e.0 (ap (λ (s : Of). s.journal) (sym e.1))
step_held old new ends e = drop_held old new ends e.0 (ap (λ (s : Of). s.journal) (sym e.1))

-- what is held after a call was held before it, or came by it
step_less : (old new : Of) (call : StationCall) → Step old call new → (x : Key × ℕ) → HeldIn new x → HeldIn old x ⊎ Comes call x.0
step_less old new (announces answer) e x has = inl (held_less old new (announces answer) tt e x has)
step_less old new (puts job None) e x has = elim (put_more old new job e.1 x has) [ inl was ↦ inl was | inr same ↦ inr (ap (λ (y : Key × ℕ). y.0) same) ]
step_less old new (puts job (Some refusal)) e x has = inl (held_less old new (puts job (Some refusal)) tt e x has)
step_less old new (puts_unfit job back) e x has = inl (held_less old new (puts_unfit job back) tt e x has)
step_less old new (takes answer) e x has = inl (held_less old new (takes answer) tt e x has)
step_less old new (applies planned moment answer) e x has = inl (held_less old new (applies planned moment answer) tt e x has)
step_less old new (collects answer) e x has = inl (held_less old new (collects answer) tt e x has)
step_less old new (removes answer) e x has = inl (held_less old new (removes answer) tt e x has)
step_less old new drops e x has = absurd (subst (λ (xs : List (Key × ℕ)). Has x xs) (drop_none old new e) has)
step_less old new ends e x has = absurd (subst (λ (xs : List (Key × ℕ)). Has x xs) (end_none old new e) has)

record StepsHeld (old new : Of) (list : List StationCall) : Type 0 where
  more : List Item
  longer : new.journal ≡ old.journal ++ more
  of : (x : Item) → Has x more → (key : Key) → named_key x ≡ Some key → ((id : ℕ) × HeldIn old (key, id)) ⊎ ComesBy list key

steps_held : (list : List StationCall) (old new : Of) → Steps old list new → StepsHeld old new list
steps_held [] old new is = record { more = []; longer = ap (λ (s : Of). s.journal) is ∙ sym (append-nil old.journal); of = λ x none. absurd none }
steps_held (call ∷ others) old new steps =
    let first = step_held old steps.0 call steps.1 in
    let later = steps_held others steps.0 new steps.2 in
    record {
      more = first.more ++ later.more;
      longer = later.longer ∙ ap (λ (j : List Item). j ++ later.more) first.longer ∙ append_assoc old.journal first.more later.more;
      of = λ x has key names. elim (has_append x first.more later.more has) [
        | inl here ↦ elim (first.of x here key names) [ inl was ↦ inl was | inr comes ↦ inr (inl comes) ]
        | inr there ↦ elim (later.of x there key names) [
          | inl (id, was) ↦ elim (step_less old steps.0 call steps.1 (key, id) was) [ inl before ↦ inl (id, before) | inr comes ↦ inr (inl comes) ]
          | inr comes ↦ inr (inr comes)
        ]
      ];
    }

work_none : (list : List StationCall) → AllByRecursion IsWork list → (key : Key) → ComesBy list key → ⊥
work_none [] work key none = none
work_none (call ∷ others) work key (inl one) = by call work.0 one
  where
    by : (c : StationCall) → IsWork c → Comes c key → ⊥
    by (takes answer) is none = none
    by (applies planned moment answer) is none = none
    by (announces answer) is none = is
    by (puts job answer) is none = is
    by (puts_unfit job back) is none = is
    by (collects answer) is none = is
    by (removes answer) is none = is
    by drops is none = is
    by ends is none = is
work_none (call ∷ others) work key (inr later) = work_none others work.1 key later

-- What was stored since the call before, and by a call of a desk, is of what the station held then, or of what comes by the call.
pub called_names : (d e : DeviceDeskState) (first last : Of) (does : DeskCall) (back : DeskReply) (items : List Item) → CallsDesk d e first does back items last → (x : Item) → Has x items → (key : Key) → named_key x ≡ Some key
    → ((id : ℕ) × HeldIn first (key, id)) ⊎ ComesBy (told_by does back) key
called_names d e first last does back items called x has key names =
    let work = steps_held called.works.calls first called.middle called.works.steps in
    let own = steps_held (told_by does back) called.middle last (called.step).0 in
    let both : last.journal ≡ first.journal ++ work.more ++ own.more = own.longer ∙ ap (λ (j : List Item). j ++ own.more) work.longer in
    let same : items ≡ work.more ++ own.more = cancel first.journal items (work.more ++ own.more) (sym called.stored ∙ both ∙ append_assoc first.journal work.more own.more) in
    elim (has_append x work.more own.more (subst (Has x) same has)) [
      | inl one ↦ elim (work.of x one key names) [ inl was ↦ inl was | inr comes ↦ absurd (work_none called.works.calls called.works.work key comes) ]
      | inr other ↦ elim (own.of x other key names) [ inl (id, was) ↦ inl (id, work_less first called.middle called.works (key, id) was) | inr comes ↦ inr comes ]
    ]

-- ---- what came since the last cut

-- what is so of each such key, and of each that comes, is so of all
pub uncut_all : (P : Key → Type 0) (xs j : List Item) → ((key : Key) → Has (Came key) xs → P key) → AllByRecursion P (uncut_keys j) → AllByRecursion P (uncut_keys (xs ++ j))
uncut_all P [] j comes all = all
uncut_all P (Came key ∷ xs) j comes all = (comes key (inl refl), uncut_all P xs j (λ k has. comes k (inr has)) all)
uncut_all P (Cut cause ∷ xs) j comes all = tt
uncut_all P (Ran key moment starved parked ∷ xs) j comes all = uncut_all P xs j (λ k has. comes k (inr has)) all
uncut_all P (Cancelled key ∷ xs) j comes all = uncut_all P xs j (λ k has. comes k (inr has)) all
uncut_all P (Sent key ∷ xs) j comes all = uncut_all P xs j (λ k has. comes k (inr has)) all

-- none did
abbrev pub AreCutOff : List Item → Type 0
AreCutOff items = AllByRecursion (λ (key : Key). ⊥) (uncut_keys items)

-- a journal that goes on by entries of which none comes
cut_more : (old more new : List Item) → new ≡ old ++ more → ((key : Key) → Has (Came key) more → ⊥) → AreCutOff (reverse old) → AreCutOff (reverse new)
cut_more old more new is none all =
    subst AreCutOff (sym (ap reverse is ∙ reverse-append old more)) (uncut_all (λ (key : Key). ⊥) (reverse more) (reverse old) (λ key has. none key (turned_has (Came key) more has)) all)

-- one that a cut was added to, and others after it
cut_by : (old more new : List Item) (cause : Cause) → new ≡ old ++ Cut cause ∷ more → ((key : Key) → Has (Came key) more → ⊥) → AreCutOff (reverse new)
cut_by old more new cause is none =
    subst AreCutOff (sym (ap reverse is ∙ reverse-append old (Cut cause ∷ more) ∙ ap (λ (l : List Item). l ++ reverse old) (reverse-append (Cut cause ∷ []) more) ∙ append_assoc (reverse more) (Cut cause ∷ []) (reverse old)))
    (uncut_all (λ (key : Key). ⊥) (reverse more) (Cut cause ∷ reverse old) (λ key has. none key (turned_has (Came key) more has)) tt)

-- where no job may come, each that came was cut off
abbrev IsCutOff : Of → Type 0
IsCutOff s = s.live ≡ false → AreCutOff (reverse s.journal)

-- a call that leaves it live, by which none comes
cut_still : (old new : Of) (call : StationCall) → Step old call new → ((key : Key) → Comes call key → ⊥) → (new.live ≡ false → old.live ≡ false) → IsCutOff old → IsCutOff new
cut_still old new call step none live is off =
    let stores = step_stores served_runs served_parked served_cuts old new call step in
    cut_more old.journal stores.more new.journal stores.longer (λ key has. none key (come_by call stores.more stores.each key has)) (is (live off))

announce_live : (old new : Of) (answer : Result (Unit {0}) AnnounceNo) → station.announce old ≡ (new, answer) → new.live ≡ false → old.live ≡ false
announce_live old new answer e off = by old.live refl (nat_le max_entries (entry_count old)) e
  where
    by : (a : Bool) → old.live ≡ a → (b : Bool) → cond {A = Of × Result (Unit {0}) AnnounceNo} a (old, Err unannounced.Live) (cond b (old, Err (unannounced.Worn (entry_count old))) (record old { live = true }, Ok tt)) ≡ (new, answer) → old.live ≡ false
    by false g b f = g
    by true g b f = absurd (let same = ap (λ (r : Of × Result (Unit {0}) AnnounceNo). (r.0).live) f in cc (same, g, off))

same_live : (old new : Of) → new ≡ old → new.live ≡ false → old.live ≡ false
same_live old new is off = sym (ap (λ (s : Of). s.live) is) ∙ off

drop_cut : (old new : Of) (cut : ServedDeviceState) → new.journal ≡ (let s = drop_channel old cut in s.journal) → IsCutOff old → AreCutOff (reverse new.journal)
drop_cut old new cut e is = by old.live refl e
  where
    by : (b : Bool) → old.live ≡ b → new.journal ≡ (let s = cond b (record (emptied old) { device = cut; live = false; journal = old.journal ++ Cut Dropped ∷ [] }) (emptied old) in s.journal) → AreCutOff (reverse new.journal)
    by true g f = cut_by old.journal [] new.journal Dropped f (λ key none. none)
    by false g f = subst (λ (j : List Item). AreCutOff (reverse j)) (sym f) (is g)

none_cancelled : (jobs : List Job) (key : Key) → Has (Came key) (map (λ (job : Job). Cancelled job.key) jobs) → ⊥
none_cancelled [] key none = none
none_cancelled (job ∷ jobs) key (inl same) = cc (same)
none_cancelled (job ∷ jobs) key (inr later) = none_cancelled jobs key later

step_cut : (old new : Of) (call : StationCall) → Step old call new → IsCutOff old → IsCutOff new
step_cut old new (announces (Ok done)) e is = cut_still old new (announces (Ok done)) e (λ key none. none) (announce_live old new (Ok done) e) is
step_cut old new (announces (Err unannounced.Memory)) e is = cut_still old new (announces (Err unannounced.Memory)) e (λ key none. none) (same_live old new e.1) is
step_cut old new (announces (Err unannounced.Live)) e is = cut_still old new (announces (Err unannounced.Live)) e (λ key none. none) (announce_live old new (Err unannounced.Live) e) is
step_cut old new (announces (Err (unannounced.Worn count))) e is = cut_still old new (announces (Err (unannounced.Worn count))) e (λ key none. none) (announce_live old new (Err (unannounced.Worn count)) e) is
step_cut old new (puts job None) e is = λ off. free off (put_refusal old job) refl e.1
  where
    live : (b : Bool) (other : Option PutWhy) → cond (not b) (Some why.Gone) other ≡ None → b ≡ true
    live true other f = refl
    live false other f = absurd (cc (f))

    free : new.live ≡ false → (found : Option PutWhy) → put_refusal old job ≡ found → put_unless old job found ≡ (new, None) → AreCutOff (reverse new.journal)
    free off None g f = absurd (let on = live old.live _ g in let same = ap (λ (r : Of × Option PutWhy). (r.0).live) f in cc (on, same, off))
    free off (Some cause) g f = absurd (let none : Some cause ≡ None = ap (λ (r : Of × Option PutWhy). r.1) f in cc (none))
step_cut old new (puts job (Some refusal)) e is = cut_still old new (puts job (Some refusal)) e (λ key none. none) (same_live old new (put_refused old new job refusal.why e.1)) is
step_cut old new (puts_unfit job back) e is = cut_still old new (puts_unfit job back) e (λ key none. none) (same_live old new e.1) is
step_cut old new (takes answer) e is = cut_still old new (takes answer) e (λ key none. none) (λ off. by old.ended old.waiting (sym (ap (λ (r : Of × Given). (r.0).live) e)) off) is
  where
    by : (b : Bool) (jobs : List Job) → new.live ≡ (let s = (cond {A = Of × Given} b (old, given.Over) (take_first old jobs)).0 in s.live) → new.live ≡ false → old.live ≡ false
    by true jobs f off = sym f ∙ off
    by false [] f off = sym f ∙ off
    by false (job ∷ jobs) f off = sym f ∙ off
step_cut old new (applies planned moment answer) e is = cut_still old new (applies planned moment answer) e (λ key none. none) (λ off. by (find (λ (t : InHand). is_key t.key planned.job.key) old.taken) (sym (ap (λ (r : Of × Applied). (r.0).live) e.1)) off) is
  where
    hand : (t : InHand) (b : Bool) → new.live ≡ (let s = (cond {A = Of × Applied} b (cancelled_in_hand old t (kind_of planned.job.op), applied.Cancelled) (ran old t (kind_of planned.job.op) moment e.0, cond (is_parked (e.0).answer) applied.Parked applied.Ran)).0 in s.live)
        → new.live ≡ false → old.live ≡ false
    hand t true f off = sym f ∙ off
    hand t false f off = sym f ∙ off

    by : (found : Option InHand) → new.live ≡ (let s = (apply_from old planned.job moment e.0 found).0 in s.live) → new.live ≡ false → old.live ≡ false
    by None f off = sym f ∙ off
    by (Some t) f off = hand t t.removed f off
step_cut old new (collects answer) e is = cut_still old new (collects answer) e (λ key none. none) (λ off. by old.ready (sym (ap (λ (r : Of × Option Completion). (r.0).live) e)) off) is
  where
    by : (cs : List Completion) → new.live ≡ (let s = (station.collect_first old cs).0 in s.live) → new.live ≡ false → old.live ≡ false
    by [] f off = sym f ∙ off
    by (c ∷ cs) f off = sym f ∙ off
step_cut old new (removes answer) e is = λ off. by old.live refl e.1
  where
    gone : Of
    gone = record old {
      device = e.0;
      live = false;
      waiting = [];
      taken = map marked_removed old.taken;
      parked = [];
      ready = old.ready ++ map cancelled_parked old.parked ++ map cancelled_waiting old.waiting;
      journal = old.journal ++ Cut Removed ∷ map (λ (job : Job). Cancelled job.key) old.waiting;
    }

    by : (b : Bool) → old.live ≡ b → cond {A = Of × Bool} (not b) (old, false) (gone, true) ≡ (new, answer) → AreCutOff (reverse new.journal)
    by false g f = subst (λ (s : Of). AreCutOff (reverse s.journal)) (ap (λ (r : Of × Bool). r.0) f) (is g)
    by true g f = cut_by old.journal (map (λ (job : Job). Cancelled job.key) old.waiting) new.journal Removed (sym (ap (λ (r : Of × Bool). (r.0).journal) f)) (none_cancelled old.waiting)
step_cut old new drops e is = λ off. drop_cut old new e.0 (ap (λ (s : Of). s.journal) (sym e.1)) is
step_cut old new ends e is = λ off. drop_cut old new e.0 (ap (λ (s : Of). s.journal) (sym e.1)) is

steps_cut : (list : List StationCall) (old new : Of) → Steps old list new → IsCutOff old → IsCutOff new
steps_cut [] old new e is = subst IsCutOff (sym e) is
steps_cut (call ∷ list) old new steps is = steps_cut list steps.0 new steps.2 (step_cut old steps.0 call steps.1 is)

-- Where no job may come to a station, it was cut off after each that came.
pub reached_cut : (s : Of) → IsServedReached s → s.live ≡ false → AreCutOff (reverse s.journal)
reached_cut s reached = steps_cut reached.calls (new_station reached.device) s reached.steps (λ off. tt)

-- ---- what a front's stations hold

held_at : (on : Bool) (channel asked : ℕ) (s : Of) → IsServedOn (current on channel) s → ((key : Key) → NamesKey s.journal key → IsGiven channel asked key) → (x : Key × ℕ) → HeldIn s x → (on ≡ true) × ((x.0).channel ≡ channel)
held_at on channel asked s at names x has =
    let (last, is, same) = at.sound.remembers.channel x (to_contains (held s) x has) in
    elim (at.last last is) [
      | inl here ↦ (let so = by on here (names last (at.sound.remembers.named last is)) in (so.0, same ∙ so.1))
      | inr idle_so ↦ absurd (some_held s idle_so x has)
    ]
  where
    by : (b : Bool) {last : Key} → last.channel ≡ current b channel → IsGiven channel asked last → (b ≡ true) × (last.channel ≡ channel)
    by true here is = (refl, here)
    by false here (inl less) = absurd (omega (arith, here, less))
    by false here (inr is) = absurd (let e = is.0 in omega (arith, here, e))

-- While a channel is on they hold what came on it, and else nothing.
pub held_now : (p : Served) → IsKeyed p → (s : Of) → Has s p.stations → (x : Key × ℕ) → HeldIn s x → ((p.front).on ≡ true) × ((x.0).channel ≡ (p.front).channel)
held_now p keyed s has x held_so = held_at (p.front).on (p.front).channel ((p.front).client).asked s (keyed.on s has) (keyed.named s has) x held_so
