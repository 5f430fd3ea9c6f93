-- What each call of a station stores in its journal, and which keys are named there then, whatever its device.
use Rattle.std.proofs.Common.{◌≡◌, ◌⊎◌, ◌∙◌, refl, sym, ap, subst, inl, inr, ℕ, Bool, true, false, cond, not, List, [], ◌∷◌, ◌++◌, map, Some, None, Option, append-nil, append_assoc}
use Rattle.std.specs.Prelude.{Ok, Err, Result, find, nat_le}
use Rattle.std.specs.List.{AllByRecursion}
use Rattle.rd_base.specs.declared.journal.Cause.TheVariants.{Removed, Dropped}
use Rattle.rd_base.specs.declared.journal.Item.{Item}
use Rattle.rd_base.specs.declared.journal.Item.TheVariants.{Came, Ran, Cancelled, Sent, Cut}
use Rattle.rd_base.specs.declared.journal.Key.{Key}
use Rattle.rd_base.specs.Lawful.{EachEntry, IsLawful, SendsFirst, Settles, SettlesFirst, named_key}
use Rattle.rd_drive.specs.declared.plan.Job.{Job}
use Rattle.rd_drive.specs.declared.step.End.{End}
use Rattle.rd_drive.specs.declared.step.Step.{Step}
use Rattle.rd_drive.specs.Device.{Parked, is_parked, is_starved}
use Rattle.rd_drive.specs.Planned.{Planned}
use Rattle.rd_drive.specs.Stepped.{Stepped}
use Rattle.rd_irp.specs.Fits.{kind_of}
use Rattle.rd_station.specs.Memory.{NamesKey}
use Rattle.rd_station.specs.Station as station
use Rattle.rd_station.specs.Station.{PutRefused, StationCall, StationState, StationStep, announces, applies, apply_from, cancelled_in_hand, cancelled_parked, cancelled_waiting, collect_first, collects, drop_channel, drops, emptied, ends, entry_count, is_key, marked_removed, max_entries, put_refusal, put_unless, puts, puts_unfit, ran, remove, removes, take_first, takes}
use Rattle.rd_station.specs.Tied.{IsReached}
use Rattle.rd_station.specs.declared.answers.Applied.{Applied}
use Rattle.rd_station.specs.declared.answers.Applied.TheVariants as applied
use Rattle.rd_station.specs.declared.answers.Completion.{Completion}
use Rattle.rd_station.specs.declared.answers.Given.{Given}
use Rattle.rd_station.specs.declared.answers.Given.TheVariants as given
use Rattle.rd_station.specs.declared.held.InHand.{InHand}
use Rattle.rd_station.specs.declared.refusals.AnnounceNo.{AnnounceNo}
use Rattle.rd_station.specs.declared.refusals.AnnounceNo.TheVariants as refused
use Rattle.rd_station.specs.declared.refusals.PutWhy.{PutWhy}
use Rattle.rd_station.specs.declared.refusals.PutWhy.TheVariants as why
use Rattle.rd_station.proofs.Calls.{reached_kept}
use Rattle.rd_station.proofs.Members.{from_contains, has_append, to_contains}
use Rattle.rd_station.proofs.Remembering.{came_named}
use Rattle.rd_deeds.specs.Talk.{Has}
use Rattle.rd_world.proofs.KeysLemmas.{Comes, MayStore}

-- ---- what it stores

-- an entry that isn't a cut
abbrev pub IsNoCut : Item → Type 0
IsNoCut (Cut cause) = ⊥
IsNoCut _ = Unit {0}

-- at most the first of these entries is a cut
abbrev pub CutsFirst : List Item → Type 0
CutsFirst [] = Unit {0}
CutsFirst (x ∷ items) = AllByRecursion IsNoCut items

-- A call makes a journal longer, by entries that it may store, of which at most the first is a cut.
pub record Stores (call : StationCall) (old new : List Item) : Type 0 where
  pub more : List Item
  pub longer : new ≡ old ++ more
  pub each : AllByRecursion (MayStore call) more
  pub cuts : CutsFirst more

cancels_uncut : (jobs : List Job) → AllByRecursion IsNoCut (map (λ (job : Job). Cancelled job.key) jobs)
cancels_uncut [] = tt
cancels_uncut (job ∷ jobs) = (tt, cancels_uncut jobs)

cancels_stored : (call : StationCall) (jobs : List Job) → AllByRecursion (MayStore call) (map (λ (job : Job). Cancelled job.key) jobs)
cancels_stored call [] = tt
cancels_stored call (job ∷ jobs) = (tt, cancels_stored call jobs)

module _ {S : Type 0} (old new : StationState S) where
  stores_none : (call : StationCall) → new ≡ old → Stores call old.journal new.journal
  stores_none call e = record { more = []; longer = ap (λ (s : StationState S). s.journal) e ∙ sym (append-nil old.journal); each = tt; cuts = tt }

  stores_some : (call : StationCall) (s : StationState S) (more : List Item) → s ≡ new → s.journal ≡ old.journal ++ more → AllByRecursion (MayStore call) more → CutsFirst more → Stores call old.journal new.journal
  stores_some call s more e longer each cuts = record { more = more; longer = ap (λ (x : StationState S). x.journal) (sym e) ∙ longer; each = each; cuts = cuts }

  stores_same : (call : StationCall) (s : StationState S) → s ≡ new → s.journal ≡ old.journal → Stores call old.journal new.journal
  stores_same call s e same = stores_some call s [] e (same ∙ sym (append-nil old.journal)) tt tt

  announced : (call : StationCall) (answer : Result (Unit {0}) AnnounceNo) → station.announce old ≡ (new, answer) → Stores call old.journal new.journal
  announced call answer e = stores_same call (station.announce old).0 (ap (λ (x : StationState S × Result (Unit {0}) AnnounceNo). x.0) e) (by old.live (nat_le max_entries (entry_count old)))
    where
      by : (a b : Bool) → let s = (cond {A = StationState S × Result (Unit {0}) AnnounceNo} a (old, Err refused.Live) (cond b (old, Err (refused.Worn (entry_count old))) (record old { live = true }, Ok tt))).0 in s.journal ≡ old.journal
      by true b = refl
      by false true = refl
      by false false = refl

  put_came : (job : Job) (found : Option PutWhy) → put_unless old job found ≡ (new, None) → Stores (puts job None) old.journal new.journal
  put_came job None e = stores_some (puts job None) (put_unless old job None).0 (Came job.key ∷ []) (ap (λ (x : StationState S × Option PutWhy). x.0) e) refl (refl, tt) tt
  put_came job (Some cause) e = let none : Some cause ≡ None = ap (λ (x : StationState S × Option PutWhy). x.1) e in absurd (cc)

  put_failed : (call : StationCall) (job : Job) (found : Option PutWhy) (cause : PutWhy) → put_unless old job found ≡ (new, Some cause) → Stores call old.journal new.journal
  put_failed call job None cause e = let some : None ≡ Some cause = ap (λ (x : StationState S × Option PutWhy). x.1) e in absurd (cc)
  put_failed call job (Some found) cause e = stores_none call (sym (ap (λ (x : StationState S × Option PutWhy). x.0) e))

  put_refused : (call : StationCall) (job : Job) (cause : PutWhy) → PutRefused old job cause new → Stores call old.journal new.journal
  put_refused call job why.Memory e = stores_none call e.1
  put_refused call job why.Gone e = put_failed call job (put_refusal old job) why.Gone e
  put_refused call job (why.Duplicate key) e = put_failed call job (put_refusal old job) (why.Duplicate key) e
  put_refused call job (why.Full count) e = put_failed call job (put_refusal old job) (why.Full count) e
  put_refused call job (why.Worn count) e = put_failed call job (put_refusal old job) (why.Worn count) e

  taken : (call : StationCall) (answer : Given) → station.take old ≡ (new, answer) → Stores call old.journal new.journal
  taken call answer e = stores_same call (station.take old).0 (ap (λ (x : StationState S × Given). x.0) e) (by old.ended old.waiting)
    where
      by : (b : Bool) (jobs : List Job) → let s = (cond {A = StationState S × Given} b (old, given.Over) (take_first old jobs)).0 in s.journal ≡ old.journal
      by true jobs = refl
      by false [] = refl
      by false (job ∷ jobs) = refl

  given_back : (call : StationCall) (planned : Planned) (moment : ℕ) (came : Stepped S) (answer : Applied) (found : Option InHand) → apply_from old planned.job moment came found ≡ (new, answer) → Stores call old.journal new.journal
  given_back call planned moment came answer None e = stores_none call (sym (ap (λ (x : StationState S × Applied). x.0) e))
  given_back call planned moment came answer (Some t) e = hand t.removed e
    where
      hand : (b : Bool)
          → cond {A = StationState S × Applied} b (cancelled_in_hand old t (kind_of planned.job.op), applied.Cancelled) (ran old t (kind_of planned.job.op) moment came, cond (is_parked came.answer) applied.Parked applied.Ran) ≡ (new, answer)
          → Stores call old.journal new.journal
      hand true e = stores_some call (cancelled_in_hand old t (kind_of planned.job.op)) (Cancelled t.key ∷ []) (ap (λ (x : StationState S × Applied). x.0) e) refl (tt, tt) tt
      hand false e = stores_some call (ran old t (kind_of planned.job.op) moment came) (Ran t.key moment (is_starved came.answer) (is_parked came.answer) ∷ []) (ap (λ (x : StationState S × Applied). x.0) e) refl (tt, tt) tt

  collected : (call : StationCall) (answer : Option Completion) (cs : List Completion) → collect_first old cs ≡ (new, answer) → Stores call old.journal new.journal
  collected call answer [] e = stores_none call (sym (ap (λ (x : StationState S × Option Completion). x.0) e))
  collected call answer (c ∷ cs) e = stores_some call (collect_first old (c ∷ cs)).0 (Sent c.key ∷ []) (ap (λ (x : StationState S × Option Completion). x.0) e) refl (tt, tt) tt

  removed : (call : StationCall) (cut : S) (answer : Bool) → remove old cut ≡ (new, answer) → Stores call old.journal new.journal
  removed call cut answer e = by old.live e
    where
      gone : StationState S
      gone = record old {
        device = cut;
        live = false;
        waiting = [];
        taken = map marked_removed old.taken;
        parked = [];
        ready = old.ready ++ map cancelled_parked old.parked ++ map cancelled_waiting old.waiting;
        journal = old.journal ++ Cut Removed ∷ map (λ (job : Job). Cancelled job.key) old.waiting;
      }

      by : (b : Bool) → cond {A = StationState S × Bool} (not b) (old, false) (gone, true) ≡ (new, answer) → Stores call old.journal new.journal
      by false e = stores_none call (sym (ap (λ (x : StationState S × Bool). x.0) e))
      by true e = stores_some call gone (Cut Removed ∷ map (λ (job : Job). Cancelled job.key) old.waiting) (ap (λ (x : StationState S × Bool). x.0) e) refl (tt, cancels_stored call old.waiting) (cancels_uncut old.waiting)

  dropped : (call : StationCall) (cut : S) → new.journal ≡ (let s = drop_channel old cut in s.journal) → Stores call old.journal new.journal
  dropped call cut e = by old.live e
    where
      by : (b : Bool) → new.journal ≡ (let s = cond b (record (emptied old) { device = cut; live = false; journal = old.journal ++ Cut Dropped ∷ [] }) (emptied old) in s.journal) → Stores call old.journal new.journal
      by true e = record { more = Cut Dropped ∷ []; longer = e; each = (tt, tt); cuts = tt }
      by false e = record { more = []; longer = e ∙ sym (append-nil old.journal); each = tt; cuts = tt }

-- a key that comes by what a call stores comes by the call
pub come_by : (call : StationCall) (more : List Item) → AllByRecursion (MayStore call) more → (key : Key) → Has (Came key) more → Comes call key
come_by call [] all key none = absurd none
come_by call (x ∷ more) all key (inl here) = subst (MayStore call) (sym here) all.0
come_by call (x ∷ more) all key (inr later) = come_by call more all.1 key later

-- ---- what it names

settles_named : (key : Key) (entry : Item) → Settles key entry → named_key entry ≡ Some key
settles_named key (Ran k moment starved parked) same = ap (λ (l : Key). Some l) same
settles_named key (Cancelled k) same = ap (λ (l : Key). Some l) same
settles_named key (Came k) none = absurd none
settles_named key (Sent k) none = absurd none
settles_named key (Cut cause) none = absurd none

-- an entry names a key that was named, or that comes by the call
names_one : (call : StationCall) (j : List Item) (x : Item) → MayStore call x → SettlesFirst j x → SendsFirst j x → (key : Key) → named_key x ≡ Some key → NamesKey j key ⊎ Comes call key
names_one call j (Came k) may settles sends key e = let same : k ≡ key = cc in inr (subst (Comes call) same may)
names_one call j (Ran k moment starved parked) may settles sends key e = let same : k ≡ key = cc in inl (subst (NamesKey j) same (came_named j k settles.0))
names_one call j (Cancelled k) may settles sends key e = let same : k ≡ key = cc in inl (subst (NamesKey j) same (came_named j k settles.0))
names_one call j (Sent k) may settles sends key e =
    let same : k ≡ key = cc in
    let (i, entry, below, is, settled) = sends.0 in
    inl (subst (NamesKey j) same (i, entry, below, is, settles_named k entry settled))
names_one call j (Cut cause) may settles sends key e = absurd (cc)

names_all : (call : StationCall) (more j : List Item) → EachEntry SettlesFirst (j ++ more) → EachEntry SendsFirst (j ++ more) → AllByRecursion (MayStore call) more → (key : Key) → NamesKey (j ++ more) key → NamesKey j key ⊎ Comes call key
names_all call [] j settles sends each key names = inl (subst (λ (js : List Item). NamesKey js key) (append-nil j) names)
names_all call (x ∷ more) j settles sends each key names =
    let same : (j ++ x ∷ []) ++ more ≡ j ++ x ∷ more = append_assoc j (x ∷ []) more in
    elim (names_all call more (j ++ x ∷ []) (subst (EachEntry SettlesFirst) (sym same) settles) (subst (EachEntry SendsFirst) (sym same) sends) each.1 key (subst (λ (js : List Item). NamesKey js key) (sym same) names)) [
      | inl earlier ↦ one earlier
      | inr comes ↦ inr comes
    ]
  where
    one : NamesKey (j ++ x ∷ []) key → NamesKey j key ⊎ Comes call key
    one (i, entry, below, is, named) = elim (has_append entry j (x ∷ []) (from_contains (j ++ x ∷ []) entry (i, below, is))) [
      | inl within ↦ let (k, low, at) = to_contains j entry within in inl (k, entry, low, at, named)
      | inr last ↦ elim last [
        | inl here ↦ names_one call j x each.0 (settles j x more refl) (sends j x more refl) key (ap named_key (sym here) ∙ named)
        | inr none ↦ absurd none
      ]
    ]

-- A device with states of the type S: what a run of it relates, the requests that wait in it, and what a cut relates.
module _ {S : Type 0} (Runs : S → Planned → ℕ → Step → List End → S → Type 0) (parked_in : S → List Parked) (Cuts : S → S → Type 0) where
  pub step_stores : (old new : StationState S) (call : StationCall) → StationStep Runs parked_in Cuts old call new → Stores call old.journal new.journal
  step_stores old new (announces (Ok done)) e = announced old new (announces (Ok done)) (Ok done) e
  step_stores old new (announces (Err refused.Memory)) e = stores_none old new (announces (Err refused.Memory)) e.1
  step_stores old new (announces (Err refused.Live)) e = announced old new (announces (Err refused.Live)) (Err refused.Live) e
  step_stores old new (announces (Err (refused.Worn count))) e = announced old new (announces (Err (refused.Worn count))) (Err (refused.Worn count)) e
  step_stores old new (puts job None) e = put_came old new job (put_refusal old job) e.1
  step_stores old new (puts job (Some refusal)) e = put_refused old new (puts job (Some refusal)) job refusal.why e.1
  step_stores old new (puts_unfit job back) e = stores_none old new (puts_unfit job back) e.1
  step_stores old new (takes answer) e = taken old new (takes answer) answer e
  step_stores old new (applies planned moment answer) e = given_back old new (applies planned moment answer) planned moment e.0 answer (find (λ (t : InHand). is_key t.key planned.job.key) old.taken) e.1
  step_stores old new (collects answer) e = collected old new (collects answer) answer old.ready e
  step_stores old new (removes answer) e = removed old new (removes answer) e.0 answer e.1
  step_stores old new drops e = dropped old new drops e.0 (ap (λ (s : StationState S). s.journal) (sym e.1))
  step_stores old new ends e = dropped old new ends e.0 (ap (λ (s : StationState S). s.journal) (sym e.1))

  -- Each key that a journal names after a call was named before it, or comes by it.
  pub step_names : (call : StationCall) (old new : StationState S) → StationStep Runs parked_in Cuts old call new → IsReached Runs parked_in Cuts new
      → (key : Key) → NamesKey new.journal key → NamesKey old.journal key ⊎ Comes call key
  step_names call old new step reached key names =
      let stores = step_stores old new call step in
      let lawful : IsLawful (old.journal ++ stores.more) = subst IsLawful stores.longer (reached_kept Runs parked_in Cuts new reached).lawful in
      names_all call stores.more old.journal lawful.runs_once lawful.sent_once stores.each key (subst (λ (js : List Item). NamesKey js key) stores.longer names)
