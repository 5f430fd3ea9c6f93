-- The keys in journals: what each call of a station stores and names, that no key has two runs, and what a run says of its key.
use Rattle.std.proofs.Common.{◌≡◌, ◌≢◌, ◌⊎◌, ◌∙◌, refl, sym, ap, subst, inl, inr, ℕ, zero, suc, ◌&&◌, Bool, true, false, cond, not, List, [], ◌∷◌, ◌++◌, set, reverse, slice_get, map, Some, None, Option, arith, append-nil, append_assoc}
use Rattle.std.specs.Prelude.{All, Contains, IsFalse, Ok, Err, Result, find, nat_le}
use Rattle.std.specs.List.{AllByRecursion, AllZip, list_any, zip}
use Rattle.std.specs.Option.{option_map_or}
use Rattle.std.proofs.lemmas.Bool.{cases_Bool, false≢true}
use Rattle.std.proofs.lemmas.List.{reverse-reverse}
use Rattle.std.proofs.lemmas.Option.{get_or_from_slice_get, slice_get_within}
use Rattle.std.proofs.lemmas.List.Elements.{All-cons, All-contains, All-contains_itself, All-head, All-tail, All-weaker}
use Rattle.std.proofs.lemmas.List.Folds.{Any-from_list_any, list_any-from_Any}
use Rattle.rd_base.specs.declared.journal.Cause.TheVariants.{Removed, Dropped}
use Rattle.rd_base.specs.declared.journal.Item.{Item}
use Rattle.rd_base.specs.declared.journal.Item.TheVariants.{Came, Ran, Cancelled, Sent, Cut}
use Rattle.rd_base.specs.declared.journal.Key.{Key}
use Rattle.rd_base.specs.Lawful.{EachEntry, IsBelow, IsLawful, SendsFirst, Settles, SettlesFirst, named_key}
use Rattle.rd_drive.specs.declared.plan.Job.{Job}
use Rattle.rd_drive.specs.Device.{is_parked, is_starved}
use Rattle.rd_drive.specs.Planned.{Planned}
use Rattle.rd_drive.specs.Stepped.{Stepped, ran_step}
use Rattle.rd_irp.specs.declared.op.Op.{Op}
use Rattle.rd_irp.specs.declared.op.Op.TheVariants as op
use Rattle.rd_irp.specs.Fits.{kind_of}
use Rattle.rd_station.specs.Memory.{NamesKey, is_key_below}
use Rattle.rd_station.specs.Station as station
use Rattle.rd_station.specs.Station.{CameOf, DidRun, PutRefused, StationCall, StationState, StationStep, announces, applies, apply_from, cancelled_in_hand, cancelled_parked, cancelled_waiting, collect_first, collects, drop_channel, drops, emptied, ends, entry_count, is_key, marked_removed, max_entries, put_refusal, put_unless, puts, puts_unfit, ran, remove, removes, take_first, takes}
use Rattle.rd_station.specs.declared.answers.Applied.{Applied}
use Rattle.rd_station.specs.declared.answers.Applied.TheVariants as applied
use Rattle.rd_station.specs.declared.answers.Completion.{Completion}
use Rattle.rd_station.specs.declared.answers.Given.{Given}
use Rattle.rd_station.specs.declared.answers.Given.TheVariants as given
use Rattle.rd_station.specs.declared.held.InHand.{InHand}
use Rattle.rd_station.specs.declared.refusals.AnnounceNo.{AnnounceNo}
use Rattle.rd_station.specs.declared.refusals.AnnounceNo.TheVariants as refused
use Rattle.rd_station.specs.declared.refusals.PutWhy.{PutWhy}
use Rattle.rd_station.specs.declared.refusals.PutWhy.TheVariants as why
use Rattle.rd_station.proofs.Calls.{did_run, reached_kept}
use Rattle.rd_station.proofs.Members.{find_has, from_contains, has_append, has_right, key_self, same_key, to_contains}
use Rattle.rd_station.proofs.Remembering.{below_trans, below_true, came_named}
use Rattle.rd_station.proofs.Requests.{all_less}
use Rattle.rd_declared.specs.Devices.{device_cuts, device_parked, device_runs, device_step}
use Rattle.rd_world.specs.Events.{is_close}
use Rattle.rd_declared.specs.Marks.{AgreesAt, AreLonger, MarksAgree}
use Rattle.rd_world.specs.Keys.{AreBelow, AreUpTo, KeysApart, NamesAt, station_journals}
use Rattle.rd_world.specs.Stations.{AreStations, DropsEach, DropsOne, IsReachedBy}
use Rattle.rd_deeds.specs.Talk.{EachAfter, Has}
use Rattle.rd_world.specs.World.{starved_in, starves_at}
use Rattle.rd_declared.specs.declared.device.SessionDevice.{SessionDevice}
use Rattle.rd_deeds.proofs.Journals.{IsPlain, contains_has, plain_of}

-- ---- what a call stores

-- the key comes by the call
abbrev pub Comes : StationCall → Key → Type 0
Comes (puts job None) key = key ≡ job.key
Comes _ key = ⊥

-- the call may store the entry
abbrev pub MayStore : StationCall → Item → Type 0
MayStore call (Came key) = Comes call key
MayStore call _ = Unit {0}

-- A call makes a journal longer, by such entries.
pub record Stores (call : StationCall) (old new : List Item) : Type 0 where
  pub more : List Item
  pub longer : new ≡ old ++ more
  pub each : AllByRecursion (MayStore call) more

cancels_stored : (call : StationCall) (jobs : List Job) → AllByRecursion (MayStore call) (map (λ (job : Job). Cancelled job.key) jobs)
cancels_stored call [] = tt
cancels_stored call (job ∷ jobs) = (tt, cancels_stored call jobs)

module _ (old new : StationState SessionDevice) where
  stores_none : (call : StationCall) → new ≡ old → Stores call old.journal new.journal
  stores_none call e = record { more = []; longer = ap (λ (s : StationState SessionDevice). s.journal) e ∙ sym (append-nil old.journal); each = tt }

  stores_some : (call : StationCall) (s : StationState SessionDevice) (more : List Item) → s ≡ new → s.journal ≡ old.journal ++ more → AllByRecursion (MayStore call) more → Stores call old.journal new.journal
  stores_some call s more e longer each = record { more = more; longer = ap (λ (x : StationState SessionDevice). x.journal) (sym e) ∙ longer; each = each }

  stores_same : (call : StationCall) (s : StationState SessionDevice) → s ≡ new → s.journal ≡ old.journal → Stores call old.journal new.journal
  stores_same call s e same = stores_some call s [] e (same ∙ sym (append-nil old.journal)) tt

  announced : (call : StationCall) (answer : Result (Unit {0}) AnnounceNo) → station.announce old ≡ (new, answer) → Stores call old.journal new.journal
  announced call answer e = stores_same call (station.announce old).0 (ap (λ (x : StationState SessionDevice × Result (Unit {0}) AnnounceNo). x.0) e) (by old.live (nat_le max_entries (entry_count old)))
    where
      by : (a b : Bool) → let s = (cond {A = StationState SessionDevice × Result (Unit {0}) AnnounceNo} a (old, Err refused.Live) (cond b (old, Err (refused.Worn (entry_count old))) (record old { live = true }, Ok tt))).0 in s.journal ≡ old.journal
      by true b = refl
      by false true = refl
      by false false = refl

  put_came : (job : Job) (found : Option PutWhy) → put_unless old job found ≡ (new, None) → Stores (puts job None) old.journal new.journal
  put_came job None e = stores_some (puts job None) (put_unless old job None).0 (Came job.key ∷ []) (ap (λ (x : StationState SessionDevice × Option PutWhy). x.0) e) refl (refl, tt)
  put_came job (Some cause) e = let none : Some cause ≡ None = ap (λ (x : StationState SessionDevice × Option PutWhy). x.1) e in absurd (cc)

  put_failed : (call : StationCall) (job : Job) (found : Option PutWhy) (cause : PutWhy) → put_unless old job found ≡ (new, Some cause) → Stores call old.journal new.journal
  put_failed call job None cause e = let some : None ≡ Some cause = ap (λ (x : StationState SessionDevice × Option PutWhy). x.1) e in absurd (cc)
  put_failed call job (Some found) cause e = stores_none call (sym (ap (λ (x : StationState SessionDevice × Option PutWhy). x.0) e))

  put_refused : (call : StationCall) (job : Job) (cause : PutWhy) → PutRefused old job cause new → Stores call old.journal new.journal
  put_refused call job why.Memory e = stores_none call e.1
  put_refused call job why.Gone e = put_failed call job (put_refusal old job) why.Gone e
  put_refused call job (why.Duplicate key) e = put_failed call job (put_refusal old job) (why.Duplicate key) e
  put_refused call job (why.Full count) e = put_failed call job (put_refusal old job) (why.Full count) e
  put_refused call job (why.Worn count) e = put_failed call job (put_refusal old job) (why.Worn count) e

  taken : (call : StationCall) (answer : Given) → station.take old ≡ (new, answer) → Stores call old.journal new.journal
  taken call answer e = stores_same call (station.take old).0 (ap (λ (x : StationState SessionDevice × Given). x.0) e) (by old.ended old.waiting)
    where
      by : (b : Bool) (jobs : List Job) → let s = (cond {A = StationState SessionDevice × Given} b (old, given.Over) (take_first old jobs)).0 in s.journal ≡ old.journal
      by true jobs = refl
      by false [] = refl
      by false (job ∷ jobs) = refl

  given_back : (call : StationCall) (planned : Planned) (moment : ℕ) (came : Stepped SessionDevice) (answer : Applied) (found : Option InHand) → apply_from old planned.job moment came found ≡ (new, answer) → Stores call old.journal new.journal
  given_back call planned moment came answer None e = stores_none call (sym (ap (λ (x : StationState SessionDevice × Applied). x.0) e))
  given_back call planned moment came answer (Some t) e = hand t.removed e
    where
      hand : (b : Bool)
          → cond {A = StationState SessionDevice × Applied} b (cancelled_in_hand old t (kind_of planned.job.op), applied.Cancelled) (ran old t (kind_of planned.job.op) moment came, cond (is_parked came.answer) applied.Parked applied.Ran) ≡ (new, answer)
          → Stores call old.journal new.journal
      hand true e = stores_some call (cancelled_in_hand old t (kind_of planned.job.op)) (Cancelled t.key ∷ []) (ap (λ (x : StationState SessionDevice × Applied). x.0) e) refl (tt, tt)
      hand false e = stores_some call (ran old t (kind_of planned.job.op) moment came) (Ran t.key moment (is_starved came.answer) (is_parked came.answer) ∷ []) (ap (λ (x : StationState SessionDevice × Applied). x.0) e) refl (tt, tt)

  collected : (call : StationCall) (answer : Option Completion) (cs : List Completion) → collect_first old cs ≡ (new, answer) → Stores call old.journal new.journal
  collected call answer [] e = stores_none call (sym (ap (λ (x : StationState SessionDevice × Option Completion). x.0) e))
  collected call answer (c ∷ cs) e = stores_some call (collect_first old (c ∷ cs)).0 (Sent c.key ∷ []) (ap (λ (x : StationState SessionDevice × Option Completion). x.0) e) refl (tt, tt)

  removed : (call : StationCall) (cut : SessionDevice) (answer : Bool) → remove old cut ≡ (new, answer) → Stores call old.journal new.journal
  removed call cut answer e = by old.live e
    where
      gone : StationState SessionDevice
      gone = record old {
        device = cut;
        live = false;
        waiting = [];
        taken = map marked_removed old.taken;
        parked = [];
        ready = old.ready ++ map cancelled_parked old.parked ++ map cancelled_waiting old.waiting;
        journal = old.journal ++ Cut Removed ∷ map (λ (job : Job). Cancelled job.key) old.waiting;
      }

      by : (b : Bool) → cond {A = StationState SessionDevice × Bool} (not b) (old, false) (gone, true) ≡ (new, answer) → Stores call old.journal new.journal
      by false e = stores_none call (sym (ap (λ (x : StationState SessionDevice × Bool). x.0) e))
      by true e = stores_some call gone (Cut Removed ∷ map (λ (job : Job). Cancelled job.key) old.waiting) (ap (λ (x : StationState SessionDevice × Bool). x.0) e) refl (tt, cancels_stored call old.waiting)

  dropped : (call : StationCall) (cut : SessionDevice) → new.journal ≡ (let s = drop_channel old cut in s.journal) → Stores call old.journal new.journal
  dropped call cut e = by old.live e
    where
      by : (b : Bool) → new.journal ≡ (let s = cond b (record (emptied old) { device = cut; live = false; journal = old.journal ++ Cut Dropped ∷ [] }) (emptied old) in s.journal) → Stores call old.journal new.journal
      by true e = record { more = Cut Dropped ∷ []; longer = e; each = (tt, tt) }
      by false e = record { more = []; longer = e ∙ sym (append-nil old.journal); each = tt }

  pub step_stores : (call : StationCall) → StationStep device_runs device_parked device_cuts old call new → Stores call old.journal new.journal
  step_stores (announces (Ok done)) e = announced (announces (Ok done)) (Ok done) e
  step_stores (announces (Err refused.Memory)) e = stores_none (announces (Err refused.Memory)) e.1
  step_stores (announces (Err refused.Live)) e = announced (announces (Err refused.Live)) (Err refused.Live) e
  step_stores (announces (Err (refused.Worn count))) e = announced (announces (Err (refused.Worn count))) (Err (refused.Worn count)) e
  step_stores (puts job None) e = put_came job (put_refusal old job) e.1
  step_stores (puts job (Some refusal)) e = put_refused (puts job (Some refusal)) job refusal.why e.1
  step_stores (puts_unfit job back) e = stores_none (puts_unfit job back) e.1
  step_stores (takes answer) e = taken (takes answer) answer e
  step_stores (applies planned moment answer) e = given_back (applies planned moment answer) planned moment e.0 answer (find (λ (t : InHand). is_key t.key planned.job.key) old.taken) e.1
  step_stores (collects answer) e = collected (collects answer) answer old.ready e
  step_stores (removes answer) e = removed (removes answer) e.0 answer e.1
  step_stores drops e = dropped drops e.0 (ap (λ (s : StationState SessionDevice). s.journal) (sym e.1))
  step_stores ends e = dropped ends e.0 (ap (λ (s : StationState SessionDevice). s.journal) (sym e.1))

-- ---- what it names

settles_named : (key : Key) (entry : Item) → Settles key entry → named_key entry ≡ Some key
settles_named key (Ran k moment starved parked) same = ap (λ (l : Key). Some l) same
settles_named key (Cancelled k) same = ap (λ (l : Key). Some l) same
settles_named key (Came k) none = absurd none
settles_named key (Sent k) none = absurd none
settles_named key (Cut cause) none = absurd none

-- an entry names a key that was named, or that comes by the call
names_one : (call : StationCall) (j : List Item) (x : Item) → MayStore call x → SettlesFirst j x → SendsFirst j x → (key : Key) → named_key x ≡ Some key → NamesKey j key ⊎ Comes call key
names_one call j (Came k) may settles sends key e = let same : k ≡ key = cc in inr (subst (Comes call) same may)
names_one call j (Ran k moment starved parked) may settles sends key e = let same : k ≡ key = cc in inl (subst (NamesKey j) same (came_named j k settles.0))
names_one call j (Cancelled k) may settles sends key e = let same : k ≡ key = cc in inl (subst (NamesKey j) same (came_named j k settles.0))
names_one call j (Sent k) may settles sends key e =
    let same : k ≡ key = cc in
    let (i, entry, below, is, settled) = sends.0 in
    inl (subst (NamesKey j) same (i, entry, below, is, settles_named k entry settled))
names_one call j (Cut cause) may settles sends key e = absurd (cc)

names_all : (call : StationCall) (more j : List Item) → EachEntry SettlesFirst (j ++ more) → EachEntry SendsFirst (j ++ more) → AllByRecursion (MayStore call) more → (key : Key) → NamesKey (j ++ more) key → NamesKey j key ⊎ Comes call key
names_all call [] j settles sends each key names = inl (subst (λ (js : List Item). NamesKey js key) (append-nil j) names)
names_all call (x ∷ more) j settles sends each key names =
    let same : (j ++ x ∷ []) ++ more ≡ j ++ x ∷ more = append_assoc j (x ∷ []) more in
    elim (names_all call more (j ++ x ∷ []) (subst (EachEntry SettlesFirst) (sym same) settles) (subst (EachEntry SendsFirst) (sym same) sends) each.1 key (subst (λ (js : List Item). NamesKey js key) (sym same) names)) [
      | inl earlier ↦ one earlier
      | inr comes ↦ inr comes
    ]
  where
    one : NamesKey (j ++ x ∷ []) key → NamesKey j key ⊎ Comes call key
    one (i, entry, below, is, named) = elim (has_append entry j (x ∷ []) (from_contains (j ++ x ∷ []) entry (i, below, is))) [
      | inl within ↦ let (k, low, at) = to_contains j entry within in inl (k, entry, low, at, named)
      | inr last ↦ elim last [
        | inl here ↦ names_one call j x each.0 (settles j x more refl) (sends j x more refl) key (ap named_key (sym here) ∙ named)
        | inr none ↦ absurd none
      ]
    ]

-- Each key that a journal names after a call was named before it, or comes by it.
pub step_names : (call : StationCall) (old new : StationState SessionDevice) → StationStep device_runs device_parked device_cuts old call new → IsReachedBy new
    → (key : Key) → NamesKey new.journal key → NamesKey old.journal key ⊎ Comes call key
step_names call old new step reached key names =
    let stores = step_stores old new call step in
    let lawful : IsLawful (old.journal ++ stores.more) = subst IsLawful stores.longer (reached_kept device_runs device_parked device_cuts new reached).lawful in
    names_all call stores.more old.journal lawful.runs_once lawful.sent_once stores.each key (subst (λ (js : List Item). NamesKey js key) stores.longer names)

-- ---- keys in order

not_below : (a : Key) → ¬ (IsBelow a a)
not_below a (inl less) = omega (arith, less)
not_below a (inr less) = omega (arith, less.1)

-- a key above the last is above all
pub above_last : (stations : List (ℕ × StationState SessionDevice)) (last : Option Key) (key : Key) → AreUpTo stations last → option_map_or (λ (earlier : Key). is_key_below earlier key) last true ≡ true
    → AreBelow stations key
above_last stations None key up_to e = λ earlier place names. absurd (up_to earlier place names)
above_last stations (Some last) key up_to e = λ earlier place names. elim (up_to earlier place names) [
  | inl same ↦ subst (λ (k : Key). IsBelow k key) (sym same) (below_true last key e)
  | inr below ↦ below_trans earlier last key below (below_true last key e)
]

-- ---- one station changed

got_set : {X : Type 0} (xs : List X) (i j : ℕ) (v e : X) → slice_get (set xs i v) j ≡ Some e → ((j ≡ i) × (e ≡ v)) ⊎ ((j ≢ i) × (slice_get xs j ≡ Some e))
got_set [] i j v e at = absurd (cc)
got_set (x ∷ xs) zero zero v e at = let same : v ≡ e = cc in inl (refl, sym same)
got_set (x ∷ xs) zero (suc j) v e at = inr ((λ (s : suc j ≡ zero). absurd (omega arith)), at)
got_set (x ∷ xs) (suc i) zero v e at = inr ((λ (s : zero ≡ suc i). absurd (omega arith)), at)
got_set (x ∷ xs) (suc i) (suc j) v e at = elim (got_set xs i j v e at) [
  | inl here ↦ inl (ap suc here.0, here.1)
  | inr other ↦ inr ((λ (s : suc j ≡ suc i). other.0 (omega arith)), other.1)
]

module _ (stations : List (ℕ × StationState SessionDevice)) (place id id' : ℕ) (before after : StationState SessionDevice) (there : slice_get stations place ≡ Some (id, before)) where
  named_there : (key : Key) → NamesKey before.journal key → NamesAt stations place key
  named_there key names = ((id, before), there, names)

  -- what is named then
  named_then : (j : ℕ) (key : Key) → NamesAt (set stations place (id', after)) j key → ((j ≡ place) × NamesKey after.journal key) ⊎ NamesAt stations j key
  named_then j key (e, at, names) = elim (got_set stations place j (id', after) e at) [
    | inl here ↦ inl (here.0, subst (λ (f : ℕ × StationState SessionDevice). NamesKey (f.1).journal key) here.1 names)
    | inr other ↦ inr (e, other.1, names)
  ]

  -- it names no key anew that another names
  apart_put : KeysApart stations → ((key : Key) → NamesKey after.journal key → NamesKey before.journal key ⊎ AreBelow stations key) → KeysApart (set stations place (id', after))
  apart_put apart known key i j at_i at_j = elim (named_then i key at_i) [
    | inl here ↦ elim (named_then j key at_j) [
      | inl here_too ↦ here.0 ∙ sym here_too.0
      | inr other ↦ here.0 ∙ beside key j here.1 other
    ]
    | inr other ↦ elim (named_then j key at_j) [
      | inl here ↦ sym (here.0 ∙ beside key i here.1 other)
      | inr other_too ↦ apart key i j other other_too
    ]
  ]
    where
      beside : (key : Key) (k : ℕ) → NamesKey after.journal key → NamesAt stations k key → place ≡ k
      beside key k names other = elim (known key names) [
        | inl was ↦ apart key place k (named_there key was) other
        | inr below ↦ absurd (not_below key (below key k other))
      ]

  -- none is named above the last
  up_to_put : (last : Option Key) → AreUpTo stations last → ((key : Key) → NamesKey after.journal key → NamesKey before.journal key) → AreUpTo (set stations place (id', after)) last
  up_to_put last up_to known key j at = elim (named_then j key at) [
    | inl here ↦ up_to key place (named_there key (known key here.1))
    | inr other ↦ up_to key j other
  ]

  -- the last one came
  up_to_come : (last : Key) → AreBelow stations last → ((key : Key) → NamesKey after.journal key → NamesKey before.journal key ⊎ (key ≡ last)) → AreUpTo (set stations place (id', after)) (Some last)
  up_to_come last below known key j at = elim (named_then j key at) [
    | inl here ↦ elim (known key here.1) [ inl was ↦ inr (below key place (named_there key was)) | inr same ↦ inl same ]
    | inr other ↦ inr (below key j other)
  ]

  -- by a call by which no key comes
  pub apart_still : (call : StationCall) → ((key : Key) → ¬ (Comes call key)) → StationStep device_runs device_parked device_cuts before call after → IsReachedBy after → KeysApart stations → KeysApart (set stations place (id', after))
  apart_still call none step reached apart = apart_put apart (λ key names. elim (step_names call before after step reached key names) [ inl was ↦ inl was | inr comes ↦ absurd (none key comes) ])

  pub up_to_still : (call : StationCall) → ((key : Key) → ¬ (Comes call key)) → StationStep device_runs device_parked device_cuts before call after → IsReachedBy after → (last : Option Key) → AreUpTo stations last → AreUpTo (set stations place (id', after)) last
  up_to_still call none step reached last up_to = up_to_put last up_to (λ key names. elim (step_names call before after step reached key names) [ inl was ↦ was | inr comes ↦ absurd (none key comes) ])

  -- by a job that comes, whose key is above all
  pub apart_come : (job : Job) → AreBelow stations job.key → StationStep device_runs device_parked device_cuts before (puts job None) after → IsReachedBy after → KeysApart stations → KeysApart (set stations place (id', after))
  apart_come job below step reached apart = apart_put apart (λ key names. elim (step_names (puts job None) before after step reached key names) [ inl was ↦ inl was | inr comes ↦ inr (subst (AreBelow stations) (sym comes) below) ])

  pub up_to_job : (job : Job) → AreBelow stations job.key → StationStep device_runs device_parked device_cuts before (puts job None) after → IsReachedBy after → AreUpTo (set stations place (id', after)) (Some job.key)
  up_to_job job below step reached = up_to_come job.key below (step_names (puts job None) before after step reached)

-- ---- the channel ended

-- what is named then was named before
pub named_dropped : (ids : List ℕ) (old new : List (StationState SessionDevice)) → AllZip DropsOne old new → (place : ℕ) (key : Key) → NamesAt (zip ids new) place key → NamesAt (zip ids old) place key
named_dropped [] old new all place key (e, at, names) = absurd (cc)
named_dropped (k ∷ ids) [] [] all place key (e, at, names) = absurd (cc)
named_dropped (k ∷ ids) [] (t ∷ new) all place key names = absurd all
named_dropped (k ∷ ids) (s ∷ old) [] all place key names = absurd all
named_dropped (k ∷ ids) (s ∷ old) (t ∷ new) all zero key (e, at, names) =
    let same : (k, t) ≡ e = cc in
    elim (step_names drops s t (all.0).step (all.0).reached key (subst (λ (f : ℕ × StationState SessionDevice). NamesKey (f.1).journal key) (sym same) names)) [
      | inl was ↦ ((k, s), refl, was)
      | inr none ↦ absurd none
    ]
named_dropped (k ∷ ids) (s ∷ old) (t ∷ new) all (suc place) key (e, at, names) = named_dropped ids old new all.1 place key (e, at, names)

-- ---- a station more

-- one whose journal is empty names nothing
pub named_added : (stations : List (ℕ × StationState SessionDevice)) (id : ℕ) (s : StationState SessionDevice) → s.journal ≡ [] → (place : ℕ) (key : Key) → NamesAt (stations ++ (id, s) ∷ []) place key → NamesAt stations place key
named_added [] id s none zero key (e, at, names) =
    let same : (id, s) ≡ e = cc in
    let (i, entry, below, is, named) = subst (λ (js : List Item). NamesKey js key) none (subst (λ (f : ℕ × StationState SessionDevice). NamesKey (f.1).journal key) (sym same) names) in
    absurd (omega (arith, below))
named_added [] id s none (suc place) key (e, at, names) = absurd (cc)
named_added (f ∷ stations) id s none zero key (e, at, names) = (e, at, names)
named_added (f ∷ stations) id s none (suc place) key (e, at, names) = named_added stations id s none place key (e, at, names)

-- ---- journals become longer

-- So does the end of the channel.
pub drops_longer : (old new : List (ℕ × StationState SessionDevice)) → DropsEach old new → AreLonger (station_journals old) (station_journals new)
drops_longer [] [] all = tt
drops_longer [] (f ∷ new) all = absurd all
drops_longer (e ∷ old) [] all = absurd all
drops_longer (e ∷ old) (f ∷ new) all =
    let stores = step_stores e.1 f.1 drops (all.0).1.step in
    (((all.0).0, (stores.more, stores.longer)), drops_longer old new all.1)

-- What is said of runs holds of the runs before.
pub agrees_before : (starves : Key → Bool) (old new : List (ℕ × List Item)) → AreLonger old new → MarksAgree starves new → MarksAgree starves old
agrees_before starves [] [] longer agrees = agrees
agrees_before starves [] (k ∷ new) longer agrees = absurd longer
agrees_before starves (j ∷ old) [] longer agrees = absurd longer
agrees_before starves (j ∷ old) (k ∷ new) longer agrees =
    let (more, is) = (longer.0).1 in
    All-cons (λ (l : ℕ × List Item). All (AgreesAt starves) l.1) j old
    (all_less (AgreesAt starves) j.1 more (subst (All (AgreesAt starves)) is (All-head (λ (l : ℕ × List Item). All (AgreesAt starves) l.1) k new agrees)))
    (agrees_before starves old new longer.1 (All-tail (λ (l : ℕ × List Item). All (AgreesAt starves) l.1) k new agrees))

-- ---- no key has two runs

marks_once : (items : List Item) → EachAfter IsPlain items → (key : Key) (moment moment' : ℕ) (starved starved' parked parked' : Bool) → Has (Ran key moment starved parked) items → Has (Ran key moment' starved' parked') items
    → starved ≡ starved'
marks_once [] each key moment moment' starved starved' parked parked' one other = absurd one
marks_once (x ∷ older) each key moment moment' starved starved' parked parked' (inl e) (inl f) =
    let same : Ran key moment starved parked ≡ Ran key moment' starved' parked' = e ∙ sym f in
    let marks : starved ≡ starved' = cc in
    marks
marks_once (x ∷ older) each key moment moment' starved starved' parked parked' (inl e) (inr has) = absurd ((subst (IsPlain older) (sym e) each.0).1 (moment', starved', parked', has))
marks_once (x ∷ older) each key moment moment' starved starved' parked parked' (inr has) (inl f) = absurd ((subst (IsPlain older) (sym f) each.0).1 (moment, starved, parked, has))
marks_once (x ∷ older) each key moment moment' starved starved' parked parked' (inr has) (inr has') = marks_once older each.1 key moment moment' starved starved' parked parked' has has'

-- two runs of a key in a lawful journal have the same mark
same_mark : (journal : List Item) → IsLawful journal → (key : Key) (moment moment' : ℕ) (starved starved' parked parked' : Bool) → Contains journal (Ran key moment starved parked) → Contains journal (Ran key moment' starved' parked')
    → starved ≡ starved'
same_mark journal lawful key moment moment' starved starved' parked parked' one other =
    let back : reverse (reverse journal) ≡ journal = reverse-reverse journal in
    marks_once (reverse journal) (plain_of (reverse journal) (subst IsLawful (sym back) lawful)) key moment moment' starved starved' parked parked'
    (contains_has (Ran key moment starved parked) (reverse journal) (subst (λ (js : List Item). Contains js (Ran key moment starved parked)) (sym back) one))
    (contains_has (Ran key moment' starved' parked') (reverse journal) (subst (λ (js : List Item). Contains js (Ran key moment' starved' parked')) (sym back) other))

starved_entry : (key : Key) (x : Item) → starves_at key x ≡ true → (moment : ℕ) × (parked : Bool) × (x ≡ Ran key moment true parked)
starved_entry key (Ran k moment starved parked) e = by starved e
  where
    by : (b : Bool) → (b && is_key k key) ≡ true → (m : ℕ) × (p : Bool) × (Ran k moment b parked ≡ Ran key m true p)
    by true e = (moment, parked, ap (λ (l : Key). Ran l moment true parked) (same_key k key e))
    by false e = absurd (cc)
starved_entry key (Came k) e = absurd (cc)
starved_entry key (Cancelled k) e = absurd (cc)
starved_entry key (Sent k) e = absurd (cc)
starved_entry key (Cut cause) e = absurd (cc)

-- a journal is a station's
journal_at : (stations : List (ℕ × StationState SessionDevice)) (j : ℕ × List Item) → Contains (station_journals stations) j → (place : ℕ) × (e : ℕ × StationState SessionDevice) × (slice_get stations place ≡ Some e) × (j ≡ (e.0, (e.1).journal))
journal_at [] j (k, below, is) = absurd (omega (arith, below))
journal_at (e ∷ es) j (zero, below, is) = (0, e, refl, sym is)
journal_at (e ∷ es) j (suc k, below, is) = let (place, f, at, same) = journal_at es j (k, omega (arith, below), is) in (suc place, f, at, same)

run_named : (journal : List Item) (key : Key) (moment : ℕ) (starved parked : Bool) → Contains journal (Ran key moment starved parked) → NamesKey journal key
run_named journal key moment starved parked (k, below, is) = (k, Ran key moment starved parked, below, is, refl)

-- What the journals of stations say of a key is what its run, if it has one, had.
pub marks_agree : (stations : List (ℕ × StationState SessionDevice)) → AreStations stations → MarksAgree (starved_in (station_journals stations)) (station_journals stations)
marks_agree stations are = All-weaker (Contains js) (λ (j : ℕ × List Item). All (AgreesAt said) j.1) (λ j has. All-weaker (Contains j.1) (AgreesAt said) (λ x within. at j has x within) j.1 (All-contains_itself j.1)) js (All-contains_itself js)
  where
    js : List (ℕ × List Item)
    js = station_journals stations

    said : Key → Bool
    said = starved_in js

    lawful_at : (place : ℕ) (e : ℕ × StationState SessionDevice) → slice_get stations place ≡ Some e → IsLawful (e.1).journal
    lawful_at place e there =
        let reached : IsReachedBy e.1 = subst (λ (f : ℕ × StationState SessionDevice). IsReachedBy f.1) (get_or_from_slice_get stations place e e there) (are.reached place e (slice_get_within stations place e there)) in
        (reached_kept device_runs device_parked device_cuts e.1 reached).lawful

    -- two runs of a key, wherever they are, have the same mark
    same : (j j' : ℕ × List Item) → Contains js j → Contains js j' → (key : Key) (moment moment' : ℕ) (starved starved' parked parked' : Bool) → Contains j.1 (Ran key moment starved parked) → Contains j'.1 (Ran key moment' starved' parked') → starved ≡ starved'
    same j j' has has' key moment moment' starved starved' parked parked' one other =
        let (place, e, there, is) = journal_at stations j has in
        let (place', e', there', is') = journal_at stations j' has' in
        let here : Contains (e.1).journal (Ran key moment starved parked) = subst (λ (l : ℕ × List Item). Contains l.1 (Ran key moment starved parked)) is one in
        let here' : Contains (e'.1).journal (Ran key moment' starved' parked') = subst (λ (l : ℕ × List Item). Contains l.1 (Ran key moment' starved' parked')) is' other in
        let places : place ≡ place' = are.apart key place place' (e, there, run_named (e.1).journal key moment starved parked here) (e', there', run_named (e'.1).journal key moment' starved' parked' here') in
        let both : Some e ≡ Some e' = sym there ∙ ap (slice_get stations) places ∙ there' in
        let one_station : e ≡ e' = cc in
        same_mark (e.1).journal (lawful_at place e there) key moment moment' starved starved' parked parked' here
        (subst (λ (f : ℕ × StationState SessionDevice). Contains (f.1).journal (Ran key moment' starved' parked')) (sym one_station) here')

    mark : (j : ℕ × List Item) → Contains js j → (key : Key) (moment : ℕ) (starved parked : Bool) → Contains j.1 (Ran key moment starved parked) → said key ≡ starved
    mark j (k, below, is) key moment true parked (i, low, here) =
        list_any-from_Any (λ (l : ℕ × List Item). list_any (starves_at key) l.1) js (k, j, below, is, list_any-from_Any (starves_at key) j.1 (i, Ran key moment true parked, low, here, key_self key))
    mark j has key moment false parked within = elim (cases_Bool (said key)) [
      | inl so ↦
          let (k, j', below, is, some) = Any-from_list_any (λ (l : ℕ × List Item). list_any (starves_at key) l.1) js so in
          let (i, x, low, here, starves) = Any-from_list_any (starves_at key) j'.1 some in
          let (moment', parked', entry) = starved_entry key x starves in
          absurd (false≢true (same j j' has (k, below, is) key moment moment' false true parked parked' within (subst (Contains j'.1) entry (i, low, here))))
      | inr not_so ↦ not_so
    ]

    at : (j : ℕ × List Item) → Contains js j → (x : Item) → Contains j.1 x → AgreesAt said x
    at j has (Ran key moment starved parked) within = mark j has key moment starved parked within
    at j has (Came key) within = tt
    at j has (Cancelled key) within = tt
    at j has (Sent key) within = tt
    at j has (Cut cause) within = tt

-- ---- what a run came to

last_of_all : (P : Item → Type 0) (j : List Item) (x : Item) → All P (j ++ x ∷ []) → P x
last_of_all P j x all = All-contains P (j ++ x ∷ []) x all (to_contains (j ++ x ∷ []) x (has_right x j (x ∷ []) (inl refl)))

-- A Close is never starved, and of another job the journal says it.
starved_is : (starves : Bool) (o : Op) (starved : Bool) → starves ≡ starved → (o ≡ op.Close → IsFalse starved) → (starves && not (is_close o)) ≡ starved
starved_is starves o starved same close = by (is_close o) refl
  where
    is_a_close : (p : Op) → is_close p ≡ true → p ≡ op.Close
    is_a_close op.Close e = refl
    is_a_close p e = absurd (cc)

    and_false : (b : Bool) → (b && false) ≡ false
    and_false true = refl
    and_false false = refl

    and_true : (b : Bool) → (b && true) ≡ b
    and_true true = refl
    and_true false = refl

    by : (b : Bool) → is_close o ≡ b → (starves && not b) ≡ starved
    by true e = and_false starves ∙ sym (close (is_a_close o e))
    by false e = and_true starves ∙ same

-- A job that a hand gives back comes to what the definition says of it, where runs find no memory as the journal after it says.
pub applied_as : (old new : StationState SessionDevice) (planned : Planned) (moment : ℕ) (answer : Applied) → StationStep device_runs device_parked device_cuts old (applies planned moment answer) new → (starves : Key → Bool)
    → All (AgreesAt starves) new.journal
    → let job = planned.job in
    new ≡ (station.apply old job moment (ran_step device_step old.device job.key job.file job.op moment (starves job.key && not (is_close job.op)))).0
applied_as old new planned moment answer (came, e, promise) starves agrees =
    by (find (λ (t : InHand). is_key t.key planned.job.key) old.taken) (λ t found. (find_has (λ (u : InHand). is_key u.key planned.job.key) t old.taken found).1) e
  where
    job : Job
    job = planned.job

    then : Stepped SessionDevice
    then = ran_step device_step old.device job.key job.file job.op moment (starves job.key && not (is_close job.op))

    by : (found : Option InHand) → ((t : InHand) → found ≡ Some t → is_key t.key job.key ≡ true) → apply_from old job moment came found ≡ (new, answer) → new ≡ (apply_from old job moment then found).0
    by None own e = sym (ap (λ (x : StationState SessionDevice × Applied). x.0) e)
    by (Some t) own e = hand t.removed e
      where
        hand : (b : Bool) → cond {A = StationState SessionDevice × Applied} b (cancelled_in_hand old t (kind_of job.op), applied.Cancelled) (ran old t (kind_of job.op) moment came, cond (is_parked came.answer) applied.Parked applied.Ran) ≡ (new, answer)
            → new ≡ (cond {A = StationState SessionDevice × Applied} b (cancelled_in_hand old t (kind_of job.op), applied.Cancelled) (ran old t (kind_of job.op) moment then, cond (is_parked then.answer) applied.Parked applied.Ran)).0
        hand true e = sym (ap (λ (x : StationState SessionDevice × Applied). x.0) e)
        hand false e =
            let is : ran old t (kind_of job.op) moment came ≡ new = ap (λ (x : StationState SessionDevice × Applied). x.0) e in
            let did = promise (subst DidRun (ap (λ (x : StationState SessionDevice × Applied). x.1) e) (did_run (is_parked came.answer))) in
            let journal : new.journal ≡ old.journal ++ Ran t.key moment (is_starved came.answer) (is_parked came.answer) ∷ [] = ap (λ (s : StationState SessionDevice). s.journal) (sym is) in
            let said : starves t.key ≡ is_starved came.answer = last_of_all (AgreesAt starves) old.journal (Ran t.key moment (is_starved came.answer) (is_parked came.answer)) (subst (All (AgreesAt starves)) journal agrees) in
            let said_of_job : starves job.key ≡ is_starved came.answer = ap starves (sym (same_key t.key job.key (own t refl))) ∙ said in
            let flag : (starves job.key && not (is_close job.op)) ≡ is_starved came.answer = starved_is (starves job.key) job.op (is_starved came.answer) said_of_job did.close in
            let so : then ≡ came = ap (ran_step device_step old.device job.key job.file job.op moment) flag ∙ did.runs in
            sym is ∙ ap (λ (c : Stepped SessionDevice). ran old t (kind_of job.op) moment c) (sym so)
