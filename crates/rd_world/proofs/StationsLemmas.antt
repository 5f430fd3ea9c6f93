-- Stations and their ids side by side: one is put back at its place, and the words of bits that tell which of them have something to do.
use Rattle.std.proofs.Common.{◌≡◌, ◌≢◌, ◌∙◌, refl, sym, ap, subst, ℕ, zero, suc, ◌+◌, ◌<◌, ◌≤◌, inl, inr, Bool, true, false, not, ◌==◌, List, [], ◌∷◌, ◌++◌, length, length-append, get_or, set, slice_get, take, drop, Some, None, Option, arith}
use Rattle.std.specs.Prelude.{◌↔◌, map, if◌then◌else◌, IsTrue, All, IfErr, IfSome, OnErr, OnOk, Result, Ok, Err}
use Rattle.std.specs.List.{AllByRecursion, AllZip, zip}
use Rattle.std.specs.List.Sorted.{IsNonDecreasingBy, IsPartitionPoint, IsStrictlySortedBy}
use Rattle.std.specs.Map.{keys_of, lookup}
use Rattle.std.specs.Ordering.{nat_cmp, ordering_index}
use Rattle.std.specs.declared.cmp.Ordering.TheVariants.{Less, Equal, Greater}
use Rattle.std.specs.BTreeMap.{insert_entry, is_at}
use Rattle.std.proofs.Math.Seq.{take-append_seam, take-length}
use Rattle.std.proofs.lemmas.Bool.{cases_Bool, cases_lt, cases_order, false≢true}
use Rattle.std.proofs.lemmas.Bool.Decides.{nat_tests}
use Rattle.std.proofs.lemmas.List.{length-set, set-get_or, take_more_set}
use Rattle.std.proofs.lemmas.List.Elements.{All-append, All-set, all_zip_more}
use Rattle.std.proofs.lemmas.Map.Made.{keys_of-zip}
use Rattle.std.proofs.lemmas.Nat.Bits.{bit_at-zero}
use Rattle.rd_base.specs.declared.journal.Key.{Key}
use Rattle.rd_drive.specs.declared.plan.Job.{Job}
use Rattle.rd_station.specs.Station.{PutRefused, StationCall, StationState, StationStep, drop_channel, put, put_refusal, put_unless, puts}
use Rattle.rd_station.specs.declared.refusals.PutNo.{PutNo}
use Rattle.rd_station.specs.declared.refusals.PutWhy.{PutWhy}
use Rattle.rd_station.specs.declared.refusals.PutWhy.TheVariants as why
use Rattle.rd_world.specs.Bits.{IsMarked, Marks, has}
use Rattle.rd_declared.specs.Devices.{device_cut, device_cuts, device_parked, device_runs}
use Rattle.rd_world.specs.Events.{is_empty}
use Rattle.rd_world.specs.Keys.{AreBelow, AreUpTo, KeysApart, NamesAt, last_after}
use Rattle.rd_declared.specs.Declaring.{max_session_devices}
use Rattle.rd_world.specs.Stations.{DropsEach, DropsOne, IsPlaceOf, IsReachedBy, KeepsStations, StepsAt, dropped_station, has_ready, has_waiting, holds_at}
use Rattle.rd_declared.specs.declared.device.SessionDevice.{SessionDevice}
use Rattle.rd_world.proofs.KeysLemmas.{Comes, apart_come, apart_still, named_added, named_dropped, up_to_job, up_to_still}

-- ---- numbers in order

pub equal_cmp : (k l : ℕ) → k ≡ l → nat_cmp k l ≡ Equal
equal_cmp k l e = grind (arith, nat_tests)

pub turned_cmp : (k l : ℕ) → nat_cmp k l ≡ Less → nat_cmp l k ≡ Greater
turned_cmp k l e = grind (arith, nat_tests)

pub is_same : (k : ℕ) → is_at (nat_cmp k) k ≡ true
is_same k = grind (arith, nat_tests)

pub is_other : (k l : ℕ) → nat_cmp l k ≡ Less → is_at (nat_cmp k) l ≡ false
is_other k l e = grind (arith, nat_tests)

-- the key at a place after the first is above the first
above_first : (k : ℕ) (ks : List ℕ) (i d : ℕ) → i < length ks → AllByRecursion (λ l. nat_cmp k l ≡ Less) ks → nat_cmp k (get_or ks i d) ≡ Less
above_first k [] i d u h = absurd (omega arith)
above_first k (l ∷ ks) zero d u h = h.0
above_first k (l ∷ ks) (suc i) d u h = above_first k ks i d (omega arith) h.1

cmp_below : (k l : ℕ) → nat_cmp k l ≡ Less → k < l
cmp_below k l e = grind (arith, nat_tests)

below_cmp : (k l : ℕ) → k < l → nat_cmp k l ≡ Less
below_cmp k l u = grind (arith, nat_tests)

cmp_equal : (k l : ℕ) → nat_cmp k l ≡ Equal → k ≡ l
cmp_equal k l e = grind (arith, nat_tests)

cmp_less : (k l : ℕ) → nat_cmp k l ≡ Less → k ≢ l
cmp_less k l e = grind (arith, nat_tests)

cmp_greater : (k l : ℕ) → nat_cmp k l ≡ Greater → k ≢ l
cmp_greater k l e = grind (arith, nat_tests)

is_apart : (k l : ℕ) → l ≢ k → is_at (nat_cmp k) l ≡ false
is_apart k l apart = grind (arith, nat_tests)

index_rises : (a b d : ℕ) → a ≤ b → ordering_index (nat_cmp a d) ≤ ordering_index (nat_cmp b d)
index_rises a b d u = grind (arith, nat_tests)

-- keys that rise don't fall
ordered : (ks : List ℕ) (i j d : ℕ) → IsStrictlySortedBy nat_cmp ks → i ≤ j → j < length ks → get_or ks i d ≤ get_or ks j d
unfolding IsStrictlySortedBy
ordered [] i j d rise le u = absurd (omega arith)
ordered (k ∷ ks) zero zero d rise le u = omega arith
ordered (k ∷ ks) zero (suc j) d rise le u =
    let below : k < get_or ks j d = cmp_below k (get_or ks j d) (above_first k ks j d (omega arith) rise.0) in
    omega arith
ordered (k ∷ ks) (suc i) zero d rise le u = absurd (omega arith)
ordered (k ∷ ks) (suc i) (suc j) d rise le u = ordered ks i j d rise.1 (omega arith) (omega arith)

-- ---- keys and values side by side

module _ {X : Type 0} where
  pub stands_at : (ks : List ℕ) (vs : List X) (i : ℕ) (v : X) → length vs ≡ length ks → i < length vs → v ≡ get_or vs i v → slice_get (zip ks vs) i ≡ Some (get_or ks i 0, v)
  stands_at [] [] i v same u here = absurd (omega arith)
  stands_at [] (w ∷ vs) i v same u here = absurd (omega arith)
  stands_at (k ∷ ks) [] i v same u here = absurd (omega arith)
  stands_at (k ∷ ks) (w ∷ vs) zero v same u here = ap (λ (x : X). Some (k, x)) (sym here)
  stands_at (k ∷ ks) (w ∷ vs) (suc i) v same u here = stands_at ks vs i v (omega arith) (omega arith) here

  pub found_at : (ks : List ℕ) (vs : List X) (i : ℕ) (v : X) → length vs ≡ length ks → i < length vs → IsStrictlySortedBy nat_cmp ks → v ≡ get_or vs i v
      → lookup (is_at (nat_cmp (get_or ks i 0))) (zip ks vs) ≡ Some v
  unfolding IsStrictlySortedBy
  found_at [] [] i v same u rise here = absurd (omega arith)
  found_at [] (w ∷ vs) i v same u rise here = absurd (omega arith)
  found_at (k ∷ ks) [] i v same u rise here = absurd (omega arith)
  found_at (k ∷ ks) (w ∷ vs) zero v same u rise here = rw (is_same k) (ap (λ (x : X). Some x) (sym here))
  found_at (k ∷ ks) (w ∷ vs) (suc i) v same u rise here =
      let within : i < length ks = omega arith in
      rw (is_other (get_or ks i 0) k (above_first k ks i 0 within rise.0)) (found_at ks vs i v (omega arith) (omega arith) rise.1 here)

  pub put_in : (ks : List ℕ) (vs : List X) (i : ℕ) (v : X) → length vs ≡ length ks → i < length vs → IsStrictlySortedBy nat_cmp ks
      → zip ks (set vs i v) ≡ insert_entry nat_cmp (zip ks vs) (get_or ks i 0) v
  unfolding IsStrictlySortedBy
  put_in [] [] i v same u rise = absurd (omega arith)
  put_in [] (w ∷ vs) i v same u rise = absurd (omega arith)
  put_in (k ∷ ks) [] i v same u rise = absurd (omega arith)
  put_in (k ∷ ks) (w ∷ vs) zero v same u rise = rw (equal_cmp k k refl) refl
  put_in (k ∷ ks) (w ∷ vs) (suc i) v same u rise =
      let within : i < length ks = omega arith in
      rw (turned_cmp k (get_or ks i 0) (above_first k ks i 0 within rise.0)) (ap (λ (l : List (ℕ × X)). (k, w) ∷ l) (put_in ks vs i v (omega arith) (omega arith) rise.1))

  -- a place within has a value
  pub some_at : (vs : List X) (i : ℕ) → i < length vs → (v : X) × (v ≡ get_or vs i v)
  some_at [] i u = absurd (omega arith)
  some_at (v ∷ vs) zero u = (v, refl)
  some_at (v ∷ vs) (suc i) u = some_at vs i (omega arith)

  absent : (ks : List ℕ) (vs : List X) (k : ℕ) → ((j : ℕ) → j < length ks → get_or ks j 0 ≢ k) → lookup (is_at (nat_cmp k)) (zip ks vs) ≡ None
  absent [] vs k apart = refl
  absent (l ∷ ks) [] k apart = refl
  absent (l ∷ ks) (v ∷ vs) k apart = rw (is_apart k l (apart zero (omega arith))) (absent ks vs k (λ j u. apart (suc j) (omega arith)))

  zip_add : (ks : List ℕ) (vs : List X) (k : ℕ) (v : X) → length vs ≡ length ks → zip (ks ++ k ∷ []) (vs ++ v ∷ []) ≡ zip ks vs ++ (k, v) ∷ []
  zip_add [] [] k v same = refl
  zip_add [] (w ∷ vs) k v same = absurd (omega arith)
  zip_add (l ∷ ks) [] k v same = absurd (omega arith)
  zip_add (l ∷ ks) (w ∷ vs) k v same = ap (λ (es : List (ℕ × X)). (l, w) ∷ es) (zip_add ks vs k v (omega arith))

  all_keys_add : (P : ℕ → Type 0) (es : List (ℕ × X)) (k : ℕ) (v : X) → AllByRecursion P (keys_of es) → P k → AllByRecursion P (keys_of (es ++ (k, v) ∷ []))
  all_keys_add P [] k v all p = (p, tt)
  all_keys_add P (e ∷ es) k v all p = (all.0, all_keys_add P es k v all.1 p)

  -- a key above the others comes last
  rise_add : (es : List (ℕ × X)) (k : ℕ) (v : X) → All (λ (e : ℕ × X). e.0 < k) es → IsStrictlySortedBy nat_cmp (keys_of es) → IsStrictlySortedBy nat_cmp (keys_of (es ++ (k, v) ∷ []))
  unfolding IsStrictlySortedBy
  rise_add [] k v above rise = (tt, tt)
  rise_add (e ∷ es) k v above rise =
      (all_keys_add (λ (l : ℕ). nat_cmp e.0 l ≡ Less) es k v rise.0 (below_cmp e.0 k (above zero e (omega arith))), rise_add es k v (λ j d u. above (suc j) d (omega arith)) rise.1)

  -- a value of which the test doesn't hold changes nothing of where it holds
  holds_add : (test : X → Bool) (es : List (ℕ × X)) (k : ℕ) (v : X) (j : ℕ) → test v ≡ false → holds_at test (es ++ (k, v) ∷ []) j ≡ holds_at test es j
  holds_add test [] k v zero fails = fails
  holds_add test [] k v (suc j) fails = refl
  holds_add test (e ∷ es) k v zero fails = refl
  holds_add test (e ∷ es) k v (suc j) fails = holds_add test es k v j fails

  set_beside : (ks : List ℕ) (vs : List X) (i : ℕ) (v : X) → zip ks (set vs i v) ≡ set (zip ks vs) i (get_or ks i 0, v)
  set_beside [] vs i v = refl
  set_beside (k ∷ ks) [] i v = refl
  set_beside (k ∷ ks) (w ∷ vs) zero v = refl
  set_beside (k ∷ ks) (w ∷ vs) (suc i) v = ap (λ (l : List (ℕ × X)). (k, w) ∷ l) (set_beside ks vs i v)

  pub length_zip : (ks : List ℕ) (vs : List X) → length vs ≡ length ks → length (zip ks vs) ≡ length ks
  length_zip [] vs same = refl
  length_zip (k ∷ ks) [] same = absurd (omega arith)
  length_zip (k ∷ ks) (v ∷ vs) same = let e : length (zip ks vs) ≡ length ks = length_zip ks vs (omega arith) in omega arith

  -- ---- a test of the value at a place

  holds_put : (test : X → Bool) (ks : List ℕ) (vs : List X) (i : ℕ) (v : X) → length vs ≡ length ks → i < length vs → holds_at test (zip ks (set vs i v)) i ≡ test v
  holds_put test [] [] i v same u = absurd (omega arith)
  holds_put test [] (w ∷ vs) i v same u = absurd (omega arith)
  holds_put test (k ∷ ks) [] i v same u = absurd (omega arith)
  holds_put test (k ∷ ks) (w ∷ vs) zero v same u = refl
  holds_put test (k ∷ ks) (w ∷ vs) (suc i) v same u = holds_put test ks vs i v (omega arith) (omega arith)

  holds_beside : (test : X → Bool) (ks : List ℕ) (vs : List X) (i j : ℕ) (v : X) → j ≢ i → holds_at test (zip ks (set vs i v)) j ≡ holds_at test (zip ks vs) j
  holds_beside test [] vs i j v apart = refl
  holds_beside test (k ∷ ks) [] i j v apart = refl
  holds_beside test (k ∷ ks) (w ∷ vs) zero zero v apart = absurd (apart refl)
  holds_beside test (k ∷ ks) (w ∷ vs) zero (suc j) v apart = refl
  holds_beside test (k ∷ ks) (w ∷ vs) (suc i) zero v apart = refl
  holds_beside test (k ∷ ks) (w ∷ vs) (suc i) (suc j) v apart = holds_beside test ks vs i j v (λ (e : j ≡ i). apart (ap suc e))

  -- the place that changed is marked, and the word tells of all again
  pub marks_put : (test : X → Bool) (ks : List ℕ) (vs : List X) (i : ℕ) (v : X) (old new : ℕ) → length vs ≡ length ks → i < length vs
      → Marks old (holds_at test (zip ks vs)) 64 → IsMarked old new i (test v) → Marks new (holds_at test (zip ks (set vs i v))) 64
  marks_put test ks vs i v old new same u marks marked j within = elim (cases_order j i) [
    | inl here ↦ subst (λ (p : ℕ). has new p ≡ holds_at test (zip ks (set vs i v)) p) (sym here) (marked.same ∙ sym (holds_put test ks vs i v same u))
    | inr other ↦
        let apart : j ≢ i = λ (e : j ≡ i). elim other [ inl l ↦ omega arith | inr g ↦ omega arith ] in
        marked.others j within apart ∙ marks j within ∙ sym (holds_beside test ks vs i j v apart)
  ]

-- what holds of the values holds of them where one is replaced
pub all_put : {X : Type 0} (P : X → Type 0) (ks : List ℕ) (vs : List X) (i : ℕ) (v : X) → length vs ≡ length ks → i < length vs → P v
    → All (λ (e : ℕ × X). P e.1) (zip ks vs) → All (λ (e : ℕ × X). P e.1) (zip ks (set vs i v))
all_put {X} P ks vs i v same u p all = subst (λ (l : List (ℕ × X)). All (λ (e : ℕ × X). P e.1) l) (sym (set_beside ks vs i v)) (All-set (λ (e : ℕ × X). P e.1) (zip ks vs) i (get_or ks i 0, v) p all)

-- a list isn't empty where a call says so
pub told : {X : Type 0} (b : Bool) (xs : List X) → (IsTrue b ↔ (xs ≢ [])) → b ≡ not (is_empty xs)
told true [] says = absurd (says.0 refl refl)
told false [] says = refl
told true (x ∷ xs) says = refl
told false (x ∷ xs) says = says.1 (λ (e : x ∷ xs ≡ []). cc)

-- what holds of the value at a place, where a list that is seen has it
pub of_seen : {X : Type 0} (P : X → Type 0) (ks : List ℕ) (vs : List X) (i : ℕ) (v : X) (seen : List (ℕ × X)) → length vs ≡ length ks → i < length vs → v ≡ get_or vs i v → zip ks vs ≡ seen
    → IfSome (slice_get seen i) (λ (e : ℕ × X). P e.1) → P v
of_seen {X} P ks vs i v seen same u here is holds =
    subst (λ (o : Option (ℕ × X)). IfSome o (λ (e : ℕ × X). P e.1)) (ap (λ (l : List (ℕ × X)). slice_get l i) (sym is) ∙ stands_at ks vs i v same u here) holds

-- ---- what a program keeps of stations

pub within : (ids : List ℕ) (list : List (StationState SessionDevice)) (waiting ready : ℕ) (last : Option Key) (place : ℕ) (seen : List (ℕ × StationState SessionDevice)) → KeepsStations ids list waiting ready last
    → zip ids list ≡ seen → place < length seen → place < length list
within ids list waiting ready last place seen keeps is u =
    let long : length (zip ids list) ≡ length ids = length_zip ids list keeps.same in
    let e : length (zip ids list) ≡ length seen = ap (λ (l : List (ℕ × StationState SessionDevice)). length l) is in
    let same : length list ≡ length ids = keeps.same in
    omega arith

-- a station that came to be by its calls is put back at its place, and both its bits are marked
keeps_put : (ids : List ℕ) (list : List (StationState SessionDevice)) (waiting ready : ℕ) (last last' : Option Key) (place : ℕ) (after : StationState SessionDevice) (waiting' ready' : ℕ) → KeepsStations ids list waiting ready last
    → place < length list → IsReachedBy after → KeysApart (set (zip ids list) place (get_or ids place 0, after)) → AreUpTo (set (zip ids list) place (get_or ids place 0, after)) last'
    → IsMarked waiting waiting' place (has_waiting after) → IsMarked ready ready' place (has_ready after) → KeepsStations ids (set list place after) waiting' ready' last'
keeps_put ids list waiting ready last last' place after waiting' ready' keeps u reached apart up_to marked_waiting marked_ready =
    let same : length (set list place after) ≡ length ids = length-set list place after ∙ keeps.same in
    let beside = set_beside ids list place after in record {
      same = same;
      are = record {
        rise = subst (λ (ks : List ℕ). IsStrictlySortedBy nat_cmp ks) (keys_of-zip ids list (keeps.same) ∙ sym (keys_of-zip ids (set list place after) same)) keeps.are.rise;
        few = rw (length_zip ids (set list place after) same) (rw (length_zip ids list keeps.same) at keeps.are.few);
        reached = all_put IsReachedBy ids list place after keeps.same u reached keeps.are.reached;
        apart = subst KeysApart (sym beside) apart;
      };
      waiting_marks = marks_put has_waiting ids list place after waiting waiting' keeps.same u keeps.waiting_marks marked_waiting;
      ready_marks = marks_put has_ready ids list place after ready ready' keeps.same u keeps.ready_marks marked_ready;
      up_to = subst (λ (es : List (ℕ × StationState SessionDevice)). AreUpTo es last') (sym beside) up_to;
    }

-- so it is after a call by which no key comes
pub keeps_call : (ids : List ℕ) (list : List (StationState SessionDevice)) (waiting ready : ℕ) (last : Option Key) (place : ℕ) (call : StationCall) (before after : StationState SessionDevice) (waiting' ready' : ℕ)
    → KeepsStations ids list waiting ready last → place < length list → before ≡ get_or list place before → ((key : Key) → ¬ (Comes call key)) → StationStep device_runs device_parked device_cuts before call after → IsReachedBy after
    → IsMarked waiting waiting' place (has_waiting after) → IsMarked ready ready' place (has_ready after) → KeepsStations ids (set list place after) waiting' ready' last
keeps_call ids list waiting ready last place call before after waiting' ready' keeps u here none step reached marked_waiting marked_ready =
    let there = stands_at ids list place before keeps.same u here in
    keeps_put ids list waiting ready last last place after waiting' ready' keeps u reached
    (apart_still (zip ids list) place (get_or ids place 0) (get_or ids place 0) before after there call none step reached keeps.are.apart)
    (up_to_still (zip ids list) place (get_or ids place 0) (get_or ids place 0) before after there call none step reached last keeps.up_to) marked_waiting marked_ready

-- and after a job with a key above all was put, whatever came of it
pub keeps_come : (ids : List ℕ) (list : List (StationState SessionDevice)) (waiting ready : ℕ) (last : Option Key) (place : ℕ) (job : Job) (answer : Result (Unit {0}) PutNo) (before after : StationState SessionDevice) (waiting' ready' : ℕ)
    → KeepsStations ids list waiting ready last → place < length list → before ≡ get_or list place before → AreBelow (zip ids list) job.key
    → OnOk answer (StationStep device_runs device_parked device_cuts before (puts job None) after) → IfErr answer (λ no. StationStep device_runs device_parked device_cuts before (puts job (Some no)) after) → IsReachedBy after
    → IsMarked waiting waiting' place (has_waiting after) → IsMarked ready ready' place (has_ready after) → KeepsStations ids (set list place after) waiting' ready' (last_after last job.key answer)
keeps_come ids list waiting ready last place job (Ok done) before after waiting' ready' keeps u here below came refused reached marked_waiting marked_ready =
    let there = stands_at ids list place before keeps.same u here in
    keeps_put ids list waiting ready last (Some job.key) place after waiting' ready' keeps u reached
    (apart_come (zip ids list) place (get_or ids place 0) (get_or ids place 0) before after there job below came reached keeps.are.apart)
    (up_to_job (zip ids list) place (get_or ids place 0) (get_or ids place 0) before after there job below came reached) marked_waiting marked_ready
keeps_come ids list waiting ready last place job (Err cause) before after waiting' ready' keeps u here below came refused reached marked_waiting marked_ready =
    keeps_call ids list waiting ready last place (puts job (Some cause)) before after waiting' ready' keeps u here (λ key none. none) refused reached marked_waiting marked_ready

-- and so it is that station's step
pub steps_at : (ids : List ℕ) (list : List (StationState SessionDevice)) (waiting ready : ℕ) (last : Option Key) (place : ℕ) (call : StationCall) (before after : StationState SessionDevice) → KeepsStations ids list waiting ready last
    → place < length list → before ≡ get_or list place before → StationStep device_runs device_parked device_cuts before call after
    → StepsAt (zip ids list) place call (zip ids (set list place after))
steps_at ids list waiting ready last place call before after keeps u here step =
    let rise : IsStrictlySortedBy nat_cmp ids = subst (λ (ks : List ℕ). IsStrictlySortedBy nat_cmp ks) (keys_of-zip ids list keeps.same) keeps.are.rise in record {
      id = get_or ids place 0;
      before = before;
      after = after;
      there = stands_at ids list place before keeps.same u here;
      found = found_at ids list place before keeps.same u rise here;
      step = step;
      put_back = put_in ids list place after keeps.same u rise;
    }

-- a clause of what comes of a call, by what the call says
pub on_ok : {E : Type 0} (P Q : Type 0) (r : Result (Unit {0}) E) → (P → Q) → OnOk r P → OnOk r Q
on_ok P Q (Ok x) f h = f h
on_ok P Q (Err e) f h = tt

pub on_err : {E : Type 0} (P : E → Type 0) (Q : Type 0) (r : Result (Unit {0}) E) → ((e : E) → P e → Q) → IfErr r P → OnErr r Q
on_err P Q (Ok x) f h = tt
on_err P Q (Err e) f h = f e h

pub if_err : {E : Type 0} (P Q : E → Type 0) (r : Result (Unit {0}) E) → ((e : E) → P e → Q e) → IfErr r P → IfErr r Q
if_err P Q (Ok x) f h = tt
if_err P Q (Err e) f h = f e h

all_first : {X : Type 0} (P : X → Type 0) (x : X) (xs : List X) → P x → All P xs → All P (x ∷ xs)
all_first P x xs p all zero d u = p
all_first P x xs p all (suc k) d u = all k d (omega arith)

-- ---- the empty word

unset : (i : ℕ) → has 0 i ≡ false
unset i = ap (λ (x : ℕ). x == 1) (bit_at-zero i)

nothing_named : (key : Key) (place : ℕ) → ¬ (NamesAt [] place key)
nothing_named key place (e, at, names) = absurd (cc)

pub keeps_none : KeepsStations [] [] 0 0 None
unfolding IsStrictlySortedBy
keeps_none = record {
  same = refl;
  are = record { rise = tt; few = omega arith; reached = λ k d u. absurd (omega arith); apart = λ key i j names other. absurd (nothing_named key i names) };
  waiting_marks = λ i u. unset i;
  ready_marks = λ i u. unset i;
  up_to = λ key place names. nothing_named key place names;
}

-- ---- a station more

nothing_waits : {X : Type 0} (xs : List X) → xs ≡ [] → not (is_empty xs) ≡ false
nothing_waits xs e = ap (λ l. not (is_empty l)) e

pub keeps_add : (ids : List ℕ) (list : List (StationState SessionDevice)) (waiting ready : ℕ) (last : Option Key) (id : ℕ) (s : StationState SessionDevice) (seen : List (ℕ × StationState SessionDevice))
    → KeepsStations ids list waiting ready last → zip ids list ≡ seen → All (λ (e : ℕ × StationState SessionDevice). e.0 < id) seen → length seen < max_session_devices → s.waiting ≡ [] → s.ready ≡ [] → s.journal ≡ []
    → IsReachedBy s → KeepsStations (ids ++ id ∷ []) (list ++ s ∷ []) waiting ready last
keeps_add ids list waiting ready last id s seen keeps is above few none_waits none_ready unused reached =
    let both : zip (ids ++ id ∷ []) (list ++ s ∷ []) ≡ zip ids list ++ (id, s) ∷ [] = zip_add ids list id s keeps.same in
    let under : All (λ (e : ℕ × StationState SessionDevice). e.0 < id) (zip ids list) = subst (λ (es : List (ℕ × StationState SessionDevice)). All (λ (e : ℕ × StationState SessionDevice). e.0 < id) es) (sym is) above in
    let short : length (zip ids list) < max_session_devices = subst (λ (es : List (ℕ × StationState SessionDevice)). length es < max_session_devices) (sym is) few in
    let same : length list ≡ length ids = keeps.same in record {
      same = length-append list (s ∷ []) ∙ ap (λ (n : ℕ). n + 1) same ∙ sym (length-append ids (id ∷ []));
      are = rw both (record {
        rise = rise_add (zip ids list) id s under keeps.are.rise;
        few = omega (arith, length-append (zip ids list) ((id, s) ∷ []));
        reached = All-append (λ (e : ℕ × StationState SessionDevice). IsReachedBy e.1) (zip ids list) ((id, s) ∷ []) keeps.are.reached
            (all_first (λ (e : ℕ × StationState SessionDevice). IsReachedBy e.1) (id, s) [] reached (λ k d u. absurd (omega arith)));
        apart = λ key i j names other. keeps.are.apart key i j (named_added (zip ids list) id s unused i key names) (named_added (zip ids list) id s unused j key other);
      });
      waiting_marks = λ i u. keeps.waiting_marks i u ∙ sym (ap (λ (es : List (ℕ × StationState SessionDevice)). holds_at has_waiting es i) both ∙ holds_add has_waiting (zip ids list) id s i (nothing_waits s.waiting none_waits));
      ready_marks = λ i u. keeps.ready_marks i u ∙ sym (ap (λ (es : List (ℕ × StationState SessionDevice)). holds_at has_ready es i) both ∙ holds_add has_ready (zip ids list) id s i (nothing_waits s.ready none_ready));
      up_to = λ key place names. keeps.up_to key place (named_added (zip ids list) id s unused place key (subst (λ (es : List (ℕ × StationState SessionDevice)). NamesAt es place key) both names));
    }

pub seen_add : (ids : List ℕ) (list : List (StationState SessionDevice)) (id : ℕ) (s : StationState SessionDevice) (seen : List (ℕ × StationState SessionDevice)) → length list ≡ length ids → zip ids list ≡ seen
    → zip (ids ++ id ∷ []) (list ++ s ∷ []) ≡ seen ++ (id, s) ∷ []
seen_add ids list id s seen same is = zip_add ids list id s same ∙ ap (λ (es : List (ℕ × StationState SessionDevice)). es ++ (id, s) ∷ []) is

-- ---- where a device's station stands

rise_of : (ids : List ℕ) (list : List (StationState SessionDevice)) (waiting ready : ℕ) (last : Option Key) → KeepsStations ids list waiting ready last → IsStrictlySortedBy nat_cmp ids
rise_of ids list waiting ready last keeps = subst (λ (ks : List ℕ). IsStrictlySortedBy nat_cmp ks) (keys_of-zip ids list keeps.same) keeps.are.rise

pub place_found : (ids : List ℕ) (list : List (StationState SessionDevice)) (waiting ready : ℕ) (last : Option Key) (device place : ℕ) → KeepsStations ids list waiting ready last → place < length ids
    → nat_cmp (get_or ids place 0) device ≡ Equal → IsPlaceOf (zip ids list) device (Some place)
place_found ids list waiting ready last device place keeps u equal =
    let same : length list ≡ length ids = keeps.same in
    let inside : place < length list = omega arith in
    let at = some_at list place inside in
    let id : get_or ids place 0 ≡ device = cmp_equal (get_or ids place 0) device equal in (
      at.0,
      stands_at ids list place at.0 same inside at.1 ∙ ap (λ (k : ℕ). Some (k, at.0)) id,
      subst (λ (k : ℕ). lookup (is_at (nat_cmp k)) (zip ids list) ≡ Some at.0) id (found_at ids list place at.0 same inside (rise_of ids list waiting ready last keeps) at.1),
    )

pub place_missing : (ids : List ℕ) (list : List (StationState SessionDevice)) (waiting ready : ℕ) (last : Option Key) (device i : ℕ) → KeepsStations ids list waiting ready last
    → (IsNonDecreasingBy (λ (k : ℕ). ordering_index (nat_cmp k device)) ids → IsPartitionPoint (λ (k : ℕ). nat_cmp k device ≡ Less) (λ (k : ℕ). nat_cmp k device ≡ Greater) ids i)
    → IsPlaceOf (zip ids list) device None
place_missing ids list waiting ready last device i keeps parts =
    let rise = rise_of ids list waiting ready last keeps in
    let part = parts (λ j k d le u. index_rises (get_or ids j d) (get_or ids k d) device (ordered ids j k d rise le u)) in
    absent ids list device (λ j u. elim (cases_lt j i) [
      | inl below ↦ cmp_less (get_or ids j 0) device (part.0 j 0 (omega arith) below)
      | inr above ↦ cmp_greater (get_or ids j 0) device (part.1 j 0 above u)
    ])

-- what stands at a place, as it is seen
pub seen_at : (ids : List ℕ) (list : List (StationState SessionDevice)) (waiting ready : ℕ) (last : Option Key) (place : ℕ) (s : StationState SessionDevice) (seen : List (ℕ × StationState SessionDevice)) → KeepsStations ids list waiting ready last
    → zip ids list ≡ seen → place < length seen → s ≡ get_or list place s → slice_get seen place ≡ Some (get_or ids place 0, s)
seen_at ids list waiting ready last place s seen keeps is u here =
    ap (λ (es : List (ℕ × StationState SessionDevice)). slice_get es place) (sym is) ∙ stands_at ids list place s keeps.same (within ids list waiting ready last place seen keeps is u) here

pub id_seen : (ids : List ℕ) (list : List (StationState SessionDevice)) (waiting ready : ℕ) (last : Option Key) (place id : ℕ) (seen : List (ℕ × StationState SessionDevice)) → KeepsStations ids list waiting ready last
    → zip ids list ≡ seen → place < length seen → get_or ids place 0 ≡ id → IfSome (slice_get seen place) (λ (e : ℕ × StationState SessionDevice). e.0 ≡ id)
id_seen ids list waiting ready last place id seen keeps is u same =
    let at = some_at list place (within ids list waiting ready last place seen keeps is u) in
    subst (λ (o : Option (ℕ × StationState SessionDevice)). IfSome o (λ (e : ℕ × StationState SessionDevice). e.0 ≡ id)) (sym (seen_at ids list waiting ready last place at.0 seen keeps is u at.1)) same

-- ---- the channel ends

either : (test : StationState SessionDevice → Bool) (b : Bool) (x y : StationState SessionDevice) → test x ≡ false → test y ≡ false → test (if b then x else y) ≡ false
either test true x y p q = p
either test false x y p q = q

idle_waits : (before after : StationState SessionDevice) → DropsOne before after → has_waiting after ≡ false
idle_waits before after d = ap has_waiting (sym (d.step).1) ∙ either has_waiting before.live _ _ refl refl

idle_ready : (before after : StationState SessionDevice) → DropsOne before after → has_ready after ≡ false
idle_ready before after d = ap has_ready (sym (d.step).1) ∙ either has_ready before.live _ _ refl refl

holds_none : (test : StationState SessionDevice → Bool) → ((before after : StationState SessionDevice) → DropsOne before after → test after ≡ false) → (ids : List ℕ) (old new : List (StationState SessionDevice)) (i : ℕ)
    → AllZip DropsOne old new → holds_at test (zip ids new) i ≡ false
holds_none test fails [] old new i all = refl
holds_none test fails (k ∷ ids) [] [] i all = refl
holds_none test fails (k ∷ ids) [] (t ∷ new) i all = absurd all
holds_none test fails (k ∷ ids) (s ∷ old) [] i all = absurd all
holds_none test fails (k ∷ ids) (s ∷ old) (t ∷ new) zero all = fails s t all.0
holds_none test fails (k ∷ ids) (s ∷ old) (t ∷ new) (suc i) all = holds_none test fails ids old new i all.1

reached_each : (ids : List ℕ) (old new : List (StationState SessionDevice)) → AllZip DropsOne old new → All (λ (e : ℕ × StationState SessionDevice). IsReachedBy e.1) (zip ids new)
reached_each [] old new all = λ k d u. absurd (omega arith)
reached_each (k ∷ ids) [] [] all = λ k d u. absurd (omega arith)
reached_each (k ∷ ids) [] (t ∷ new) all = absurd all
reached_each (k ∷ ids) (s ∷ old) [] all = absurd all
reached_each (k ∷ ids) (s ∷ old) (t ∷ new) all = all_first (λ (e : ℕ × StationState SessionDevice). IsReachedBy e.1) (k, t) (zip ids new) (all.0).reached (reached_each ids old new all.1)

pub drops_each : (ids : List ℕ) (old new : List (StationState SessionDevice)) → AllZip DropsOne old new → DropsEach (zip ids old) (zip ids new)
drops_each [] old new all = tt
drops_each (k ∷ ids) [] [] all = tt
drops_each (k ∷ ids) [] (t ∷ new) all = absurd all
drops_each (k ∷ ids) (s ∷ old) [] all = absurd all
drops_each (k ∷ ids) (s ∷ old) (t ∷ new) all = ((refl, all.0), drops_each ids old new all.1)

pub dropped_length : (old new : List (StationState SessionDevice)) → AllZip DropsOne old new → length old ≡ length new
dropped_length [] [] all = refl
dropped_length [] (t ∷ new) all = absurd all
dropped_length (s ∷ old) [] all = absurd all
dropped_length (s ∷ old) (t ∷ new) all = let e : length old ≡ length new = dropped_length old new all.1 in omega arith

-- all of a list is written over
pub written_over : (old new : List (StationState SessionDevice)) (n : ℕ) → n ≡ length old → AllZip DropsOne old new → take n (new ++ drop (length new) old) ≡ new
written_over old new n long all = ap (λ (m : ℕ). take m (new ++ drop (length new) old)) (long ∙ dropped_length old new all) ∙ take-append_seam new (drop (length new) old)

pub keeps_dropped : (ids : List ℕ) (list new : List (StationState SessionDevice)) (waiting ready : ℕ) (last : Option Key) → KeepsStations ids list waiting ready last → AllZip DropsOne list new
    → KeepsStations ids new 0 0 last
keeps_dropped ids list new waiting ready last keeps all =
    let long : length list ≡ length new = dropped_length list new all in
    let same : length new ≡ length ids = sym long ∙ keeps.same in record {
      same = same;
      are = record {
        rise = subst (λ (ks : List ℕ). IsStrictlySortedBy nat_cmp ks) (keys_of-zip ids list keeps.same ∙ sym (keys_of-zip ids new same)) keeps.are.rise;
        few = rw (length_zip ids new same) (rw (length_zip ids list keeps.same) at keeps.are.few);
        reached = reached_each ids list new all;
        apart = λ key i j names other. keeps.are.apart key i j (named_dropped ids list new all i key names) (named_dropped ids list new all j key other);
      };
      waiting_marks = λ i u. unset i ∙ sym (holds_none has_waiting idle_waits ids list new i all);
      ready_marks = λ i u. unset i ∙ sym (holds_none has_ready idle_ready ids list new i all);
      up_to = λ key place names. keeps.up_to key place (named_dropped ids list new all place key names);
    }

dropped_is : (before after : StationState SessionDevice) → DropsOne before after → after ≡ drop_channel before (device_cut before.device).state
dropped_is before after d = sym (d.step).1 ∙ (elim (cases_Bool before.live) [
  | inl live ↦ ap (λ (cut : SessionDevice). drop_channel before cut) (sym ((d.step).2 live).cuts)
  | inr gone ↦ rw gone refl
])

-- what is left of each
pub drops_are : (old new : List (ℕ × StationState SessionDevice)) → DropsEach old new → new ≡ map dropped_station old
drops_are [] [] all = refl
drops_are [] (f ∷ new) all = absurd all
drops_are (e ∷ old) [] all = absurd all
drops_are (e ∷ old) (f ∷ new) all =
    ap (λ (k : ℕ). (k, f.1) ∷ new) (all.0).0
    ∙ ap (λ (s : StationState SessionDevice). (e.0, s) ∷ new) (dropped_is e.1 f.1 (all.0).1)
    ∙ ap (λ (es : List (ℕ × StationState SessionDevice)). dropped_station e ∷ es) (drops_are old new all.1)

-- one more of them is dropped
pub dropped_more : (old list : List (StationState SessionDevice)) (i : ℕ) (before after : StationState SessionDevice) → AllZip DropsOne (take i old) (take i list)
    → ((j : ℕ) (d : StationState SessionDevice) → i ≤ j → get_or list j d ≡ get_or old j d) → length list ≡ length old → i < length list → before ≡ get_or list i before → DropsOne before after
    → AllZip DropsOne (take (i + 1) old) (take (i + 1) (set list i after))
dropped_more old list i before after all rest same u here one =
    let inside : i < length old = omega arith in
    rw (take_more_set list i after u) (all_zip_more DropsOne old (take i list) i before after inside (here ∙ rest i before (omega arith)) all one)

-- all of them were
pub dropped_all : (old list : List (StationState SessionDevice)) (n : ℕ) → AllZip DropsOne (take n old) (take n list) → n ≡ length list → length list ≡ length old → AllZip DropsOne old list
dropped_all old list n all end same =
    let first : take n old ≡ old = ap (λ (m : ℕ). take m old) (end ∙ same) ∙ take-length old in
    let second : take n list ≡ list = ap (λ (m : ℕ). take m list) end ∙ take-length list in
    subst (λ (l : List (StationState SessionDevice)). AllZip DropsOne old l) second (subst (λ (l : List (StationState SessionDevice)). AllZip DropsOne l (take n list)) first all)

-- a station stands where a test holds of one
pub stands_where : {X : Type 0} (test : X → Bool) (es : List (ℕ × X)) (place : ℕ) → holds_at test es place ≡ true → (e : ℕ × X) × (slice_get es place ≡ Some e) × (test e.1 ≡ true)
stands_where test [] place holds = absurd (false≢true holds)
stands_where test (e ∷ es) zero holds = (e, refl, holds)
stands_where test (e ∷ es) (suc place) holds = stands_where test es place holds

-- ---- a job that isn't put leaves its station as it is

unput : (s after : StationState SessionDevice) (job : Job) (cause : PutWhy) → put s job ≡ (after, Some cause) → after ≡ s
unput s after job cause e = go (put_refusal s job) e
  where
    go : (o : Option PutWhy) → put_unless s job o ≡ (after, Some cause) → after ≡ s
    go None t =
        let no : None ≡ Some cause = ap (λ (x : StationState SessionDevice × Option PutWhy). x.1) t in
        absurd (cc no)
    go (Some other) t = sym (ap (λ (x : StationState SessionDevice × Option PutWhy). x.0) t)

unput_by : (s after : StationState SessionDevice) (job : Job) (cause : PutWhy) → PutRefused s job cause after → after ≡ s
unput_by s after job why.Memory r = r.1
unput_by s after job why.Gone r = unput s after job why.Gone r
unput_by s after job (why.Full held) r = unput s after job (why.Full held) r
unput_by s after job (why.Worn count) r = unput s after job (why.Worn count) r
unput_by s after job (why.Duplicate key) r = unput s after job (why.Duplicate key) r

pub put_unchanged : (ids : List ℕ) (list : List (StationState SessionDevice)) (place : ℕ) (s after : StationState SessionDevice) (seen : List (ℕ × StationState SessionDevice)) (job : Job) (refusal : PutNo)
    → s ≡ get_or list place s → zip ids list ≡ seen → StationStep device_runs device_parked device_cuts s (puts job (Some refusal)) after → zip ids (set list place after) ≡ seen
put_unchanged ids list place s after seen job refusal here is step =
    ap (λ (x : StationState SessionDevice). zip ids (set list place x)) (unput_by s after job refusal.why step.1)
    ∙ ap (λ (x : StationState SessionDevice). zip ids (set list place x)) here ∙ ap (zip ids) (set-get_or list place s) ∙ is
