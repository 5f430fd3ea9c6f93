-- What a session tells at its end: outcomes, journals and documents, each of which comes after all others.
use Rattle.std.proofs.Common.{◌≡◌, ◌∙◌, refl, sym, ap, subst, ℕ, ◌+◌, ◌<◌, ◌≤◌, ◌≢◌, List, [], ◌∷◌, ◌++◌, append-nil, append_assoc, drop, get_or, length, length-append, map, None, arith}
use Rattle.std.specs.Prelude.{zip}
use Rattle.std.specs.List.{AllByRecursion, flat_map, range_with_len}
use Rattle.std.specs.List.Sorted.{IsStrictlySortedBy}
use Rattle.std.specs.Map.{keys_of, lookup}
use Rattle.std.specs.Ordering.{nat_cmp, ordering_then}
use Rattle.std.specs.declared.cmp.Ordering.{Ordering}
use Rattle.std.specs.declared.cmp.Ordering.TheVariants.{Greater, Less}
use Rattle.std.specs.BTreeMap.{insert_entry, is_at}
use Rattle.std.proofs.lemmas.Grind.{flat_map-append}
use Rattle.std.proofs.lemmas.List.{drop_more, map-append}
use Rattle.std.proofs.lemmas.List.Concat.{flat_map-cons}
use Rattle.rd_base.specs.declared.journal.Item.{Item}
use Rattle.rd_base.specs.History.{History}
use Rattle.rd_drive.proofs.AllLemmas.{all_append, all_weaker}
use Rattle.rd_script.specs.declared.outcome.Outcome.{Outcome}
use Rattle.rd_script.specs.Report.{AreCountable, IsCountableOutcome, numbered_from}
use Rattle.rd_station.specs.Station.{StationState}
use Rattle.rd_declared.specs.declared.device.SessionDevice.{SessionDevice}
use Rattle.rd_declared.specs.declared.device.SessionDevice.TheVariants as session
use Rattle.rd_world.specs.Report.{outcomes_under}
use Rattle.rd_world.specs.Session.{StoresSome, by_device, journals_of, printed_in}
use Rattle.rd_world.specs.World.{ApplicationState}
use Rattle.rd_world.proofs.ApplicationsLemmas.{apart_at, below_of, equal_is, greater_is}
use Rattle.rd_world.proofs.PlacesLemmas.{key_between}

-- ---- an entry that comes last

module _ {K X : Type 0} where
  -- an entry whose key is above all others comes after them
  put_above : (cmp : K → K → Ordering) (es : List (K × X)) (k : K) (v : X) → AllByRecursion (λ (e : K × X). cmp k e.0 ≡ Greater) es → insert_entry cmp es k v ≡ es ++ (k, v) ∷ []
  put_above cmp [] k v all = refl
  put_above cmp (e ∷ es) k v all = rw all.0 (ap (λ (l : List (K × X)). e ∷ l) (put_above cmp es k v all.1))

module _ {X : Type 0} where
  -- of a list in order, those before an entry have lower numbers
  before_below : (done : List (ℕ × X)) (k : ℕ) (v : X) (rest : List (ℕ × X)) → IsStrictlySortedBy nat_cmp (keys_of (done ++ (k, v) ∷ rest)) → AllByRecursion (λ (e : ℕ × X). e.0 < k) done
  unfolding IsStrictlySortedBy
  before_below [] k v rest rise = tt
  before_below (e ∷ done) k v rest rise =
      (below_of e.0 k (key_between (λ (l : ℕ). nat_cmp e.0 l ≡ Less) done k v rest rise.0), before_below done k v rest rise.1)

  pub put_after : (es : List (ℕ × X)) (k : ℕ) (v : X) → AllByRecursion (λ (e : ℕ × X). e.0 < k) es → insert_entry nat_cmp es k v ≡ es ++ (k, v) ∷ []
  put_after es k v below = put_above nat_cmp es k v (all_weaker (λ (e : ℕ × X). e.0 < k) (λ (e : ℕ × X). nat_cmp k e.0 ≡ Greater) (λ e u. greater_is k e.0 u) es below)

  none_after : (es : List (ℕ × X)) (k : ℕ) → AllByRecursion (λ (e : ℕ × X). e.0 < k) es → lookup (is_at (nat_cmp k)) es ≡ None
  none_after [] k below = refl
  none_after (e ∷ es) k below =
      let under : e.0 < k = below.0 in
      let apart : k ≢ e.0 = λ (same : k ≡ e.0). omega arith in
      rw (apart_at k e.0 apart) (none_after es k below.1)

-- ---- the outcomes of an application

-- the order of applications and lines
abbrev pub line_cmp : ℕ × ℕ → ℕ × ℕ → Ordering
line_cmp p q = ordering_then (nat_cmp p.0 q.0) (nat_cmp p.1 q.1)

earlier_application : (a n b k : ℕ) → b < a → line_cmp (a, n) (b, k) ≡ Greater
earlier_application a n b k less = ap (λ (o : Ordering). ordering_then o (nat_cmp n k)) (greater_is a b less)

earlier_line : (a n k : ℕ) → k < n → line_cmp (a, n) (a, k) ≡ Greater
earlier_line a n k less = ap (λ (o : Ordering). ordering_then o (nat_cmp n k)) (equal_is a a refl) ∙ greater_is n k less

numbered_above : (a from n : ℕ) (os : List Outcome) → from + length os ≤ n → AllByRecursion (λ (e : (ℕ × ℕ) × Outcome). line_cmp (a, n) e.0 ≡ Greater) (numbered_from a from os)
numbered_above a from n [] few = tt
numbered_above a from n (o ∷ os) few = (earlier_line a n from (omega (arith, few)), numbered_above a (from + 1) n os (omega (arith, few)))

numbered_more : (a from n : ℕ) (done : List Outcome) (o : Outcome) → n ≡ from + length done → numbered_from a from (done ++ o ∷ []) ≡ numbered_from a from done ++ ((a, n), o) ∷ []
numbered_more a from n [] o is = let same : from ≡ n = omega (arith, is) in ap (λ (k : ℕ). ((a, k), o) ∷ []) same
numbered_more a from n (x ∷ done) o is = ap (λ (es : List ((ℕ × ℕ) × Outcome)). ((a, from), x) ∷ es) (numbered_more a (from + 1) n done o (omega (arith, is)))

-- Of an application's outcomes the first come after what was told before, under their numbers, so many, and these are left.
abbrev pub AreTold : List ((ℕ × ℕ) × Outcome) → ℕ → List Outcome → List Outcome → ℕ → List ((ℕ × ℕ) × Outcome) → Type 0
AreTold before a outcomes rest count entries = (done : List Outcome) × (outcomes ≡ done ++ rest) × (count ≡ length done) × (entries ≡ before ++ numbered_from a 1 done)

pub told_more : (before : List ((ℕ × ℕ) × Outcome)) (a : ℕ) (outcomes rest behind : List Outcome) (count : ℕ) (old new : List ((ℕ × ℕ) × Outcome)) (o : Outcome)
    → AllByRecursion (λ (e : (ℕ × ℕ) × Outcome). e.0.0 < a) before → AreTold before a outcomes rest count old → rest ≡ o ∷ behind → new ≡ insert_entry line_cmp old (a, count + 1) o
    → AreTold before a outcomes behind (count + 1) new
told_more before a outcomes rest behind count old new o below (done, all, counted, entries) next inserted =
    let n = count + 1 in
    let first = all_weaker (λ (e : (ℕ × ℕ) × Outcome). e.0.0 < a) (λ (e : (ℕ × ℕ) × Outcome). line_cmp (a, n) e.0 ≡ Greater) (λ e u. earlier_application a n e.0.0 e.0.1 u) before below in
    let second = numbered_above a 1 n done (omega (arith, counted)) in
    let above = all_append (λ (e : (ℕ × ℕ) × Outcome). line_cmp (a, n) e.0 ≡ Greater) before (numbered_from a 1 done) first second in (
      done ++ o ∷ [],
      all ∙ ap (λ (l : List Outcome). done ++ l) next ∙ sym (append_assoc done (o ∷ []) behind),
      omega (arith, counted, length-append done (o ∷ [])),
      inserted ∙ ap (λ (es : List ((ℕ × ℕ) × Outcome)). insert_entry line_cmp es (a, n) o) entries ∙ put_above line_cmp (before ++ numbered_from a 1 done) (a, n) o above
          ∙ append_assoc before (numbered_from a 1 done) (((a, n), o) ∷ [])
          ∙ ap (λ (es : List ((ℕ × ℕ) × Outcome)). before ++ es) (sym (numbered_more a 1 n done o (omega (arith, counted)))),
    )

-- ---- the outcomes of all applications

under_from : (a from : ℕ) (os : List Outcome) → map (λ (o : ℕ × Outcome). ((a, o.0), o.1)) (zip (range_with_len from (length os)) os) ≡ numbered_from a from os
under_from a from [] = refl
under_from a from (o ∷ os) = ap (λ (es : List ((ℕ × ℕ) × Outcome)). ((a, from), o) ∷ es) (under_from a (from + 1) os)

numbered_below : (k a from : ℕ) (os : List Outcome) → a < k → AllByRecursion (λ (e : (ℕ × ℕ) × Outcome). e.0.0 < k) (numbered_from a from os)
numbered_below k a from [] under = tt
numbered_below k a from (o ∷ os) under = (under, numbered_below k a (from + 1) os under)

countable_from : (a from : ℕ) (os : List Outcome) → AllByRecursion IsCountableOutcome os → AreCountable (numbered_from a from os)
countable_from a from [] all = tt
countable_from a from (o ∷ os) all = (all.0, countable_from a (from + 1) os all.1)

told_below : (k : ℕ) (done : List (ℕ × ApplicationState)) → AllByRecursion (λ (e : ℕ × ApplicationState). e.0 < k) done → AllByRecursion (λ (e : (ℕ × ℕ) × Outcome). e.0.0 < k) (flat_map outcomes_under done)
told_below k [] below = tt
told_below k (e ∷ done) below =
    let P : (ℕ × ℕ) × Outcome → Type 0 = λ e. e.0.0 < k in
    let first : AllByRecursion P (outcomes_under e) = subst (AllByRecursion P) (sym (under_from e.0 1 e.1.outcomes)) (numbered_below k e.0 1 e.1.outcomes below.0) in
    subst (AllByRecursion P) (sym (flat_map-cons outcomes_under e done)) (all_append P (outcomes_under e) (flat_map outcomes_under done) first (told_below k done below.1))

-- The outcomes of the first applications were told, and these are left.
abbrev pub AreToldOf : List (ℕ × ApplicationState) → List (ℕ × ApplicationState) → List ((ℕ × ℕ) × Outcome) → Type 0
AreToldOf all rest told = (done : List (ℕ × ApplicationState)) × (all ≡ done ++ rest) × (told ≡ flat_map outcomes_under done)

-- What was told is of applications before the next one.
pub before_next : (all rest behind : List (ℕ × ApplicationState)) (told : List ((ℕ × ℕ) × Outcome)) (a : ℕ) (x : ApplicationState) → IsStrictlySortedBy nat_cmp (keys_of all) → AreToldOf all rest told
    → rest ≡ (a, x) ∷ behind → AllByRecursion (λ (e : (ℕ × ℕ) × Outcome). e.0.0 < a) told
before_next all rest behind told a x rise (done, are, is) next =
    let whole : all ≡ done ++ (a, x) ∷ behind = are ∙ ap (λ (l : List (ℕ × ApplicationState)). done ++ l) next in
    let below = before_below done a x behind (subst (λ (l : List (ℕ × ApplicationState)). IsStrictlySortedBy nat_cmp (keys_of l)) whole rise) in
    subst (AllByRecursion (λ (e : (ℕ × ℕ) × Outcome). e.0.0 < a)) (sym is) (told_below a done below)

-- The outcomes of the next application were told.
pub told_of_more : (all rest behind : List (ℕ × ApplicationState)) (old new : List ((ℕ × ℕ) × Outcome)) (a : ℕ) (x : ApplicationState) (outcomes : List Outcome) → AreToldOf all rest old
    → rest ≡ (a, x) ∷ behind → outcomes ≡ x.outcomes → new ≡ old ++ numbered_from a 1 outcomes → AreToldOf all behind new
told_of_more all rest behind old new a x outcomes (done, are, is) next same added = (
  done ++ (a, x) ∷ [],
  are ∙ ap (λ (l : List (ℕ × ApplicationState)). done ++ l) next ∙ sym (append_assoc done ((a, x) ∷ []) behind),
  added ∙ ap (λ (es : List ((ℕ × ℕ) × Outcome)). es ++ numbered_from a 1 outcomes) is
      ∙ ap (λ (os : List Outcome). flat_map outcomes_under done ++ numbered_from a 1 os) same
      ∙ ap (λ (es : List ((ℕ × ℕ) × Outcome)). flat_map outcomes_under done ++ es) (sym (under_from a 1 x.outcomes) ∙ sym (append-nil (outcomes_under (a, x))) ∙ sym (flat_map-cons outcomes_under (a, x) []))
      ∙ sym (flat_map-append outcomes_under done ((a, x) ∷ [])),
)

pub countable_more : (old new : List ((ℕ × ℕ) × Outcome)) (a : ℕ) (outcomes : List Outcome) → AreCountable old → AllByRecursion IsCountableOutcome outcomes → new ≡ old ++ numbered_from a 1 outcomes → AreCountable new
countable_more old new a outcomes before all added =
    subst AreCountable (sym added) (all_append (λ (e : (ℕ × ℕ) × Outcome). IsCountableOutcome e.1) old (numbered_from a 1 outcomes) before (countable_from a 1 outcomes all))

-- ---- journals and documents

abbrev pub Stored : Type 0
Stored = ℕ × StationState SessionDevice

abbrev pub journal_under : Stored → ℕ × List Item
journal_under e = let s = e.1 in (e.0, s.journal)

-- The journals of the first stations are in the books, and their documents were told; these stations are left, whose ids stand from a place on.
pub record AreStored (all : List (ℕ × StationState SessionDevice)) (ids : List ℕ) (place : ℕ) (rest : List (StationState SessionDevice)) (books : List (ℕ × History)) (documents : List (ℕ × List (List ℕ)))
    : Type 0 where
  pub done : List (ℕ × StationState SessionDevice)
  pub are : all ≡ done ++ zip (drop place ids) rest
  pub count : length ids ≡ place + length rest
  pub stored : journals_of books ≡ map journal_under done
  pub told : documents ≡ flat_map printed_in done

-- The books hold the first of the journals.
pub some_stored : (all : List (ℕ × StationState SessionDevice)) (ids : List ℕ) (place : ℕ) (rest : List (StationState SessionDevice)) (books : List (ℕ × History)) (documents : List (ℕ × List (List ℕ)))
    → AreStored all ids place rest books documents → StoresSome (map journal_under all) books
some_stored all ids place rest books documents are =
    let left : List Stored = zip (drop place ids) rest in (
      map journal_under left,
      ap (λ (l : List Stored). map journal_under l) are.are ∙ map-append journal_under are.done left ∙ ap (λ (l : List (ℕ × List Item)). l ++ map journal_under left) (sym are.stored),
    )

journals_below : (k : ℕ) (done : List Stored) → AllByRecursion (λ (e : Stored). e.0 < k) done → AllByRecursion (λ (j : ℕ × List Item). j.0 < k) (map journal_under done)
journals_below k [] below = tt
journals_below k (e ∷ done) below = (below.0, journals_below k done below.1)

books_below : (k : ℕ) (books : List (ℕ × History)) → AllByRecursion (λ (j : ℕ × List Item). j.0 < k) (journals_of books) → AllByRecursion (λ (b : ℕ × History). b.0 < k) books
books_below k [] below = tt
books_below k (b ∷ books) below = (below.0, books_below k books below.1)

device_below : (k id : ℕ) (d : SessionDevice) → id < k → AllByRecursion (λ (e : ℕ × List (List ℕ)). e.0 < k) (by_device id d)
device_below k id (session.Drive s) under = tt
device_below k id (session.Printer s) under = (under, tt)

documents_below : (k : ℕ) (done : List Stored) → AllByRecursion (λ (e : Stored). e.0 < k) done → AllByRecursion (λ (e : ℕ × List (List ℕ)). e.0 < k) (flat_map printed_in done)
documents_below k [] below = tt
documents_below k (e ∷ done) below =
    let P : ℕ × List (List ℕ) → Type 0 = λ e. e.0 < k in
    subst (AllByRecursion P) (sym (flat_map-cons printed_in e done)) (all_append P (printed_in e) (flat_map printed_in done) (device_below k e.0 e.1.device below.0) (documents_below k done below.1))

-- The next station of some.
module _ (all : List (ℕ × StationState SessionDevice)) (ids : List ℕ) (place id d : ℕ) (rest behind : List (StationState SessionDevice)) (s : StationState SessionDevice) (books : List (ℕ × History))
    (documents : List (ℕ × List (List ℕ))) (are : AreStored all ids place rest books documents) (next : rest ≡ s ∷ behind)
  where
    -- it has an id
    pub next_within : place < length ids
    next_within = let more : length rest ≡ length (s ∷ behind) = ap length next in omega (arith, are.count, more)

    module _ (rise : IsStrictlySortedBy nat_cmp (keys_of all)) (at : id ≡ get_or ids place d) where
      left_are : zip (drop place ids) rest ≡ (id, s) ∷ zip (drop (place + 1) ids) behind
      left_are =
          ap (λ (l : List (StationState SessionDevice)). zip (drop place ids) l) next ∙ ap (λ (l : List ℕ). zip l (s ∷ behind)) (drop_more ids place d next_within)
          ∙ ap (λ (i : ℕ). (i, s) ∷ zip (drop (place + 1) ids) behind) (sym at)

      all_are : all ≡ are.done ++ (id, s) ∷ zip (drop (place + 1) ids) behind
      all_are = are.are ∙ ap (λ (l : List Stored). are.done ++ l) left_are

      done_below : AllByRecursion (λ (e : Stored). e.0 < id) are.done
      done_below = before_below are.done id s (zip (drop (place + 1) ids) behind) (subst (λ (l : List Stored). IsStrictlySortedBy nat_cmp (keys_of l)) all_are rise)

      stored_below : AllByRecursion (λ (b : ℕ × History). b.0 < id) books
      stored_below = books_below id books (subst (AllByRecursion (λ (j : ℕ × List Item). j.0 < id)) (sym are.stored) (journals_below id are.done done_below))

      -- its device has no journal in the books
      pub next_is_new : lookup (is_at (nat_cmp id)) books ≡ None
      next_is_new = none_after books id stored_below

      -- the documents told are of devices before its own
      pub next_after : AllByRecursion (λ (e : ℕ × List (List ℕ)). e.0 < id) documents
      next_after = subst (AllByRecursion (λ (e : ℕ × List (List ℕ)). e.0 < id)) (sym are.told) (documents_below id are.done done_below)

      -- its journal is put in, and its documents are told
      pub stored_more : (stored : List (ℕ × History)) (told : List (ℕ × List (List ℕ))) (journal : History) → stored ≡ insert_entry nat_cmp books id journal → journal.items ≡ s.journal
          → told ≡ documents ++ by_device id s.device → AreStored all ids (place + 1) behind stored told
      stored_more stored told journal put same added = record {
        done = are.done ++ (id, s) ∷ [];
        are = all_are ∙ sym (append_assoc are.done ((id, s) ∷ []) (zip (drop (place + 1) ids) behind));
        count = let more : length rest ≡ length (s ∷ behind) = ap length next in omega (arith, are.count, more);
        stored = ap journals_of (put ∙ put_after books id journal stored_below) ∙ map-append (λ (b : ℕ × History). (b.0, (b.1).items)) books ((id, journal) ∷ [])
            ∙ ap (λ (l : List (ℕ × List Item)). l ++ (id, journal.items) ∷ []) are.stored ∙ ap (λ (l : List Item). map journal_under are.done ++ (id, l) ∷ []) same
            ∙ sym (map-append journal_under are.done ((id, s) ∷ []));
        told = added ∙ ap (λ (l : List (ℕ × List (List ℕ))). l ++ by_device id s.device) are.told
            ∙ ap (λ (l : List (ℕ × List (List ℕ))). flat_map printed_in are.done ++ l) (sym (append-nil (by_device id s.device)) ∙ sym (flat_map-cons printed_in (id, s) []))
            ∙ sym (flat_map-append printed_in are.done ((id, s) ∷ []));
      }
