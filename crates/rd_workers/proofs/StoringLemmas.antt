-- Ids that rise, one after the other, each with its station, and then with its journal.
use Rattle.std.proofs.Common.{◌≡◌, ◌≢◌, ◌∙◌, ◌<◌, ◌+◌, ℕ, zero, suc, List, [], ◌∷◌, ◌++◌, append_assoc, arith, ap, sym, refl, subst, length, length-append, map, drop, take, get_or, None}
use Rattle.std.specs.Prelude.{All, zip}
use Rattle.std.specs.List.{AllByRecursion, AllZip}
use Rattle.std.specs.List.Sorted.{IsStrictlySortedBy}
use Rattle.std.specs.Map.{lookup}
use Rattle.std.specs.Ordering.{nat_cmp}
use Rattle.std.specs.declared.cmp.Ordering.TheVariants.{Less}
use Rattle.std.specs.BTreeMap.{insert_entry, is_at}
use Rattle.std.proofs.lemmas.List.{append-nil, length-take, map-append, take-append-drop, take_all, take_more}
use Rattle.std.proofs.lemmas.List.Elements.{All-cons, All-head, All-nil, All-push, All-same, All-tail, recursion_from_All}
use Rattle.rd_base.specs.declared.journal.Item.{Item}
use Rattle.rd_base.specs.History.{History}
use Rattle.rd_station.specs.Station.{StationState}
use Rattle.rd_pool.specs.Desks.{DeskPass, DesksState, DeskTurn, IsFirst}
use Rattle.rd_turn.specs.Pass.{first_pass}
use Rattle.rd_workers.specs.Passes.{AreNew}
use Rattle.rd_world.specs.Session.{StoresSome, journals_of}
use Rattle.rd_world.proofs.ApplicationsLemmas.{apart_at, below_of}
use Rattle.rd_world.proofs.FinishingLemmas.{put_after}

-- what stands behind is above
above_all : (x : ℕ) (ids : List ℕ) (place d : ℕ) → AllByRecursion (λ (y : ℕ). nat_cmp x y ≡ Less) ids → place < length ids → x < get_or ids place d
above_all x [] place d all within = absurd (omega (arith, within))
above_all x (y ∷ ids) zero d all within = below_of x y all.0
above_all x (y ∷ ids) (suc place) d all within = above_all x ids place d all.1 (omega (arith, within))

-- the ids before a place are below the one that stands there
pub below_at : (ids : List ℕ) (place d : ℕ) → IsStrictlySortedBy nat_cmp ids → place < length ids → All (λ (o : ℕ). o < get_or ids place d) (take place ids)
unfolding IsStrictlySortedBy
below_at [] place d rise within = absurd (omega (arith, within))
below_at (x ∷ ids) zero d rise within = All-nil (λ (o : ℕ). o < x)
below_at (x ∷ ids) (suc place) d rise within =
    All-cons (λ (o : ℕ). o < get_or ids place d) x (take place ids) (above_all x ids place d rise.0 (omega (arith, within))) (below_at ids place d rise.1 (omega (arith, within)))

-- ---- desks

module _ {S : Type 0} where
  -- Desks stand for the first stations, under their ids, and these are left.
  pub record AreOpened (ids : List ℕ) (all : List (StationState S)) (place : ℕ) (rest : List (StationState S)) (desks : DesksState S) (passes : List (DeskPass S)) : Type 0 where
    pub ids_are : desks.ids ≡ take place ids
    pub count : length ids ≡ place + length rest
    pub first : AllZip IsFirst desks.turns passes
    pub new : AreNew passes
    pub opened : map (λ (t : DeskTurn S). t.opening) desks.turns ++ rest ≡ all
    pub passes_are : passes ≡ map first_pass desks.turns

  pub opened_more : (ids : List ℕ) (all : List (StationState S)) (place : ℕ) (rest behind : List (StationState S)) (s : StationState S) (desks after : DesksState S) (passes new : List (DeskPass S))
      → AreOpened ids all place rest desks passes → rest ≡ s ∷ behind → place < length ids
      → (t : DeskTurn S) × (after ≡ record { ids = desks.ids ++ get_or ids place 0 ∷ []; turns = desks.turns ++ t ∷ [] }) × (t.opening ≡ s) × (new ≡ passes ++ first_pass t ∷ [])
      → AllZip IsFirst after.turns new → AreOpened ids all (place + 1) behind after new
  opened_more ids all place rest behind s desks after passes new are next within (t, added, opening, passed) first = record {
    ids_are = ap (λ (d : DesksState S). d.ids) added ∙ ap (λ (l : List ℕ). l ++ get_or ids place 0 ∷ []) are.ids_are ∙ sym (take_more ids place 0 within);
    count = let more : length rest ≡ length (s ∷ behind) = ap length next in let c = are.count in omega (arith, c, more);
    first = first;
    new = subst AreNew (sym passed) (All-push (λ (p : DeskPass S). (p.made ≡ 0) × (p.out ≡ 0) × (p.seen ≡ [])) passes (first_pass t) are.new (refl, refl, refl));
    opened = let f : DeskTurn S → StationState S = λ u. u.opening in
        ap (λ (d : DesksState S). map f d.turns ++ behind) added ∙ ap (λ (l : List (StationState S)). l ++ behind) (map-append f desks.turns (t ∷ []))
        ∙ append_assoc (map f desks.turns) (t.opening ∷ []) behind ∙ ap (λ (x : StationState S). map f desks.turns ++ x ∷ behind) opening
        ∙ ap (λ (l : List (StationState S)). map f desks.turns ++ l) (sym next) ∙ are.opened;
    passes_are = passed ∙ ap (λ (l : List (DeskPass S)). l ++ first_pass t ∷ []) are.passes_are ∙ sym (map-append first_pass desks.turns (t ∷ [])) ∙ ap (λ (d : DesksState S). map first_pass d.turns) (sym added);
  }

-- as many desks as stations
pub opened_count : {S : Type 0} (turns : List (DeskTurn S)) (list : List (StationState S)) → map (λ (t : DeskTurn S). t.opening) turns ≡ list → length turns ≡ length list
opened_count [] [] is = refl
opened_count [] (s ∷ list) is = absurd (cc is)
opened_count (t ∷ turns) [] is = absurd (cc is)
opened_count {S} (t ∷ turns) (s ∷ list) is = let more : map (λ (u : DeskTurn S). u.opening) turns ≡ list = cc is in let n = opened_count turns list more in omega (arith, n)

-- what holds of all openings
pub of_openings : {S : Type 0} (P : StationState S → Type 0) (turns : List (DeskTurn S)) (list : List (StationState S)) → map (λ (t : DeskTurn S). t.opening) turns ≡ list → All P list → All (λ (t : DeskTurn S). P t.opening) turns
of_openings {S} P [] list is all = All-nil (λ (t : DeskTurn S). P t.opening)
of_openings {S} P (t ∷ turns) list is all =
    let these : All P (t.opening ∷ map (λ (u : DeskTurn S). u.opening) turns) = All-same P (t.opening ∷ map (λ (u : DeskTurn S). u.opening) turns) list is all in
    All-cons (λ (u : DeskTurn S). P u.opening) t turns (All-head P t.opening (map (λ (u : DeskTurn S). u.opening) turns) these)
    (of_openings P turns (map (λ (u : DeskTurn S). u.opening) turns) refl (All-tail P t.opening (map (λ (u : DeskTurn S). u.opening) turns) these))

-- as many stand in a third list as in the first
pub zipped_count : {A B C : Type 0} (P : A × B → C → Type 0) (Q : A → B → Type 0) (xs : List A) (ys : List B) (zs : List C) → AllZip P (zip xs ys) zs → AllZip Q xs ys → length zs ≡ length xs
zipped_count P Q [] ys [] all also = refl
zipped_count P Q [] ys (z ∷ zs) all also = absurd all
zipped_count P Q (x ∷ xs) [] zs all also = absurd also
zipped_count P Q (x ∷ xs) (y ∷ ys) [] all also = absurd all
zipped_count P Q (x ∷ xs) (y ∷ ys) (z ∷ zs) all also = let more = zipped_count P Q xs ys zs all.1 also.1 in omega (arith, more)

-- ---- journals

none_after : (es : List (ℕ × History)) (k : ℕ) → AllByRecursion (λ (e : ℕ × History). e.0 < k) es → lookup (is_at (nat_cmp k)) es ≡ None
none_after [] k below = refl
none_after (e ∷ es) k below =
    let under : e.0 < k = below.0 in
    let apart : k ≢ e.0 = λ (same : k ≡ e.0). omega arith in
    rw (apart_at k e.0 apart) (none_after es k below.1)

-- under a number, whatever stands beside
under_all : (k : ℕ) (xs : List ℕ) (hs : List (List Item)) → AllByRecursion (λ (x : ℕ). x < k) xs → AllByRecursion (λ (e : ℕ × List Item). e.0 < k) (zip xs hs)
under_all k [] hs all = tt
under_all k (x ∷ xs) [] all = tt
under_all k (x ∷ xs) (h ∷ hs) all = (all.0, under_all k xs hs all.1)

books_under : (k : ℕ) (books : List (ℕ × History)) → AllByRecursion (λ (e : ℕ × List Item). e.0 < k) (journals_of books) → AllByRecursion (λ (e : ℕ × History). e.0 < k) books
books_under k [] all = tt
books_under k (b ∷ books) all = (all.0, books_under k books all.1)

zip_push : (xs : List ℕ) (hs : List (List Item)) (x : ℕ) (h : List Item) → length xs ≡ length hs → zip xs hs ++ (x, h) ∷ [] ≡ zip (xs ++ x ∷ []) (hs ++ h ∷ [])
zip_push [] [] x h same = refl
zip_push [] (k ∷ hs) x h same = absurd (omega (arith, same))
zip_push (y ∷ xs) [] x h same = absurd (omega (arith, same))
zip_push (y ∷ xs) (k ∷ hs) x h same = ap (λ (es : List (ℕ × List Item)). (y, k) ∷ es) (zip_push xs hs x h (omega (arith, same)))

zip_parts : (xs ys : List ℕ) (hs ks : List (List Item)) → length xs ≡ length hs → zip (xs ++ ys) (hs ++ ks) ≡ zip xs hs ++ zip ys ks
zip_parts [] ys [] ks same = refl
zip_parts [] ys (h ∷ hs) ks same = absurd (omega (arith, same))
zip_parts (x ∷ xs) ys [] ks same = absurd (omega (arith, same))
zip_parts (x ∷ xs) ys (h ∷ hs) ks same = ap (λ (es : List (ℕ × List Item)). (x, h) ∷ es) (zip_parts xs ys hs ks (omega (arith, same)))

mapped_count : {S : Type 0} (list : List (StationState S)) → length (map (λ (s : StationState S). s.journal) list) ≡ length list
mapped_count [] = refl
mapped_count (s ∷ list) = let more = mapped_count list in omega (arith, more)

module _ {S : Type 0} where
  abbrev pub journal_in : StationState S → List Item
  journal_in s = s.journal

  -- The journals of the first stations are in the books, under their ids, and these are left.
  pub record AreStored (ids : List ℕ) (all : List (StationState S)) (place : ℕ) (rest : List (StationState S)) (books : List (ℕ × History)) : Type 0 where
    pub done : List (StationState S)
    pub are : all ≡ done ++ rest
    pub count : length ids ≡ place + length rest
    pub many : length done ≡ place
    pub stored : journals_of books ≡ zip (take place ids) (map journal_in done)

  pub stored_none : (ids : List ℕ) (all : List (StationState S)) (books : List (ℕ × History)) → length all ≡ length ids → books ≡ [] → AreStored ids all 0 all books
  stored_none ids all books same none = record { done = []; are = refl; count = omega (arith, same); many = refl; stored = ap journals_of none }

  pub stored_all : (ids : List ℕ) (all : List (StationState S)) (place : ℕ) (rest : List (StationState S)) (books : List (ℕ × History)) → AreStored ids all place rest books → rest ≡ []
      → journals_of books ≡ zip ids (map journal_in all)
  stored_all ids all place rest books are none =
      let counted : length ids ≡ place = (let l = ap length none in let c = are.count in omega (arith, c, l)) in
      let whole : all ≡ are.done = are.are ∙ ap (λ (l : List (StationState S)). are.done ++ l) none ∙ append-nil are.done in
      are.stored ∙ ap (λ (l : List ℕ). zip l (map journal_in are.done)) (take_all place ids (omega (arith, counted))) ∙ ap (λ (l : List (StationState S)). zip ids (map journal_in l)) (sym whole)

  -- The books hold the first of the journals.
  pub stored_some : (ids : List ℕ) (all : List (StationState S)) (place : ℕ) (rest : List (StationState S)) (books : List (ℕ × History)) → AreStored ids all place rest books → StoresSome (zip ids (map journal_in all)) books
  stored_some ids all place rest books are = (
    zip (drop place ids) (map journal_in rest),
    ap (λ (l : List ℕ). zip l (map journal_in all)) (sym (take-append-drop place ids))
        ∙ ap (λ (l : List (StationState S)). zip (take place ids ++ drop place ids) (map journal_in l)) are.are
        ∙ ap (zip (take place ids ++ drop place ids)) (map-append journal_in are.done rest)
        ∙ zip_parts (take place ids) (drop place ids) (map journal_in are.done) (map journal_in rest) (let m = are.many in let c = are.count in omega (arith, m, c, length-take place ids, mapped_count are.done))
        ∙ ap (λ (l : List (ℕ × List Item)). l ++ zip (drop place ids) (map journal_in rest)) (sym are.stored),
  )

  -- the next station of some
  module _ (ids : List ℕ) (all : List (StationState S)) (place id d : ℕ) (rest behind : List (StationState S)) (s : StationState S) (books : List (ℕ × History)) (are : AreStored ids all place rest books)
      (next : rest ≡ s ∷ behind)
    where
      pub next_within : place < length ids
      next_within = let more : length rest ≡ length (s ∷ behind) = ap length next in let c = are.count in omega (arith, c, more)

      module _ (rise : IsStrictlySortedBy nat_cmp ids) (at : id ≡ get_or ids place d) where
        below : AllByRecursion (λ (e : ℕ × History). e.0 < id) books
        below =
            books_under id books (subst (AllByRecursion (λ (e : ℕ × List Item). e.0 < id)) (sym are.stored)
            (under_all id (take place ids) (map journal_in are.done) (recursion_from_All (λ (o : ℕ). o < id) (take place ids) (subst (λ (k : ℕ). All (λ (o : ℕ). o < k) (take place ids)) (sym at) (below_at ids place d rise next_within)))))

        pub next_new : lookup (is_at (nat_cmp id)) books ≡ None
        next_new = none_after books id below

        pub stored_more : (new : List (ℕ × History)) (journal : History) → new ≡ insert_entry nat_cmp books id journal → journal.items ≡ s.journal → AreStored ids all (place + 1) behind new
        stored_more new journal put same = record {
          done = are.done ++ s ∷ [];
          are = are.are ∙ ap (λ (l : List (StationState S)). are.done ++ l) next ∙ sym (append_assoc are.done (s ∷ []) behind);
          count = let more : length rest ≡ length (s ∷ behind) = ap length next in let c = are.count in omega (arith, c, more);
          many = let m = are.many in omega (arith, m, length-append are.done (s ∷ []));
          stored = ap journals_of (put ∙ put_after books id journal below) ∙ map-append (λ (b : ℕ × History). (b.0, (b.1).items)) books ((id, journal) ∷ [])
              ∙ ap (λ (l : List (ℕ × List Item)). l ++ (id, journal.items) ∷ []) are.stored ∙ ap (λ (l : List Item). zip (take place ids) (map journal_in are.done) ++ (id, l) ∷ []) same
              ∙ zip_push (take place ids) (map journal_in are.done) id s.journal (let m = are.many in omega (arith, m, next_within, length-take place ids, mapped_count are.done))
              ∙ ap (λ (l : List ℕ). zip l (map journal_in are.done ++ s.journal ∷ [])) (ap (λ (k : ℕ). take place ids ++ k ∷ []) at ∙ sym (take_more ids place d next_within))
              ∙ ap (zip (take (place + 1) ids)) (sym (map-append journal_in are.done (s ∷ [])));
        }
