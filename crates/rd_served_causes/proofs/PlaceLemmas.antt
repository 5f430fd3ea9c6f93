-- Desks keep their devices, so a device that has no desk has none later.
use Rattle.std.proofs.Common.{◌≡◌, ◌∙◌, refl, sym, ap, ℕ, zero, suc, ◌+◌, ◌<◌, ◌==◌, Bool, true, false, cond, List, [], ◌∷◌, map, Option, Some, None, arith, length, nat_lt, slice_get, slice_set, eq-eqb}
use Rattle.std.specs.Prelude.{position}
use Rattle.std.specs.List.{position_or_len}
use Rattle.std.specs.Map.{lookup}
use Rattle.std.specs.Option.{option_map_or}
use Rattle.std.specs.Ordering.{nat_cmp}
use Rattle.std.specs.BTreeMap.{is_at}
use Rattle.std.proofs.lemmas.Bool.{lt-ltb}
use Rattle.std.proofs.lemmas.List.{length-map}
use Rattle.rd_base.specs.declared.journal.Item.{Item}
use Rattle.rd_client.specs.Core as client
use Rattle.rd_front.specs.Front.{desk_place, with_new_data}
use Rattle.rd_front.specs.State.{DeviceDeskState, FrontState, SessionStation}
use Rattle.rd_declared.specs.Devices.{PrinterNames, printer_data}
use Rattle.rd_served_order.specs.ServedParts.{EndsEach, FrontPart, PartGoes, begins, calls, directs, ends, forgets, hears, keeps, learns, misplaces, refreshes, sends, tells_gone, tells_there, tries, unwritten, writes}
use Rattle.rd_served_order.specs.ServedServed.{Served}

abbrev Of : Type 0
Of = SessionStation

abbrev pub ids_of : List DeviceDeskState → List ℕ
ids_of ds = map (λ (d : DeviceDeskState). d.id) ds

-- ---- places by ids

place_cons : {A : Type 0} (p : A → Bool) (x : A) (xs : List A) → position_or_len p (x ∷ xs) ≡ cond (p x) 0 (1 + position_or_len p xs)
place_cons {A} p x xs = by (p x) refl
  where
    by : (b : Bool) → p x ≡ b → position_or_len p (x ∷ xs) ≡ cond b 0 (1 + position_or_len p xs)
    by true e = rw e refl
    by false e = rw e refl

place_map : {A B : Type 0} (f : A → B) (p : B → Bool) (xs : List A) → position_or_len (λ x. p (f x)) xs ≡ position_or_len p (map f xs)
place_map f p [] = refl
place_map f p (x ∷ xs) = place_cons (λ y. p (f y)) x xs ∙ ap (λ (n : ℕ). cond (p (f x)) 0 (1 + n)) (place_map f p xs) ∙ sym (place_cons p (f x) (map f xs))

pub by_ids : (ds : List DeviceDeskState) (device : ℕ) → desk_place ds device ≡ position (λ (n : ℕ). n == device) (ids_of ds)
by_ids ds device =
    let first = place_map (λ (d : DeviceDeskState). d.id) (λ (n : ℕ). n == device) ds in
    let size = length-map ds (λ (d : DeviceDeskState). d.id) in
    λ i. cond (nat_lt (first i) (sym size i)) (Some (first i)) None

-- what passes is before the end
within : {A : Type 0} (p : A → Bool) (xs : List A) (i : ℕ) (x : A) → slice_get xs i ≡ Some x → p x ≡ true → position_or_len p xs < length xs
within p [] i x is passes = absurd (cc (is))
within {A} p (y ∷ xs) zero x is passes =
    let same : y ≡ x = cc (is) in
    let here : position_or_len p (y ∷ xs) ≡ 0 = place_cons p y xs ∙ ap (λ (b : Bool). cond b 0 (1 + position_or_len p xs)) (ap p same ∙ passes) in
    omega (arith, here)
within {A} p (y ∷ xs) (suc i) x is passes = by (p y) (place_cons p y xs) (within p xs i x is passes)
  where
    by : (b : Bool) → position_or_len p (y ∷ xs) ≡ cond b 0 (1 + position_or_len p xs) → position_or_len p xs < length xs → position_or_len p (y ∷ xs) < length (y ∷ xs)
    by true e later = omega (arith, e)
    by false e later = omega (arith, e, later)

-- the desk of a device has a place
pub has_place : (ds : List DeviceDeskState) (place : ℕ) (d : DeviceDeskState) (device : ℕ) → slice_get ds place ≡ Some d → d.id ≡ device → desk_place ds device ≡ None → ⊥
has_place ds place d device there same none =
    let test : DeviceDeskState → Bool = λ (x : DeviceDeskState). x.id == device in
    let low = lt-ltb (position_or_len test ds) (length ds) (within test ds place d there (eq-eqb d.id device same)) in
    let some : desk_place ds device ≡ Some (position_or_len test ds) = ap (λ (b : Bool). cond b (Some (position_or_len test ds)) None) low in
    cc (some, none)

-- ---- each part

set_ids : (ds : List DeviceDeskState) (place : ℕ) (d e : DeviceDeskState) → slice_get ds place ≡ Some d → e.id ≡ d.id → ids_of (slice_set ds place e) ≡ ids_of ds
set_ids [] place d e there same = refl
set_ids (x ∷ ds) zero d e there same = let equal : x ≡ d = cc (there) in ap (λ (n : ℕ). n ∷ ids_of ds) (same ∙ ap (λ (y : DeviceDeskState). y.id) (sym equal))
set_ids (x ∷ ds) (suc place) d e there same = ap (λ (ns : List ℕ). x.id ∷ ns) (set_ids ds place d e there same)

ends_ids : (over : Bool) (ds : List DeviceDeskState) (ss : List Of) (ts : List (ℕ × List Item)) (es : List DeviceDeskState) (us : List Of) → EndsEach over ds ss ts es us → ids_of es ≡ ids_of ds
ends_ids over [] [] [] [] [] ended = refl
ends_ids over (d ∷ ds) (s ∷ ss) (t ∷ ts) (e ∷ es) (u ∷ us) ended = λ i. (ended.2).id i ∷ ends_ids over ds ss ts es us ended.3 i
ends_ids over ds ss ts es us ended = absurd ended

refreshed_desks : (s : FrontState) (device : ℕ) → (with_new_data s device).desks ≡ s.desks
refreshed_desks s device = by (lookup (is_at (nat_cmp device)) s.printers)
  where
    by : (o : Option PrinterNames) → (option_map_or (λ (names : PrinterNames). record s { client = client.refresh s.client device (printer_data s.cache names) }) o s).desks ≡ s.desks
    by None = refl
    by (Some names) = refl

pub part_ids : (p q : Served) (x : FrontPart) → PartGoes p x q → ids_of (q.front).desks ≡ ids_of (p.front).desks
part_ids p q (hears channel m answer) goes = ap (λ (s : FrontState). ids_of s.desks) (goes.3).1
part_ids p q tries goes = ap (λ (s : Served). ids_of (s.front).desks) goes.4
part_ids p q keeps goes = ap (λ (s : Served). ids_of (s.front).desks) goes.3
part_ids p q forgets goes = ap (λ (s : Served). ids_of (s.front).desks) goes.4
part_ids p q misplaces goes = ap (λ (s : Served). ids_of (s.front).desks) goes.3
part_ids p q (directs st answer) goes = ap (λ (s : FrontState). ids_of s.desks) (goes.2).1
part_ids p q (calls place id does back items) goes = ap (λ (s : FrontState). ids_of s.desks) goes.front_is ∙ set_ids (p.front).desks place goes.before goes.after goes.there (goes.called).id
part_ids p q (tells_gone device answer) goes = ap (λ (s : FrontState). ids_of s.desks) (goes.0).1
part_ids p q (tells_there device answer) goes = ap (λ (s : FrontState). ids_of s.desks) (goes.0).1
part_ids p q (sends channel sent) goes = ap (λ (s : FrontState). ids_of s.desks) (goes.1).1
part_ids p q (writes device c) goes = ap (λ (s : Served). ids_of (s.front).desks) goes.1
part_ids p q (unwritten device c) goes = ap (λ (s : Served). ids_of (s.front).desks) goes.1
part_ids p q (learns n answer) goes = ap (λ (s : Served). ids_of (s.front).desks) goes.1
part_ids p q (refreshes device) goes = ap (λ (s : Served). ids_of (s.front).desks) goes ∙ ap ids_of (refreshed_desks p.front device)
part_ids p q (begins channel) goes = ap (λ (s : Served). ids_of (s.front).desks) goes.3
part_ids p q (ends over told) goes = ends_ids over (p.front).desks p.stations told (q.front).desks q.stations goes.1

-- a device has no desk by the same ids
pub none_by : (ds es : List DeviceDeskState) (device : ℕ) → ids_of ds ≡ ids_of es → desk_place ds device ≡ None → desk_place es device ≡ None
none_by ds es device same none = by_ids es device ∙ ap (position (λ (n : ℕ). n == device)) (sym same) ∙ sym (by_ids ds device) ∙ none
