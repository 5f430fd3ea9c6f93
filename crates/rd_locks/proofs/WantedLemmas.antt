-- The locks that a request wants: what is in the way of them, range by range.
use Rattle.std.proofs.Common.{◌≡◌, ◌∙◌, sym, ap, refl, ℕ, suc, ◌<◌, Bool, not, true, false, List, [], ◌∷◌, ◌++◌, length, take, drop, append_assoc}
use Rattle.std.specs.Prelude.{find, Option, Some, None, is_some, slice_index_or}
use Rattle.std.specs.Option.{option_or}
use Rattle.std.proofs.Math.Seq.{drop-cons, take-suc}
use Rattle.std.proofs.lemmas.List.{map-append}
use Rattle.std.proofs.lemmas.List.Folds.{find-append}
use Rattle.rd_irp.specs.declared.op.Range.{Range}
use Rattle.rd_locks.specs.declared.held.Held.{Held}
use Rattle.rd_locks.specs.Locks.{is_in_way, wanted_locks, conflict}

abbrev pub nowhere : Range
nowhere = record { offset = 0; length = 0 }

pub flip : (a b : Bool) → a ≡ not b → b ≡ not a
flip true true e = e
flip true false e = refl
flip false true e = refl
flip false false e = e

-- a wanted lock comes before those of the ranges after it
pub wanted-drop : (node file : ℕ) (exclusive : Bool) (ranges : List Range) (i : ℕ) → i < length ranges
    → wanted_locks node file exclusive (drop i ranges) ≡ record { node = node; file = file; exclusive = exclusive; range = slice_index_or ranges i nowhere } ∷ wanted_locks node file exclusive (drop (suc i) ranges)
wanted-drop node file exclusive ranges i within = ap (λ (rs : List Range). wanted_locks node file exclusive rs) (drop-cons ranges i nowhere within)

-- and after those of the ranges before it
pub wanted-take : (node file : ℕ) (exclusive : Bool) (ranges : List Range) (i : ℕ) → i < length ranges
    → wanted_locks node file exclusive (take (suc i) ranges) ≡ wanted_locks node file exclusive (take i ranges) ++ record { node = node; file = file; exclusive = exclusive; range = slice_index_or ranges i nowhere } ∷ []
wanted-take node file exclusive ranges i within =
    ap (λ (rs : List Range). wanted_locks node file exclusive rs) (take-suc ranges i nowhere within)
    ∙ map-append (λ (range : Range). record { node = node; file = file; exclusive = exclusive; range = range }) (take i ranges) (slice_index_or ranges i nowhere ∷ [])

option_or-assoc : (a b c : Option Held) → option_or (option_or a b) c ≡ option_or a (option_or b c)
option_or-assoc None b c = refl
option_or-assoc (Some x) b c = refl

-- what is in the way from one range on: a lock that stands, one of an earlier range, or what is in the way from the next on
pub conflict-step : (locks : List Held) (node file : ℕ) (exclusive : Bool) (ranges : List Range) (i : ℕ) → i < length ranges
    → let wanted : Held = record { node = node; file = file; exclusive = exclusive; range = slice_index_or ranges i nowhere } in
    conflict (locks ++ wanted_locks node file exclusive (take i ranges)) (wanted_locks node file exclusive (drop i ranges))
    ≡ option_or (find (is_in_way wanted) locks) (option_or (find (is_in_way wanted) (wanted_locks node file exclusive (take i ranges)))
    (conflict (locks ++ wanted_locks node file exclusive (take (suc i) ranges)) (wanted_locks node file exclusive (drop (suc i) ranges))))
conflict-step locks node file exclusive ranges i within =
    let wanted : Held = record { node = node; file = file; exclusive = exclusive; range = slice_index_or ranges i nowhere } in
    let earlier : List Held = wanted_locks node file exclusive (take i ranges) in
    let later : List Held = wanted_locks node file exclusive (drop (suc i) ranges) in
    ap (λ (ws : List Held). conflict (locks ++ earlier) ws) (wanted-drop node file exclusive ranges i within)
    ∙ ap (λ (o : Option Held). option_or o (conflict (locks ++ earlier ++ wanted ∷ []) later)) (find-append (is_in_way wanted) locks earlier)
    ∙ option_or-assoc (find (is_in_way wanted) locks) (find (is_in_way wanted) earlier) (conflict (locks ++ earlier ++ wanted ∷ []) later)
    ∙ ap (λ (ls : List Held). option_or (find (is_in_way wanted) locks) (option_or (find (is_in_way wanted) earlier) (conflict ls later)))
    (append_assoc locks earlier (wanted ∷ []) ∙ ap (λ (ls : List Held). locks ++ ls) (sym (wanted-take node file exclusive ranges i within)))

-- the first of two that is there
pub or_first : (a b : Option Held) → is_some a ≡ true → option_or a b ≡ a
or_first None b e = absurd (cc)
or_first (Some x) b e = refl

pub or_second : (a b : Option Held) → is_some a ≡ false → option_or a b ≡ b
or_second None b e = refl
or_second (Some x) b e = absurd (cc)
