-- Paths: their parts one after the other, as the code cuts them.
use Rattle.std.proofs.Common.{◌≡◌, ◌≢◌, ℕ, ◌+◌, ◌-◌, ◌<◌, ◌≤◌, Bool, true, false, ◌&&◌, ◌==◌, nat_lt, nat_le, sum_by, cond, List, [], ◌∷◌, length, map, take, drop, get_or, Option, Some, None, position, refl, sym, ◌∙◌, ap, arith, add-one, suc, zero, not, length-drop, length-take-le}
use Rattle.std.proofs.Math.Nat.{le_refl}
use Rattle.std.specs.List.{position_or_len, last_or, list_all}
use Rattle.std.proofs.lemmas.Bool.{not-true, ltb-false, ltb-true, leb-true, le-leb}
use Rattle.std.proofs.lemmas.List.Sums.{prefix_len_passes, sum_by-cons}
use Rattle.std.proofs.lemmas.List.Quantifiers.{position-Some}
use Rattle.std.proofs.lemmas.Option.{none-some}
use Rattle.std.proofs.Math.Dec.{eqb-suc-zero}
use Rattle.rd_dirinfo.specs.Naming.{Name}
use Rattle.rd_dirinfo.specs.Paths.{backslash, to_first, parts_of, Part, placed_parts, without_empty_first, without_empty_end, rest_parts, named_parts, names_of, first_bad, path_fault, or_too_long, path_len, is_name, is_path, most_names, most_path_units}

-- ---- the first part

position_none : (p : ℕ → Bool) (xs : List ℕ) → position p xs ≡ None → (k : ℕ) → k < length xs → p (get_or xs k 0) ≡ false
position_none p xs = of (nat_lt (position_or_len p xs) (length xs)) refl
  where
    of : (b : Bool) → nat_lt (position_or_len p xs) (length xs) ≡ b → cond b (Some (position_or_len p xs)) None ≡ None → (k : ℕ) → k < length xs → p (get_or xs k 0) ≡ false
    of true e h k below = absurd (none-some (position_or_len p xs) (sym h))
    of false e h k below =
        let enough : length xs ≤ position_or_len p xs = ltb-false (position_or_len p xs) (length xs) e in
        let within : k < position_or_len p xs = omega arith in
        not-true (p (get_or xs k 0)) (prefix_len_passes (λ (x : ℕ). not (p x)) xs k 0 within)

cut_none : (units : List ℕ) → ((k : ℕ) → k < length units → (get_or units k 0 == backslash) ≡ false) → parts_of units ≡ units ∷ []
cut_none [] h = refl
cut_none (u ∷ us) h =
    let first : (u == backslash) ≡ false = h 0 (omega arith) in
    rw (first, cut_none us (λ k below. h (suc k) (omega arith))) refl

cut_at : (units : List ℕ) (i : ℕ) → i < length units → (get_or units i 0 == backslash) ≡ true → ((k : ℕ) → k < i → (get_or units k 0 == backslash) ≡ false) → parts_of units ≡ take i units ∷ parts_of (drop (suc i) units)
cut_at [] i below is before = absurd (omega arith)
cut_at (u ∷ us) zero below is before = rw is refl
cut_at (u ∷ us) (suc i) below is before =
    let first : (u == backslash) ≡ false = before 0 (omega arith) in
    rw (first, cut_at us i (omega arith) is (λ k h. before (suc k) (omega arith))) refl

pub parts_without : (units : List ℕ) → position (λ (unit : ℕ). unit == backslash) units ≡ None → parts_of units ≡ units ∷ []
parts_without units h = cut_none units (position_none (λ (unit : ℕ). unit == backslash) units h)

pub parts_with : (units : List ℕ) (i : ℕ) → position (λ (unit : ℕ). unit == backslash) units ≡ Some i → parts_of units ≡ take i units ∷ parts_of (drop (i + 1) units)
parts_with units i h =
    let there = position-Some (λ (unit : ℕ). unit == backslash) units i 0 h in
    cut_at units i there.0 there.1 there.2 ∙ ap (λ (n : ℕ). take i units ∷ parts_of (drop n units)) (sym (add-one i))

-- ---- the parts that are left

some_part : (units : List ℕ) → (p : Name) × (ps : List Name) × (parts_of units ≡ p ∷ ps)
some_part [] = ([], [], refl)
some_part (u ∷ us) = of (u == backslash) (some_part us)
  where
    of : (b : Bool) → (p : Name) × (ps : List Name) × (parts_of us ≡ p ∷ ps) → (p : Name) × (ps : List Name) × (cond b ([] ∷ parts_of us) (to_first u (parts_of us)) ≡ p ∷ ps)
    of true rest = ([], parts_of us, refl)
    of false rest = (u ∷ rest.0, rest.1, ap (to_first u) rest.2)

placed_some : (at : ℕ) (units : List ℕ) → (length (placed_parts at (parts_of units)) == 0) ≡ false
placed_some at units =
    let some = some_part units in
    ap (λ (parts : List Name). length (placed_parts at parts) == 0) some.2 ∙ eqb-suc-zero (length (placed_parts (at + length some.0 + 1) some.1))

end_more : (part : Part) (parts : List Part) → (length parts == 0) ≡ false → without_empty_end (part ∷ parts) ≡ part ∷ without_empty_end parts
end_more part parts h = rw h refl

end_last : (at : ℕ) (name : Name) → name ≢ [] → without_empty_end (record { at = at; name = name } ∷ []) ≡ record { at = at; name = name } ∷ []
end_last at [] some = absurd (some refl)
end_last at (u ∷ us) some = rw (eqb-suc-zero (length us)) refl

pub rest_with : (at : ℕ) (units : List ℕ) (i : ℕ) → position (λ (unit : ℕ). unit == backslash) units ≡ Some i → rest_parts at units ≡ record { at = at; name = take i units } ∷ rest_parts (at + length (take i units) + 1) (drop (i + 1) units)
rest_with at units i h =
    ap (λ (parts : List Name). without_empty_end (placed_parts at parts)) (parts_with units i h)
    ∙ end_more (record { at = at; name = take i units }) (placed_parts (at + length (take i units) + 1) (parts_of (drop (i + 1) units))) (placed_some (at + length (take i units) + 1) (drop (i + 1) units))

pub rest_without : (at : ℕ) (units : List ℕ) → position (λ (unit : ℕ). unit == backslash) units ≡ None → units ≢ [] → rest_parts at units ≡ record { at = at; name = units } ∷ []
rest_without at units h some = ap (λ (parts : List Name). without_empty_end (placed_parts at parts)) (parts_without units h) ∙ end_last at units some

-- ---- the last part

last_more : (part : Part) (parts : List Part) → (length parts == 0) ≡ false → last_or None (part ∷ parts) ≡ last_or None parts
last_more part [] h = absurd (cc)
last_more part (other ∷ parts) h = refl

pub last_with : (at : ℕ) (units : List ℕ) (i : ℕ) → position (λ (unit : ℕ). unit == backslash) units ≡ Some i → last_or None (placed_parts at (parts_of units)) ≡ last_or None (placed_parts (at + length (take i units) + 1) (parts_of (drop (i + 1) units)))
last_with at units i h =
    ap (λ (parts : List Name). last_or None (placed_parts at parts)) (parts_with units i h)
    ∙ last_more (record { at = at; name = take i units }) (placed_parts (at + length (take i units) + 1) (parts_of (drop (i + 1) units))) (placed_some (at + length (take i units) + 1) (drop (i + 1) units))

-- where what comes after a backslash begins
pub after_at : (whole : ℕ) (rest others : List ℕ) (i : ℕ) → position (λ (unit : ℕ). unit == backslash) rest ≡ Some i → length rest ≤ whole → others ≡ drop (i + 1) rest → (whole - length rest + length (take i rest) + 1 ≡ whole - length others) × (length others ≤ whole)
after_at whole rest others i found within is =
    let there : i < length rest = (position-Some (λ (unit : ℕ). unit == backslash) rest i 0 found).0 in
    let left : length others ≡ length rest - (i + 1) = ap length is ∙ length-drop (i + 1) rest in
    let taken : length (take i rest) ≡ i = length-take-le i rest (omega arith) in
    (omega arith, omega arith)

-- ---- a path is within the limits

-- the units of names, with one more for each
weight : List Name → ℕ
weight [] = 0
weight (name ∷ names) = length name + weight names + 1

weight_sum : (names : List Name) → weight names ≡ sum_by (λ (name : Name). length name) names + length names
unfolding weight
weight_sum [] = refl
weight_sum (name ∷ names) = let first = sum_by-cons (λ (other : Name). length other) name names in let others = weight_sum names in omega arith

weight_parts : (units : List ℕ) → weight (parts_of units) ≡ length units + 1
unfolding weight
weight_parts [] = refl
weight_parts (u ∷ us) = of (u == backslash) (some_part us) (weight_parts us)
  where
    of : (b : Bool) → (p : Name) × (ps : List Name) × (parts_of us ≡ p ∷ ps) → weight (parts_of us) ≡ length us + 1 → weight (cond b ([] ∷ parts_of us) (to_first u (parts_of us))) ≡ length (u ∷ us) + 1
    of true some h = omega arith
    of false some h =
        let first : weight (some.0 ∷ some.1) ≡ length us + 1 = ap weight (sym some.2) ∙ h in
        let more : weight (to_first u (some.0 ∷ some.1)) ≡ length (u ∷ us) + 1 = omega arith in
        ap (λ (ps : List Name). weight (to_first u ps)) some.2 ∙ more

-- the names of parts
names_in : List Part → List Name
names_in = map (λ (part : Part). part.name)

names_placed : (at : ℕ) (names : List Name) → names_in (placed_parts at names) ≡ names
unfolding names_in
names_placed at [] = refl
names_placed at (name ∷ names) = ap (λ (others : List Name). name ∷ others) (names_placed (at + length name + 1) names)

weight_first : (parts : List Part) → weight (names_in (without_empty_first parts)) ≤ weight (names_in parts)
unfolding weight names_in
weight_first [] = le_refl 0
weight_first (part ∷ parts) = of (length part.name == 0)
  where
    of : (b : Bool) → weight (names_in (cond b parts (part ∷ parts))) ≤ weight (names_in (part ∷ parts))
    of true = omega arith
    of false = omega arith

weight_end : (parts : List Part) → weight (names_in (without_empty_end parts)) ≤ weight (names_in parts)
unfolding weight names_in
weight_end [] = le_refl 0
weight_end (part ∷ parts) = of (length parts == 0 && length part.name == 0) (weight_end parts)
  where
    of : (b : Bool) → weight (names_in (without_empty_end parts)) ≤ weight (names_in parts) → weight (names_in (cond b [] (part ∷ without_empty_end parts))) ≤ weight (names_in (part ∷ parts))
    of true h = omega arith
    of false h = omega arith

len_of : (names : List Name) (n : ℕ) → weight names ≤ n + 1 → path_len names ≤ n
len_of [] n h = omega arith
len_of (name ∷ names) n h = let sum = weight_sum (name ∷ names) in omega arith

len_within : (units : List ℕ) → path_len (names_of units) ≤ length units
unfolding names_in
len_within units =
    let all : weight (names_in (placed_parts 0 (parts_of units))) ≡ length units + 1 = ap weight (names_placed 0 (parts_of units)) ∙ weight_parts units in
    let prefix = weight_first (placed_parts 0 (parts_of units)) in
    let end = weight_end (without_empty_first (placed_parts 0 (parts_of units))) in
    len_of (names_of units) (length units) (omega arith)

good_names : (room : ℕ) (parts : List Part) → first_bad room parts ≡ None → (list_all is_name (names_in parts) ≡ true) × (length (names_in parts) ≤ room)
unfolding names_in
good_names room [] h = (refl, omega arith)
good_names room (part ∷ parts) h = of (nat_lt 0 room) refl (is_name part.name) refl (good_names (room - 1) parts) h
  where
    of : (b : Bool) → nat_lt 0 room ≡ b → (n : Bool) → is_name part.name ≡ n → (first_bad (room - 1) parts ≡ None → (list_all is_name (names_in parts) ≡ true) × (length (names_in parts) ≤ room - 1)) → cond (b && n) (first_bad (room - 1) parts) (Some part.at) ≡ None → (list_all is_name (names_in (part ∷ parts)) ≡ true) × (length (names_in (part ∷ parts)) ≤ room)
    of true e true f later h =
        let rest = later h in
        let some : 0 < room = ltb-true 0 room e in
        ((λ i. f i && rest.0 i), omega arith)
    of true e false f later h = absurd (none-some part.at (sym h))
    of false e n f later h = absurd (none-some part.at (sym h))

pub path_is_within : (units : List ℕ) → path_fault units ≡ None → is_path (names_of units) ≡ true
unfolding names_in
path_is_within units = of (first_bad most_names (named_parts units)) refl
  where
    of : (o : Option ℕ) → first_bad most_names (named_parts units) ≡ o → or_too_long units o ≡ None → is_path (names_of units) ≡ true
    of (Some at) e h = absurd (none-some at (sym h))
    of None e h = by (nat_le (length units) most_path_units) refl h
      where
        by : (b : Bool) → nat_le (length units) most_path_units ≡ b → cond b None (Some most_path_units) ≡ None → is_path (names_of units) ≡ true
        by false f g = absurd (none-some most_path_units (sym g))
        by true f g =
            let good = good_names most_names (named_parts units) e in
            let long : length units ≤ most_path_units = leb-true (length units) most_path_units f in
            let len = len_within units in
            let within : path_len (names_of units) ≤ most_path_units = omega arith in
            (λ i. good.0 i && (le-leb (length (names_of units)) most_names good.1 i && le-leb (path_len (names_of units)) most_path_units within i))
