-- The course of a channel through what is heard on it, and what ends a request on it.
use Rattle.std.proofs.Common.{◌≡◌, ◌⊎◌, ◌∙◌, refl, sym, ap, subst, inl, inr, ℕ, ◌+◌, ◌<◌, ◌≤◌, ◌==◌, ◌&&◌, Bool, true, false, cond, List, [], ◌∷◌, ◌++◌, length, Some, None, Option, arith, length-append, ne_eqb, eqb-true}
use Rattle.std.specs.Prelude.{filter}
use Rattle.std.specs.Option.{option_map_or, option_or}
use Rattle.std.specs.Ordering.{nat_cmp}
use Rattle.std.specs.List.Sorted.{IsStrictlySortedBy}
use Rattle.std.specs.Map.{keys_of, lookup, remove_entry}
use Rattle.std.specs.BTreeMap.{insert_entry, is_at}
use Rattle.std.proofs.lemmas.List.Elements.{filter-append}
use Rattle.std.proofs.lemmas.Bool.{cases_eq}
use Rattle.rd_irp.specs.declared.completion.Head.{Head}
use Rattle.rd_pending.specs.declared.calls.Outcome.{Outcome}
use Rattle.rd_pending.specs.Outcomes.{Accepted, Course, Tidings, begins, completes, course_from, ended_by, ended_in, going_on, head_has_pair, is_in_life, removes}
use Rattle.rd_pending.proofs.MapLemmas.{beside, gone, inserted, kept, rises_with, rises_without}

-- the course after what is heard
abbrev pub through : Course → List Tidings → Course
through k [] = k
through k (x ∷ xs) = through (going_on k x) xs

pub through_more : (k : Course) (xs ys : List Tidings) → through k (xs ++ ys) ≡ through (through k xs) ys
through_more k [] ys = refl
through_more k (x ∷ xs) ys = through_more (going_on k x) xs ys

-- how many completions with a pair were heard
abbrev pub heard_pairs : ℕ → ℕ → Course → ℕ
heard_pairs d i k = length (filter (head_has_pair d i) k.heads)

-- ---- first ends

pub or_none : (o : Option Outcome) → option_or o None ≡ o
or_none None = refl
or_none (Some o) = refl

pub or_assoc : (a b c : Option Outcome) → option_or (option_or a b) c ≡ option_or a (option_or b c)
or_assoc None b c = refl
or_assoc (Some o) b c = refl

pub ended_more : (a : Accepted) (m : ℕ) (k : Course) (xs ys : List Tidings) → ended_in a m k (xs ++ ys) ≡ option_or (ended_in a m k xs) (ended_in a m (through k xs) ys)
ended_more a m k [] ys = refl
ended_more a m k (x ∷ xs) ys =
    ap (option_or (ended_by a m k x)) (ended_more a m (going_on k x) xs ys) ∙ sym (or_assoc (ended_by a m k x) (ended_in a m (going_on k x) xs) (ended_in a m (through (going_on k x) xs) ys))

-- ---- what goes on in a course

-- lives are numbered up to those given, and devices rise
pub record IsCourse (k : Course) : Type 0 where
  pub rising : IsStrictlySortedBy nat_cmp (keys_of k.lives)
  pub bounded : (d l : ℕ) → lookup (is_at (nat_cmp d)) k.lives ≡ Some l → l ≤ k.given

pub course_begins : (given : ℕ) → IsCourse (course_from given)
unfolding IsStrictlySortedBy
course_begins given = record { rising = tt; bounded = λ d l e. absurd (cc e) }

pub course_on : (k : Course) (x : Tidings) → IsCourse k → IsCourse (going_on k x)
course_on k (begins d) is = record {
  rising = rises_with d (k.given + 1) k.lives is.rising;
  bounded = λ e l found. elim (cases_eq e d) [
    | inl same ↦
        let here : lookup (is_at (nat_cmp e)) (insert_entry nat_cmp k.lives d (k.given + 1)) ≡ Some (k.given + 1) = subst (λ (x : ℕ). lookup (is_at (nat_cmp x)) (insert_entry nat_cmp k.lives d (k.given + 1)) ≡ Some (k.given + 1)) (sym same) (inserted d (k.given + 1) k.lives) in
        let l_is : k.given + 1 ≡ l = cc (here, found) in
        omega (arith, l_is)
    | inr other ↦
        let old : l ≤ k.given = is.bounded e l (sym (beside d (k.given + 1) e other k.lives) ∙ found) in
        omega (arith, old)
  ];
}
course_on k (removes d) is = record {
  rising = rises_without (is_at (nat_cmp d)) k.lives is.rising;
  bounded = λ e l found. elim (cases_eq e d) [
    | inl same ↦
        let none : lookup (is_at (nat_cmp e)) (remove_entry (is_at (nat_cmp d)) k.lives) ≡ None = subst (λ (x : ℕ). lookup (is_at (nat_cmp x)) (remove_entry (is_at (nat_cmp d)) k.lives) ≡ None) (sym same) (gone d k.lives is.rising) in
        absurd (cc (none, found))
    | inr other ↦ is.bounded e l (sym (kept d e other k.lives) ∙ found)
  ];
}
course_on k (completes head bytes) is = record { rising = is.rising; bounded = is.bounded }

-- a life that is there later was there before, or was given since
later_life : (k : Course) (xs : List Tidings) (d l : ℕ) → IsCourse k → lookup (is_at (nat_cmp d)) (through k xs).lives ≡ Some l
    → (lookup (is_at (nat_cmp d)) k.lives ≡ Some l) ⊎ (k.given < l)
later_life k [] d l is found = inl found
later_life k (begins e ∷ xs) d l is found = elim (later_life (going_on k (begins e)) xs d l (course_on k (begins e) is) found) [
  | inl here ↦ elim (cases_eq d e) [
    | inl same ↦
        let new : lookup (is_at (nat_cmp d)) (insert_entry nat_cmp k.lives e (k.given + 1)) ≡ Some (k.given + 1) = subst (λ (x : ℕ). lookup (is_at (nat_cmp x)) (insert_entry nat_cmp k.lives e (k.given + 1)) ≡ Some (k.given + 1)) (sym same) (inserted e (k.given + 1) k.lives) in
        let l_is : k.given + 1 ≡ l = cc (new, here) in
        inr (omega (arith, l_is))
    | inr other ↦ inl (sym (beside e (k.given + 1) d other k.lives) ∙ here)
  ]
  | inr more ↦ inr (omega (arith, more))
]
later_life k (removes e ∷ xs) d l is found = elim (later_life (going_on k (removes e)) xs d l (course_on k (removes e) is) found) [
  | inl here ↦ elim (cases_eq d e) [
    | inl same ↦
        let none : lookup (is_at (nat_cmp d)) (remove_entry (is_at (nat_cmp e)) k.lives) ≡ None = subst (λ (x : ℕ). lookup (is_at (nat_cmp x)) (remove_entry (is_at (nat_cmp e)) k.lives) ≡ None) (sym same) (gone e k.lives is.rising) in
        absurd (cc (none, here))
    | inr other ↦ inl (sym (kept e d other k.lives) ∙ here)
  ]
  | inr more ↦ inr more
]
later_life k (completes head bytes ∷ xs) d l is found = later_life (going_on k (completes head bytes)) xs d l (course_on k (completes head bytes) is) found

pub through_course : (k : Course) (xs : List Tidings) → IsCourse k → IsCourse (through k xs)
through_course k [] is = is
through_course k (x ∷ xs) is = through_course (going_on k x) xs (course_on k x is)

-- completions are heard and stay so
pub heard_one : (d i : ℕ) (k : Course) (head : Head) (bytes : List ℕ) → heard_pairs d i (going_on k (completes head bytes)) ≡ heard_pairs d i k + cond (head_has_pair d i head) 1 0
heard_one d i k head bytes =
    ap length (filter-append (head_has_pair d i) k.heads (head ∷ [])) ∙ length-append {A = Head} (filter (head_has_pair d i) k.heads) (filter (head_has_pair d i) (head ∷ []))
    ∙ ap (λ (n : ℕ). heard_pairs d i k + n) (by (head_has_pair d i head))
  where
    by : (b : Bool) → length (cond b (head ∷ []) []) ≡ cond b 1 0
    by true = refl
    by false = refl

heard_grow : (d i : ℕ) (k : Course) (xs : List Tidings) → heard_pairs d i k ≤ heard_pairs d i (through k xs)
heard_grow d i k [] = omega arith
heard_grow d i k (begins e ∷ xs) = heard_grow d i (going_on k (begins e)) xs
heard_grow d i k (removes e ∷ xs) = heard_grow d i (going_on k (removes e)) xs
heard_grow d i k (completes head bytes ∷ xs) =
    omega (arith, heard_grow d i (going_on k (completes head bytes)) xs, heard_one d i k head bytes)

-- ---- what is heard before a request ends nothing

-- where the device's life goes on after what was heard, no removal there ended it
not_removed : (a : Accepted) (k : Course) (xs : List Tidings) (d : ℕ) → IsCourse k → lookup (is_at (nat_cmp a.device)) (through (going_on k (removes d)) xs).lives ≡ Some a.life
    → (d == a.device && is_in_life k a) ≡ false
not_removed a k xs d is goes_on = go (d == a.device) refl (lookup (is_at (nat_cmp a.device)) k.lives) refl
  where
    go : (b : Bool) → (d == a.device) ≡ b → (o : Option ℕ) → lookup (is_at (nat_cmp a.device)) k.lives ≡ o → (b && option_map_or (λ (life : ℕ). life == a.life) o false) ≡ false
    go false e o e2 = refl
    go true e None e2 = refl
    go true e (Some l) e2 = by (l == a.life) refl
      where
        by : (q : Bool) → (l == a.life) ≡ q → q ≡ false
        by false e3 = refl
        by true e3 =
            let l_is : l ≡ a.life = eqb-true l a.life e3 in
            let low : l ≤ k.given = is.bounded a.device l e2 in
            let same : d ≡ a.device = eqb-true d a.device e in
            elim (later_life (going_on k (removes d)) xs a.device a.life (course_on k (removes d) is) goes_on) [
              | inl here ↦
                  let none : lookup (is_at (nat_cmp a.device)) (remove_entry (is_at (nat_cmp d)) k.lives) ≡ None = subst (λ (x : ℕ). lookup (is_at (nat_cmp x)) (remove_entry (is_at (nat_cmp d)) k.lives) ≡ None) same (gone d k.lives is.rising) in
                  absurd (cc (none, here))
              | inr more ↦ absurd (omega (arith, low, more, l_is))
            ]

pub none_yet : (a : Accepted) (m : ℕ) (k : Course) (xs : List Tidings) → IsCourse k → heard_pairs a.device a.id (through k xs) ≤ m
    → lookup (is_at (nat_cmp a.device)) (through k xs).lives ≡ Some a.life → ended_in a m k xs ≡ None
none_yet a m k [] is few goes_on = refl
none_yet a m k (begins d ∷ xs) is few goes_on = none_yet a m (going_on k (begins d)) xs (course_on k (begins d) is) few goes_on
none_yet a m k (removes d ∷ xs) is few goes_on =
    rw (not_removed a k xs d is goes_on) (none_yet a m (going_on k (removes d)) xs (course_on k (removes d) is) few goes_on)
none_yet a m k (completes head bytes ∷ xs) is few goes_on =
    rw (apart) (none_yet a m (going_on k (completes head bytes)) xs (course_on k (completes head bytes) is) few goes_on)
  where
    apart : (head_has_pair a.device a.id head && length (filter (head_has_pair a.device a.id) k.heads) == m) ≡ false
    apart = go (head_has_pair a.device a.id head) refl
      where
        go : (b : Bool) → head_has_pair a.device a.id head ≡ b → (b && length (filter (head_has_pair a.device a.id) k.heads) == m) ≡ false
        go false e = refl
        go true e =
            let one : heard_pairs a.device a.id (going_on k (completes head bytes)) ≡ heard_pairs a.device a.id k + 1 = heard_one a.device a.id k head bytes ∙ ap (λ (b : Bool). heard_pairs a.device a.id k + cond b 1 0) e in
            let grown : heard_pairs a.device a.id (going_on k (completes head bytes)) ≤ heard_pairs a.device a.id (through (going_on k (completes head bytes)) xs) = heard_grow a.device a.id (going_on k (completes head bytes)) xs in
            ne_eqb (heard_pairs a.device a.id k) m (λ same. omega (arith, one, grown, few, same))
