-- How many entries pass a test.
use Rattle.std.proofs.Common.{◌≡◌, refl, sym, ap₂, ℕ, ◌≤◌, ◌+◌, ◌&&◌, ◌||◌, Bool, true, false, cond, not, List, [], ◌∷◌, ◌++◌, arith}
use Rattle.std.specs.Prelude.{count_by}
use Rattle.std.specs.List.{list_any}
use Rattle.std.proofs.lemmas.List.Recursion.{is_count_by}

-- the count by recursion
pub cnt : {A : Type 0} → (A → Bool) → List A → ℕ
cnt p [] = 0
cnt p (x ∷ xs) = cond (p x) 1 0 + cnt p xs

pub cnt-is : {A : Type 0} (p : A → Bool) (xs : List A) → count_by p xs ≡ cnt p xs
unfolding cnt
cnt-is p xs = sym (is_count_by (cnt p) p refl (λ x ys. by (p x) (cnt p ys)) xs)
  where
    by : (b : Bool) (n : ℕ) → cond b 1 0 + n ≡ cond b (1 + n) n
    by true n = refl
    by false n = omega arith

pub cnt-nil : {A : Type 0} (p : A → Bool) → cnt p [] ≡ 0
unfolding cnt
cnt-nil p = refl

pub cnt-cons : {A : Type 0} (p : A → Bool) (x : A) (xs : List A) → cnt p (x ∷ xs) ≡ cond (p x) 1 0 + cnt p xs
unfolding cnt
cnt-cons p x xs = refl

-- with one more
pub cnt-more : {A : Type 0} (p : A → Bool) (xs : List A) (x : A) → cnt p (xs ++ x ∷ []) ≡ cnt p xs + cond (p x) 1 0
unfolding cnt
cnt-more p [] x = omega arith
cnt-more p (y ∷ xs) x = let later = cnt-more p xs x in omega (arith, later)

-- tests that agree
pub cnt-same : {A : Type 0} (p q : A → Bool) → ((x : A) → p x ≡ q x) → (xs : List A) → cnt p xs ≡ cnt q xs
unfolding cnt
cnt-same p q same [] = refl
cnt-same p q same (x ∷ xs) = ap₂ (λ (b : Bool) (n : ℕ). cond b 1 0 + n) (same x) (cnt-same p q same xs)

-- those that pass a second test too, and those that don't
pub cnt-split : {A : Type 0} (p q : A → Bool) (xs : List A) → cnt p xs ≡ cnt (λ x. p x && not (q x)) xs + cnt (λ x. p x && q x) xs
unfolding cnt
cnt-split p q [] = refl
cnt-split p q (x ∷ xs) = by (p x) (q x) (cnt-split p q xs)
  where
    by : (a b : Bool) → cnt p xs ≡ cnt (λ y. p y && not (q y)) xs + cnt (λ y. p y && q y) xs
        → cond a 1 0 + cnt p xs ≡ (cond (a && not b) 1 0 + cnt (λ y. p y && not (q y)) xs) + (cond (a && b) 1 0 + cnt (λ y. p y && q y) xs)
    by true true e = omega (arith, e)
    by true false e = omega (arith, e)
    by false b e = omega (arith, e)

-- none passes, or one at least
pub cnt-none : {A : Type 0} (p : A → Bool) (xs : List A) → list_any p xs ≡ false → cnt p xs ≡ 0
unfolding cnt
cnt-none p [] none = refl
cnt-none p (x ∷ xs) none = by (p x) none (cnt-none p xs)
  where
    by : (b : Bool) → (b || list_any p xs) ≡ false → (list_any p xs ≡ false → cnt p xs ≡ 0) → cond b 1 0 + cnt p xs ≡ 0
    by true e later = absurd (cc)
    by false e later = omega (arith, later e)

pub cnt-some : {A : Type 0} (p : A → Bool) (xs : List A) → list_any p xs ≡ true → 1 ≤ cnt p xs
unfolding cnt
cnt-some p [] e = absurd (cc)
cnt-some p (x ∷ xs) e = by (p x) e (cnt-some p xs)
  where
    by : (b : Bool) → (b || list_any p xs) ≡ true → (list_any p xs ≡ true → 1 ≤ cnt p xs) → 1 ≤ cond b 1 0 + cnt p xs
    by true e later = omega arith
    by false e later = omega (arith, later e)
