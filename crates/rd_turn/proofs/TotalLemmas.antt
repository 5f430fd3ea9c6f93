-- Totals over a list of views, and what stands at a place of one.
use Rattle.std.proofs.Common.{◌≡◌, ℕ, zero, suc, ◌+◌, ◌<◌, ◌≤◌, ◌≢◌, ◌⊎◌, List, [], ◌∷◌, ◌++◌, length, set, sym, refl, ap, inl, inr, arith, ⊎_elim}
use mathlib.Core.Option.{some, some-injective, some-ne-none}
use native.Mathlib.Decide.{ℕ_discrete}
use lib.ListN.{get_elem?}
use Rattle.rd_turn.specs.Rule.{total}

module _ {A : Type 0} (f : A → ℕ) where
  pub total-set : (l : List A) (i : ℕ) (v w : A) → get_elem? l i ≡ some v → total f (set l i w) + f v ≡ total f l + f w
  total-set [] i v w e = absurd (some-ne-none v (sym e))
  total-set (x ∷ xs) zero v w e = let is : f x ≡ f v = ap f (some-injective x v e) in omega arith
  total-set (x ∷ xs) (suc i) v w e = let t = total-set xs i v w e in omega arith

  pub total-snoc : (l : List A) (v : A) → total f (l ++ v ∷ []) ≡ total f l + f v
  total-snoc [] v = omega arith
  total-snoc (x ∷ xs) v = let t = total-snoc xs v in omega arith

  pub total-at : (l : List A) (i : ℕ) (v : A) → get_elem? l i ≡ some v → f v ≤ total f l
  total-at [] i v e = absurd (some-ne-none v (sym e))
  total-at (x ∷ xs) zero v e = let is : f x ≡ f v = ap f (some-injective x v e) in omega arith
  total-at (x ∷ xs) (suc i) v e = let t = total-at xs i v e in omega arith

  pub total-two : (l : List A) (i j : ℕ) (v w : A) → i ≢ j → get_elem? l i ≡ some v → get_elem? l j ≡ some w → f v + f w ≤ total f l
  total-two [] i j v w n e d = absurd (some-ne-none v (sym e))
  total-two (x ∷ xs) zero zero v w n e d = absurd (n refl)
  total-two (x ∷ xs) zero (suc j) v w n e d = let is : f x ≡ f v = ap f (some-injective x v e) in let t = total-at xs j w d in omega arith
  total-two (x ∷ xs) (suc i) zero v w n e d = let is : f x ≡ f w = ap f (some-injective x w d) in let t = total-at xs i v e in omega arith
  total-two (x ∷ xs) (suc i) (suc j) v w n e d = let t = total-two xs i j v w (λ q. n (ap suc q)) e d in omega arith

  total-some_from : (x : A) (xs : List A) → Dec (f x ≡ 0) → ((0 < total f xs) → (j : ℕ) × (v : A) × (get_elem? xs j ≡ some v) × (0 < f v)) → 0 < f x + total f xs → (j : ℕ) × (v : A) × (get_elem? (x ∷ xs) j ≡ some v) × (0 < f v)
  total-some_from x xs (yes z) go h = let t = go (omega arith) in (suc t.0, t.1, t.2, t.3)
  total-some_from x xs (no n) go h = (0, x, refl, omega arith)

  pub total-some : (l : List A) → 0 < total f l → (j : ℕ) × (v : A) × (get_elem? l j ≡ some v) × (0 < f v)
  total-some [] h = absurd (omega arith)
  total-some (x ∷ xs) h = total-some_from x xs (ℕ_discrete (f x) 0) (total-some xs) h

  pub total-bound : ((v : A) → f v ≤ 1) → (l : List A) → total f l ≤ length l
  total-bound h [] = omega arith
  total-bound h (x ∷ xs) = let t = total-bound h xs in let b = h x in omega arith

module _ {A : Type 0} where
  pub at_length : (l : List A) (i : ℕ) (v : A) → get_elem? l i ≡ some v → i < length l
  at_length [] i v e = absurd (some-ne-none v (sym e))
  at_length (x ∷ xs) zero v e = omega arith
  at_length (x ∷ xs) (suc i) v e = let t = at_length xs i v e in omega arith

  pub there : (l : List A) (i : ℕ) → i < length l → (v : A) × (get_elem? l i ≡ some v)
  there [] i h = absurd (omega arith)
  there (x ∷ xs) zero h = (x, refl)
  there (x ∷ xs) (suc i) h = there xs i (omega arith)

  pub at_snoc_or_last : (l : List A) (a b : A) (j : ℕ) → get_elem? (l ++ a ∷ []) j ≡ some b → (get_elem? l j ≡ some b) ⊎ ((j ≡ length l) × (a ≡ b))
  at_snoc_or_last [] a b zero e = inr (refl, some-injective a b e)
  at_snoc_or_last [] a b (suc j) e = absurd (some-ne-none b (sym e))
  at_snoc_or_last (x ∷ xs) a b zero e = inl e
  at_snoc_or_last (x ∷ xs) a b (suc j) e = ⊎_elim inl (λ t. inr (ap suc t.0, t.1)) (at_snoc_or_last xs a b j e)
