-- A state that goes through a list, from a place on.
use Rattle.std.proofs.Common.{◌≡◌, ◌∙◌, sym, ap, ℕ, zero, suc, ◌+◌, List, [], ◌∷◌, drop, Some, slice_get, arith}
use Rattle.std.specs.Prelude.{fold}

module _ {A : Type 0} where
  -- the items from a place on are the one there and those after it
  pub drop_there : (xs : List A) (i : ℕ) (x : A) → slice_get xs i ≡ Some x → drop i xs ≡ x ∷ drop (i + 1) xs
  drop_there [] zero x there = absurd cc
  drop_there [] (suc i) x there = absurd cc
  drop_there (y ∷ xs) zero x there = cc
  drop_there (y ∷ xs) (suc i) x there =
      let next : suc i + 1 ≡ suc (i + 1) = omega arith in
      rw next (drop_there xs i x there)

module _ {S A : Type 0} (f : S → A → S) where
  -- One item more is gone through.
  pub fold_there : (xs : List A) (i : ℕ) (x : A) (now end : S) → slice_get xs i ≡ Some x → fold f now (drop i xs) ≡ end → fold f (f now x) (drop (i + 1) xs) ≡ end
  fold_there xs i x now end there is = sym (ap (λ (l : List A). fold f now l) (drop_there xs i x there)) ∙ is
