-- The places of a tree without a number.
use Rattle.std.proofs.Common.{◌≡◌, ◌∙◌, sym, ap, ℕ, ◌==◌, true, false, not, cond, None, arith}
use Rattle.std.specs.FinMap.{nat_cmp-IsAntisymmetric}
use Rattle.std.specs.FinMap.Entries.{find-where_key}
use Rattle.std.specs.Option.{is_some}
use Rattle.std.specs.Ordering.{nat_cmp, eq_by_cmp}
use Rattle.std.proofs.lemmas.Bool.Decides.{nat_tests}
use Rattle.std.proofs.lemmas.Bool.{true≢false, false_from_ne_true}
use Rattle.rd_tree.specs.Places.{Places, place, without, IsLive}

other_key : (n k : ℕ) → (k == n) ≡ false → eq_by_cmp nat_cmp n k ≡ false
other_key n k e = grind (arith, nat_tests)

own_key : (n k : ℕ) → (k == n) ≡ true → eq_by_cmp nat_cmp n k ≡ true
own_key n k e = grind (arith, nat_tests)

module _ (tree : Places) (n : ℕ) where
  pub place_without : (k : ℕ) → place (without tree n) k ≡ cond (not (eq_by_cmp nat_cmp n k)) (place tree k) None
  place_without k = find-where_key nat_cmp (λ (k : ℕ). not (eq_by_cmp nat_cmp n k)) k (λ x e. ap (λ (j : ℕ). not (eq_by_cmp nat_cmp n j)) (sym (nat_cmp-IsAntisymmetric k x e))) tree.list

  -- the others stay
  pub without_other : (k : ℕ) → (k == n) ≡ false → place (without tree n) k ≡ place tree k
  without_other k e = place_without k ∙ ap (λ b. cond (not b) (place tree k) None) (other_key n k e)

  -- and they are all
  pub without_lives : (k : ℕ) → IsLive (without tree n) k → (k == n) ≡ false
  without_lives k live = false_from_ne_true (k == n) (λ e. true≢false (sym live ∙ ap is_some (place_without k ∙ ap (λ b. cond (not b) (place tree k) None) (own_key n k e))))
