-- Lists: where an element is.
use Rattle.std.proofs.Common.{◌≡◌, ℕ, ◌<◌, arith, List, Bool, true, false, inl, inr, length, get_or, None}
use Rattle.std.specs.Prelude.{position, not, nat_lt}
use Rattle.std.specs.List.{position_or_len}
use Rattle.std.proofs.lemmas.Bool.{cases_lt, not-true}
use Rattle.std.proofs.lemmas.Bool.Decides.{nat_tests}
use Rattle.std.proofs.lemmas.List.Sums.{prefix_len_passes}

-- where no position is found, no element passes
pub position_none : {X : Type 0} (p : X → Bool) (xs : List X) (d : X) → position p xs ≡ None → (k : ℕ) → k < length xs → p (get_or xs k d) ≡ false
position_none {X = X} p xs d h k below = elim (cases_lt (position_or_len p xs) (length xs)) [
  | inl there ↦
      let found : nat_lt (position_or_len p xs) (length xs) ≡ true = grind (arith, nat_tests) in
      absurd (cc (h, found))
  | inr past ↦ not-true (p (get_or xs k d)) (prefix_len_passes (λ (x : X). not (p x)) xs k d (omega arith))
]
