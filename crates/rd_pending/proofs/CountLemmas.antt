-- How many requests have a pair.
use Rattle.std.proofs.Common.{◌≡◌, ◌∙◌, ap, ℕ, ◌+◌, Bool, true, false, cond, List, [], ◌∷◌, ◌++◌, length, refl, length-append}
use Rattle.std.specs.Prelude.{filter}
use Rattle.std.proofs.lemmas.List.Elements.{filter-append}
use Rattle.rd_pending.specs.Outcomes.{Accepted, is_accepted_as}

-- the requests with a pair on a channel
abbrev pub pairs : ℕ → ℕ → ℕ → List Accepted → ℕ
pairs c d i xs = length (filter (is_accepted_as c d i) xs)

pub one_pair : (c d i : ℕ) (a : Accepted) → pairs c d i (a ∷ []) ≡ cond (is_accepted_as c d i a) 1 0
one_pair c d i a = by (is_accepted_as c d i a)
  where
    by : (b : Bool) → length (cond b (a ∷ []) []) ≡ cond b 1 0
    by true = refl
    by false = refl

pub more_pairs : (c d i : ℕ) (xs : List Accepted) (a : Accepted) → pairs c d i (xs ++ a ∷ []) ≡ pairs c d i xs + cond (is_accepted_as c d i a) 1 0
more_pairs c d i xs a =
    ap length (filter-append (is_accepted_as c d i) xs (a ∷ [])) ∙ length-append {A = Accepted} (filter (is_accepted_as c d i) xs) (filter (is_accepted_as c d i) (a ∷ []))
    ∙ ap (λ (n : ℕ). pairs c d i xs + n) (one_pair c d i a)
