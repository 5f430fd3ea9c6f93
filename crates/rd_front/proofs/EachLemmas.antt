-- Going through a list, one item after the other, up to one for which no memory is found.
use Rattle.std.proofs.Common.{◌≡◌, refl, sym, subst, ℕ, zero, suc, ◌+◌, ◌<◌, ◌≤◌, Bool, true, false, List, [], ◌∷◌, length, drop, slice_get, Some, arith}
use Rattle.std.specs.Prelude.{IfSome}
use Rattle.rd_world.proofs.FoldLemmas.{drop_there}
use Rattle.rd_front.specs.Front.{Each}
use Rattle.rd_front.specs.State.{FrontState}

-- a place of a list has an item
pub some_there : {A : Type 0} (xs : List A) (i : ℕ) → i < length xs → (x : A) × (slice_get xs i ≡ Some x)
some_there [] i within = absurd (omega arith)
some_there (x ∷ xs) zero within = (x, refl)
some_there (x ∷ xs) (suc i) within = some_there xs i (omega arith)

module _ {A : Type 0} (does : A → FrontState → Bool → FrontState → Type 0) where
  -- what the items from a place on come to from here, all of them come to
  abbrev pub EachOn : List A → ℕ → FrontState → FrontState → Type 0
  EachOn xs i first here = (found : Bool) (new : FrontState) → Each does (drop i xs) here found new → Each does xs first found new

  pub each_next : (xs : List A) (i : ℕ) (first here next : FrontState) → i < length xs → IfSome (slice_get xs i) (λ x. does x here true next)
      → EachOn xs i first here → EachOn xs (i + 1) first next
  each_next xs i first here next within did on found new later =
      let (x, there) = some_there xs i within in
      let one : does x here true next = subst (λ o. IfSome o (λ x. does x here true next)) there did in
      on found new (subst (λ l. Each does l here found new) (sym (drop_there xs i x there)) (true, next, one, later))

  pub each_stops : (xs : List A) (i : ℕ) (first here next : FrontState) → i < length xs → IfSome (slice_get xs i) (λ x. does x here false next)
      → EachOn xs i first here → Each does xs first false next
  each_stops xs i first here next within did on =
      let (x, there) = some_there xs i within in
      let one : does x here false next = subst (λ o. IfSome o (λ x. does x here false next)) there did in
      on false next (subst (λ l. Each does l here false next) (sym (drop_there xs i x there)) (false, next, one, (refl, refl)))

  none_left : (xs : List A) (i : ℕ) → length xs ≤ i → drop i xs ≡ []
  none_left [] zero all = refl
  none_left [] (suc i) all = refl
  none_left (x ∷ xs) zero all = absurd (omega arith)
  none_left (x ∷ xs) (suc i) all = none_left xs i (omega arith)

  pub each_ends : (xs : List A) (i : ℕ) (first here : FrontState) → length xs ≤ i → EachOn xs i first here → Each does xs first true here
  each_ends xs i first here all on = on true here (subst (λ l. Each does l here true here) (sym (none_left xs i all)) (refl, refl))
