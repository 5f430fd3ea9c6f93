-- Entries by numbers that rise: what one of them has, the value at its number has.
use Rattle.std.proofs.Common.{◌≡◌, ◌∙◌, refl, sym, ap, ℕ, ◌<◌, Bool, true, false, ◌||◌, cond, List, [], ◌∷◌, Some, arith}
use Rattle.std.specs.List.{list_any, AllByRecursion}
use Rattle.std.specs.List.Sorted.{IsStrictlySortedBy}
use Rattle.std.specs.Ordering.{nat_cmp, is_lt}
use Rattle.std.specs.declared.cmp.Ordering.TheVariants.{Less}
use Rattle.std.specs.Map.{keys_of, lookup}
use Rattle.std.specs.BTreeMap.{is_at}
use Rattle.std.proofs.lemmas.Option.{none-some, same_Some}
use Rattle.rd_tree.proofs.ViewLemmas.{itself}
use Rattle.rd_drive.proofs.StoreLemmas.{below_apart, is_below, is_equal}

module _ {X : Type 0} where
  -- a number that has a value is above all that are below the numbers
  pub looked_above : (m k : ℕ) (x : X) (es : List (ℕ × X)) → AllByRecursion (λ (y : ℕ). nat_cmp m y ≡ Less) (keys_of es) → lookup (is_at (nat_cmp k)) es ≡ Some x → m < k
  looked_above m k x [] low is = absurd (none-some x is)
  looked_above m k x (d ∷ es) low is = by (λ there. looked_above m k x es low.1 there) (is_at (nat_cmp k) d.0) refl
    where
      by : (lookup (is_at (nat_cmp k)) es ≡ Some x → m < k) → (b : Bool) → is_at (nat_cmp k) d.0 ≡ b → m < k
      by later true here = let same : k ≡ d.0 = is_equal k d.0 here in let under : m < d.0 = is_below m d.0 (ap is_lt low.0) in omega arith
      by later false here = later (sym (ap (λ b. cond b (Some d.1) (lookup (is_at (nat_cmp k)) es)) here) ∙ is)

  -- what some entry passes, a value passes with its number
  pub any_entry : (q : ℕ × X → Bool) (es : List (ℕ × X)) → IsStrictlySortedBy nat_cmp (keys_of es) → list_any q es ≡ true → (n : ℕ) × (x : X) × (lookup (is_at (nat_cmp n)) es ≡ Some x) × (q (n, x) ≡ true)
  unfolding IsStrictlySortedBy
  any_entry q [] rising some = absurd (cc)
  any_entry q (e ∷ es) rising some = by (λ there. any_entry q es rising.1 there) (q e) refl
    where
      by : (list_any q es ≡ true → (n : ℕ) × (x : X) × (lookup (is_at (nat_cmp n)) es ≡ Some x) × (q (n, x) ≡ true)) → (b : Bool) → q e ≡ b → (n : ℕ) × (x : X) × (lookup (is_at (nat_cmp n)) (e ∷ es) ≡ Some x) × (q (n, x) ≡ true)
      by further true passes = (e.0, e.1, ap (λ b. cond b (Some e.1) (lookup (is_at (nat_cmp e.0)) es)) (itself e.0), passes)
      by further false fails =
          let later : (n : ℕ) × (x : X) × (lookup (is_at (nat_cmp n)) es ≡ Some x) × (q (n, x) ≡ true) = further (ap (λ b. b || list_any q es) (sym fails) ∙ some) in (
            later.0,
            later.1,
            ap (λ b. cond b (Some e.1) (lookup (is_at (nat_cmp later.0)) es)) (below_apart later.0 e.0 (looked_above e.0 later.0 later.1 es rising.0 later.2)) ∙ later.2,
            later.3,
          )

  -- what a value passes with its number, some entry passes
  pub entry_any : (q : ℕ × X → Bool) (es : List (ℕ × X)) (n : ℕ) (x : X) → lookup (is_at (nat_cmp n)) es ≡ Some x → q (n, x) ≡ true → list_any q es ≡ true
  entry_any q [] n x is passes = absurd (none-some x is)
  entry_any q (e ∷ es) n x is passes = by (λ there. entry_any q es n x there passes) (is_at (nat_cmp n) e.0) refl
    where
      either : (b : Bool) → list_any q es ≡ true → (b || list_any q es) ≡ true
      either true later = refl
      either false later = later

      by : (lookup (is_at (nat_cmp n)) es ≡ Some x → list_any q es ≡ true) → (b : Bool) → is_at (nat_cmp n) e.0 ≡ b → (q e || list_any q es) ≡ true
      by further true here =
          let value : e.1 ≡ x = same_Some e.1 x (sym (ap (λ b. cond b (Some e.1) (lookup (is_at (nat_cmp n)) es)) here) ∙ is) in
          ap (λ b. b || list_any q es) ((λ i. q (sym (is_equal n e.0 here) i, value i)) ∙ passes)
      by further false there = either (q e) (further (sym (ap (λ b. cond b (Some e.1) (lookup (is_at (nat_cmp n)) es)) there) ∙ is))
