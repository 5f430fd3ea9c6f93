-- How many pages are kept, by their numbers.
use Rattle.std.proofs.Common.{subst, ℕ, zero, suc, ◌-◌, ◌*◌, ◌<◌, ◌≤◌, List, length, Vec, None, arith, get_or}
use Rattle.std.specs.Prelude.{All}
use Rattle.std.specs.Int.{div_ceil}
use Rattle.std.specs.Option.{IsSome}
use Rattle.std.specs.Ordering.{nat_cmp}
use Rattle.std.specs.List.Sorted.{IsStrictlySortedBy}
use Rattle.std.specs.Map.{lookup, keys_of}
use Rattle.std.proofs.lemmas.Cmp.{eq_by_cmp_equiv, nat_cmp_total}
use Rattle.std.proofs.lemmas.List.Elements.{All-get_or}
use Rattle.std.proofs.lemmas.Map.Entries.{length-keys_of}
use Rattle.std.proofs.lemmas.Map.Keys.{below_from_sorted}
use Rattle.std.proofs.lemmas.Map.Views.{All-keys_from_lookup}
use Rattle.std.specs.BTreeMap.{is_at}
use Rattle.rd_contents.specs.Pages.{page_len, LacksPage}
use Rattle.rd_contents.proofs.OverLemmas.{before_or_past}

-- each of some numbers that rise is at least as high as its place
above_place : (ks : List ℕ) → IsStrictlySortedBy nat_cmp ks → (i : ℕ) → i < length ks → i ≤ get_or ks i 0
above_place ks sorted zero h = omega arith
above_place ks sorted (suc i) h = omega (arith, above_place ks sorted i (omega arith), below_from_sorted ks i (suc i) 0 sorted (omega arith) h)

-- so those that are below a number are at most so many
few_below : (ks : List ℕ) (n : ℕ) → IsStrictlySortedBy nat_cmp ks → All (λ k. k < n) ks → length ks ≤ n
few_below ks n sorted below = before_or_past 0 (length ks)
    (λ h. let last : ℕ = length ks - 1 in
    let within : last < length ks = omega arith in
    omega (arith, above_place ks sorted last within, All-get_or (λ k. k < n) ks last 0 within below))
    (λ h. omega arith)

module _ {A : Type 0} where
  not_kept : (pages : List (ℕ × Vec ℕ A)) (number : ℕ) → LacksPage pages number → IsSome (lookup (is_at (nat_cmp number)) pages) → ⊥
  not_kept pages number lacks some = let none : IsSome {T = Vec ℕ A} None = subst IsSome lacks some in cc

  -- pages that begin before an end are at most as many as the bytes up to it fill
  pub few_pages : (pages : List (ℕ × Vec ℕ A)) (end : ℕ) → IsStrictlySortedBy nat_cmp (keys_of pages) → ((number : ℕ) → end ≤ number * page_len → LacksPage pages number) → length pages ≤ div_ceil end page_len
  few_pages pages end sorted lacks =
      let most : ℕ = div_ceil end page_len in
      let below : All (λ k. k < most) (keys_of pages) = All-keys_from_lookup (eq_by_cmp_equiv nat_cmp_total) (λ k. k < most) pages
      (λ q some. before_or_past (q * page_len) end (λ h. omega arith) (λ h. absurd (not_kept pages q (lacks q h) some))) in
      omega (arith, few_below (keys_of pages) most sorted below, length-keys_of pages)
