-- What is open at a path, by the first number that has it.
use Rattle.std.proofs.Common.{◌≡◌, ◌∙◌, refl, sym, ap, ℕ, Bool, true, false, cond, List, [], ◌∷◌, Option, Some, None}
use Rattle.std.specs.List.{list_any}
use Rattle.std.specs.Option.{is_some}
use Rattle.std.specs.List.Sorted.{IsStrictlySortedBy}
use Rattle.std.specs.Ordering.{nat_cmp}
use Rattle.std.specs.Map.{keys_of, lookup}
use Rattle.std.specs.BTreeMap.{is_at, IsOrdered}
use Rattle.std.proofs.lemmas.Option.{none-some, same_Some}
use Rattle.rd_tree.proofs.ViewLemmas.{itself}
use Rattle.rd_dirinfo.specs.declared.naming.Naming.TheVariants.{Exact}
use Rattle.rd_dirinfo.specs.Paths.{Names, is_same_path}
use Rattle.rd_drive.proofs.StoreLemmas.{below_apart}
use Rattle.rd_folder.proofs.ExactLemmas.{exact_same, same_exact}
use Rattle.rd_folder_drive.specs.declared.open.Open.{Open}
use Rattle.rd_folder_drive.specs.declared.table.Table.{Table}
use Rattle.rd_folder_drive.specs.Opening.{IsAtPath, number_at}
use Rattle.rd_folder_drive.specs.Table.{IsSound, is_pending_open, open_at}
use Rattle.rd_folder_drive.proofs.EntryLemmas.{looked_above}
use Rattle.rd_folder_drive.proofs.TableLemmas.{nothing_pending, pending_seen}

module _ (path : Names) where
  -- what is open by that number is at the path
  found_number : (es : List (ℕ × Open)) → IsStrictlySortedBy nat_cmp (keys_of es) → (n : ℕ) → number_at path es ≡ Some n → (o : Open) × (lookup (is_at (nat_cmp n)) es ≡ Some o) × (o.path ≡ path)
  unfolding IsStrictlySortedBy
  found_number [] rising n is = absurd (cc)
  found_number (e ∷ es) rising n is = by (λ there. found_number es rising.1 n there) (is_same_path Exact (e.1).path path) refl is
    where
      by : (number_at path es ≡ Some n → (o : Open) × (lookup (is_at (nat_cmp n)) es ≡ Some o) × (o.path ≡ path))
          → (b : Bool) → is_same_path Exact (e.1).path path ≡ b → cond b (Some e.0) (number_at path es) ≡ Some n
          → (o : Open) × (lookup (is_at (nat_cmp n)) (e ∷ es) ≡ Some o) × (o.path ≡ path)
      by later true same first = (
        e.1,
        ap (λ b. cond b (Some e.1) (lookup (is_at (nat_cmp n)) es)) (ap (λ (m : ℕ). is_at (nat_cmp n) m) (same_Some e.0 n first) ∙ itself n),
        same_exact (e.1).path path same,
      )
      by later false other rest =
          let was : (o : Open) × (lookup (is_at (nat_cmp n)) es ≡ Some o) × (o.path ≡ path) = later rest in (
            was.0,
            ap (λ b. cond b (Some e.1) (lookup (is_at (nat_cmp n)) es)) (below_apart n e.0 (looked_above e.0 n was.0 es rising.0 was.1)) ∙ was.1,
            was.2,
          )

  -- where there is none nothing is
  found_none : (es : List (ℕ × Open)) → number_at path es ≡ None → (n : ℕ) (o : Open) → lookup (is_at (nat_cmp n)) es ≡ Some o → o.path ≡ path → ⊥
  found_none [] is n o at same = absurd (none-some o at)
  found_none (e ∷ es) is n o at same = by (λ none there. found_none es none n o there same) (is_same_path Exact (e.1).path path) refl is (is_at (nat_cmp n) e.0) at
    where
      by : (number_at path es ≡ None → lookup (is_at (nat_cmp n)) es ≡ Some o → ⊥) → (b : Bool) → is_same_path Exact (e.1).path path ≡ b → cond b (Some e.0) (number_at path es) ≡ None
          → (c : Bool) → cond c (Some e.1) (lookup (is_at (nat_cmp n)) es) ≡ Some o → ⊥
      by later true t none c at = absurd (cc)
      by later false t none true at =
          absurd (let clash : true ≡ false = sym (exact_same (e.1).path path (ap (λ (x : Open). x.path) (same_Some e.1 o at) ∙ same)) ∙ t in cc)
      by later false t none false at = later none at

pub at_path : (t : Table) → IsOrdered nat_cmp t.opens → (path : Names) (found : Option ℕ) → found ≡ number_at path t.opens.entries → IsAtPath t path found
at_path t rising path None is = found_none path t.opens.entries (sym is)
at_path t rising path (Some n) is = found_number path t.opens.entries rising n (sym is)

-- where a number was found something is open
pub found_open : (t : Table) (path : Names) (found : Option ℕ) → is_some found ≡ true → IsAtPath t path found → IsAtPath t path None → ⊥
found_open t path None some at none = absurd (cc)
found_open t path (Some n) some at none = none n at.0 at.1 at.2

-- and where none was nothing is
pub found_nothing : (t : Table) (path : Names) (found : Option ℕ) → is_some found ≡ false → IsAtPath t path found → IsAtPath t path None
found_nothing t path None none at = at
found_nothing t path (Some n) none at = absurd (cc)

-- whether something pending is open at a path, by what is open there
pub pending_found : (t : Table) → IsSound t → (path : Names) (n : ℕ) (o : Open) → IsAtPath t path (Some n) → open_at t n ≡ Some o → o.pending ≡ list_any (is_pending_open path) t.opens.entries
pending_found t sound path n o at on =
    let one : at.0 ≡ o = same_Some at.0 o (sym at.1 ∙ on) in
    sym (pending_seen t sound n o on) ∙ ap (λ (p : Names). list_any (is_pending_open p) t.opens.entries) (ap (λ (x : Open). x.path) (sym one) ∙ at.2)

-- and where nothing is
pub pending_none : (t : Table) → IsSound t → (path : Names) → IsAtPath t path None → false ≡ list_any (is_pending_open path) t.opens.entries
pending_none t sound path none = sym (nothing_pending t sound path none)
