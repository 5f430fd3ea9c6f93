-- Paths that are put together from names: their lengths, and that they are paths.
use Rattle.std.proofs.Common.{◌≡◌, ◌∙◌, refl, sym, ap, ℕ, ◌+◌, ◌≤◌, true, ◌&&◌, [], ◌∷◌, ◌++◌, length, drop, sum_by, arith}
use Rattle.std.specs.Prelude.{nat_le}
use Rattle.std.specs.List.{list_all}
use Rattle.std.proofs.lemmas.Bool.{and_parts}
use Rattle.std.proofs.lemmas.Bool.Decides.{nat_tests}
use Rattle.std.proofs.lemmas.List.Sums.{sum_by-cons}
use Rattle.rd_dirinfo.specs.declared.naming.Naming.TheVariants.{Exact}
use Rattle.rd_dirinfo.specs.Naming.{Name}
use Rattle.rd_dirinfo.specs.Paths.{Names, is_name, is_path, is_prefix, is_within_limits, path_len}
use Rattle.rd_folder.proofs.ExactLemmas.{prefix_exact}
use Rattle.rd_folder.proofs.RenameLemmas.{all_joined}
use Rattle.rd_folder_drive.specs.Ways.{ended_len}

sums : (p : Names) → ended_len p ≡ sum_by (λ (name : Name). length name) p + length p
sums [] = refl
sums (x ∷ xs) = let later = sums xs in omega (arith, later, sum_by-cons (λ (name : Name). length name + 1) x xs, sum_by-cons (λ (name : Name). length name) x xs)

-- a path has as many units as its names with one after each, but one
pub ended_is : (p : Names) → nat_le (ended_len p) 4097 ≡ nat_le (path_len p) 4096
ended_is [] = refl
ended_is (x ∷ xs) = by (ended_len (x ∷ xs)) (path_len (x ∷ xs)) (let all = sums (x ∷ xs) in omega (arith, all))
  where
    by : (a b : ℕ) → a ≡ b + 1 → nat_le a 4097 ≡ nat_le b 4096
    by a b e = grind (arith, nat_tests, e)

pub within_by : (p : Names) → length p ≤ 64 → nat_le (ended_len p) 4097 ≡ is_within_limits p
within_by p few = ended_is p ∙ ap (λ b. b && nat_le (path_len p) 4096) (by (length p) few)
  where
    by : (n : ℕ) → n ≤ 64 → true ≡ nat_le n 64
    by n few = grind (arith, nat_tests, few)

all_after : (p q : Names) → list_all is_name (p ++ q) ≡ true → list_all is_name q ≡ true
all_after [] q all = all
all_after (x ∷ xs) q all = all_after xs q (and_parts (is_name x) (list_all is_name (xs ++ q)) all).1

-- a path with another beginning is a path, within the limits
pub moved_is_path : (from to path : Names) → is_path to ≡ true → is_path path ≡ true → is_prefix Exact from path ≡ true → is_within_limits (to ++ drop (length from) path) ≡ true → is_path (to ++ drop (length from) path) ≡ true
moved_is_path from to path is was below within = λ i.
    all_joined to (drop (length from) path) (and_parts (list_all is_name to) (is_within_limits to) is).0
    (all_after from (drop (length from) path) (ap (list_all is_name) (sym (prefix_exact from path below)) ∙ (and_parts (list_all is_name path) (is_within_limits path) was).0)) i
    && within i
