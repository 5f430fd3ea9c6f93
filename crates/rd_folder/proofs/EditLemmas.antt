-- What finding and changing a place of a list of nodes means for the nodes at a path.
use Rattle.std.proofs.Common.{◌≡◌, ◌∙◌, refl, sym, ap, ℕ, ◌<◌, ◌≤◌, inl, inr, Bool, true, false, not, cond, List, [], ◌∷◌, filter, find, remove, length, get_or, set, position, suc, zero, nat_lt, Some, None, arith}
use Rattle.std.specs.List.{position_or_len}
use Rattle.std.proofs.lemmas.Bool.{ltb-false, not-true}
use Rattle.std.proofs.lemmas.Option.{none-some}
use Rattle.std.proofs.lemmas.List.Sums.{prefix_len_passes}
use Rattle.std.proofs.lemmas.List.Quantifiers.{position-Some}
use Rattle.rd_dirinfo.specs.declared.naming.Naming.TheVariants.{Exact}
use Rattle.rd_dirinfo.specs.Paths.{Names}
use Rattle.rd_drive.specs.DriveState.{Node, is_at_path}
use Rattle.rd_folder.specs.Told.{ComesBefore, Rises}
use Rattle.rd_folder.specs.FolderCalls.{with_put}
use Rattle.rd_folder.proofs.ExactLemmas.{before_apart, exact_apart, exact_same, same_exact}
use Rattle.rd_folder.proofs.HasLemmas.{all_has, filter_still, map_still, Has}

pub has_get : (l : List Node) (i : ℕ) (d : Node) → i < length l → Has l (get_or l i d)
has_get [] i d under = absurd (omega arith)
has_get (x ∷ xs) zero d under = inl refl
has_get (x ∷ xs) (suc i) d under = inr (has_get xs i d (omega arith))

-- ---- finding

find_get : (p : Node → Bool) (l : List Node) (i : ℕ) (d : Node) → i < length l → p (get_or l i d) ≡ true → ((k : ℕ) → k < i → p (get_or l k d) ≡ false) → find p l ≡ Some (get_or l i d)
find_get p [] i d under t before = absurd (omega arith)
find_get p (x ∷ xs) zero d under t before = ap (λ b. cond b (Some x) (find p xs)) t
find_get p (x ∷ xs) (suc i) d under t before =
    ap (λ b. cond b (Some x) (find p xs)) (before 0 (omega arith)) ∙ find_get p xs i d (omega arith) t (λ k h. before (suc k) (omega arith))

-- the node at the place that is found is the first
pub found_at : (p : Node → Bool) (l : List Node) (i : ℕ) (d : Node) → position p l ≡ Some i → (i < length l) × (find p l ≡ Some (get_or l i d)) × (p (get_or l i d) ≡ true)
found_at p l i d e = let at = position-Some p l i d e in (at.0, find_get p l i d at.0 at.1 at.2, at.1)

find_nowhere : (p : Node → Bool) (l : List Node) → ((k : ℕ) (d : Node) → k < length l → p (get_or l k d) ≡ false) → find p l ≡ None
find_nowhere p [] none = refl
find_nowhere p (x ∷ xs) none = ap (λ b. cond b (Some x) (find p xs)) (none 0 x (omega arith)) ∙ find_nowhere p xs (λ k d h. none (suc k) d (omega arith))

pub found_nowhere : (p : Node → Bool) (l : List Node) → position p l ≡ None → find p l ≡ None
found_nowhere p l e = by (nat_lt (position_or_len p l) (length l)) refl
  where
    by : (b : Bool) → nat_lt (position_or_len p l) (length l) ≡ b → find p l ≡ None
    by true is = absurd (none-some (position_or_len p l) (sym (sym (ap (λ b. cond b (Some (position_or_len p l)) None) is) ∙ e)))
    by false is =
        let past : length l ≤ position_or_len p l = ltb-false (position_or_len p l) (length l) is in
        find_nowhere p l (λ k d h. not-true (p (get_or l k d)) (prefix_len_passes (λ (x : Node). not (p x)) l k d (omega arith)))

-- ---- one place

-- a node in the place of the one at its path
pub set_put : (l : List Node) → Rises l → (i : ℕ) (d new : Node) → i < length l → new.path ≡ (get_or l i d).path → set l i new ≡ with_put l new
set_put [] rises i d new under same = absurd (omega arith)
set_put (x ∷ xs) rises zero d new under same =
    let rest : with_put xs new ≡ xs =
    map_still (λ (other : Node). cond (is_at_path Exact new.path other) new other) xs
    (λ y h. ap (λ b. cond b new y) (exact_apart y.path new.path (λ e. before_apart x.path y.path (all_has (ComesBefore x) xs rises.0 y h) (sym (e ∙ same))))) in
    ap (◌∷◌ new) (sym rest) ∙ ap (λ b. cond b new x ∷ with_put xs new) (sym (exact_same x.path new.path (sym same)))
set_put (x ∷ xs) rises (suc i) d new under same =
    let later : Has xs (get_or xs i d) = has_get xs i d (omega arith) in
    let other : is_at_path Exact new.path x ≡ false =
    exact_apart x.path new.path (λ e. before_apart x.path (get_or xs i d).path (all_has (ComesBefore x) xs rises.0 (get_or xs i d) later) (e ∙ same)) in
    ap (◌∷◌ x) (set_put xs rises.1 i d new (omega arith) same) ∙ ap (λ b. cond b new x ∷ with_put xs new) (sym other)

-- the others than the one at a path
pub remove_less : (l : List Node) → Rises l → (i : ℕ) (d : Node) (path : Names) → i < length l → is_at_path Exact path (get_or l i d) ≡ true → remove l i ≡ filter (λ (node : Node). not (is_at_path Exact path node)) l
remove_less [] rises i d path under at = absurd (omega arith)
remove_less (x ∷ xs) rises zero d path under at =
    sym (filter_still (λ (node : Node). not (is_at_path Exact path node)) xs
    (λ y h. ap not (exact_apart y.path path (λ e. before_apart x.path y.path (all_has (ComesBefore x) xs rises.0 y h) (same_exact x.path path at ∙ sym e)))))
    ∙ ap (λ b. cond (not b) (x ∷ filter (λ (node : Node). not (is_at_path Exact path node)) xs) (filter (λ (node : Node). not (is_at_path Exact path node)) xs)) (sym at)
remove_less (x ∷ xs) rises (suc i) d path under at =
    let later : Has xs (get_or xs i d) = has_get xs i d (omega arith) in
    let other : is_at_path Exact path x ≡ false =
    exact_apart x.path path (λ e. before_apart x.path (get_or xs i d).path (all_has (ComesBefore x) xs rises.0 (get_or xs i d) later) (e ∙ sym (same_exact (get_or xs i d).path path at))) in
    ap (◌∷◌ x) (remove_less xs rises.1 i d path (omega arith) at)
    ∙ ap (λ b. cond (not b) (x ∷ filter (λ (node : Node). not (is_at_path Exact path node)) xs) (filter (λ (node : Node). not (is_at_path Exact path node)) xs)) (sym other)
