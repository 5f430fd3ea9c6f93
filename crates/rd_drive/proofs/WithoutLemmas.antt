-- The nodes of a drive without one.
use Rattle.std.proofs.Common.{◌≡◌, ◌∙◌, sym, ap, ℕ, ◌==◌, Bool, false, not, cond, List, [], ◌∷◌, map, filter, Some, arith, ⊎_elim, refl}
use Rattle.std.proofs.lemmas.Bool.{cases_Bool}
use Rattle.std.proofs.lemmas.Bool.Decides.{nat_tests}
use Rattle.std.specs.FinMap.Entries.{where_key}
use Rattle.std.specs.Option.{is_some}
use Rattle.std.specs.Ordering.{nat_cmp, eq_by_cmp}
use Rattle.rd_dirinfo.specs.Paths.{is_same_path}
use Rattle.rd_tree.specs.Places.{Place, Places, place, without, own_path, IsWhole}
use Rattle.rd_tree.proofs.ViewLemmas.{itself}
use Rattle.rd_tree.proofs.WayLemmas.{same_true}
use Rattle.rd_drive.specs.DriveState.{Node, in_order, is_at_path}
use Rattle.rd_drive.specs.Store.{States, state_of, node_of, node_with, nodes_of}
use Rattle.rd_drive.proofs.LockLemmas.{alike}
use Rattle.rd_drive.proofs.OrderLemmas.{order_filter}
use Rattle.rd_drive.proofs.StoreLemmas.{all_listed, is_equal, own_is, AreListed}

apart : (n k : ℕ) → eq_by_cmp nat_cmp n k ≡ false → (k == n) ≡ false
apart n k e = grind (arith, nat_tests)

-- the tree is one without a number, and what is kept of the others is the same
module _ (tree : Places) (whole : IsWhole tree) (n : ℕ) (x : Place) (here : place tree n ≡ Some x) (old new : States) (same : (k : ℕ) → (k == n) ≡ false → state_of new k ≡ state_of old k) where
  -- a listed place is at the path of the one that goes where it has its number
  at_it : (e : ℕ × Place) → place tree e.0 ≡ Some e.1 → is_same_path tree.naming e.1.path x.path ≡ eq_by_cmp nat_cmp n e.0
  at_it e listed = alike (is_same_path tree.naming e.1.path x.path) (eq_by_cmp nat_cmp n e.0)
      (λ t. ap (eq_by_cmp nat_cmp n) (whole.apart e.0 n (ap is_some listed) (ap is_some here) ((λ i. is_same_path tree.naming (own_is tree whole e.0 e.1 listed i) (own_is tree whole n x here i)) ∙ t)) ∙ itself n)
      (λ t. (λ i. is_same_path tree.naming ((sym (own_is tree whole e.0 e.1 listed) ∙ ap (own_path tree) (sym (is_equal n e.0 t)) ∙ own_is tree whole n x here) i) x.path) ∙ same_true tree.naming x.path x.path refl)

  abbrev stays : Node → Bool
  stays node = not (is_at_path tree.naming x.path node)

  abbrev left : List (ℕ × Place) → List (ℕ × Place)
  left = where_key nat_cmp (λ (k : ℕ). not (eq_by_cmp nat_cmp n k))

  among : (l : List (ℕ × Place)) → AreListed tree whole l → map (node_of new) (left l) ≡ filter stays (map (node_of old) l)
  among [] listed = refl
  among (e ∷ l) listed =
      let later = among l listed.1 in
      let key = sym (at_it e listed.0) in
      ⊎_elim
      (λ t. (λ i. map (node_of new) (cond (not ((key ∙ t) i)) (e ∷ left l) (left l))) ∙ later ∙ (λ i. cond (not (sym t i)) (node_of old e ∷ filter stays (map (node_of old) l)) (filter stays (map (node_of old) l))))
      (λ t. (λ i. map (node_of new) (cond (not ((key ∙ t) i)) (e ∷ left l) (left l))) ∙ (λ i. node_with (same e.0 (apart n e.0 (key ∙ t)) i) e.1 ∷ later i)
      ∙ (λ i. cond (not (sym t i)) (node_of old e ∷ filter stays (map (node_of old) l)) (filter stays (map (node_of old) l))))
      (cases_Bool (is_same_path tree.naming e.1.path x.path))

  pub nodes_without : nodes_of (without tree n) new ≡ filter stays (nodes_of tree old)
  nodes_without = ap (in_order tree.naming) (among tree.list (all_listed tree whole)) ∙ sym (order_filter tree.naming stays (map (node_of old) tree.list))
