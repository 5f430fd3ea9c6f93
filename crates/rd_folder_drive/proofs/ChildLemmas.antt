-- A folder in which something stands.
use Rattle.std.proofs.Common.{◌≡◌, ◌∙◌, refl, sym, ap, ◌+◌, ◌==◌, ◌⊎◌, inl, inr, Bool, true, false, ◌&&◌, ◌||◌, List, [], ◌∷◌, length, take, Some, nat_le, arith}
use Rattle.std.specs.List.{list_any}
use Rattle.std.proofs.lemmas.Bool.{and_parts, cases_Bool, eqb-true}
use Rattle.std.proofs.Math.Bool.{and-false}
use Rattle.rd_dirinfo.specs.declared.naming.Naming.TheVariants.{Exact}
use Rattle.rd_dirinfo.specs.Paths.{Names, is_parent, is_prefix, is_same_path, parent}
use Rattle.rd_drive.specs.DriveState.{Node, has_children, is_at_path, is_folder_node}
use Rattle.rd_folder.specs.FolderCalls.{node_there}
use Rattle.rd_folder.specs.Told.{IsFolderMap, drive_over}
use Rattle.rd_folder.proofs.ExactLemmas.{same_exact}
use Rattle.rd_folder.proofs.HasLemmas.{Has, find_has, one_at}
use Rattle.rd_folder.proofs.MapLemmas.{held_by}

-- what some pass one passes
pub any_has : (p : Node → Bool) (l : List Node) → list_any p l ≡ true → (x : Node) × Has l x × (p x ≡ true)
any_has p [] some = absurd (cc)
any_has p (y ∷ ys) some = by (λ t. any_has p ys t) (p y) refl
  where
    by : (list_any p ys ≡ true → (x : Node) × Has ys x × (p x ≡ true)) → (b : Bool) → p y ≡ b → (x : Node) × ((x ≡ y) ⊎ Has ys x) × (p x ≡ true)
    by further true here = (y, inl refl, here)
    by further false past = let later : (x : Node) × Has ys x × (p x ≡ true) = further (ap (λ b. b || list_any p ys) (sym past) ∙ some) in (later.0, inr later.1, later.2)

-- a path's parent
pub parent_of : (q p : Names) → is_parent Exact q p ≡ true → (parent p ≡ q) × (p ≡ [] → ⊥)
parent_of q p t =
    let parts : (is_prefix Exact q p ≡ true) × ((length p == length q + 1) ≡ true) = and_parts (is_prefix Exact q p) (length p == length q + 1) t in
    let long : length p ≡ length q + 1 = eqb-true (length p) (length q + 1) parts.1 in
    let begins : is_same_path Exact q (take (length q) p) ≡ true = (and_parts (nat_le (length q) (length p)) (is_same_path Exact q (take (length q) p)) parts.0).1 in
    (ap (λ k. take k p) (omega (arith, long)) ∙ sym (same_exact q (take (length q) p) begins), λ none. no_length p long none)
  where
    no_length : (p : Names) → length p ≡ length q + 1 → p ≡ [] → ⊥
    no_length [] long none = absurd (omega (arith, long))
    no_length (x ∷ xs) long none = absurd (cc)

-- where something stands in it, it is a folder
pub children_folder : (nodes : List Node) → IsFolderMap nodes → (path : Names) (node : Node) → node_there nodes path ≡ Some node → has_children (drive_over nodes) path ≡ true → is_folder_node node ≡ true
children_folder nodes is path node there some =
    let child : (x : Node) × Has nodes x × (is_parent Exact path x.path ≡ true) = any_has (λ (x : Node). is_parent Exact path x.path) nodes some in
    let above : (parent child.0.path ≡ path) × (child.0.path ≡ [] → ⊥) = parent_of path child.0.path child.2 in
    let folder = held_by nodes is child.0 child.1 above.1 in
    let found : Has nodes node × (is_at_path Exact path node ≡ true) = find_has (is_at_path Exact path) nodes node there in
    ap is_folder_node (one_at nodes is.rises node folder.0 found.0 folder.1 (same_exact node.path path found.1 ∙ sym above.0 ∙ sym folder.2)) ∙ folder.3

-- so of what stands at a path it is enough to know whether something stands in it
pub filled_seen : (nodes : List Node) → IsFolderMap nodes → (path : Names) (node : Node) → node_there nodes path ≡ Some node → (is_folder_node node && has_children (drive_over nodes) path) ≡ has_children (drive_over nodes) path
filled_seen nodes is path node there = elim (cases_Bool (has_children (drive_over nodes) path)) [
  | inl some ↦ ap (λ b. b && has_children (drive_over nodes) path) (children_folder nodes is path node there some)
  | inr none ↦ ap (λ b. is_folder_node node && b) none ∙ and-false (is_folder_node node) ∙ sym none
]
