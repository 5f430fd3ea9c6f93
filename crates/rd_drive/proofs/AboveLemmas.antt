-- The folders above a path, and what stands in a folder.
use Rattle.std.proofs.Common.{◌≡◌, ◌∙◌, refl, sym, ap, ℕ, ◌+◌, ◌-◌, ◌≤◌, ◌==◌, Bool, true, false, not, ◌&&◌, ◌||◌, cond, List, [], ◌∷◌, ◌++◌, map, take, length, Option, Some, None, find, suc, arith, append_assoc, length-append}
use Rattle.std.specs.Prelude.{nat_le}
use Rattle.std.specs.List.{list_any, list_all}
use Rattle.std.specs.Option.{option_map, option_map_or, option_and_then, unwrap_or, is_some}
use Rattle.std.proofs.lemmas.List.{append-nil, take-map}
use Rattle.std.proofs.lemmas.List.Folds.{list_all-map}
use Rattle.std.proofs.lemmas.Bool.{eqb-true}
use Rattle.std.proofs.Math.Bool.{and-true}
use Rattle.rd_dirinfo.specs.declared.naming.Naming.{Naming}
use Rattle.rd_dirinfo.specs.Naming.{Name, seen}
use Rattle.rd_dirinfo.specs.Paths.{Names, last_name, seen_path, parent, is_parent, is_prefix, is_same_path, IsSamePath}
use Rattle.rd_tree.specs.Places.{Place, Places, place, own_path, first_at, node_at, has_child, is_folder, is_folder_at, IsWhole}
use Rattle.rd_tree.proofs.PlaceLemmas.{parent_of}
use Rattle.rd_tree.proofs.WayLemmas.{same_true, true_same}
use Rattle.rd_drive.specs.DriveState as drive
use Rattle.rd_drive.specs.DriveState.{Node, is_at_path}
use Rattle.rd_drive.specs.Create.{folders_above}
use Rattle.rd_drive.specs.Store.{States, state_of, node_of, node_with, nodes_of}
use Rattle.rd_drive.proofs.OrderLemmas.{order_any}
use Rattle.rd_drive.proofs.LockLemmas.{alike}
use Rattle.rd_drive.proofs.StoreLemmas.{AreListed, all_listed, first_listed, node_at_seen, node_of_number, number_at_own, own_is}

-- paths that are the same have one node
first_same : (naming : Naming) (p q : Names) → is_same_path naming p q ≡ true → (l : List (ℕ × Place)) → first_at naming p l ≡ first_at naming q l
first_same naming p q same [] = refl
first_same naming p q same (e ∷ l) =
    λ i. cond (alike (is_same_path naming e.1.path p) (is_same_path naming e.1.path q)
    (λ t. same_true naming e.1.path q (true_same naming e.1.path p t ∙ true_same naming p q same))
    (λ t. same_true naming e.1.path p (true_same naming e.1.path q t ∙ sym (true_same naming p q same))) i) (Some e.0) (first_same naming p q same l i)

pub seen_count : (naming : Naming) (p : Names) → length (seen_path naming p) ≡ length p
seen_count naming [] = refl
seen_count naming (x ∷ p) = omega (arith, seen_count naming p)

-- and so have their parents
parents_alike : (naming : Naming) (p q : Names) → is_same_path naming p q ≡ true → is_same_path naming (parent p) (parent q) ≡ true
parents_alike naming p q same =
    let one : IsSamePath naming p q = true_same naming p q same in
    let count : length p ≡ length q = sym (seen_count naming p) ∙ ap (length {A = Name}) one ∙ seen_count naming q in
    same_true naming (parent p) (parent q) (
    sym (take-map (seen naming) (length p - 1) p) ∙ (λ i. take (count i - 1) (one i)) ∙ take-map (seen naming) (length q - 1) q)

no_names : (naming : Naming) (p : Names) → is_same_path naming [] p ≡ true → p ≡ []
no_names naming [] e = refl
no_names naming (x ∷ p) e = absurd (let long : [] ≡ seen naming x ∷ seen_path naming p = true_same naming [] (x ∷ p) e in cc)

pub parent_more : (y z : Name) (zs : Names) → parent (y ∷ z ∷ zs) ≡ y ∷ parent (z ∷ zs)
parent_more y z zs = ap (λ k. take k (y ∷ z ∷ zs)) (longer (length (z ∷ zs)) (length (y ∷ z ∷ zs)) (omega arith) (omega arith))
  where
    longer : (k n : ℕ) → n ≡ k + 1 → 1 ≤ k → n - 1 ≡ suc (k - 1)
    longer k n e h = omega arith

-- a path that isn't the root's is its parent's and the last name
pub path_joined : (y : Name) (ys : Names) → parent (y ∷ ys) ++ last_name (y ∷ ys) ∷ [] ≡ y ∷ ys
path_joined y [] = refl
path_joined y (z ∷ zs) = ap (λ (p : Names). p ++ last_name (z ∷ zs) ∷ []) (parent_more y z zs) ∙ ap (◌∷◌ y) (path_joined z zs)

implied : (a b : Bool) → (b ≡ true → a ≡ true) → (a && b) ≡ b
implied a true f = ap (λ c. c && true) (f refl)
implied true false f = refl
implied false false f = refl

module _ (tree : Places) (whole : IsWhole tree) where
  pub node_same : (p q : Names) → is_same_path tree.naming p q ≡ true → node_at tree p ≡ node_at tree q
  node_same p q same = first_same tree.naming p q same tree.list

  pub folder_same : (p q : Names) → is_same_path tree.naming p q ≡ true → is_folder_at tree p ≡ is_folder_at tree q
  folder_same p q same = ap (λ (o : Option ℕ). unwrap_or (option_and_then (is_folder tree) o) false) (node_same p q same)

  -- in what a node stands is a folder
  pub above_node : (p : Names) (n : ℕ) → node_at tree p ≡ Some n → (0 ≡ n → ⊥) → is_folder_at tree (parent p) ≡ true
  above_node p n at other =
      let there = first_listed tree whole p n tree.list (all_listed tree whole) at in
      sym (folder_same (parent (own_path tree n)) (parent p) (parents_alike tree.naming (own_path tree n) p there.1)) ∙ whole.parents n there.0 other

  -- the root has no names
  pub at_root : (p : Names) → node_at tree p ≡ Some 0 → p ≡ []
  at_root p at =
      let there = first_listed tree whole p 0 tree.list (all_listed tree whole) at in
      no_names tree.naming p (ap (λ (q : Names). is_same_path tree.naming q p) (sym (own_is tree whole 0 (record { path = []; bytes = None }) whole.root)) ∙ there.1)

  pub root_at : node_at tree [] ≡ Some 0
  root_at = ap (node_at tree) (sym (own_is tree whole 0 (record { path = []; bytes = None }) whole.root)) ∙ number_at_own tree whole 0 (record { path = []; bytes = None }) whole.root

  -- the folder of a number
  pub own_folder : (n : ℕ) (x : Place) → place tree n ≡ Some x → is_folder_at tree (own_path tree n) ≡ not (is_some x.bytes)
  own_folder n x here =
      ap (λ (o : Option ℕ). unwrap_or (option_and_then (is_folder tree) o) false) (number_at_own tree whole n x here)
      ∙ ap (λ (o : Option Place). unwrap_or (option_map (λ (p : Place). not (is_some p.bytes)) o) false) here

  one_up : (front : Names) (y : Name) → is_folder_at tree (front ++ y ∷ []) ≡ true → is_folder_at tree front ≡ true
  one_up front y folder = by (node_at tree (front ++ y ∷ [])) refl folder
    where
      by : (o : Option ℕ) → node_at tree (front ++ y ∷ []) ≡ o → unwrap_or (option_and_then (is_folder tree) o) false ≡ true → is_folder_at tree front ≡ true
      by None e t = absurd (cc)
      by (Some n) e t = ap (is_folder_at tree) (sym (parent_of front y)) ∙ above_node (front ++ y ∷ []) n e lower
        where
          lower : 0 ≡ n → ⊥
          lower is =
              let none : front ++ y ∷ [] ≡ [] = at_root (front ++ y ∷ []) (e ∙ ap (λ (m : ℕ). Some m) (sym is)) in
              let long : length (front ++ y ∷ []) ≡ length front + 1 = length-append front (y ∷ []) in
              let short : length (front ++ y ∷ []) ≡ 0 = ap (length {A = Name}) none in
              absurd (omega (arith, long, short))

  -- what a path leads through is a folder, where its end is one
  prefix_folder : (rest front : Names) → is_folder_at tree (front ++ rest) ≡ true → is_folder_at tree front ≡ true
  prefix_folder [] front folder = ap (is_folder_at tree) (sym (append-nil front)) ∙ folder
  prefix_folder (y ∷ rest) front folder = one_up front y (prefix_folder rest (front ++ y ∷ []) (ap (is_folder_at tree) (append_assoc front (y ∷ []) rest) ∙ folder))

  above : (front : Names) (y : Name) (ys : Names) → list_all (λ (q : Names). is_folder_at tree (front ++ q)) (folders_above (y ∷ ys)) ≡ is_folder_at tree (front ++ parent (y ∷ ys))
  above front y [] = and-true (is_folder_at tree (front ++ []))
  above front y (z ∷ zs) =
      ap (λ b. is_folder_at tree (front ++ []) && b) (
      list_all-map (λ (q : Names). is_folder_at tree (front ++ q)) (◌∷◌ y) (folders_above (z ∷ zs))
      ∙ ap (λ (f : Names → Bool). list_all f (folders_above (z ∷ zs))) (λ i. λ (q : Names). is_folder_at tree (sym (append_assoc front (y ∷ []) q) i))
      ∙ above (front ++ y ∷ []) z zs
      ∙ ap (is_folder_at tree) (append_assoc front (y ∷ []) (parent (z ∷ zs)) ∙ ap (λ (q : Names). front ++ q) (sym (parent_more y z zs))))
      ∙ implied (is_folder_at tree (front ++ [])) (is_folder_at tree (front ++ parent (y ∷ z ∷ zs))) (λ t. ap (is_folder_at tree) (append-nil front) ∙ prefix_folder (parent (y ∷ z ∷ zs)) front t)

  -- all folders above a path are there where the last is
  pub all_above : (y : Name) (ys : Names) → list_all (is_folder_at tree) (folders_above (y ∷ ys)) ≡ is_folder_at tree (parent (y ∷ ys))
  all_above y ys = above [] y ys

  -- ---- as callers see it

  pub folder_seen : (states : States) (path : Names) → option_map_or drive.is_folder_node (find (is_at_path tree.naming path) (nodes_of tree states)) false ≡ is_folder_at tree path
  folder_seen states path = ap (λ (o : Option Node). option_map_or drive.is_folder_node o false) (node_at_seen tree whole states path) ∙ by (node_at tree path)
    where
      by : (o : Option ℕ) → option_map_or drive.is_folder_node (option_and_then (node_of_number tree whole states) o) false ≡ unwrap_or (option_and_then (is_folder tree) o) false
      by None = refl
      by (Some n) = at (place tree n)
        where
          at : (o : Option Place) → option_map_or drive.is_folder_node (option_map (node_with (state_of states n)) o) false ≡ unwrap_or (option_map (λ (p : Place). not (is_some p.bytes)) o) false
          at None = refl
          at (Some x) = refl

  any_listed : (states : States) (q : Names → Bool) (l : List (ℕ × Place)) → list_any (λ (node : Node). q node.path) (map (node_of states) l) ≡ list_any (λ (e : ℕ × Place). q e.1.path) l
  any_listed states q [] = refl
  any_listed states q (e ∷ l) = ap (λ b. q e.1.path || b) (any_listed states q l)

  pub children_seen : (states : States) (n : ℕ) (x : Place) → place tree n ≡ Some x → list_any (λ (node : Node). is_parent tree.naming x.path node.path) (nodes_of tree states) ≡ has_child tree n
  children_seen states n x here =
      order_any tree.naming (λ (node : Node). is_parent tree.naming x.path node.path) (map (node_of states) tree.list)
      ∙ any_listed states (is_parent tree.naming x.path) tree.list
      ∙ ap (λ (p : Names). list_any (λ (e : ℕ × Place). is_parent tree.naming p e.1.path) tree.list) (sym (own_is tree whole n x here))

  -- ---- what has children is a folder

  pub some_child : (p : Names) (l : List (ℕ × Place)) → AreListed tree whole l → list_any (λ (e : ℕ × Place). is_parent tree.naming p e.1.path) l ≡ true → (e : ℕ × Place) × (place tree e.0 ≡ Some e.1) × (is_parent tree.naming p e.1.path ≡ true)
  some_child p [] listed any = absurd (cc)
  some_child p (e ∷ l) listed any = by (λ h. some_child p l listed.1 h) (is_parent tree.naming p e.1.path) refl any
    where
      by : (list_any (λ (e : ℕ × Place). is_parent tree.naming p e.1.path) l ≡ true → (e : ℕ × Place) × (place tree e.0 ≡ Some e.1) × (is_parent tree.naming p e.1.path ≡ true)) → (b : Bool) → is_parent tree.naming p e.1.path ≡ b
          → (b || list_any (λ (e : ℕ × Place). is_parent tree.naming p e.1.path) l) ≡ true → (e : ℕ × Place) × (place tree e.0 ≡ Some e.1) × (is_parent tree.naming p e.1.path ≡ true)
      by later true t h = (e, listed.0, t)
      by later false t h = later h

  pub both_true : (a b : Bool) → (a && b) ≡ true → (a ≡ true) × (b ≡ true)
  both_true true b e = (refl, e)
  both_true false b e = absurd (cc)

  pub child_folder : (n : ℕ) (x : Place) → place tree n ≡ Some x → has_child tree n ≡ true → not (is_some x.bytes) ≡ true
  child_folder n x here any =
      let child = some_child (own_path tree n) tree.list (all_listed tree whole) any in
      let k : ℕ = child.0.0 in
      let path : Names = child.0.1.path in
      let parts = both_true (is_prefix tree.naming (own_path tree n) path) (length path == length (own_path tree n) + 1) child.2 in
      let long : length path ≡ length (own_path tree n) + 1 = eqb-true (length path) (length (own_path tree n) + 1) parts.1 in
      let own : own_path tree k ≡ path = own_is tree whole k child.0.1 child.1 in
      let same = (both_true (nat_le (length (own_path tree n)) (length path)) (is_same_path tree.naming (own_path tree n) (take (length (own_path tree n)) path)) parts.0).1 in
      let up : parent path ≡ take (length (own_path tree n)) path = ap (λ m. take m path) (less (length path) (length (own_path tree n)) long) in
      sym (own_folder n x here)
      ∙ folder_same (own_path tree n) (parent path) (ap (is_same_path tree.naming (own_path tree n)) up ∙ same)
      ∙ ap (λ (p : Names). is_folder_at tree (parent p)) (sym own)
      ∙ whole.parents k (ap is_some child.1) (λ z. not_root k path z own long)
    where
      less : (m k : ℕ) → m ≡ k + 1 → m - 1 ≡ k
      less m k e = omega arith

      not_root : (k : ℕ) (path : Names) → 0 ≡ k → own_path tree k ≡ path → length path ≡ length (own_path tree n) + 1 → ⊥
      not_root k path z own long =
          let none : path ≡ [] = sym own ∙ ap (own_path tree) (sym z) ∙ own_is tree whole 0 (record { path = []; bytes = None }) whole.root in
          let short : length path ≡ 0 = ap (length {A = Name}) none in
          omega (arith, long, short)
