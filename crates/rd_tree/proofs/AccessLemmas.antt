-- What callers see of the folder of a path, of a child, and of what a node stands in.
use Rattle.std.proofs.Common.{◌≡◌, ◌∙◌, refl, sym, ap, ℕ, ◌<◌, Bool, true, false, cond, eqb, length, [], ◌∷◌, ◌++◌, Option, Some, None, arith}
use Rattle.std.proofs.lemmas.Bool.{and_parts, eqb-true}
use Rattle.std.specs.List.{list_all}
use Rattle.std.specs.Option.{option_and_then, option_map, unwrap_or, is_some, IsSome, IfSome}
use Rattle.slab.specs.Slab.{Slab, get}
use Rattle.rd_dirinfo.specs.declared.naming.Naming.{Naming}
use Rattle.rd_dirinfo.specs.Naming.{Name, seen}
use Rattle.rd_dirinfo.specs.Paths.{Names, is_name, last_name, parent, seen_path}
use Rattle.rd_tree.specs.declared.node.Node.{Node}
use Rattle.rd_tree.specs.declared.node.NodeId.{NodeId}
use Rattle.rd_tree.specs.Walk.{down, kind_at, onward, path_of}
use Rattle.rd_tree.specs.Places.{node_at, own_path, folder_of, is_folder, is_folder_at, IsLive}
use Rattle.rd_tree.specs.Nodes.{child_of, link_of, up_of, kind_of, places_of, LacksFolder, Locates, IsSoundTree}
use Rattle.rd_tree.proofs.TreeLemmas.{not_some}
use Rattle.rd_tree.proofs.KeyLemmas.{down_lost, down_on}
use Rattle.std.proofs.lemmas.List.{map-append}
use Rattle.rd_tree.proofs.NodeLemmas.{link_of-at}
use Rattle.rd_tree.proofs.PlaceLemmas.{folder_kind, folder_seen, last_of, live_place, live_seen, lacks_folder, located_folder, located_node, parent_is, parent_of}
use Rattle.rd_tree.proofs.WayLemmas.{found_live, keys_of_way, live_above, node_found, way_step}
use Rattle.rd_tree.proofs.WholeLemmas.{folder_above, own_seen}

pub no_names : (names : Names) (b : Bool) → b ≡ eqb (length names) 0 → b ≡ true → names ≡ []
no_names [] b is empty = refl
no_names (name ∷ names) b is empty = absurd (omega (arith, eqb-true (length (name ∷ names)) 0 (sym is ∙ empty)))

split_end : (x : Name) (xs : Names) → (front : Names) × (y : Name) × (x ∷ xs ≡ front ++ y ∷ [])
split_end x [] = ([], x, refl)
split_end x (y ∷ ys) = let rest = split_end y ys in (x ∷ rest.0, rest.1, ap (λ (p : Names). x ∷ p) rest.2)

module _ (naming : Naming) (nodes : Slab Node) (s : IsSoundTree naming nodes) where
  -- ---- the folder of a path
  pub folder_located : (names : Names) (folder : ℕ) (name : Name) → Locates naming nodes names folder name → folder_of (places_of naming nodes) names ≡ Some folder
  folder_located names folder name l =
      ap (λ b. cond b (node_at (places_of naming nodes) (parent names)) None) (located_folder naming nodes s names folder name l)
      ∙ ap (node_at (places_of naming nodes)) (parent_is naming nodes s names folder name l) ∙ node_found naming nodes s l.front ∙ l.at

  pub folder_lost : (names : Names) → LacksFolder naming nodes names → folder_of (places_of naming nodes) names ≡ None
  folder_lost names lacks = ap (λ b. cond b (node_at (places_of naming nodes) (parent names)) None) (lacks_folder naming nodes s names lacks)

  pub folder_root : folder_of (places_of naming nodes) [] ≡ Some 0
  folder_root =
      ap (λ b. cond b (node_at (places_of naming nodes) []) None) (folder_seen naming nodes s [] ∙ ap (λ (o : Option Bool). unwrap_or o false) s.tree.root)
      ∙ node_found naming nodes s []

  -- there is no node either
  pub node_lost : (names : Names) → 0 < length names → LacksFolder naming nodes names → node_at (places_of naming nodes) names ≡ None
  node_lost [] some lacks = absurd (omega arith)
  node_lost (x ∷ xs) some lacks =
      node_found naming nodes s (x ∷ xs) ∙ ap (λ (p : Names). down (child_of nodes) 0 (seen_path naming p)) split.2
      ∙ ap (down (child_of nodes) 0) (map-append (seen naming) split.0 (split.1 ∷ [])) ∙ by (down (child_of nodes) 0 (seen_path naming split.0)) refl
    where
      split : (front : Names) × (y : Name) × (x ∷ xs ≡ front ++ y ∷ [])
      split = split_end x xs

      childless : (a : ℕ) → down (child_of nodes) 0 (seen_path naming split.0) ≡ Some a → (o : Option Bool) → kind_of nodes a ≡ o → child_of nodes a (seen naming split.1) ≡ None
      childless a e None k = absurd (not_some (kind_of nodes a) k (found_live (child_of nodes) (up_of naming nodes) (kind_of nodes) s.tree (seen_path naming split.0) a e))
      childless a e (Some true) k = absurd (lacks (ap (λ (p : Names). kind_at (child_of nodes) (kind_of nodes) (seen_path naming p)) (ap parent split.2 ∙ parent_of split.0 split.1) ∙ ap (option_and_then (kind_of nodes)) e ∙ k))
      childless a e (Some false) k = s.tree.files a (seen naming split.1) k

      by : (o : Option ℕ) → down (child_of nodes) 0 (seen_path naming split.0) ≡ o → down (child_of nodes) 0 (seen_path naming split.0 ++ seen naming split.1 ∷ []) ≡ None
      by None e = down_lost (child_of nodes) 0 (seen_path naming split.0) (seen naming split.1 ∷ []) e
      by (Some a) e = down_on (child_of nodes) 0 a (seen_path naming split.0) (seen naming split.1 ∷ []) e ∙ ap (λ (o : Option ℕ). onward o (λ k. Some k)) (childless a e (kind_of nodes a) refl)

  pub node_live : (names : Names) (n : ℕ) → node_at (places_of naming nodes) names ≡ Some n → IsSome (kind_of nodes n)
  node_live names n at = found_live (child_of nodes) (up_of naming nodes) (kind_of nodes) s.tree (seen_path naming names) n (sym (node_found naming nodes s names) ∙ at)

  -- where the folder of a path was found, the last name stands in it
  pub folder_found : (front : Names) (name : Name) (folder : ℕ) → list_all is_name (front ++ name ∷ []) ≡ true → folder_of (places_of naming nodes) (front ++ name ∷ []) ≡ Some folder → Locates naming nodes (front ++ name ∷ []) folder name
  folder_found front name folder named found = record {
    front = front;
    split = refl;
    at = there.1;
    is_folder = kind (kind_of nodes folder) (sym (ap (λ (o : Option ℕ). unwrap_or (option_and_then (kind_of nodes) o) false) there.1) ∙ sym (folder_seen naming nodes s front) ∙ there.0);
    named = last_named front named;
  }
    where
      parts : (b : Bool) (o : Option ℕ) → cond b o None ≡ Some folder → (b ≡ true) × (o ≡ Some folder)
      parts true o e = (refl, e)
      parts false o e = absurd (cc)

      there : (is_folder_at (places_of naming nodes) front ≡ true) × (down (child_of nodes) 0 (seen_path naming front) ≡ Some folder)
      there =
          let at : cond (is_folder_at (places_of naming nodes) front) (node_at (places_of naming nodes) front) None ≡ Some folder =
          ap (λ (p : Names). cond (is_folder_at (places_of naming nodes) p) (node_at (places_of naming nodes) p) None) (sym (parent_of front name)) ∙ found in
          let both = parts (is_folder_at (places_of naming nodes) front) (node_at (places_of naming nodes) front) at in
          (both.0, sym (node_found naming nodes s front) ∙ both.1)

      kind : (o : Option Bool) → unwrap_or o false ≡ true → o ≡ Some true
      kind None e = absurd (cc)
      kind (Some b) e = ap (λ (v : Bool). Some v) e

      last_named : (front : Names) → list_all is_name (front ++ name ∷ []) ≡ true → is_name name ≡ true
      last_named [] all = (and_parts (is_name name) true all).0
      last_named (x ∷ front) all = last_named front (and_parts (is_name x) (list_all is_name (front ++ name ∷ [])) all).1

  -- ---- a child
  module _ (folder : ℕ) (name : Name) (is : is_folder (places_of naming nodes) folder ≡ Some true) (named : is_name name ≡ true) where
    kind_is : kind_of nodes folder ≡ Some true
    kind_is = sym (folder_kind naming nodes folder) ∙ is

    located : Locates naming nodes (path_of (link_of nodes) folder ++ name ∷ []) folder name
    located = record {
      front = path_of (link_of nodes) folder;
      split = refl;
      at = ap (down (child_of nodes) 0) (keys_of_way naming nodes folder) ∙ s.tree.rooted folder (ap is_some kind_is);
      is_folder = kind_is;
      named = named;
    }

    pub child_seen : node_at (places_of naming nodes) (own_path (places_of naming nodes) folder ++ name ∷ []) ≡ child_of nodes folder (seen naming name)
    child_seen =
        ap (λ (p : Names). node_at (places_of naming nodes) (p ++ name ∷ [])) (own_seen naming nodes s folder (ap is_some kind_is))
        ∙ located_node naming nodes s (path_of (link_of nodes) folder ++ name ∷ []) folder name located

    pub child_live : (n : ℕ) → child_of nodes folder (seen naming name) ≡ Some n → IsSome (kind_of nodes n)
    child_live n e =
        let names = path_of (link_of nodes) folder ++ name ∷ [] in
        found_live (child_of nodes) (up_of naming nodes) (kind_of nodes) s.tree (seen_path naming names) n
        (sym (node_found naming nodes s names) ∙ located_node naming nodes s names folder name located ∙ e)

  -- ---- what a node stands in
  module _ (n : ℕ) (node : Node) (live : IsLive (places_of naming nodes) n) (other : 0 ≡ n → ⊥) (is : get nodes n ≡ Some node) where
    link : link_of nodes n ≡ Some (node.parent, node.name)
    link = link_of-at nodes n node other is

    here : IsSome (kind_of nodes n)
    here = live_place naming nodes n live

    above : IsSome (kind_of nodes node.parent)
    above = live_above naming nodes s n node.parent node.name link

    own_is : own_path (places_of naming nodes) n ≡ path_of (link_of nodes) node.parent ++ node.name ∷ []
    own_is = own_seen naming nodes s n here ∙ way_step naming nodes s n node.parent node.name link

    pub parent_seen : own_path (places_of naming nodes) node.parent ≡ parent (own_path (places_of naming nodes) n)
    parent_seen = own_seen naming nodes s node.parent above ∙ sym (ap parent own_is ∙ parent_of (path_of (link_of nodes) node.parent) node.name)

    pub parent_live : IsLive (places_of naming nodes) node.parent
    parent_live = live_seen naming nodes node.parent above

    pub parent_folder : is_folder (places_of naming nodes) node.parent ≡ Some true
    parent_folder = folder_kind naming nodes node.parent ∙ folder_above naming nodes s n node.parent node.name link

    pub parent_small : IsSome (kind_of nodes node.parent)
    parent_small = above

    pub name_seen : node.name ≡ last_name (own_path (places_of naming nodes) n)
    name_seen = sym (ap last_name own_is ∙ last_of (path_of (link_of nodes) node.parent) node.name)

    pub name_named : is_name node.name ≡ true
    name_named = s.names n node.parent node.name link

-- what holds of each number that is found
pub if_some : {X : Type 0} (P : X → Type 0) (o : Option X) → ((x : X) → o ≡ Some x → P x) → IfSome o P
if_some P None each = tt
if_some P (Some x) each = each x refl

pub if_numbered : (P : ℕ → Type 0) (o : Option ℕ) (r : Option NodeId) → option_map (λ (node : NodeId). node.0) r ≡ o → ((n : ℕ) → o ≡ Some n → P n) → IfSome r (λ (node : NodeId). P node.0)
if_numbered P o None is each = tt
if_numbered P o (Some node) is each = each node.0 (sym is)
