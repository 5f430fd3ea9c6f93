-- What every tree is to its callers.
use Rattle.std.proofs.Common.{◌≡◌, ◌∙◌, refl, sym, ap, ℕ, Bool, true, false, not, List, [], ◌∷◌, Option, Some, None}
use Rattle.std.specs.Option.{option_map, option_map_or, option_and_then, unwrap_or, is_some, IsSome}
use Rattle.slab.specs.Slab.{Slab}
use Rattle.rd_dirinfo.specs.declared.naming.Naming.{Naming}
use Rattle.rd_dirinfo.specs.Naming.{Name, seen}
use Rattle.rd_dirinfo.specs.Paths.{Names, is_name, last_name, seen_path, parent, is_same_path}
use Rattle.rd_tree.specs.declared.node.Node.{Node}
use Rattle.rd_tree.specs.Walk.{Key, down, up_path, path_of}
use Rattle.rd_tree.specs.Places.{own_path, is_folder_at, IsLive, IsWhole}
use Rattle.rd_tree.specs.Nodes.{child_of, link_of, up_of, file_of, kind_of, placed, places_of, IsSoundTree}
use Rattle.rd_tree.proofs.KeyLemmas.{one_path}
use Rattle.rd_tree.proofs.TreeLemmas.{not_some}
use Rattle.rd_tree.proofs.NodeLemmas.{link_of-root, up_of-at}
use Rattle.rd_tree.proofs.ViewLemmas.{place_seen, naming_seen, seen_sorted}
use Rattle.std.specs.Prelude.{T}
use Rattle.std.specs.Ordering.{nat_cmp}
use Rattle.std.specs.FinMap.{is_sorted}
use Rattle.rd_tree.proofs.WayLemmas.{keys_of_way, live_above, way_step, true_same}
use Rattle.rd_tree.proofs.PlaceLemmas.{live_place, path_seen, folder_seen, last_of, parent_of}
use Rattle.rd_tree.proofs.ParentLemmas.{link_is, one_node}

no_keys : (naming : Naming) (path : Names) → seen_path naming path ≡ [] → path ≡ []
no_keys naming [] e = refl
no_keys naming (x ∷ path) e = absurd (cc)

is_true : (b : Bool) → T b → b ≡ true
is_true true t = refl
is_true false t = absurd t

module _ (naming : Naming) (nodes : Slab Node) (s : IsSoundTree naming nodes) where
  -- no way leads to the root but the one without names
  pub root_alone_at : (path : Names) → down (child_of nodes) 0 (seen_path naming path) ≡ Some 0 → path ≡ []
  root_alone_at path is = no_keys naming path (one_path (child_of nodes) (up_of naming nodes) s.tree.agrees (seen_path naming path) [] 0 is refl)

  root_way : path_of (link_of nodes) 0 ≡ []
  root_way = ap (λ o. option_map_or (λ (p : ℕ × Key). up_path 63 (link_of nodes) p.0 (p.1 ∷ [])) o []) (link_of-root nodes)

  root_file : file_of nodes 0 ≡ Some None
  root_file = by (file_of nodes 0) refl s.tree.root
    where
      by : (o : Option (Option (List ℕ))) → file_of nodes 0 ≡ o → option_map (λ (bytes : Option (List ℕ)). not (is_some bytes)) o ≡ Some true → file_of nodes 0 ≡ Some None
      by None e k = absurd (cc)
      by (Some None) e k = e
      by (Some (Some b)) e k = absurd (cc)

  pub own_seen : (n : ℕ) → IsSome (kind_of nodes n) → own_path (places_of naming nodes) n ≡ path_of (link_of nodes) n
  own_seen n live = ap (λ (o : Option Names). unwrap_or o []) (path_seen naming nodes n live)

  -- what a node stands in is a folder
  pub folder_above : (k a : ℕ) (x : Name) → link_of nodes k ≡ Some (a, x) → kind_of nodes a ≡ Some true
  folder_above k a x link = by (kind_of nodes a) refl
    where
      child : child_of nodes a (seen naming x) ≡ Some k
      child = s.tree.back k a (seen naming x) (up_of-at naming nodes k a x link)

      by : (o : Option Bool) → kind_of nodes a ≡ o → kind_of nodes a ≡ Some true
      by None e = absurd (not_some (kind_of nodes a) e (live_above naming nodes s k a x link))
      by (Some true) e = e
      by (Some false) e = let both : Some k ≡ None = sym child ∙ s.tree.files a (seen naming x) e in absurd (cc)

  pub whole : IsWhole (places_of naming nodes)
  whole = record {
    rising = is_true (is_sorted nat_cmp (places_of naming nodes).list) (seen_sorted naming nodes);
    root = place_seen naming nodes 0 ∙ ap (option_map (placed (link_of nodes) 0)) root_file ∙ ap (λ (p : Names). Some (record { path = p; bytes = None })) root_way;
    apart = apart;
    parents = parents;
    named = named;
  }
    where
      apart : (n m : ℕ) → IsLive (places_of naming nodes) n → IsLive (places_of naming nodes) m → is_same_path (places_of naming nodes).naming (own_path (places_of naming nodes) n) (own_path (places_of naming nodes) m) ≡ true → n ≡ m
      apart n m live alive same =
          let here = live_place naming nodes n live in
          let there = live_place naming nodes m alive in
          let seen_same : is_same_path naming (path_of (link_of nodes) n) (path_of (link_of nodes) m) ≡ true = sym (λ i. is_same_path (naming_seen naming nodes i) (own_seen n here i) (own_seen m there i)) ∙ same in
          one_node naming nodes s n m here there (true_same naming (path_of (link_of nodes) n) (path_of (link_of nodes) m) seen_same)

      parents : (n : ℕ) → IsLive (places_of naming nodes) n → (0 ≡ n → ⊥) → is_folder_at (places_of naming nodes) (parent (own_path (places_of naming nodes) n)) ≡ true
      parents n live other =
          let here = live_place naming nodes n live in
          let l = link_is naming nodes s n here other in
          let a : ℕ = l.0 in
          let above : parent (own_path (places_of naming nodes) n) ≡ path_of (link_of nodes) a = ap parent (own_seen n here ∙ way_step naming nodes s n a l.1 l.2) ∙ parent_of (path_of (link_of nodes) a) l.1 in
          let there : down (child_of nodes) 0 (seen_path naming (path_of (link_of nodes) a)) ≡ Some a = ap (down (child_of nodes) 0) (keys_of_way naming nodes a) ∙ s.tree.rooted a (live_above naming nodes s n a l.1 l.2) in
          ap (is_folder_at (places_of naming nodes)) above ∙ folder_seen naming nodes s (path_of (link_of nodes) a)
          ∙ ap (λ (o : Option Bool). unwrap_or o false) (ap (option_and_then (kind_of nodes)) there ∙ folder_above n a l.1 l.2)

      named : (n : ℕ) → IsLive (places_of naming nodes) n → (0 ≡ n → ⊥) → is_name (last_name (own_path (places_of naming nodes) n)) ≡ true
      named n live other =
          let here = live_place naming nodes n live in
          let l = link_is naming nodes s n here other in
          ap is_name (ap last_name (own_seen n here ∙ way_step naming nodes s n l.0 l.1 l.2) ∙ last_of (path_of (link_of nodes) l.0) l.1) ∙ s.names n l.0 l.1 l.2
