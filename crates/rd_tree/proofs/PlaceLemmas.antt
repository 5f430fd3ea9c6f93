-- What callers see of the parts of a path: the folder that it leads into, and the path that a node gets.
use Rattle.std.proofs.Common.{◌≡◌, ◌∙◌, refl, sym, ap, ℕ, ◌-◌, Bool, true, false, not, List, [], ◌∷◌, ◌++◌, length, take, Option, Some, None, arith, length-append}
use Rattle.std.proofs.lemmas.List.{take-append-le, take_all, length-map, map-append}
use Rattle.std.specs.List.{last_or}
use Rattle.std.specs.Option.{option_map, option_and_then, unwrap_or, is_some, IsSome}
use Rattle.slab.specs.Slab.{Slab, entries, slab_len}
use Rattle.slab.proofs.SlabLemmas.{length-entries}
use Rattle.rd_dirinfo.specs.declared.naming.Naming.{Naming}
use Rattle.rd_dirinfo.specs.Naming.{Name, seen}
use Rattle.rd_dirinfo.specs.Paths.{Names, seen_path, parent, last_name}
use Rattle.rd_tree.specs.declared.node.Node.{Node}
use Rattle.rd_tree.specs.Walk.{onward, down, kind_at, path_of}
use Rattle.rd_tree.specs.Places.{Place, place, path_at, node_at, is_folder, is_folder_at, kept_path, asked_path}
use Rattle.rd_tree.specs.Nodes.{child_of, link_of, file_of, kind_of, node_bytes, placed, places_of, LacksFolder, Locates, IsSoundTree}
use Rattle.rd_tree.proofs.KeyLemmas.{down_on}
use Rattle.rd_tree.proofs.ViewLemmas.{place_seen}
use Rattle.rd_tree.proofs.WayLemmas.{node_found}

-- ---- a place that stays
pub place_kept : (naming : Naming) (old new : Slab Node) (k : ℕ) → file_of new k ≡ file_of old k → (IsSome (file_of old k) → path_of (link_of new) k ≡ path_of (link_of old) k) → place (places_of naming new) k ≡ place (places_of naming old) k
place_kept naming old new k file way = place_seen naming new k ∙ ap (option_map (placed (link_of new) k)) file ∙ by (file_of old k) refl ∙ sym (place_seen naming old k)
  where
    some : (o : Option (Option (List ℕ))) (v : Option (List ℕ)) → o ≡ Some v → IsSome o
    some o v e = ap is_some e

    by : (o : Option (Option (List ℕ))) → file_of old k ≡ o → option_map (placed (link_of new) k) (file_of old k) ≡ option_map (placed (link_of old) k) (file_of old k)
    by None e = ap (option_map (placed (link_of new) k)) e ∙ sym (ap (option_map (placed (link_of old) k)) e)
    by (Some b) e = ap (option_map (placed (link_of new) k)) e ∙ ap (λ (p : Names). Some (record { path = p; bytes = b })) (way (some (file_of old k) b e)) ∙ sym (ap (option_map (placed (link_of old) k)) e)

pub live_file : (nodes : Slab Node) (k : ℕ) → IsSome (file_of nodes k) → IsSome (kind_of nodes k)
live_file nodes k live = by (file_of nodes k) live
  where
    by : (o : Option (Option (List ℕ))) → IsSome o → IsSome (option_map (λ (bytes : Option (List ℕ)). not (is_some bytes)) o)
    by None h = absurd (cc)
    by (Some b) h = refl

pub file_live : (nodes : Slab Node) (k : ℕ) → IsSome (kind_of nodes k) → IsSome (file_of nodes k)
file_live nodes k live = by (file_of nodes k) live
  where
    by : (o : Option (Option (List ℕ))) → IsSome (option_map (λ (bytes : Option (List ℕ)). not (is_some bytes)) o) → IsSome o
    by None h = absurd (cc)
    by (Some b) h = refl

pub live_place : (naming : Naming) (nodes : Slab Node) (k : ℕ) → IsSome (place (places_of naming nodes) k) → IsSome (kind_of nodes k)
live_place naming nodes k live = live_file nodes k (by (file_of nodes k) (ap is_some (sym (place_seen naming nodes k)) ∙ live))
  where
    by : (o : Option (Option (List ℕ))) → IsSome (option_map (placed (link_of nodes) k) o) → IsSome o
    by None h = absurd (cc)
    by (Some b) h = refl

pub live_seen : (naming : Naming) (nodes : Slab Node) (k : ℕ) → IsSome (kind_of nodes k) → IsSome (place (places_of naming nodes) k)
live_seen naming nodes k live = ap is_some (place_seen naming nodes k) ∙ by (file_of nodes k) (file_live nodes k live)
  where
    by : (o : Option (Option (List ℕ))) → IsSome o → IsSome (option_map (placed (link_of nodes) k) o)
    by None h = absurd (cc)
    by (Some b) h = refl

-- the path of a live number
pub path_seen : (naming : Naming) (nodes : Slab Node) (k : ℕ) → IsSome (kind_of nodes k) → path_at (places_of naming nodes) k ≡ Some (path_of (link_of nodes) k)
path_seen naming nodes k live = ap (option_map (λ (p : Place). p.path)) (place_seen naming nodes k) ∙ by (file_of nodes k) (file_live nodes k live)
  where
    by : (o : Option (Option (List ℕ))) → IsSome o → option_map (λ (p : Place). p.path) (option_map (placed (link_of nodes) k) o) ≡ Some (path_of (link_of nodes) k)
    by None h = absurd (cc)
    by (Some b) h = refl

-- ---- folders
pub folder_kind : (naming : Naming) (nodes : Slab Node) (n : ℕ) → is_folder (places_of naming nodes) n ≡ kind_of nodes n
folder_kind naming nodes n = ap (option_map (λ (p : Place). not (is_some p.bytes))) (place_seen naming nodes n) ∙ by (file_of nodes n)
  where
    by : (o : Option (Option (List ℕ))) → option_map (λ (p : Place). not (is_some p.bytes)) (option_map (placed (link_of nodes) n) o) ≡ option_map (λ (bytes : Option (List ℕ)). not (is_some bytes)) o
    by None = refl
    by (Some b) = refl

pub folder_seen : (naming : Naming) (nodes : Slab Node) → IsSoundTree naming nodes → (path : Names) → is_folder_at (places_of naming nodes) path ≡ unwrap_or (kind_at (child_of nodes) (kind_of nodes) (seen_path naming path)) false
folder_seen naming nodes s path =
    let kinds : is_folder (places_of naming nodes) ≡ kind_of nodes = λ i. λ n. (folder_kind naming nodes n) i in
    ap (λ (o : Option ℕ). unwrap_or (option_and_then (is_folder (places_of naming nodes)) o) false) (node_found naming nodes s path)
    ∙ ap (λ (f : ℕ → Option Bool). unwrap_or (option_and_then f (down (child_of nodes) 0 (seen_path naming path))) false) kinds

-- where all names but the last lead to no folder, there is none
pub lacks_folder : (naming : Naming) (nodes : Slab Node) → IsSoundTree naming nodes → (names : Names) → LacksFolder naming nodes names → is_folder_at (places_of naming nodes) (parent names) ≡ false
lacks_folder naming nodes s names lacks = folder_seen naming nodes s (parent names) ∙ none (kind_at (child_of nodes) (kind_of nodes) (seen_path naming (parent names))) lacks
  where
    none : (o : Option Bool) → (o ≡ Some true → ⊥) → unwrap_or o false ≡ false
    none None h = refl
    none (Some true) h = absurd (h refl)
    none (Some false) h = refl

-- ---- the parts of a path
pub parent_of : (front : Names) (name : Name) → parent (front ++ name ∷ []) ≡ front
parent_of front name =
    let long : length (front ++ name ∷ []) - 1 ≡ length front = omega (arith, length-append front (name ∷ [])) in
    ap (λ n. take n (front ++ name ∷ [])) long ∙ take-append-le (length front) front (name ∷ []) (omega arith) ∙ take_all (length front) front (omega arith)

last_from : (front : Names) (name : Name) (o : Option Name) → last_or o (front ++ name ∷ []) ≡ Some name
last_from [] name o = refl
last_from (x ∷ front) name o = last_from front name (Some x)

pub last_of : (front : Names) (name : Name) → last_name (front ++ name ∷ []) ≡ name
last_of front name = ap (λ (o : Option Name). unwrap_or o []) (last_from front name None)

module _ (naming : Naming) (nodes : Slab Node) (s : IsSoundTree naming nodes) (names : Names) (folder : ℕ) (name : Name) (l : Locates naming nodes names folder name) where
  pub parent_is : parent names ≡ l.front
  parent_is = ap parent l.split ∙ parent_of l.front name

  pub keys_split : seen_path naming names ≡ seen_path naming l.front ++ seen naming name ∷ []
  keys_split = ap (seen_path naming) l.split ∙ map-append (seen naming) l.front (name ∷ [])

  pub located_folder : is_folder_at (places_of naming nodes) (parent names) ≡ true
  located_folder = ap (is_folder_at (places_of naming nodes)) parent_is ∙ folder_seen naming nodes s l.front
      ∙ ap (λ (o : Option Bool). unwrap_or o false) (ap (option_and_then (kind_of nodes)) l.at ∙ l.is_folder)

  pub located_node : node_at (places_of naming nodes) names ≡ child_of nodes folder (seen naming name)
  located_node = node_found naming nodes s names ∙ ap (down (child_of nodes) 0) keys_split ∙ down_on (child_of nodes) 0 folder (seen_path naming l.front) (seen naming name ∷ []) l.at ∙ same (child_of nodes folder (seen naming name))
    where
      same : (o : Option ℕ) → onward o (λ k. Some k) ≡ o
      same None = refl
      same (Some n) = refl

  pub asked_is : asked_path (places_of naming nodes) names ≡ path_of (link_of nodes) folder ++ name ∷ []
  asked_is =
      let tree = places_of naming nodes in
      let kept : kept_path tree l.front ≡ path_of (link_of nodes) folder =
      ap (λ (o : Option ℕ). unwrap_or (option_and_then (path_at tree) o) l.front) (node_found naming nodes s l.front ∙ l.at) ∙ ap (λ (o : Option Names). unwrap_or o l.front) (path_seen naming nodes folder (ap is_some l.is_folder)) in
      λ i. (ap (kept_path tree) parent_is ∙ kept) i ++ (ap last_name l.split ∙ last_of l.front name) i ∷ []

pub nodes_seen : (naming : Naming) (nodes : Slab Node) → length (places_of naming nodes).list ≡ slab_len nodes
unfolding places_of
nodes_seen naming nodes = length-map (entries nodes) (λ e. (e.0, placed (link_of nodes) e.0 (node_bytes e.1))) ∙ length-entries nodes
