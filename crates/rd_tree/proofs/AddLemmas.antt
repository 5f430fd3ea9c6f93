-- Adding: why it is refused, and what a new node changes.
use Rattle.std.proofs.Common.{◌≡◌, ◌∙◌, refl, sym, ap, subst, ℕ, ◌<◌, ◌≤◌, ◌^◌, ⊎_elim, Bool, true, false, not, cond, nat_le, eqb, List, [], ◌∷◌, ◌++◌, length, Option, Some, None, arith, length-append}
use Rattle.std.proofs.lemmas.List.{length-map}
use Rattle.std.specs.Option.{option_map, is_some, IsSome}
use Rattle.std.proofs.lemmas.Bool.Decides.{nat_tests}
use Rattle.std.proofs.lemmas.Bool.{cases_eq, le-leb, lt-leb}
use Rattle.rd_base.specs.Limits.{max_nodes}
use Rattle.slab.specs.Slab.{Slab, slab_len}
use Rattle.rd_dirinfo.specs.declared.naming.Naming.{Naming}
use Rattle.rd_dirinfo.specs.Naming.{Name, seen}
use Rattle.rd_dirinfo.specs.Paths.{Names, is_name, seen_path, parent}
use Rattle.rd_tree.specs.declared.node.Node.{Node}
use Rattle.rd_tree.specs.declared.refusal.AddNo.TheVariants as add
use Rattle.rd_tree.specs.Walk.{Key, path_of}
use Rattle.rd_tree.specs.Places.{Places, node_at, is_folder_at, asked_path, add_refusal, new_place, Adds}
use Rattle.rd_tree.specs.Nodes.{child_of, link_of, up_of, kind_of, placed, places_of, Locates, LacksFolder, Inserts, SameNodes, IsSoundTree}
use Rattle.rd_tree.proofs.TreeLemmas.{not_some, inside, sound_added}
use Rattle.rd_tree.proofs.NodeLemmas.{up_of-at, up_of-same, kind_of-same}
use Rattle.rd_tree.proofs.ViewLemmas.{place_seen, placed_at, unchanged}
use Rattle.rd_tree.proofs.WayLemmas.{same_way, live_above, way_step}
use Rattle.rd_tree.proofs.SoundLemmas.{sound_kept}
use Rattle.rd_tree.proofs.PlaceLemmas.{place_kept, live_file, asked_is, located_folder, located_node, nodes_seen, lacks_folder}

-- the refusal, by its three tests
pub refusal_is : (tree : Places) (path : Names) (folder there full : Bool) → 0 < length path → is_folder_at tree (parent path) ≡ folder → is_some (node_at tree path) ≡ there → nat_le max_nodes (length tree.list) ≡ full
    → add_refusal tree path ≡ cond (not folder) (Some add.PathNotFound) (cond there (Some add.Collision) (cond full (Some add.Full) None))
refusal_is tree [] folder there full some e f g = absurd (omega arith)
refusal_is tree (x ∷ xs) folder there full some e f g = λ i. cond (not (e i)) (Some add.PathNotFound) (cond (f i) (Some add.Collision) (cond (g i) (Some add.Full) None))

pub above_zero : (n : ℕ) (b : Bool) → b ≡ eqb n 0 → b ≡ false → 0 < n
above_zero n b is none = grind (arith, nat_tests)

-- the refusal, by what is found on the way
module _ (naming : Naming) (nodes : Slab Node) (s : IsSoundTree naming nodes) (names : Names) where
  pub refused_lost : 0 < length names → LacksFolder naming nodes names → add_refusal (places_of naming nodes) names ≡ Some add.PathNotFound
  refused_lost some lacks = refusal_is (places_of naming nodes) names false (is_some (node_at (places_of naming nodes) names)) (nat_le max_nodes (length (places_of naming nodes).list)) some
      (lacks_folder naming nodes s names lacks) refl refl

  module _ (folder : ℕ) (name : Name) (l : Locates naming nodes names folder name) where
    some : 0 < length names
    some = omega (arith, ap (λ (p : Names). length p) l.split, length-append l.front (name ∷ []))

    there_is : (b : Bool) → is_some (child_of nodes folder (seen naming name)) ≡ b → is_some (node_at (places_of naming nodes) names) ≡ b
    there_is b e = ap is_some (located_node naming nodes s names folder name l) ∙ e

    pub refused_there : is_some (child_of nodes folder (seen naming name)) ≡ true → add_refusal (places_of naming nodes) names ≡ Some add.Collision
    refused_there e = refusal_is (places_of naming nodes) names true true (nat_le max_nodes (length (places_of naming nodes).list)) some (located_folder naming nodes s names folder name l) (there_is true e) refl

    pub refused_full : is_some (child_of nodes folder (seen naming name)) ≡ false → max_nodes ≤ slab_len nodes → add_refusal (places_of naming nodes) names ≡ Some add.Full
    refused_full e full = refusal_is (places_of naming nodes) names true false true some (located_folder naming nodes s names folder name l) (there_is false e) (ap (nat_le max_nodes) (nodes_seen naming nodes) ∙ le-leb max_nodes (slab_len nodes) full)

    pub not_refused : is_some (child_of nodes folder (seen naming name)) ≡ false → slab_len nodes < max_nodes → add_refusal (places_of naming nodes) names ≡ None
    not_refused e room = refusal_is (places_of naming nodes) names true false false some (located_folder naming nodes s names folder name l) (there_is false e) (ap (nat_le max_nodes) (nodes_seen naming nodes) ∙ lt-leb max_nodes (slab_len nodes) room)

-- nothing changes for callers where each step is taken back
pub same_seen : (naming : Naming) (old new : Slab Node) → SameNodes old new → places_of naming new ≡ places_of naming old
same_seen naming old new same =
    let links : link_of new ≡ link_of old = λ i. λ n. (same.links n) i in
    unchanged naming old new (λ k. place_kept naming old new k (same.files k) (λ live. λ i. path_of (links i) k))

pub sound_seen : (naming : Naming) (old new : Slab Node) → IsSoundTree naming old → SameNodes old new → IsSoundTree naming new
sound_seen naming old new s same = sound_kept naming old new s same.children same.links (λ n. kind_of-same old new n (same.files n))

module _ (naming : Naming) (old new : Slab Node) (s : IsSoundTree naming old) (names : Names) (folder : ℕ) (name : Name) (l : Locates naming old names folder name) (short : length names ≤ 64)
    (free : child_of old folder (seen naming name) ≡ None) (bytes : Option (List ℕ)) (m : ℕ) (h : Inserts naming old new folder name bytes m) where
  dead : kind_of old m ≡ None
  dead = ap (option_map (λ bytes. not (is_some bytes))) h.fresh

  live_other : (k : ℕ) → IsSome (kind_of old k) → k ≡ m → ⊥
  live_other k live e = not_some (kind_of old m) dead (subst (λ (j : ℕ). IsSome (kind_of old j)) e live)

  pub sound_inserted : IsSoundTree naming new
  sound_inserted = record {
    tree = sound_added (child_of old) (up_of naming old) (kind_of old) s.tree (child_of new) (up_of naming new) (kind_of new) (seen_path naming l.front) (seen naming name) folder m (not (is_some bytes)) l.at
        (omega (arith, length-map l.front (seen naming), ap (λ (p : Names). length p) l.split, length-append l.front (name ∷ [])))
        l.is_folder free dead h.others h.here (λ k apart. up_of-same naming old new k (h.links k apart)) (up_of-at naming new m folder name h.link)
        (λ k apart. kind_of-same old new k (h.files k apart)) (ap (option_map (λ bytes. not (is_some bytes))) h.file) h.bare;
    names = λ n a x linked. ⊎_elim
        (λ e. let p : ◌≡◌ {A = ℕ × Key} (folder, name) (a, x) = inside (folder, name) (a, x) (sym h.link ∙ ap (link_of new) (sym e) ∙ linked) in sym (ap (λ q. is_name q.1) p) ∙ l.named)
        (λ apart. s.names n a x (sym (h.links n apart) ∙ linked)) (cases_eq n m);
    small = λ n live. ⊎_elim (λ e. subst (λ (k : ℕ). k < 2 ^ 32) (sym e) h.small) (λ apart. s.small n (subst (λ (o : Option Bool). IsSome o) (kind_of-same old new n (h.files n apart)) live)) (cases_eq n m);
  }

  -- the ways to what was there
  pub ways_stay : (k : ℕ) → IsSome (kind_of old k) → path_of (link_of new) k ≡ path_of (link_of old) k
  ways_stay k live = same_way (λ j. IsSome (kind_of old j)) (link_of old) (link_of new) (λ j a x lives link. live_above naming old s j a x link) (λ j lives. h.links j (live_other j lives)) 64 k [] live

  pub way_made : path_of (link_of new) m ≡ asked_path (places_of naming old) names
  way_made = way_step naming new sound_inserted m folder name h.link ∙ ap (λ (p : Names). p ++ name ∷ []) (ways_stay folder (ap is_some l.is_folder)) ∙ sym (asked_is naming old s names folder name l)

  pub made_seen : (folds : Bool) → bytes ≡ cond folds None (Some []) → add_refusal (places_of naming old) names ≡ None → Adds (places_of naming old) (places_of naming new) names folds m
  made_seen folds is allowed = record {
    allowed = allowed;
    fresh = place_seen naming old m ∙ ap (option_map (placed (link_of old) m)) h.fresh;
    made = placed_at naming old new m (new_place (places_of naming old) names folds)
        (place_seen naming new m ∙ ap (option_map (placed (link_of new) m)) (h.file ∙ ap Some is) ∙ ap (λ (p : Names). Some (record { path = p; bytes = cond folds None (Some []) })) way_made)
        (λ k apart. place_kept naming old new k (h.files k apart) (λ live. ways_stay k (live_file old k live)));
  }
