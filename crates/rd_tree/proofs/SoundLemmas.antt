-- What keeps nodes sound: the root alone, and changes that leave each edge, each link and each kind.
use Rattle.std.proofs.Common.{◌≡◌, ◌∙◌, sym, ap, subst, ℕ, ◌<◌, ◌^◌, true, Bool, [], ◌∷◌, Option, Some, None, ◌⊎◌, inl, inr, ⊎_elim, get_or, cond, lit<}
use Rattle.std.specs.Option.{option_map, option_map_or, IsSome}
use Rattle.std.specs.Ordering.{nat_cmp, eq_by_cmp}
use Rattle.std.proofs.lemmas.Bool.{cases_eq}
use Rattle.slab.specs.Slab.{Slab, get}
use Rattle.rd_dirinfo.specs.declared.naming.Naming.{Naming}
use Rattle.rd_tree.specs.declared.node.Node.{Node}
use Rattle.rd_tree.specs.Walk.{Key, Keys, Up, down, up_path, path_of}
use Rattle.rd_tree.specs.Places.{Place, root_alone}
use Rattle.rd_tree.specs.Nodes.{child_of, link_of, up_of, file_of, kind_of, node_bytes, get_key, placed, places_of, IsSoundTree}
use Rattle.rd_tree.proofs.NodeLemmas.{child_of-at, child_of-none, link_of-none, link_of-root, up_of-none, up_of-same, kind_of-at, kind_of-none, file_of-at, file_of-none}
use Rattle.rd_tree.proofs.TreeLemmas.{not_some, none_some, sound_same}
use Rattle.rd_tree.proofs.ViewLemmas.{place_seen, seen_sorted, naming_seen, same_places, apart}

-- ---- each edge, link and kind is as before
pub sound_kept : (naming : Naming) (old new : Slab Node) → IsSoundTree naming old → ((n : ℕ) (x : Key) → child_of new n x ≡ child_of old n x) → ((n : ℕ) → link_of new n ≡ link_of old n) → ((n : ℕ) → kind_of new n ≡ kind_of old n) → IsSoundTree naming new
sound_kept naming old new s children links kinds = record {
  tree = sound_same (child_of old) (child_of new) (up_of naming old) (up_of naming new) (kind_of old) (kind_of new) s.tree children (λ n. up_of-same naming old new n (links n)) kinds;
  names = λ n a x e. s.names n a x (sym (links n) ∙ e);
  small = λ n live. s.small n (subst (λ (o : Option Bool). IsSome o) (kinds n) live);
}

-- ---- the root alone
pub no_slots : (s : Slab Node) (n : ℕ) → s.slots ≡ [] → get s n ≡ None
no_slots s n e = ap (λ slots. get_or slots n None) e

module _ (naming : Naming) (nodes : Slab Node) (node : Node) (is : get nodes 0 ≡ Some node) (folder : node.folder ≡ true) (empty : node.children.entries ≡ []) (alone : (n : ℕ) → (n ≡ 0 → ⊥) → get nodes n ≡ None) where
  no_child : (n : ℕ) (x : Key) → child_of nodes n x ≡ None
  no_child n x = ⊎_elim (λ e. ap (λ k. child_of nodes k x) e ∙ child_of-at nodes 0 node x is ∙ ap (λ es. get_key es x) empty) (λ not. child_of-none nodes n x (alone n not)) (cases_eq n 0)

  no_link : (n : ℕ) → link_of nodes n ≡ None
  no_link n = ⊎_elim (λ e. ap (link_of nodes) e ∙ link_of-root nodes) (λ not. link_of-none nodes n (alone n not)) (cases_eq n 0)

  no_up : (n : ℕ) → up_of naming nodes n ≡ None
  no_up n = up_of-none naming nodes n (no_link n)

  lost : (m : ℕ) (o : Option ℕ) → o ≡ None → o ≡ Some m → ⊥
  lost m o e f = two (sym e ∙ f)
    where
      two : None ≡ Some m → ⊥
      two g = absurd (cc)

  no_way : (up : Up) → up 0 ≡ None → path_of up 0 ≡ []
  no_way up e = ap (λ o. option_map_or (λ p. up_path 63 up p.0 (p.1 ∷ [])) o []) e

  only : (n : ℕ) → IsSome (kind_of nodes n) → n ≡ 0
  only n live = ⊎_elim (λ e. e) (λ not. absurd (not_some (kind_of nodes n) (kind_of-none nodes n (alone n not)) live)) (cases_eq n 0)

  pub sound_alone : IsSoundTree naming nodes
  sound_alone = record {
    tree = record {
      agrees = record { root = no_up 0; links = λ a x m found. absurd (lost m (child_of nodes a x) (no_child a x) found) };
      root = kind_of-at nodes 0 node is ∙ ap Some folder;
      back = λ m a x linked. absurd (none_some (a, x) (sym (no_up m) ∙ linked));
      lives = λ m a x linked. absurd (none_some (a, x) (sym (no_up m) ∙ linked));
      rooted = λ m live. subst (λ (k : ℕ). down (child_of nodes) 0 (path_of (up_of naming nodes) k) ≡ Some k) (sym (only m live)) (ap (λ (p : Keys). down (child_of nodes) 0 p) (no_way (up_of naming nodes) (no_up 0)));
      files = λ m x file. no_child m x;
    };
    names = λ n a x linked. absurd (none_some (a, x) (sym (no_link n) ∙ linked));
    small = λ n live. subst (λ (k : ℕ). k < 2 ^ 32) (sym (only n live)) (lit< tt);
  }

  no_bytes : node_bytes node ≡ None
  no_bytes = ap (λ b. cond b None (Some node.contents)) folder

  pub seen_alone : places_of naming nodes ≡ root_alone naming
  seen_alone = same_places (places_of naming nodes) (root_alone naming) (seen_sorted naming nodes) tt (naming_seen naming nodes) (λ n. place_seen naming nodes n ∙ by n (cases_eq n 0))
    where
      root : Place
      root = record { path = []; bytes = None }

      by : (n : ℕ) → (n ≡ 0) ⊎ (n ≡ 0 → ⊥) → option_map (placed (link_of nodes) n) (file_of nodes n) ≡ cond (eq_by_cmp nat_cmp n 0) (Some root) None
      by n (inl e) = subst (λ (k : ℕ). option_map (placed (link_of nodes) k) (file_of nodes k) ≡ cond (eq_by_cmp nat_cmp k 0) (Some root) None) (sym e)
          (ap (option_map (placed (link_of nodes) 0)) (file_of-at nodes 0 node is ∙ ap Some no_bytes) ∙ ap (λ (p : Keys). Some (record { path = p; bytes = None })) (no_way (link_of nodes) (no_link 0)))
      by n (inr not) = ap (option_map (placed (link_of nodes) n)) (file_of-none nodes n (alone n not)) ∙ sym (ap (λ b. cond b (Some root) None) (apart n 0 not))
