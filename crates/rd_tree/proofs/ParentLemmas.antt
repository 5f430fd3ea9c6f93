-- The children of a node, as callers see them: the nodes whose path has its path as parent.
use Rattle.std.proofs.Common.{◌≡◌, ◌∙◌, refl, sym, ap, ℕ, ◌+◌, ◌==◌, Bool, true, false, ◌&&◌, nat_le, List, [], ◌∷◌, ◌++◌, length, take, map, Option, Some, None, ◌||◌, ◌⊎◌, inl, inr, arith, length-append}
use Rattle.std.proofs.lemmas.List.{take-append-le, take_all}
use Rattle.std.proofs.lemmas.Bool.{cases_eq, and_parts, eqb-true, eq-eqb, le-leb}
use Rattle.std.specs.List.{Contains, list_any}
use Rattle.std.specs.Option.{option_map, option_map_or, unwrap_or, IsSome}
use Rattle.std.proofs.Math.Bool.{or-true}
use Rattle.slab.specs.Slab.{Slab, entries}
use Rattle.slab.proofs.SlabLemmas.{Contains-cons, Contains-cons_cases, Contains-entries}
use Rattle.rd_dirinfo.specs.declared.naming.Naming.{Naming}
use Rattle.rd_dirinfo.specs.Naming.{Name, seen}
use Rattle.rd_dirinfo.specs.Paths.{Names, seen_path, is_same_path, is_prefix, is_parent}
use Rattle.rd_tree.specs.declared.node.Node.{Node}
use Rattle.rd_tree.specs.Walk.{Key, down, up_path, path_of}
use Rattle.rd_tree.specs.Places.{Place, has_child}
use Rattle.rd_tree.specs.Nodes.{child_of, link_of, up_of, kind_of, node_bytes, placed, places_of, HasChild, IsSoundTree}
use Rattle.rd_tree.proofs.TreeLemmas.{some_is, not_some, inside}
use Rattle.rd_tree.proofs.NodeLemmas.{kind_of-at, up_of-at, up_of-none, link_of-root}
use Rattle.rd_tree.proofs.WayLemmas.{keys_of_way, live_above, link_live, live_node, way_step, same_true, true_same}
use Rattle.rd_tree.proofs.PlaceLemmas.{path_seen}

-- a path with one more name has the path as parent, and only paths that are the same
pub parent_same : (naming : Naming) (p q : Names) (x : Name) → is_parent naming p (q ++ x ∷ []) ≡ true → seen_path naming p ≡ seen_path naming q
parent_same naming p q x e =
    let parts = and_parts (is_prefix naming p (q ++ x ∷ [])) (length (q ++ x ∷ []) == length p + 1) e in
    let same = and_parts (nat_le (length p) (length (q ++ x ∷ []))) (is_same_path naming p (take (length p) (q ++ x ∷ []))) parts.0 in
    let long : length q ≡ length p = omega (arith, eqb-true (length (q ++ x ∷ [])) (length p + 1) parts.1, length-append q (x ∷ [])) in
    let front : take (length p) (q ++ x ∷ []) ≡ q = ap (λ n. take n (q ++ x ∷ [])) (sym long) ∙ take-append-le (length q) q (x ∷ []) (omega arith) ∙ take_all (length q) q (omega arith) in
    true_same naming p (take (length p) (q ++ x ∷ [])) same.1 ∙ ap (seen_path naming) front

pub same_parent : (naming : Naming) (p : Names) (x : Name) → is_parent naming p (p ++ x ∷ []) ≡ true
same_parent naming p x =
    let front : take (length p) (p ++ x ∷ []) ≡ p = take-append-le (length p) p (x ∷ []) (omega arith) ∙ take_all (length p) p (omega arith) in
    let prefix : is_prefix naming p (p ++ x ∷ []) ≡ true = λ i. le-leb (length p) (length (p ++ x ∷ [])) (omega (arith, length-append p (x ∷ []))) i && (ap (is_same_path naming p) front ∙ same_true naming p p refl) i in
    λ i. prefix i && eq-eqb (length (p ++ x ∷ [])) (length p + 1) (omega (arith, length-append p (x ∷ []))) i

-- ---- tests of all places
pub any_from : (f : ℕ × Node → ℕ × Place) (test : ℕ × Place → Bool) (es : List (ℕ × Node)) (e : ℕ × Node) → Contains es e → test (f e) ≡ true → list_any test (map f es) ≡ true
any_from f test [] e c t = absurd (omega (arith, c.1))
any_from f test (d ∷ es) e c t = by (any_from f test es e) (Contains-cons_cases d e es c)
  where
    by : (Contains es e → test (f e) ≡ true → list_any test (map f es) ≡ true) → (d ≡ e) ⊎ Contains es e → (test (f d) || list_any test (map f es)) ≡ true
    by more (inl same) = ap (λ b. b || list_any test (map f es)) (ap (λ x. test (f x)) same ∙ t)
    by more (inr later) = ap (λ b. test (f d) || b) (more later t) ∙ or-true (test (f d))

pub from_any : (f : ℕ × Node → ℕ × Place) (test : ℕ × Place → Bool) (es : List (ℕ × Node)) → list_any test (map f es) ≡ true → (e : ℕ × Node) × Contains es e × (test (f e) ≡ true)
from_any f test [] t = absurd (cc)
from_any f test (d ∷ es) t = by (from_any f test es) (test (f d)) refl t
  where
    by : (list_any test (map f es) ≡ true → (e : ℕ × Node) × Contains es e × (test (f e) ≡ true)) → (b : Bool) → test (f d) ≡ b → (b || list_any test (map f es)) ≡ true → (e : ℕ × Node) × Contains (d ∷ es) e × (test (f e) ≡ true)
    by more true is h = (d, (0, omega arith, refl), is)
    by more false is h = let e = more h in (e.0, Contains-cons d e.0 es e.1, e.2)

module _ (naming : Naming) (nodes : Slab Node) (s : IsSoundTree naming nodes) where
  -- a live number has a link, but for the root
  pub link_is : (m : ℕ) → IsSome (kind_of nodes m) → (0 ≡ m → ⊥) → (a : ℕ) × (x : Name) × (link_of nodes m ≡ Some (a, x))
  link_is m live other = by (link_of nodes m) refl
    where
      alone : up_of naming nodes m ≡ None → 0 ≡ m
      alone up =
          let way : path_of (up_of naming nodes) m ≡ [] = ap (λ o. option_map_or (λ (p : ℕ × Key). up_path 63 (up_of naming nodes) p.0 (p.1 ∷ [])) o []) up in
          let both : Some 0 ≡ Some m = sym (ap (down (child_of nodes) 0) way) ∙ s.tree.rooted m live in cc

      by : (o : Option (ℕ × Key)) → link_of nodes m ≡ o → (a : ℕ) × (x : Name) × (link_of nodes m ≡ Some (a, x))
      by None e = absurd (other (alone (up_of-none naming nodes m e)))
      by (Some p) e = (p.0, p.1, e)

  -- two live numbers on the same way are one
  pub one_node : (n a : ℕ) → IsSome (kind_of nodes n) → IsSome (kind_of nodes a) → seen_path naming (path_of (link_of nodes) n) ≡ seen_path naming (path_of (link_of nodes) a) → n ≡ a
  one_node n a live alive same =
      let keys : path_of (up_of naming nodes) n ≡ path_of (up_of naming nodes) a = sym (keys_of_way naming nodes n) ∙ same ∙ keys_of_way naming nodes a in
      let both : Some n ≡ Some a = sym (s.tree.rooted n live) ∙ ap (down (child_of nodes) 0) keys ∙ s.tree.rooted a alive in cc

  -- whose path has a node's path as parent: the nodes that are linked to it
  pub linked_parent : (n k : ℕ) → IsSome (kind_of nodes n) → IsSome (kind_of nodes k) → is_parent naming (path_of (link_of nodes) n) (path_of (link_of nodes) k) ≡ true → (x : Name) × (link_of nodes k ≡ Some (n, x))
  linked_parent n k live alive t = by (cases_eq 0 k)
    where
      no_parent : (p : Names) → is_parent naming p [] ≡ true → ⊥
      no_parent p e = absurd (omega (arith, eqb-true 0 (length p + 1) (and_parts (is_prefix naming p []) (0 == length p + 1) e).1))

      root : path_of (link_of nodes) 0 ≡ []
      root = ap (λ o. option_map_or (λ (p : ℕ × Key). up_path 63 (link_of nodes) p.0 (p.1 ∷ [])) o []) (link_of-root nodes)

      by : (0 ≡ k) ⊎ (0 ≡ k → ⊥) → (x : Name) × (link_of nodes k ≡ Some (n, x))
      by (inl e) = absurd (no_parent (path_of (link_of nodes) n) (sym (ap (is_parent naming (path_of (link_of nodes) n)) (ap (path_of (link_of nodes)) (sym e) ∙ root)) ∙ t))
      by (inr other) =
          let l = link_is k alive other in
          let same = parent_same naming (path_of (link_of nodes) n) (path_of (link_of nodes) l.0) l.1 (sym (ap (is_parent naming (path_of (link_of nodes) n)) (way_step naming nodes s k l.0 l.1 l.2)) ∙ t) in
          (l.1, l.2 ∙ ap (λ (a : ℕ). Some (a, l.1)) (sym (one_node n l.0 live (live_above naming nodes s k l.0 l.1 l.2) same)))

  pub parent_linked : (n k : ℕ) (x : Name) → link_of nodes k ≡ Some (n, x) → is_parent naming (path_of (link_of nodes) n) (path_of (link_of nodes) k) ≡ true
  parent_linked n k x link = ap (is_parent naming (path_of (link_of nodes) n)) (way_step naming nodes s k n x link) ∙ same_parent naming (path_of (link_of nodes) n) x

  -- a link by its key is that of a name
  pub linked : (k n : ℕ) (y : Key) → up_of naming nodes k ≡ Some (n, y) → (x : Name) × (link_of nodes k ≡ Some (n, x))
  unfolding up_of
  linked k n y up = by (link_of nodes k) refl up
    where
      by : (o : Option (ℕ × Key)) → link_of nodes k ≡ o → option_map {U = ℕ × Key} (λ (p : ℕ × Key). (p.0, seen naming p.1)) o ≡ Some (n, y) → (x : Name) × (link_of nodes k ≡ Some (n, x))
      by None e f = absurd (cc)
      by (Some p) e f = (p.1, e ∙ ap (λ (a : ℕ). Some (a, p.1)) (ap (λ (q : ℕ × Key). q.0) (inside (p.0, seen naming p.1) (n, y) f)))

  -- whether a node has children
  pub children_seen : (n : ℕ) → IsSome (kind_of nodes n) → has_child (places_of naming nodes) n ≡ list_any (λ (e : ℕ × Place). is_parent naming (path_of (link_of nodes) n) e.1.path) (places_of naming nodes).list
  unfolding places_of
  children_seen n live = ap (λ (o : Option Names). list_any (λ (e : ℕ × Place). is_parent naming (unwrap_or o []) e.1.path) (places_of naming nodes).list) (path_seen naming nodes n live)

  pub has_child_seen : (n : ℕ) → IsSome (kind_of nodes n) → HasChild nodes n → has_child (places_of naming nodes) n ≡ true
  unfolding places_of
  has_child_seen n live h = children_seen n live ∙ by (child_of nodes n h.0) refl h.1
    where
      by : (o : Option ℕ) → child_of nodes n h.0 ≡ o → IsSome o → list_any (λ (e : ℕ × Place). is_parent naming (path_of (link_of nodes) n) e.1.path) (places_of naming nodes).list ≡ true
      by None e some = absurd (cc)
      by (Some k) e some =
          let up = s.tree.agrees.links n h.0 k e in
          let l = linked k n h.0 up in
          let node = live_node nodes k (link_live naming nodes s k n l.0 l.1) in
          any_from (λ e. (e.0, placed (link_of nodes) e.0 (node_bytes e.1))) (λ (e : ℕ × Place). is_parent naming (path_of (link_of nodes) n) e.1.path) (entries nodes) (k, node.0) ((Contains-entries nodes k node.0).1 node.1) (parent_linked n k l.0 l.1)

  pub seen_has_child : (n : ℕ) → IsSome (kind_of nodes n) → has_child (places_of naming nodes) n ≡ true → HasChild nodes n
  unfolding places_of
  seen_has_child n live t =
      let e = from_any (λ e. (e.0, placed (link_of nodes) e.0 (node_bytes e.1))) (λ (e : ℕ × Place). is_parent naming (path_of (link_of nodes) n) e.1.path) (entries nodes) (sym (children_seen n live) ∙ t) in
      let k : ℕ = e.0.0 in
      let alive : IsSome (kind_of nodes k) = some_is (kind_of nodes k) e.0.1.folder (kind_of-at nodes k e.0.1 ((Contains-entries nodes k e.0.1).0 e.1)) in
      let l = linked_parent n k live alive e.2 in
      (seen naming l.0, some_is (child_of nodes n (seen naming l.0)) k (s.tree.back k n (seen naming l.0) (up_of-at naming nodes k n l.0 l.1)))

pub childless : (nodes : Slab Node) (n : ℕ) → ((x : Key) → child_of nodes n x ≡ None) → HasChild nodes n → ⊥
childless nodes n none h = not_some (child_of nodes n h.0) (none h.0) h.1
