-- What callers see of a folder's entries: the names of its children, of which the first wanted one is next.
use Rattle.std.proofs.Common.{◌≡◌, ◌∙◌, refl, sym, ap, subst, ℕ, zero, suc, ◌⊎◌, inl, inr, ⊎_elim, Bool, true, false, ◌&&◌, List, [], ◌∷◌, map, Option, Some, None, Vec, cond, arith}
use Rattle.std.specs.List.{Contains, filter}
use Rattle.std.specs.List.Sorted.{IsStrictlySortedBy}
use Rattle.std.specs.Map.{keys_of}
use Rattle.std.specs.BTreeMap.{is_at}
use Rattle.std.specs.BTreeMap.Range.{entries_between, range_contains}
use Rattle.std.specs.declared.ops.Bound.TheVariants.{Excluded, Unbounded}
use Rattle.std.specs.Ordering.{nat_cmp, is_lt}
use Rattle.std.specs.Cmp.Lexicographic.{slice_cmp}
use Rattle.std.specs.Option.{option_map, unwrap_or, IsSome}
use Rattle.slab.specs.Slab.{Slab, get, entries}
use Rattle.slab.proofs.SlabLemmas.{Contains-cons, Contains-cons_cases, Contains-entries}
use Rattle.rd_dirinfo.specs.declared.naming.Naming.{Naming}
use Rattle.rd_dirinfo.specs.Naming.{Name, seen}
use Rattle.rd_dirinfo.specs.Paths.{Names, is_parent, last_name}
use Rattle.rd_dirinfo.specs.Patterns.{matches}
use Rattle.rd_tree.specs.declared.node.Node.{Node}
use Rattle.rd_tree.specs.Walk.{Key, path_of}
use Rattle.rd_dirinfo.specs.Patterns.{is_wanted}
use Rattle.rd_tree.specs.Places.{Place, child_names, next_name}
use Rattle.rd_tree.specs.Nodes.{child_of, link_of, up_of, kind_of, node_bytes, placed, places_of, to_kept, get_key, key_cmp, name_of, names_in, first_in, IsSoundTree}
use Rattle.rd_tree.proofs.TreeLemmas.{some_is, inside}
use Rattle.rd_tree.proofs.NodeLemmas.{child_of-at, kind_of-at, up_of-at}
use Rattle.rd_tree.proofs.WayLemmas.{link_live, live_node, way_step}
use Rattle.rd_tree.proofs.PlaceLemmas.{path_seen, last_of}
use Rattle.rd_tree.proofs.ParentLemmas.{linked, linked_parent, parent_linked}
use Rattle.rd_tree.proofs.ListingLemmas.{first_is_least}
use Rattle.rd_tree.proofs.EntryLemmas.{Named, named_all, in_order, names_from, names_has, kept, skip}

-- ---- lists
gather_has : {E Z : Type 0} (f : E → Z) (P : Z → Bool) (g : Z → Name) (es : List E) (e : E) → Contains es e → P (f e) ≡ true → Contains (map g (filter P (map f es))) (g (f e))
gather_has f P g [] e c t = absurd (omega (arith, c.1))
gather_has {E} f P g (d ∷ es) e c t = by (λ h. gather_has f P g es e h t) (Contains-cons_cases d e es c) (P (f d)) refl
  where
    by : (Contains es e → Contains (map g (filter P (map f es))) (g (f e))) → (d ≡ e) ⊎ Contains es e → (b : Bool) → P (f d) ≡ b → Contains (map g (cond b (f d ∷ filter P (map f es)) (filter P (map f es)))) (g (f e))
    by later (inl h) true u = subst (λ (z : E). Contains (g (f d) ∷ map g (filter P (map f es))) (g (f z))) h (0, omega arith, refl)
    by later (inl h) false u = let both : false ≡ true = sym u ∙ ap (λ (z : E). P (f z)) h ∙ t in absurd (cc)
    by later (inr h) true u = Contains-cons (g (f d)) (g (f e)) (map g (filter P (map f es))) (later h)
    by later (inr h) false u = later h

gather_from : {E Z : Type 0} (f : E → Z) (P : Z → Bool) (g : Z → Name) (es : List E) (y : Name) → Contains (map g (filter P (map f es))) y → (e : E) × Contains es e × (P (f e) ≡ true) × (g (f e) ≡ y)
gather_from f P g [] y c = absurd (omega (arith, c.1))
gather_from {E} f P g (d ∷ es) y c = by (gather_from f P g es y) (P (f d)) refl c
  where
    more : (e : E) × Contains es e × (P (f e) ≡ true) × (g (f e) ≡ y) → (e : E) × Contains (d ∷ es) e × (P (f e) ≡ true) × (g (f e) ≡ y)
    more r = (r.0, Contains-cons d r.0 es r.1, r.2, r.3)

    by : (Contains (map g (filter P (map f es))) y → (e : E) × Contains es e × (P (f e) ≡ true) × (g (f e) ≡ y)) → (b : Bool) → P (f d) ≡ b → Contains (map g (cond b (f d ∷ filter P (map f es)) (filter P (map f es)))) y → (e : E) × Contains (d ∷ es) e × (P (f e) ≡ true) × (g (f e) ≡ y)
    by later true u h = ⊎_elim (λ same. (d, (0, omega arith, refl), u, same)) (λ k. more (later k)) (Contains-cons_cases (g (f d)) y (map g (filter P (map f es))) h)
    by later false u h = more (later h)

lookup_has : {A : Type 0} (es : List (Vec ℕ A × ℕ)) (key : Key) (v : ℕ) → get_key es key ≡ Some v → (e : Vec ℕ A × ℕ) × Contains es e × (e.1 ≡ v)
lookup_has [] key v is = absurd (cc)
lookup_has {A} (d ∷ es) key v is = by (lookup_has es key v) (is_at (to_kept key) d.0) is
  where
    by : (get_key es key ≡ Some v → (e : Vec ℕ A × ℕ) × Contains es e × (e.1 ≡ v)) → (b : Bool) → cond b (Some d.1) (get_key es key) ≡ Some v → (e : Vec ℕ A × ℕ) × Contains (d ∷ es) e × (e.1 ≡ v)
    by later true h = (d, (0, omega arith, refl), cc)
    by later false h = let r = later h in (r.0, Contains-cons d r.0 es r.1, r.2)

-- the name of a link is the node's
name_is : (nodes : Slab Node) (k a : ℕ) (x : Name) → link_of nodes k ≡ Some (a, x) → name_of nodes k ≡ Some x
unfolding link_of
name_is nodes zero a x link = absurd (cc)
name_is nodes (suc k) a x link = by (get nodes (suc k)) link
  where
    by : (o : Option Node) → option_map {U = ℕ × Key} (λ node. (node.parent, node.name)) o ≡ Some (a, x) → option_map {U = Name} (λ node. node.name) o ≡ Some x
    by None h = absurd (cc)
    by (Some node) h = ap Some (ap (λ (q : ℕ × Key). q.1) (inside (node.parent, node.name) (a, x) h))

module _ (naming : Naming) (nodes : Slab Node) (s : IsSoundTree naming nodes) (n : ℕ) (node : Node) (is : get nodes n ≡ Some node) (ordered : IsStrictlySortedBy key_cmp (keys_of node.children.entries)) where
  live : IsSome (kind_of nodes n)
  live = some_is (kind_of nodes n) node.folder (kind_of-at nodes n node is)

  entry_link : (e : Vec ℕ _ × ℕ) → Contains node.children.entries e → (x : Name) × (link_of nodes e.1 ≡ Some (n, x)) × (seen naming x ≡ e.0.items)
  entry_link e c =
      let up : up_of naming nodes e.1 ≡ Some (n, e.0.items) = s.tree.agrees.links n e.0.items e.1 (child_of-at nodes n node e.0.items is ∙ kept node.children.entries ordered e c) in
      let l = linked naming nodes s e.1 n e.0.items up in
      (l.0, l.1, ap (λ (q : ℕ × Key). q.1) (inside (n, seen naming l.0) (n, e.0.items) (sym (up_of-at naming nodes e.1 n l.0 l.1) ∙ up)))

  same_name : (k : ℕ) (x y : Name) → link_of nodes k ≡ Some (n, x) → name_of nodes k ≡ Some y → x ≡ y
  same_name k x y link name = let both : Some x ≡ Some y = sym (name_is nodes k n x link) ∙ name in cc

  pub named : Named naming nodes node.children.entries
  named = named_all naming nodes node.children.entries (λ e c x name. let l = entry_link e c in sym (ap (seen naming) (same_name e.1 l.0 x l.1 name)) ∙ l.2)

  names_seen : child_names (places_of naming nodes) n ≡ map (λ (e : ℕ × Place). last_name e.1.path) (filter (λ (e : ℕ × Place). is_parent naming (path_of (link_of nodes) n) e.1.path) (map (λ e. (e.0, placed (link_of nodes) e.0 (node_bytes e.1))) (entries nodes)))
  unfolding places_of
  names_seen = ap (λ (o : Option Names). map (λ (e : ℕ × Place). last_name e.1.path) (filter (λ (e : ℕ × Place). is_parent naming (unwrap_or o []) e.1.path) (places_of naming nodes).list)) (path_seen naming nodes n live)

  last_seen : (k : ℕ) (x : Name) → link_of nodes k ≡ Some (n, x) → last_name (path_of (link_of nodes) k) ≡ x
  last_seen k x link = ap last_name (way_step naming nodes s k n x link) ∙ last_of (path_of (link_of nodes) n) x

  there : (y : Name) → Contains (names_in nodes node.children.entries) y → Contains (child_names (places_of naming nodes) n) y
  there y c =
      let r = names_from naming nodes node.children.entries y c in
      let l = entry_link r.0 r.1 in
      let k : ℕ = r.0.1 in
      let m = live_node nodes k (link_live naming nodes s k n l.0 l.1) in
      let has = gather_has (λ e. (e.0, placed (link_of nodes) e.0 (node_bytes e.1))) (λ (e : ℕ × Place). is_parent naming (path_of (link_of nodes) n) e.1.path) (λ (e : ℕ × Place). last_name e.1.path) (entries nodes) (k, m.0) ((Contains-entries nodes k m.0).1 m.1) (parent_linked naming nodes s n k l.0 l.1) in
      subst (λ (names : List Name). Contains names y) (sym names_seen) (subst (λ (z : Name). Contains (map (λ (e : ℕ × Place). last_name e.1.path) (filter (λ (e : ℕ × Place). is_parent naming (path_of (link_of nodes) n) e.1.path) (map (λ e. (e.0, placed (link_of nodes) e.0 (node_bytes e.1))) (entries nodes)))) z) (last_seen k l.0 l.1 ∙ same_name k l.0 y l.1 r.2) has)

  back : (y : Name) → Contains (child_names (places_of naming nodes) n) y → Contains (names_in nodes node.children.entries) y
  back y c =
      let r = gather_from (λ e. (e.0, placed (link_of nodes) e.0 (node_bytes e.1))) (λ (e : ℕ × Place). is_parent naming (path_of (link_of nodes) n) e.1.path) (λ (e : ℕ × Place). last_name e.1.path) (entries nodes) y (subst (λ (names : List Name). Contains names y) names_seen c) in
      let k : ℕ = r.0.0 in
      let alive : IsSome (kind_of nodes k) = some_is (kind_of nodes k) r.0.1.folder (kind_of-at nodes k r.0.1 ((Contains-entries nodes k r.0.1).0 r.1)) in
      let l = linked_parent naming nodes s n k live alive r.2 in
      let name : l.0 ≡ y = sym (last_seen k l.0 l.1) ∙ r.3 in
      let edge : child_of nodes n (seen naming l.0) ≡ Some k = s.tree.back k n (seen naming l.0) (up_of-at naming nodes k n l.0 l.1) in
      let e = lookup_has node.children.entries (seen naming l.0) k (sym (child_of-at nodes n node (seen naming l.0) is) ∙ edge) in
      names_has naming nodes node.children.entries e.0 e.1 y (ap (name_of nodes) e.2 ∙ name_is nodes k n l.0 l.1 ∙ ap Some name)

  pub next_seen : (after : Option Name) (pattern : List ℕ) → first_in (is_wanted naming after pattern) (names_in nodes node.children.entries) ≡ next_name (places_of naming nodes) n after pattern
  unfolding places_of
  next_seen after pattern = first_is_least naming (is_wanted naming after pattern) (names_in nodes node.children.entries) (child_names (places_of naming nodes) n) (in_order naming nodes node.children.entries ordered named) there back

  -- all entries, and those past the key of the name that is given
  pub next_full : (after : Option Name) (pattern : List ℕ) → first_in (is_wanted naming after pattern) (names_in nodes (filter (λ _. true) node.children.entries)) ≡ next_name (places_of naming nodes) n after pattern
  next_full after pattern = skip naming nodes (is_wanted naming after pattern) (λ _. true) node.children.entries named (λ e x p key. absurd (cc)) ∙ next_seen after pattern

  pub next_past : (other : Name) (pattern : List ℕ) (key : Vec ℕ _) → key.items ≡ seen naming other
      → first_in (is_wanted naming (Some other) pattern) (names_in nodes (entries_between key_cmp (Excluded key) Unbounded node.children.entries)) ≡ next_name (places_of naming nodes) n (Some other) pattern
  next_past other pattern key is_key = skip naming nodes (is_wanted naming (Some other) pattern) (λ e. range_contains key_cmp (Excluded key) Unbounded e.0) node.children.entries named
      (λ e x p name. ap (λ b. b && matches naming pattern x) ((λ i. is_lt (slice_cmp nat_cmp (sym is_key i) (name i))) ∙ left (is_lt (key_cmp key e.0)) p)) ∙ next_seen (Some other) pattern
    where
      left : (b : Bool) → (b && true) ≡ false → b ≡ false
      left true e = absurd (cc)
      left false e = refl
