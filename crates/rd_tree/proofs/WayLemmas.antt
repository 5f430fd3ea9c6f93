-- The names on the way to a node, their keys, and the node that callers see at a path.
use Rattle.std.proofs.Common.{◌≡◌, ◌∙◌, refl, sym, ap, subst, ℕ, zero, suc, ◌≤◌, Bool, true, false, List, [], ◌∷◌, ◌++◌, length, map, Option, Some, None, cond, inl, inr, arith, length-append}
use Rattle.std.proofs.lemmas.List.{length-map}
use Rattle.std.specs.List.{Contains}
use Rattle.std.specs.Option.{option_map, option_map_or, IsSome}
use Rattle.std.specs.Ordering.{is_eq}
use Rattle.std.specs.declared.cmp.Ordering.{Ordering}
use Rattle.std.specs.declared.cmp.Ordering.TheVariants.{Less, Equal, Greater}
use Rattle.slab.specs.Slab.{Slab, get, entries}
use Rattle.slab.proofs.SlabLemmas.{Contains-cons, Contains-cons_cases, Contains-entries}
use Rattle.rd_dirinfo.specs.declared.naming.Naming.{Naming}
use Rattle.rd_dirinfo.specs.Naming.{seen}
use Rattle.rd_dirinfo.specs.Paths.{Names, seen_path, path_cmp, is_same_path, IsSamePath}
use Rattle.rd_dirinfo.proofs.NamingLemmas.{equal_is_same_path}
use Rattle.rd_tree.specs.declared.node.Node.{Node}
use Rattle.rd_tree.specs.Walk.{Key, Keys, Child, Up, onward, down, up_path, path_of, IsTree}
use Rattle.rd_tree.specs.Places.{Place, first_at, node_at}
use Rattle.rd_tree.specs.Nodes.{child_of, link_of, up_of, kind_of, node_bytes, placed, places_of, IsSoundTree}
use Rattle.rd_tree.proofs.KeyLemmas.{one_path, path_found, down_on}
use Rattle.rd_tree.proofs.TreeLemmas.{some_is, not_some, length-path_of}
use Rattle.rd_tree.proofs.NodeLemmas.{kind_of-at, kind_of-none, up_of-at, child_of-none}

-- ---- names and keys
keys_up : (naming : Naming) (nodes : Slab Node) (fuel n : ℕ) (path : Names) → map (seen naming) (up_path fuel (link_of nodes) n path) ≡ up_path fuel (up_of naming nodes) n (map (seen naming) path)
unfolding up_of
keys_up naming nodes zero n path = refl
keys_up naming nodes (suc fuel) n path = by (λ m p. keys_up naming nodes fuel m p) (link_of nodes n)
  where
    by : ((m : ℕ) (p : Names) → map (seen naming) (up_path fuel (link_of nodes) m p) ≡ up_path fuel (up_of naming nodes) m (map (seen naming) p)) → (o : Option (ℕ × Key))
        → map (seen naming) (option_map_or (λ (p : ℕ × Key). up_path fuel (link_of nodes) p.0 (p.1 ∷ path)) o path)
        ≡ option_map_or (λ (p : ℕ × Key). up_path fuel (up_of naming nodes) p.0 (p.1 ∷ map (seen naming) path)) (option_map (λ (p : ℕ × Key). (p.0, seen naming p.1)) o) (map (seen naming) path)
    by more None = refl
    by more (Some p) = more p.0 (p.1 ∷ path)

-- the names on the way to a node are seen as its keys
pub keys_of_way : (naming : Naming) (nodes : Slab Node) (n : ℕ) → seen_path naming (path_of (link_of nodes) n) ≡ path_of (up_of naming nodes) n
keys_of_way naming nodes n = keys_up naming nodes 64 n []

-- ---- live numbers
pub leads_to_live : (child : Child) (up : Up) (kind : ℕ → Option Bool) → IsTree child up kind → (p : Keys) (m n : ℕ) → IsSome (kind m) → down child m p ≡ Some n → IsSome (kind n)
leads_to_live child up kind tree [] m n live is = let same : m ≡ n = cc in subst (λ (k : ℕ). IsSome (kind k)) same live
leads_to_live child up kind tree (x ∷ p) m n live is = by (λ k. leads_to_live child up kind tree p k n) (child m x) refl
  where
    by : ((k : ℕ) → IsSome (kind k) → down child k p ≡ Some n → IsSome (kind n)) → (o : Option ℕ) → child m x ≡ o → IsSome (kind n)
    by later None lost = let none : None ≡ Some n = sym (ap (λ o. onward o (λ k. down child k p)) lost) ∙ is in absurd (cc)
    by later (Some k) found = later k (tree.lives k m x (tree.agrees.links m x k found)) (sym (ap (λ o. onward o (λ j. down child j p)) found) ∙ is)

pub found_live : (child : Child) (up : Up) (kind : ℕ → Option Bool) → IsTree child up kind → (p : Keys) (n : ℕ) → down child 0 p ≡ Some n → IsSome (kind n)
found_live child up kind tree p n = leads_to_live child up kind tree p 0 n (some_is (kind 0) true tree.root)

pub live_node : (nodes : Slab Node) (n : ℕ) → IsSome (kind_of nodes n) → (node : Node) × (get nodes n ≡ Some node)
live_node nodes n live = by (get nodes n) refl
  where
    by : (o : Option Node) → get nodes n ≡ o → (node : Node) × (get nodes n ≡ Some node)
    by None is = absurd (not_some (kind_of nodes n) (kind_of-none nodes n is) live)
    by (Some node) is = (node, is)

-- ---- the node at a path
module _ (naming : Naming) (path : Names) (f : ℕ → Node → Place) where
  abbrev IsThere : ℕ → Node → Type 0
  IsThere k node = is_same_path naming (f k node).path path ≡ true

  first_is : (o : Option ℕ) (es : List (ℕ × Node)) → ((k : ℕ) (node : Node) → Contains es (k, node) → IsThere k node → o ≡ Some k) → ((n : ℕ) → o ≡ Some n → (node : Node) × Contains es (n, node) × IsThere n node)
      → first_at naming path (map (λ e. (e.0, f e.0 e.1)) es) ≡ o
  first_is None [] at from = refl
  first_is (Some n) [] at from = let there = from n refl in absurd (omega (arith, there.1.1))
  first_is o (e ∷ es) at from = by (first_is o es) (is_same_path naming (f e.0 e.1).path path) refl
    where
      by : (((k : ℕ) (node : Node) → Contains es (k, node) → IsThere k node → o ≡ Some k) → ((n : ℕ) → o ≡ Some n → (node : Node) × Contains es (n, node) × IsThere n node) → first_at naming path (map (λ e. (e.0, f e.0 e.1)) es) ≡ o)
          → (b : Bool) → is_same_path naming (f e.0 e.1).path path ≡ b → first_at naming path (map (λ e. (e.0, f e.0 e.1)) (e ∷ es)) ≡ o
      by rest true t = ap (λ b. cond b (Some e.0) (first_at naming path (map (λ e. (e.0, f e.0 e.1)) es))) t ∙ sym (at e.0 e.1 (0, omega arith, refl) t)
      by rest false t = ap (λ b. cond b (Some e.0) (first_at naming path (map (λ e. (e.0, f e.0 e.1)) es))) t
          ∙ rest (λ k node c s. at k node (Contains-cons e (k, node) es c) s) (λ n is. later n (from n is))
        where
          later : (n : ℕ) → (node : Node) × Contains (e ∷ es) (n, node) × IsThere n node → (node : Node) × Contains es (n, node) × IsThere n node
          later n h = elim (Contains-cons_cases e (n, h.0) es h.1) [
            | inl same ↦ let both : true ≡ false = sym (subst (λ (d : ℕ × Node). is_same_path naming (f d.0 d.1).path path ≡ true) (sym same) h.2) ∙ t in absurd (cc)
            | inr there ↦ (h.0, there, h.2)
          ]

pub same_true : (naming : Naming) (p q : Names) → IsSamePath naming p q → is_same_path naming p q ≡ true
same_true naming p q same = ap is_eq ((equal_is_same_path naming p q).1 same)

pub true_same : (naming : Naming) (p q : Names) → is_same_path naming p q ≡ true → IsSamePath naming p q
true_same naming p q t = (equal_is_same_path naming p q).0 (by (path_cmp naming p q) t)
  where
    by : (o : Ordering) → is_eq o ≡ true → o ≡ Equal
    by Less e = absurd (cc)
    by Equal e = refl
    by Greater e = absurd (cc)

-- the node at a path is the one that its keys lead to
pub node_found : (naming : Naming) (nodes : Slab Node) → IsSoundTree naming nodes → (path : Names) → node_at (places_of naming nodes) path ≡ down (child_of nodes) 0 (seen_path naming path)
unfolding places_of
node_found naming nodes s path = first_is naming path (λ k node. placed (link_of nodes) k (node_bytes node)) (down (child_of nodes) 0 (seen_path naming path)) (entries nodes) at from
  where
    at : (k : ℕ) (node : Node) → Contains (entries nodes) (k, node) → is_same_path naming (path_of (link_of nodes) k) path ≡ true → down (child_of nodes) 0 (seen_path naming path) ≡ Some k
    at k node c t =
        let is = (Contains-entries nodes k node).0 c in
        let way : path_of (up_of naming nodes) k ≡ seen_path naming path = sym (keys_of_way naming nodes k) ∙ true_same naming (path_of (link_of nodes) k) path t in
        ap (down (child_of nodes) 0) (sym way) ∙ s.tree.rooted k (some_is (kind_of nodes k) node.folder (kind_of-at nodes k node is))

    from : (n : ℕ) → down (child_of nodes) 0 (seen_path naming path) ≡ Some n → (node : Node) × Contains (entries nodes) (n, node) × (is_same_path naming (path_of (link_of nodes) n) path ≡ true)
    from n is =
        let live = found_live (child_of nodes) (up_of naming nodes) (kind_of nodes) s.tree (seen_path naming path) n is in
        let node = live_node nodes n live in
        let way : path_of (up_of naming nodes) n ≡ seen_path naming path = one_path (child_of nodes) (up_of naming nodes) s.tree.agrees (path_of (up_of naming nodes) n) (seen_path naming path) n (s.tree.rooted n live) is in
        (node.0, (Contains-entries nodes n node.0).1 node.1, same_true naming (path_of (link_of nodes) n) path (keys_of_way naming nodes n ∙ way))

-- ---- one step up
up_append : (up : Up) (fuel n : ℕ) (path rest : Keys) → up_path fuel up n (path ++ rest) ≡ up_path fuel up n path ++ rest
up_append up zero n path rest = refl
up_append up (suc fuel) n path rest = by (λ m p. up_append up fuel m p rest) (up n)
  where
    by : ((m : ℕ) (p : Keys) → up_path fuel up m (p ++ rest) ≡ up_path fuel up m p ++ rest) → (o : Option (ℕ × Key))
        → option_map_or (λ (p : ℕ × Key). up_path fuel up p.0 (p.1 ∷ (path ++ rest))) o (path ++ rest) ≡ option_map_or (λ (p : ℕ × Key). up_path fuel up p.0 (p.1 ∷ path)) o path ++ rest
    by more None = refl
    by more (Some p) = more p.0 (p.1 ∷ path)

-- a way that one more step doesn't make longer is whole
whole : (up : Up) (fuel n : ℕ) (path : Keys) → length (up_path (suc fuel) up n path) ≡ length (up_path fuel up n path) → up_path (suc fuel) up n path ≡ up_path fuel up n path
whole up zero n path e = by (up n) e
  where
    by : (o : Option (ℕ × Key)) → length (option_map_or (λ (p : ℕ × Key). p.1 ∷ path) o path) ≡ length path → option_map_or (λ (p : ℕ × Key). p.1 ∷ path) o path ≡ path
    by None e = refl
    by (Some p) e = absurd (omega arith)
whole up (suc fuel) n path e = by (λ m p. whole up fuel m p) (up n) e
  where
    by : ((m : ℕ) (p : Keys) → length (up_path (suc fuel) up m p) ≡ length (up_path fuel up m p) → up_path (suc fuel) up m p ≡ up_path fuel up m p) → (o : Option (ℕ × Key))
        → length (option_map_or (λ (p : ℕ × Key). up_path (suc fuel) up p.0 (p.1 ∷ path)) o path) ≡ length (option_map_or (λ (p : ℕ × Key). up_path fuel up p.0 (p.1 ∷ path)) o path)
        → option_map_or (λ (p : ℕ × Key). up_path (suc fuel) up p.0 (p.1 ∷ path)) o path ≡ option_map_or (λ (p : ℕ × Key). up_path fuel up p.0 (p.1 ∷ path)) o path
    by more None e = refl
    by more (Some p) e = more p.0 (p.1 ∷ path) e

-- a way is the same where no link on it has changed
pub same_way : (P : ℕ → Type 0) (old new : Up) → ((k a : ℕ) (x : Key) → P k → old k ≡ Some (a, x) → P a) → ((k : ℕ) → P k → new k ≡ old k) → (fuel k : ℕ) (path : Keys) → P k → up_path fuel new k path ≡ up_path fuel old k path
same_way P old new closed same zero k path p = refl
same_way P old new closed same (suc fuel) k path p =
    ap (λ o. option_map_or (λ (q : ℕ × Key). up_path fuel new q.0 (q.1 ∷ path)) o path) (same k p) ∙ by (same_way P old new closed same fuel) (old k) refl
  where
    by : ((m : ℕ) (r : Keys) → P m → up_path fuel new m r ≡ up_path fuel old m r) → (o : Option (ℕ × Key)) → old k ≡ o
        → option_map_or (λ (q : ℕ × Key). up_path fuel new q.0 (q.1 ∷ path)) o path ≡ option_map_or (λ (q : ℕ × Key). up_path fuel old q.0 (q.1 ∷ path)) o path
    by more None e = refl
    by more (Some q) e = more q.0 (q.1 ∷ path) (closed k q.0 q.1 p e)

-- a number that isn't live has no children
pub no_child : (nodes : Slab Node) (n : ℕ) (x : Key) → kind_of nodes n ≡ None → child_of nodes n x ≡ None
no_child nodes n x dead = by (get nodes n) refl
  where
    by : (o : Option Node) → get nodes n ≡ o → child_of nodes n x ≡ None
    by None is = child_of-none nodes n x is
    by (Some node) is = let both : None ≡ Some node.folder = sym dead ∙ kind_of-at nodes n node is in absurd (cc)

module _ (naming : Naming) (nodes : Slab Node) (s : IsSoundTree naming nodes) where
  pub live_above : (k a : ℕ) (x : Key) → link_of nodes k ≡ Some (a, x) → IsSome (kind_of nodes a)
  live_above k a x link = by (kind_of nodes a) refl
    where
      child : child_of nodes a (seen naming x) ≡ Some k
      child = s.tree.back k a (seen naming x) (up_of-at naming nodes k a x link)

      by : (o : Option Bool) → kind_of nodes a ≡ o → IsSome (kind_of nodes a)
      by None e = let both : None ≡ Some k = sym (no_child nodes a (seen naming x) e) ∙ child in absurd (cc)
      by (Some b) e = some_is (kind_of nodes a) b e

  pub link_live : (k a : ℕ) (x : Key) → link_of nodes k ≡ Some (a, x) → IsSome (kind_of nodes k)
  link_live k a x link = s.tree.lives k a (seen naming x) (up_of-at naming nodes k a x link)

  -- the way to a node is the way to its folder and its name
  pub way_step : (k a : ℕ) (x : Key) → link_of nodes k ≡ Some (a, x) → path_of (link_of nodes) k ≡ path_of (link_of nodes) a ++ x ∷ []
  way_step k a x link =
      let up = up_of naming nodes in
      let child = child_of nodes in
      let y : Key = seen naming x in
      let way : Keys = path_of up a in
      let at : down child 0 way ≡ Some a = s.tree.rooted a (live_above k a x link) in
      let edge : child a y ≡ Some k = s.tree.back k a y (up_of-at naming nodes k a x link) in
      let there : down child 0 (way ++ y ∷ []) ≡ Some k = down_on child 0 a way (y ∷ []) at ∙ ap (λ o. onward o (λ j. Some j)) edge in
      let own : path_of up k ≡ way ++ y ∷ [] = one_path child up s.tree.agrees (path_of up k) (way ++ y ∷ []) k (s.tree.rooted k (link_live k a x link)) there in
      let short : length way ≤ 63 = omega (arith, length-path_of up k, ap (λ (p : Keys). length p) own, length-append way (y ∷ [])) in
      let seen_63 : length (up_path 63 (link_of nodes) a []) ≡ length (up_path 63 up a []) = sym (length-map (up_path 63 (link_of nodes) a []) (seen naming)) ∙ ap (λ (p : Keys). length p) (keys_up naming nodes 63 a []) in
      let seen_64 : length (up_path 64 (link_of nodes) a []) ≡ length (up_path 64 up a []) = sym (length-map (up_path 64 (link_of nodes) a []) (seen naming)) ∙ ap (λ (p : Keys). length p) (keys_up naming nodes 64 a []) in
      let found : up_path 63 up a [] ≡ way = path_found child up s.tree.agrees way a 63 at short in
      let ends : up_path 64 (link_of nodes) a [] ≡ up_path 63 (link_of nodes) a [] = whole (link_of nodes) 63 a [] (seen_64 ∙ sym (ap (λ (p : Keys). length p) found) ∙ sym seen_63) in
      ap (λ o. option_map_or (λ (p : ℕ × Key). up_path 63 (link_of nodes) p.0 (p.1 ∷ [])) o []) link ∙ up_append (link_of nodes) 63 a [] (x ∷ []) ∙ ap (λ (p : Keys). p ++ x ∷ []) (sym ends)
