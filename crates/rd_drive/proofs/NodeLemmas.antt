-- The nodes of a drive where the bytes of one node, and what is kept of it, change and nothing else does.
use Rattle.std.proofs.Common.{◌≡◌, ◌∙◌, refl, sym, ap, subst, ℕ, ◌<◌, Bool, true, false, ◌&&◌, cond, List, [], ◌∷◌, map, Option, Some, arith}
use Rattle.std.specs.Prelude.{T}
use Rattle.std.specs.Option.{option_map_or, option_map, option_and_then, is_some}
use Rattle.std.specs.Ordering.{nat_cmp, is_lt, is_eq, eq_by_cmp, ordering_reverse}
use Rattle.std.specs.Cmp.{IsTotalOrder, nat_cmp_total}
use Rattle.std.specs.declared.cmp.Ordering.{Ordering}
use Rattle.std.specs.declared.cmp.Ordering.TheVariants.{Less, Equal, Greater}
use Rattle.std.specs.FinMap as entries
use Rattle.std.specs.FinMap.Entries.{below_all, by_order, find-put}
use Rattle.std.specs.FinMap.{is_sorted, put}
use Rattle.std.proofs.lemmas.Bool.Decides.{nat_tests}
use Rattle.std.proofs.lemmas.Option.{same_Some, none-some}
use Rattle.rd_tree.proofs.ViewLemmas.{itself}
use Rattle.rd_dirinfo.specs.declared.naming.Naming.{Naming}
use Rattle.rd_dirinfo.specs.Paths.{Names, path_cmp, is_same_path}
use Rattle.rd_dirinfo.proofs.NamingLemmas.{path_order}
use Rattle.rd_tree.specs.Places.{Place, Places, place, path_at, own_path, bytes_at, with_bytes, with_place, IsWhole}
use Rattle.rd_tree.proofs.WayLemmas.{same_true, true_same}
use Rattle.rd_drive.specs.DriveState.{Node, add_node, in_order, is_at_path}
use Rattle.rd_drive.specs.Store.{States, state_of, node_with, node_of, nodes_of}
use Rattle.rd_drive.specs.Kept.{place_with, with_bytes_at}
use Rattle.rd_drive.proofs.StoreLemmas.{AreListed, all_listed, and_parts, found_above, is_below, is_equal, own_is, rising}

-- ---- the order looks at paths as the naming sees them
module _ (naming : Naming) where
  o : IsTotalOrder (path_cmp naming)
  o = path_order naming

  equal : (r : Ordering) → is_eq r ≡ true → r ≡ Equal
  equal Less e = absurd (cc)
  equal Equal e = refl
  equal Greater e = absurd (cc)

  -- paths that are the same stand alike to others
  alike_before : (p q r t : Names) → is_same_path naming p q ≡ true → is_same_path naming r t ≡ true → path_cmp naming p r ≡ path_cmp naming q t
  alike_before p q r t e f =
      o.congr p q r (equal (path_cmp naming p q) e)
      ∙ o.antisymm q r ∙ ap ordering_reverse (o.congr r t q (equal (path_cmp naming r t) f)) ∙ sym (o.antisymm q t)

  add_alike : (g : Node → Node) → ((x : Node) → is_same_path naming (g x).path x.path ≡ true) → (x : Node) (l : List Node) → add_node naming (g x) (map g l) ≡ map g (add_node naming x l)
  add_alike g same x [] = refl
  add_alike g same x (y ∷ ys) =
      ap (λ r. cond (is_lt r) (g y ∷ add_node naming (g x) (map g ys)) (g x ∷ g y ∷ map g ys)) (alike_before (g y).path y.path (g x).path x.path (same y) (same x))
      ∙ by (add_alike g same x ys) (is_lt (path_cmp naming y.path x.path))
    where
      by : add_node naming (g x) (map g ys) ≡ map g (add_node naming x ys) → (b : Bool) → cond b (g y ∷ add_node naming (g x) (map g ys)) (g x ∷ g y ∷ map g ys) ≡ map g (cond b (y ∷ add_node naming x ys) (x ∷ y ∷ ys))
      by later true = ap (◌∷◌ (g y)) later
      by later false = refl

  -- changing nodes, and of their paths at most the spelling
  pub order_alike : (g : Node → Node) → ((x : Node) → is_same_path naming (g x).path x.path ≡ true) → (l : List Node) → in_order naming (map g l) ≡ map g (in_order naming l)
  order_alike g same [] = refl
  order_alike g same (x ∷ xs) = ap (add_node naming (g x)) (order_alike g same xs) ∙ add_alike g same x (in_order naming xs)

  -- with a node in the place of those at its path
  abbrev pub put_node : Node → Node → Node
  put_node node other = cond (is_at_path naming node.path other) node other

  put_alike : (node other : Node) → is_same_path naming (put_node node other).path other.path ≡ true
  put_alike node other = by (is_same_path naming other.path node.path) refl
    where
      by : (b : Bool) → is_same_path naming other.path node.path ≡ b → is_same_path naming (cond b node other).path other.path ≡ true
      by true e = same_true naming node.path other.path (sym (true_same naming other.path node.path e))
      by false e = same_true naming other.path other.path refl

  pub order_put : (node : Node) (l : List Node) → in_order naming (map (put_node node) l) ≡ map (put_node node) (in_order naming l)
  order_put node l = order_alike (put_node node) (put_alike node) l

-- ---- a place put at a number that is live
not_equal : (n m : ℕ) → is_eq (nat_cmp n m) ≡ false → n ≡ m → ⊥
not_equal n m e same = absurd (let both : true ≡ false = sym (itself n) ∙ ap (λ (k : ℕ). eq_by_cmp nat_cmp n k) same ∙ e in cc)

above_apart : (n m : ℕ) → n < m → eq_by_cmp nat_cmp n m ≡ false
above_apart n m h = grind (arith, nat_tests)

-- a live number isn't below the first
below_first : {X : Type 0} (n : ℕ) (y : X) (d : ℕ × X) (l : List (ℕ × X)) → T (below_all nat_cmp d.0 l) → nat_cmp n d.0 ≡ Less → entries.find nat_cmp n (d ∷ l) ≡ Some y → ⊥
below_first n y d l low less is =
    let under : n < d.0 = is_below n d.0 (ap is_lt less) in
    let over : d.0 < n = found_above d.0 n y l low (sym (ap (λ b. cond b (Some d.1) (entries.find nat_cmp n l)) (above_apart n d.0 under)) ∙ is) in
    omega arith

both_parts : (a b : Bool) → T (a && b) → T a × T b
both_parts true b t = (tt, t)
both_parts false b t = absurd t

-- what is there put there again changes nothing
pub put_again : {X : Type 0} (n : ℕ) (y : X) (l : List (ℕ × X)) → T (is_sorted nat_cmp l) → entries.find nat_cmp n l ≡ Some y → put nat_cmp n y l ≡ l
put_again n y [] sorted is = absurd (none-some y is)
put_again n y (d ∷ l) sorted is = by (both_parts (below_all nat_cmp d.0 l) (is_sorted nat_cmp l) sorted) (λ s e. put_again n y l s e) (nat_cmp n d.0) refl
  where
    by : T (below_all nat_cmp d.0 l) × T (is_sorted nat_cmp l) → (T (is_sorted nat_cmp l) → entries.find nat_cmp n l ≡ Some y → put nat_cmp n y l ≡ l)
        → (r : Ordering) → nat_cmp n d.0 ≡ r → by_order r ((n, y) ∷ d ∷ l) ((d.0, y) ∷ l) (d ∷ put nat_cmp n y l) ≡ d ∷ l
    by parts later Less e = absurd (below_first n y d l parts.0 e is)
    by parts later Equal e =
        let same : d.1 ≡ y = same_Some d.1 y (sym (ap (λ r. cond (is_eq r) (Some d.1) (entries.find nat_cmp n l)) e) ∙ is) in
        ap (λ v. (d.0, v) ∷ l) (sym same)
    by parts later Greater e = ap (◌∷◌ d) (later parts.1 (sym (ap (λ r. cond (is_eq r) (Some d.1) (entries.find nat_cmp n l)) e) ∙ is))

module _ (tree : Places) (whole : IsWhole tree) (n : ℕ) (x : Place) (here : place tree n ≡ Some x) where
  -- a place by its number's path and bytes
  pub place_here : place_with tree n (bytes_at tree n) ≡ x
  place_here = λ i. record { path = own_is tree whole n x here i; bytes = option_and_then (λ (p : Place). p.bytes) (here i) }

  -- the tree with the bytes that are there is the tree
  pub same_tree : with_bytes_at tree n (bytes_at tree n) ≡ tree
  same_tree = λ i. record { naming = tree.naming; list = (ap (λ (p : Place). put nat_cmp n p tree.list) place_here ∙ put_again n x tree.list (rising tree whole) here) i }

  -- a tree with the bytes of a file changed
  pub changed_tree : (change : List ℕ → List ℕ) → with_bytes tree n change ≡ with_bytes_at tree n (option_map change (bytes_at tree n))
  changed_tree change =
      ap (λ (o : Option Place). option_map_or (λ (p : Place). with_place tree n (record { path = p.path; bytes = option_map change p.bytes })) o tree) here
      ∙ ap (λ (p : Place). with_place tree n (record { path = p.path; bytes = option_map change p.bytes })) (sym place_here)

  module _ (bytes : Option (List ℕ)) where
    abbrev put_here : Place
    put_here = place_with tree n bytes

    -- the places of a tree with other bytes at a number
    pub put_place : (m : ℕ) → place (with_bytes_at tree n bytes) m ≡ cond (eq_by_cmp nat_cmp m n) (Some put_here) (place tree m)
    put_place m = find-put nat_cmp nat_cmp_total m n put_here tree.list

    pub place_put : place (with_bytes_at tree n bytes) n ≡ Some put_here
    place_put = put_place n ∙ ap (λ b. cond b (Some put_here) (place tree n)) (itself n)

    -- no path changes
    pub put_paths : (m : ℕ) → path_at (with_bytes_at tree n bytes) m ≡ path_at tree m
    put_paths m = ap (option_map (λ (p : Place). p.path)) (put_place m) ∙ by (eq_by_cmp nat_cmp m n) refl
      where
        by : (b : Bool) → eq_by_cmp nat_cmp m n ≡ b → option_map (λ (p : Place). p.path) (cond b (Some put_here) (place tree m)) ≡ path_at tree m
        by true e = ap (λ (p : Names). Some p) (own_is tree whole n x here) ∙ ap (option_map (λ (p : Place). p.path)) (sym here) ∙ ap (λ (k : ℕ). path_at tree k) (sym (is_equal m n e))
        by false e = refl

    module _ (old new : States) (others : (m : ℕ) → (m ≡ n → ⊥) → state_of new m ≡ state_of old m) where
      abbrev node : Node
      node = node_with (state_of new n) put_here

      at_one : (d : ℕ × Place) → place tree d.0 ≡ Some d.1 → n ≡ d.0 → node_of new (d.0, put_here) ≡ put_node tree.naming node (node_of old d)
      at_one d listed one =
          let same : x ≡ d.1 = same_Some x d.1 (sym here ∙ ap (λ (k : ℕ). place tree k) one ∙ listed) in
          ap (λ (k : ℕ). node_with (state_of new k) put_here) (sym one)
          ∙ sym (ap (λ b. cond b node (node_of old d)) (ap (λ (p : Names). is_same_path tree.naming p (own_path tree n)) (ap (λ (p : Place). p.path) (sym same) ∙ sym (own_is tree whole n x here)) ∙ same_true tree.naming (own_path tree n) (own_path tree n) refl))

      at_other : (d : ℕ × Place) → place tree d.0 ≡ Some d.1 → (n ≡ d.0 → ⊥) → node_of new d ≡ put_node tree.naming node (node_of old d)
      at_other d listed other =
          ap (λ st. node_with st d.1) (others d.0 (λ e. other (sym e)))
          ∙ sym (ap (λ b. cond b node (node_of old d)) (apart (is_same_path tree.naming d.1.path (own_path tree n)) refl))
        where
          apart : (b : Bool) → is_same_path tree.naming d.1.path (own_path tree n) ≡ b → is_same_path tree.naming d.1.path (own_path tree n) ≡ false
          apart true e = absurd (other (sym (whole.apart d.0 n (ap is_some listed) (ap is_some here) (ap (λ (p : Names). is_same_path tree.naming p (own_path tree n)) (own_is tree whole d.0 d.1 listed) ∙ e))))
          apart false e = e

      after : (l : List (ℕ × Place)) → T (below_all nat_cmp n l) → AreListed tree whole l → map (node_of new) l ≡ map (put_node tree.naming node) (map (node_of old) l)
      after [] low listed = refl
      after (d ∷ l) low listed =
          let parts = and_parts (is_lt (nat_cmp n d.0)) (below_all nat_cmp n l) low in
          let under : n < d.0 = is_below n d.0 parts.0 in
          λ i. at_other d listed.0 (λ e. not_equal n d.0 (above_apart n d.0 under) e) i ∷ after l parts.1 listed.1 i

      among : (l : List (ℕ × Place)) → T (is_sorted nat_cmp l) → AreListed tree whole l → entries.find nat_cmp n l ≡ Some x → map (node_of new) (put nat_cmp n put_here l) ≡ map (put_node tree.naming node) (map (node_of old) l)
      among [] sorted listed is = absurd (none-some x is)
      among (d ∷ l) sorted listed is = by (both_parts (below_all nat_cmp d.0 l) (is_sorted nat_cmp l) sorted) (λ s e. among l s listed.1 e) (nat_cmp n d.0) refl
        where
          by : T (below_all nat_cmp d.0 l) × T (is_sorted nat_cmp l) → (T (is_sorted nat_cmp l) → entries.find nat_cmp n l ≡ Some x → map (node_of new) (put nat_cmp n put_here l) ≡ map (put_node tree.naming node) (map (node_of old) l))
              → (r : Ordering) → nat_cmp n d.0 ≡ r → map (node_of new) (by_order r ((n, put_here) ∷ d ∷ l) ((d.0, put_here) ∷ l) (d ∷ put nat_cmp n put_here l)) ≡ map (put_node tree.naming node) (map (node_of old) (d ∷ l))
          by parts later Less e = absurd (below_first n x d l parts.0 e is)
          by parts later Equal e =
              let same : n ≡ d.0 = is_equal n d.0 (ap is_eq e) in
              λ i. at_one d listed.0 same i ∷ after l (subst (λ (k : ℕ). T (below_all nat_cmp k l)) (sym same) parts.0) listed.1 i
          by parts later Greater e =
              λ i. at_other d listed.0 (λ same. not_equal n d.0 (ap is_eq e) same) i
              ∷ later parts.1 (sym (ap (λ r. cond (is_eq r) (Some d.1) (entries.find nat_cmp n l)) e) ∙ is) i

      -- the nodes are the same, but for the one at the number's path
      pub nodes_put : nodes_of (with_bytes_at tree n bytes) new ≡ map (put_node tree.naming node) (nodes_of tree old)
      nodes_put = ap (in_order tree.naming) (among tree.list (rising tree whole) (all_listed tree whole) here) ∙ order_put tree.naming node (map (node_of old) tree.list)
