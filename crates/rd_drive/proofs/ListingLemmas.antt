-- The node that is listed next: among nodes in the order of their paths it is the one with the first name that is wanted.
use Rattle.std.proofs.Common.{◌≡◌, ◌∙◌, refl, sym, ap, subst, ℕ, ◌+◌, ◌==◌, ◌&&◌, Bool, true, false, cond, List, [], ◌∷◌, ◌++◌, map, filter, find, length, Option, Some, None, arith}
use Rattle.std.specs.Option.{option_map, option_map_or}
use Rattle.std.specs.Ordering.{is_lt, ordering_then}
use Rattle.std.specs.declared.cmp.Ordering.{Ordering}
use Rattle.std.specs.declared.cmp.Ordering.TheVariants.{Less, Equal, Greater}
use Rattle.std.proofs.lemmas.Bool.{eqb-true, and_parts}
use Rattle.rd_dirinfo.specs.declared.naming.Naming.{Naming}
use Rattle.rd_dirinfo.specs.Naming.{Name, name_cmp, IsSame}
use Rattle.rd_dirinfo.specs.Paths.{Names, path_cmp, seen_path, is_parent, is_prefix, last_name}
use Rattle.rd_dirinfo.specs.Patterns.{is_wanted}
use Rattle.rd_dirinfo.proofs.NamingLemmas.{equal_is_same}
use Rattle.rd_tree.specs.Places.{Place, Places, first_name, least, next_name, own_path}
use Rattle.rd_tree.proofs.ParentLemmas.{parent_same}
use Rattle.rd_tree.proofs.PlaceLemmas.{last_of}
use Rattle.rd_drive.specs.DriveState.{Node, add_node, in_order}
use Rattle.rd_drive.specs.Store.{States, node_of, nodes_of}
use Rattle.rd_drive.proofs.OrderLemmas.{order_filter}

-- ---- names of one folder

-- a path with names ends in one
pub ends_in : (path : Names) (n : ℕ) → length path ≡ n + 1 → (front : Names) × (name : Name) × (path ≡ front ++ name ∷ [])
ends_in [] n e = absurd (omega (arith, e))
ends_in (x ∷ []) n e = ([], x, refl)
ends_in (x ∷ y ∷ ys) n e =
    let later = ends_in (y ∷ ys) (length ys) (omega arith) in
    (x ∷ later.0, later.1, ap (◌∷◌ x) later.2)

module _ (naming : Naming) where
  then_equal : (r : Ordering) → ordering_then r Equal ≡ r
  then_equal Less = refl
  then_equal Equal = refl
  then_equal Greater = refl

  head_same : (a b : Name) (p q : Names) → seen_path naming (a ∷ p) ≡ seen_path naming (b ∷ q) → (IsSame naming a b) × (seen_path naming p ≡ seen_path naming q)
  head_same a b p q e = (cc, cc)

  -- after folders that are seen alike the last names decide
  last_decides : (p q : Names) (x y : Name) → seen_path naming p ≡ seen_path naming q → path_cmp naming (p ++ x ∷ []) (q ++ y ∷ []) ≡ name_cmp naming x y
  last_decides [] [] x y e = then_equal (name_cmp naming x y)
  last_decides [] (b ∷ q) x y e = absurd (cc)
  last_decides (a ∷ p) [] x y e = absurd (cc)
  last_decides (a ∷ p) (b ∷ q) x y e =
      let parts = head_same a b p q e in
      ap (λ r. ordering_then r (path_cmp naming (p ++ x ∷ []) (q ++ y ∷ []))) ((equal_is_same naming a b).1 parts.0) ∙ last_decides p q x y parts.1

  -- two paths in one folder are in the order of their names
  pub child_order : (folder p q : Names) → is_parent naming folder p ≡ true → is_parent naming folder q ≡ true → path_cmp naming p q ≡ name_cmp naming (last_name p) (last_name q)
  child_order folder p q first second =
      let x = ends_in p (length folder) (eqb-true (length p) (length folder + 1) ((and_parts (is_prefix naming folder p) (length p == length folder + 1) first).1)) in
      let y = ends_in q (length folder) (eqb-true (length q) (length folder + 1) ((and_parts (is_prefix naming folder q) (length q == length folder + 1) second).1)) in
      let above_x = parent_same naming folder x.0 x.1 (ap (is_parent naming folder) (sym x.2) ∙ first) in
      let above_y = parent_same naming folder y.0 y.1 (ap (is_parent naming folder) (sym y.2) ∙ second) in
      (λ i. path_cmp naming (x.2 i) (y.2 i)) ∙ last_decides x.0 y.0 x.1 y.1 (sym above_x ∙ above_y)
      ∙ sym (λ i. name_cmp naming ((ap last_name x.2 ∙ last_of x.0 x.1) i) ((ap last_name y.2 ∙ last_of y.0 y.1) i))

  -- ---- the first of some nodes
  first : List Node → Option Node
  first [] = None
  first (x ∷ xs) = Some x

  find_first : (p : Node → Bool) (l : List Node) → find p l ≡ first (filter p l)
  unfolding first
  find_first p [] = refl
  find_first p (x ∷ xs) = by (find_first p xs) (p x)
    where
      by : find p xs ≡ first (filter p xs) → (b : Bool) → cond b (Some x) (find p xs) ≡ first (cond b (x ∷ filter p xs) (filter p xs))
      by later true = refl
      by later false = later

  sooner : Node → Node → Node
  sooner x y = cond (is_lt (path_cmp naming y.path x.path)) y x

  first_add : (x : Node) (l : List Node) → first (add_node naming x l) ≡ Some (option_map_or (sooner x) (first l) x)
  unfolding first sooner
  first_add x [] = refl
  first_add x (y ∷ ys) = by (is_lt (path_cmp naming y.path x.path))
    where
      by : (b : Bool) → first (cond b (y ∷ add_node naming x ys) (x ∷ y ∷ ys)) ≡ Some (cond b y x)
      by true = refl
      by false = refl

  -- each of some nodes stands in a folder
  AreIn : Names → List Node → Type 0
  AreIn folder [] = Unit {0}
  AreIn folder (x ∷ xs) = (is_parent naming folder x.path ≡ true) × AreIn folder xs

  pub name_of : Node → Name
  name_of node = last_name node.path

  -- the first of nodes of one folder, in their order, has the first of their names
  first_least : (folder : Names) (l : List Node) → AreIn folder l
      → (option_map name_of (first (in_order naming l)) ≡ least naming (map name_of l)) × ((x : Node) → first (in_order naming l) ≡ Some x → is_parent naming folder x.path ≡ true)
  unfolding first sooner AreIn name_of
  first_least folder [] are = (refl, λ x e. absurd (cc))
  first_least folder (x ∷ xs) are = by (first_least folder xs are.1) (first (in_order naming xs)) refl
    where
      Both : Type 0
      Both = (option_map name_of (first (add_node naming x (in_order naming xs))) ≡ least naming (map name_of (x ∷ xs))) × ((y : Node) → first (add_node naming x (in_order naming xs)) ≡ Some y → is_parent naming folder y.path ≡ true)

      only : (a b : Node) → Some a ≡ Some b → a ≡ b
      only a b e = ap (λ (o : Option Node). option_map_or (λ (n : Node). n) o a) e

      by : (option_map name_of (first (in_order naming xs)) ≡ least naming (map name_of xs)) × ((y : Node) → first (in_order naming xs) ≡ Some y → is_parent naming folder y.path ≡ true)
          → (o : Option Node) → first (in_order naming xs) ≡ o → Both
      by later None e = (
        ap (option_map name_of) (first_add x (in_order naming xs) ∙ ap (λ (o : Option Node). Some (option_map_or (sooner x) o x)) e)
            ∙ ap (λ (o : Option Name). Some (option_map_or (first_name naming (name_of x)) o (name_of x))) (sym (ap (option_map name_of) e) ∙ later.0),
        λ y is. subst (λ (n : Node). is_parent naming folder n.path ≡ true) (only x y (sym (first_add x (in_order naming xs) ∙ ap (λ (o : Option Node). Some (option_map_or (sooner x) o x)) e) ∙ is)) are.0,
      )
      by later (Some y) e =
          let order = child_order folder y.path x.path (later.1 y e) are.0 in (
            ap (option_map name_of) (first_add x (in_order naming xs) ∙ ap (λ (o : Option Node). Some (option_map_or (sooner x) o x)) e)
                ∙ names_chosen (is_lt (path_cmp naming y.path x.path)) (is_lt (name_cmp naming (name_of y) (name_of x))) (ap is_lt order)
                ∙ ap (λ (o : Option Name). Some (option_map_or (first_name naming (name_of x)) o (name_of x))) (sym (ap (option_map name_of) e) ∙ later.0),
            λ z is. subst (λ (n : Node). is_parent naming folder n.path ≡ true) (only (sooner x y) z (sym (first_add x (in_order naming xs) ∙ ap (λ (o : Option Node). Some (option_map_or (sooner x) o x)) e) ∙ is)) (chosen_in (is_lt (path_cmp naming y.path x.path))),
          )
        where
          names_chosen : (a b : Bool) → a ≡ b → Some (name_of (cond a y x)) ≡ Some (cond b (name_of y) (name_of x))
          names_chosen true b e = ap (λ (c : Bool). Some (cond c (name_of y) (name_of x))) e
          names_chosen false b e = ap (λ (c : Bool). Some (cond c (name_of y) (name_of x))) e

          chosen_in : (b : Bool) → is_parent naming folder (cond b y x).path ≡ true
          chosen_in true = later.1 y e
          chosen_in false = are.0

  -- ---- those that are wanted
  module _ (folder : Names) (wanted : Name → Bool) where
    abbrev pub is_listed : Node → Bool
    is_listed node = is_parent naming folder node.path && wanted (last_name node.path)

    listed_in : (l : List Node) → AreIn folder (filter is_listed l)
    unfolding AreIn
    listed_in [] = tt
    listed_in (x ∷ xs) = by (listed_in xs) (is_parent naming folder x.path) refl (wanted (last_name x.path))
      where
        by : AreIn folder (filter is_listed xs) → (a : Bool) → is_parent naming folder x.path ≡ a → (b : Bool) → AreIn folder (cond (a && b) (x ∷ filter is_listed xs) (filter is_listed xs))
        by later true e true = (e, later)
        by later true e false = later
        by later false e b = later

    pub find_least : (l : List Node) → option_map name_of (find is_listed (in_order naming l)) ≡ least naming (map name_of (filter is_listed l))
    find_least l =
        ap (option_map name_of) (find_first is_listed (in_order naming l) ∙ ap first (order_filter naming is_listed l)) ∙ (first_least folder (filter is_listed l) (listed_in l)).0

    pub names_listed : (states : States) (l : List (ℕ × Place))
        → map name_of (filter is_listed (map (node_of states) l)) ≡ filter wanted (map (λ (e : ℕ × Place). last_name e.1.path) (filter (λ (e : ℕ × Place). is_parent naming folder e.1.path) l))
    unfolding name_of
    names_listed states [] = refl
    names_listed states (d ∷ l) = by (names_listed states l) (is_parent naming folder d.1.path) (wanted (last_name d.1.path)) refl
      where
        rest : List Node
        rest = filter is_listed (map (node_of states) l)

        others : List Name
        others = map (λ (e : ℕ × Place). last_name e.1.path) (filter (λ (e : ℕ × Place). is_parent naming folder e.1.path) l)

        by : map name_of rest ≡ filter wanted others → (a b : Bool) → wanted (last_name d.1.path) ≡ b
            → map name_of (cond (a && b) (node_of states d ∷ rest) rest) ≡ filter wanted (map (λ (e : ℕ × Place). last_name e.1.path) (cond a (d ∷ filter (λ (e : ℕ × Place). is_parent naming folder e.1.path) l) (filter (λ (e : ℕ × Place). is_parent naming folder e.1.path) l)))
        by later true true e = ap (◌∷◌ (last_name d.1.path)) later ∙ sym (ap (λ (b : Bool). cond b (last_name d.1.path ∷ filter wanted others) (filter wanted others)) e)
        by later true false e = later ∙ sym (ap (λ (b : Bool). cond b (last_name d.1.path ∷ filter wanted others) (filter wanted others)) e)
        by later false b e = later

-- the name of the node that is listed next is the tree's next name
pub next_is : (tree : Places) (states : States) (n : ℕ) (after : Option Name) (pattern : List ℕ)
    → option_map (λ (node : Node). last_name node.path) (find (is_listed tree.naming (own_path tree n) (is_wanted tree.naming after pattern)) (nodes_of tree states)) ≡ next_name tree n after pattern
unfolding name_of
next_is tree states n after pattern =
    find_least tree.naming (own_path tree n) (is_wanted tree.naming after pattern) (map (node_of states) tree.list)
    ∙ ap (least tree.naming) (names_listed tree.naming (own_path tree n) (is_wanted tree.naming after pattern) states tree.list)
