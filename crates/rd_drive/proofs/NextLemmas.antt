-- What a listing gives next, by the number of the node.
use Rattle.std.proofs.Common.{◌≡◌, ◌∙◌, refl, sym, ap, subst, ℕ, ◌+◌, ◌≤◌, ◌==◌, ◌&&◌, ◌||◌, Bool, true, false, cond, List, [], ◌∷◌, ◌++◌, map, find, length, Option, Some, None, arith}
use Rattle.std.specs.List.{AllByRecursion}
use Rattle.std.specs.Option.{option_map, unwrap_or, is_some}
use Rattle.std.proofs.lemmas.List.{map-append}
use Rattle.std.proofs.lemmas.Bool.{eqb-true, and_parts}
use Rattle.std.proofs.lemmas.Option.{same_Some}
use Rattle.rd_base.specs.Classes.{choice, choose_class, listed, unlisted}
use Rattle.rd_base.specs.Classes.{is_listed as is_listed_class}
use Rattle.rd_dirinfo.specs.Entry.{entry_classes, directory_entry, full_directory_entry, both_directory_entry, names_entry}
use Rattle.rd_dirinfo.specs.declared.naming.Naming.{Naming}
use Rattle.rd_dirinfo.specs.Naming.{Name, seen}
use Rattle.rd_dirinfo.specs.Paths.{Names, is_parent, is_prefix, is_same_path, is_name, is_within_limits, last_name, seen_path}
use Rattle.rd_dirinfo.specs.Patterns.{is_wanted}
use Rattle.rd_tree.specs.Places.{Place, Places, first_at, next_name, node_at, own_path, place, IsWhole}
use Rattle.rd_tree.proofs.ParentLemmas.{parent_same}
use Rattle.rd_tree.proofs.PlaceLemmas.{last_of}
use Rattle.rd_tree.proofs.WayLemmas.{same_true, true_same}
use Rattle.rd_drive.specs.declared.store.Store.{Store}
use Rattle.rd_drive.specs.DriveState.{Node}
use Rattle.rd_drive.specs.QueryDir.{next_node}
use Rattle.rd_drive.specs.Store.{States, drive_of, node_of, nodes_of, state_of, node_with, IsSound}
use Rattle.rd_drive.specs.Kept.{own_node}
use Rattle.rd_drive.proofs.AnswerLemmas.{found_has, found_passes}
use Rattle.rd_drive.proofs.FittingLemmas.{order_all}
use Rattle.rd_drive.proofs.NodeLemmas.{place_here}
use Rattle.rd_drive.proofs.LengthLemmas.{last_length}
use Rattle.rd_drive.proofs.ListingLemmas.{ends_in, is_listed, next_is}
use Rattle.rd_drive.proofs.StoreLemmas.{AreListed, all_listed, number_at_own, own_is}

-- the classes in which a listing can be asked for
pub listed_as : (n : ℕ) → is_listed_class (choice entry_classes n) ≡ ((n == 1) || ((n == 2) || ((n == 3) || (n == 12))))
unfolding entry_classes
listed_as n = by (n == 1) (n == 2) (n == 3) (n == 12)
  where
    by : (a b c d : Bool) → is_listed_class (choose_class a (listed directory_entry) (choose_class b (listed full_directory_entry) (choose_class c (listed both_directory_entry) (choose_class d (listed names_entry) unlisted)))) ≡ (a || (b || (c || d)))
    by true b c d = refl
    by false true c d = refl
    by false false true d = refl
    by false false false true = refl
    by false false false false = refl

module _ (tree : Places) (whole : IsWhole tree) (states : States) where
  -- a node is some number's
  IsNumbered : Node → Type 0
  IsNumbered node = (k : ℕ) × (x : Place) × (place tree k ≡ Some x) × (node ≡ node_of states (k, x))

  numbered_from : (l : List (ℕ × Place)) → AreListed tree whole l → AllByRecursion IsNumbered (map (node_of states) l)
  unfolding IsNumbered
  numbered_from [] there = tt
  numbered_from (d ∷ l) there = ((d.0, d.1, there.0, refl), numbered_from l there.1)

  pub found_number : (p : Node → Bool) (node : Node) → find p (nodes_of tree states) ≡ Some node → (k : ℕ) × (x : Place) × (place tree k ≡ Some x) × (node ≡ node_of states (k, x))
  unfolding IsNumbered
  found_number p node is = found_has IsNumbered p (nodes_of tree states) node is (order_all tree.naming IsNumbered (map (node_of states) tree.list) (numbered_from tree.list (all_listed tree whole)))

-- paths that are seen alike lead to the same number
alike_tests : (naming : Naming) (r p q : Names) → seen_path naming p ≡ seen_path naming q → is_same_path naming r p ≡ is_same_path naming r q
alike_tests naming r p q e = by (is_same_path naming r p) refl (is_same_path naming r q) refl
  where
    by : (a : Bool) → is_same_path naming r p ≡ a → (b : Bool) → is_same_path naming r q ≡ b → is_same_path naming r p ≡ is_same_path naming r q
    by true h b g = h ∙ sym (same_true naming r q (true_same naming r p h ∙ e))
    by false h true g = same_true naming r p (true_same naming r q g ∙ sym e) ∙ sym g
    by false h false g = h ∙ sym g

alike_first : (naming : Naming) (p q : Names) → seen_path naming p ≡ seen_path naming q → (l : List (ℕ × Place)) → first_at naming p l ≡ first_at naming q l
alike_first naming p q e [] = refl
alike_first naming p q e (d ∷ l) = λ i. cond (alike_tests naming d.1.path p q e i) (Some d.0) (alike_first naming p q e l i)

-- a child of a folder is at the folder's path and its name
child_path : (naming : Naming) (folder path : Names) → is_parent naming folder path ≡ true → seen_path naming (folder ++ last_name path ∷ []) ≡ seen_path naming path
child_path naming folder path child =
    let x = ends_in path (length folder) (eqb-true (length path) (length folder + 1) ((and_parts (is_prefix naming folder path) (length path == length folder + 1) child).1)) in
    let above = parent_same naming folder x.0 x.1 (ap (is_parent naming folder) (sym x.2) ∙ child) in
    map-append (seen naming) folder (last_name path ∷ [])
    ∙ (λ i. above i ++ seen naming ((ap last_name x.2 ∙ last_of x.0 x.1) i) ∷ [])
    ∙ sym (map-append (seen naming) x.0 (x.1 ∷ [])) ∙ ap (seen_path naming) (sym x.2)

module _ (s : Store) (sound : IsSound s) (n : ℕ) (pattern : List ℕ) (last : Option Name) where
  abbrev pub comes_next : Option Node
  comes_next = next_node (drive_of s) (own_path s.tree n) pattern last

  next_seen : comes_next ≡ find (is_listed s.tree.naming (own_path s.tree n) (is_wanted s.tree.naming last pattern)) (nodes_of s.tree s.states)
  next_seen = λ i. find (is_listed (sym sound.naming i) (own_path s.tree n) (is_wanted (sym sound.naming i) last pattern)) (nodes_of s.tree s.states)

  pub named_next : option_map (λ (node : Node). last_name node.path) comes_next ≡ next_name s.tree n last pattern
  named_next = ap (option_map (λ (node : Node). last_name node.path)) next_seen ∙ next_is s.tree s.states n last pattern

  -- nothing comes next where the tree has no name
  pub none_next : next_name s.tree n last pattern ≡ None → comes_next ≡ None
  none_next e = by comes_next (named_next ∙ e)
    where
      by : (o : Option Node) → option_map (λ (node : Node). last_name node.path) o ≡ None → o ≡ None
      by None h = refl
      by (Some node) h = absurd (cc)

  child_next : (node : Node) → comes_next ≡ Some node → is_parent s.tree.naming (own_path s.tree n) node.path ≡ true
  child_next node is =
      first_of_and (is_parent s.tree.naming (own_path s.tree n) node.path) (is_wanted s.tree.naming last pattern (last_name node.path))
      (found_passes (is_listed s.tree.naming (own_path s.tree n) (is_wanted s.tree.naming last pattern)) (nodes_of s.tree s.states) node (sym next_seen ∙ is))
    where
      first_of_and : (a b : Bool) → (a && b) ≡ true → a ≡ true
      first_of_and true b h = refl
      first_of_and false b h = absurd (cc)

  -- where it has a name, the node that comes next is the one that it has at the folder's path and the name
  pub some_next : (name : Name) → next_name s.tree n last pattern ≡ Some name → (k : ℕ) → node_at s.tree (own_path s.tree n ++ name ∷ []) ≡ Some k
      → (comes_next ≡ Some (own_node s k)) × (last_name (own_node s k).path ≡ name) × (length name ≤ 4096)
  some_next name e k at = by comes_next refl (named_next ∙ e)
    where
      by : (o : Option Node) → comes_next ≡ o → option_map (λ (node : Node). last_name node.path) o ≡ Some name → (comes_next ≡ Some (own_node s k)) × (last_name (own_node s k).path ≡ name) × (length name ≤ 4096)
      by None is h = absurd (cc)
      by (Some node) is h = of (found_number s.tree sound.whole s.states _ node (sym next_seen ∙ is)) (same_Some (last_name node.path) name h)
        where
          of : (m : ℕ) × (x : Place) × (place s.tree m ≡ Some x) × (node ≡ node_of s.states (m, x)) → last_name node.path ≡ name → (comes_next ≡ Some (own_node s k)) × (last_name (own_node s k).path ≡ name) × (length name ≤ 4096)
          of (m, x, here, one) named =
              let path : node.path ≡ own_path s.tree m = ap (λ (d : Node). d.path) one ∙ sym (own_is s.tree sound.whole m x here) in
              let alike = child_path s.tree.naming (own_path s.tree n) node.path (child_next node is) in
              let first = alike_first s.tree.naming (own_path s.tree n ++ name ∷ []) (own_path s.tree m) (ap (λ (nm : Name). seen_path s.tree.naming (own_path s.tree n ++ nm ∷ [])) (sym named) ∙ alike ∙ ap (seen_path s.tree.naming) path) s.tree.list in
              let same : m ≡ k = same_Some m k (sym (number_at_own s.tree sound.whole m x here) ∙ sym first ∙ at) in
              let own : node ≡ own_node s m = one ∙ ap (node_with (state_of s.states m)) (sym (place_here s.tree sound.whole m x here)) in (
                is ∙ ap (λ (d : Node). Some d) own ∙ ap (λ (j : ℕ). Some (own_node s j)) same,
                ap (λ (j : ℕ). last_name (own_node s j).path) (sym same) ∙ ap (λ (d : Node). last_name d.path) (sym own) ∙ named,
                subst (λ (nm : Name). length nm ≤ 4096) named (last_length node.path (ap is_within_limits path ∙ sound.fitting m (ap is_some here))),
              )

  -- the tree's next name is one
  pub name_next : (name : Name) → next_name s.tree n last pattern ≡ Some name → is_name name ≡ true
  name_next name e = by comes_next refl (named_next ∙ e)
    where
      by : (o : Option Node) → comes_next ≡ o → option_map (λ (node : Node). last_name node.path) o ≡ Some name → is_name name ≡ true
      by None is h = absurd (cc)
      by (Some node) is h = of (found_number s.tree sound.whole s.states _ node (sym next_seen ∙ is))
        where
          of : (m : ℕ) × (x : Place) × (place s.tree m ≡ Some x) × (node ≡ node_of s.states (m, x)) → is_name name ≡ true
          of (m, x, here, one) =
              let path : node.path ≡ own_path s.tree m = ap (λ (d : Node). d.path) one ∙ sym (own_is s.tree sound.whole m x here) in
              let long = eqb-true (length node.path) (length (own_path s.tree n) + 1) ((and_parts (is_prefix s.tree.naming (own_path s.tree n) node.path) (length node.path == length (own_path s.tree n) + 1) (child_next node is)).1) in
              ap is_name (sym (same_Some (last_name node.path) name h) ∙ ap last_name path) ∙ sound.whole.named m (ap is_some here) (λ root. no_root m root (ap (length {A = Name}) (sym path) ∙ long))
            where
              no_root : (m : ℕ) → 0 ≡ m → length (own_path s.tree m) ≡ length (own_path s.tree n) + 1 → ⊥
              no_root m root long =
                  let none : length (own_path s.tree m) ≡ 0 = ap (λ (j : ℕ). length (own_path s.tree j)) (sym root) ∙ ap (λ (o : Option Place). length (unwrap_or (option_map (λ (p : Place). p.path) o) [])) sound.whole.root in
                  omega (arith, long, none)
