-- What a folder's nodes are once one of them is moved with all that is below it.
use Rattle.std.proofs.Common.{◌≡◌, ◌∙◌, refl, sym, ap, subst, ℕ, inl, inr, true, false, not, ◌&&◌, cond, List, [], ◌∷◌, ◌==◌, filter, length, get_or, map, position, Option, Some, None}
use Rattle.std.specs.List.{list_all}
use Rattle.std.specs.Option.{option_and_then}
use Rattle.std.proofs.lemmas.Bool.{and_parts, cases_Bool, not-true}
use Rattle.std.proofs.lemmas.Option.{none-some, same_Some}
use Rattle.rd_dirinfo.specs.declared.naming.Naming.TheVariants.{Exact}
use Rattle.rd_dirinfo.specs.Paths.{Names, is_below, is_name, is_prefix, is_same_path, moved_path, parent}
use Rattle.rd_drive.specs.DriveState.{DriveState, Node, has_folder, in_order, is_at_path, is_folder_node, made_path, new_node}
use Rattle.rd_drive.specs.Rename.{renamed, without_target}
use Rattle.rd_folder.specs.FolderCalls.{folder_rename, leaving, may_move, moving, node_there, only_if}
use Rattle.rd_folder.specs.InMemory.{relocated, relocating}
use Rattle.rd_folder.specs.Told.{drive_over, IsFolderMap}
use Rattle.rd_folder.proofs.AtLemmas.{off_root, some_path, there_at, there_none}
use Rattle.rd_folder.proofs.ExactLemmas.{exact_apart, exact_same, same_exact}
use Rattle.rd_folder.proofs.HasLemmas.{Has, filter_has, find_has, map_has, one_at, order_has}
use Rattle.rd_folder.proofs.MapLemmas.{made_same, no_root}
use Rattle.rd_folder.proofs.RenameLemmas.{back_same, free, renamed_comes, renamed_map}
use Rattle.rd_folder_drive.proofs.MovedLemmas.{moved_own}

-- the nodes then
abbrev pub moved_nodes : List Node → Names → ℕ → Node → List Node
moved_nodes nodes to moment node = (renamed (without_target (drive_over nodes) (node_there nodes to)) moment node (made_path (drive_over nodes) to)).nodes

-- those that stay, or are moved
abbrev pub other_nodes : List Node → Names → List Node
other_nodes nodes to = (without_target (drive_over nodes) (node_there nodes to)).nodes

-- A node is moved: a folder's nodes are a map then, each but the one that was at the target is there, at the path that it gets, and nothing else was at the target or below it.
pub record IsMove (nodes : List Node) (from to : Names) (moment : ℕ) (node : Node) : Type 0 where
  pub comes : folder_rename from to moment nodes ≡ Some (tt, moved_nodes nodes to moment node)
  pub map : IsFolderMap (moved_nodes nodes to moment node)
  pub has : (x : Node) → Has nodes x → (x.path ≡ to → ⊥) → (y : Node) × Has (moved_nodes nodes to moment node) y × (y.path ≡ moved_path Exact from to x.path) × (is_folder_node y ≡ is_folder_node x)
  pub free : (x : Node) → Has nodes x → (x.path ≡ to → ⊥) → is_prefix Exact to x.path ≡ true → ⊥
  pub made : made_path (drive_over nodes) to ≡ to

-- without what is at the target it is a drive over nodes still
pub without_so : (nodes : List Node) (o : Option Node) → without_target (drive_over nodes) o ≡ drive_over (without_target (drive_over nodes) o).nodes
without_so nodes None = refl
without_so nodes (Some x) = refl

-- what isn't at the target is left
pub other_has : (nodes : List Node) (to : Names) (x : Node) → Has nodes x → (x.path ≡ to → ⊥) → Has (other_nodes nodes to) x
other_has nodes to x h off = by (node_there nodes to) refl
  where
    by : (o : Option Node) → node_there nodes to ≡ o → Has (without_target (drive_over nodes) (node_there nodes to)).nodes x
    by None e = subst (λ (o : Option Node). Has (without_target (drive_over nodes) o).nodes x) (sym e) h
    by (Some t) e =
        subst (λ (o : Option Node). Has (without_target (drive_over nodes) o).nodes x) (sym e)
        (filter_has (λ (n : Node). not (is_at_path Exact t.path n)) nodes x h (ap not (exact_apart x.path t.path (λ same. off (same ∙ same_exact t.path to (find_has (is_at_path Exact to) nodes t e).1)))))

-- why a node may be moved
abbrev MayMove : List Node → Names → Names → Type 0
MayMove nodes from to = (not (length to == 0) ≡ true) × (not (is_below Exact from to) ≡ true) × (has_folder (drive_over nodes) (parent to) ≡ true) × (not (has_folder (drive_over nodes) to) ≡ true)

may_so : (nodes : List Node) (from to : Names) → may_move nodes from to ≡ true → MayMove nodes from to
may_so nodes from to may =
    let first = and_parts (not (length to == 0)) (not (is_below Exact from to) && (has_folder (drive_over nodes) (parent to) && not (has_folder (drive_over nodes) to))) may in
    let second = and_parts (not (is_below Exact from to)) (has_folder (drive_over nodes) (parent to) && not (has_folder (drive_over nodes) to)) first.1 in
    let third = and_parts (has_folder (drive_over nodes) (parent to)) (not (has_folder (drive_over nodes) to)) second.1 in
    (first.0, second.0, third.0, third.1)

abbrev blank : Node
blank = new_node [] None 0 0

module _ (root : Node) (others : List Node) (is : IsFolderMap (root ∷ others)) (from to : Names) (moment : ℕ) (allowed : may_move (root ∷ others) from to ≡ true) (apart : is_same_path Exact from to ≡ false) (named : list_all is_name to ≡ true) (at : ℕ)
    (here : position (is_at_path Exact from) others ≡ Some at) where
  abbrev all : List Node
  all = root ∷ others

  abbrev node : Node
  node = get_or others at blank

  there : node_there all from ≡ Some node
  there = there_at root others is from at blank here

  found : Has all node × (is_at_path Exact from node ≡ true)
  found = find_has (is_at_path Exact from) all node there

  node_path : node.path ≡ from
  node_path = same_exact node.path from found.1

  abbrev left : List Node
  left = filter (λ (x : Node). not (is_at_path Exact to x)) others

  stay : (x : Node) → Has all x → (x.path ≡ to → ⊥) → Has (root ∷ left) x
  stay x (inl e) off = inl e
  stay x (inr h) off = inr (filter_has (λ (x : Node). not (is_at_path Exact to x)) others x h (ap not (exact_apart x.path to off)))

  free_so : (x : Node) → Has all x → (x.path ≡ to → ⊥) → is_prefix Exact to x.path ≡ true → ⊥
  free_so x h off t = free root others is from to moment at here allowed named x (stay x h off) t

  other_from : from ≡ to → ⊥
  other_from e = absurd (let clash : true ≡ false = sym (exact_same from to e) ∙ apart in cc)

  comes_so : folder_rename from to moment all ≡ Some (tt, moved_nodes all to moment node)
  comes_so =
      ap (λ b. only_if (not b) (option_and_then (moving from to moment all) (node_there all from))) (no_root from (off_root root others is from at blank here))
      ∙ ap (option_and_then (moving from to moment all)) there
      ∙ (λ i. cond (apart i) (leaving all) (only_if (allowed i) (leaving (moved_nodes all to moment node))))

  map_so : IsFolderMap (moved_nodes all to moment node)
  map_so =
      subst IsFolderMap
      (ap (λ (p : Unit {0} × List Node). p.1) (same_Some (tt, root ∷ relocated others at from to moment) (tt, moved_nodes all to moment node) (sym (renamed_comes root others is from to moment at here allowed named apart all refl) ∙ comes_so)))
      (renamed_map root others is from to moment at here allowed named)

  made_so : made_path (drive_over all) to ≡ to
  made_so = let may = may_so all from to allowed in made_same all is.rises to (some_path to (not-true (length to == 0) may.0)) may.2

  -- ---- where a node has gone
  abbrev new : Node
  new = record node { path = made_path (drive_over all) to; moments = record node.moments { change = moment } }

  abbrev carried : Node → Node
  carried x = relocating node.path (made_path (drive_over all) to) x

  abbrev put : Node → Node
  put z = cond (is_at_path Exact new.path z) new z

  carried_path : (x : Node) → (carried x).path ≡ moved_path Exact from to x.path
  carried_path x = λ i. moved_path Exact (node_path i) (made_so i) x.path

  put_path : (z : Node) → (put z).path ≡ z.path
  put_path z = elim (cases_Bool (is_at_path Exact new.path z)) [
    | inl t ↦ ap (λ b. (cond b new z).path) t ∙ sym (same_exact z.path new.path t)
    | inr f ↦ ap (λ b. (cond b new z).path) f
  ]

  put_kind : (x : Node) → Has all x → (x.path ≡ to → ⊥) → is_folder_node (put (carried x)) ≡ is_folder_node x
  put_kind x h off = elim (cases_Bool (is_at_path Exact new.path (carried x))) [
    | inl t ↦
        let same : moved_path Exact from to x.path ≡ moved_path Exact from to from = sym (carried_path x) ∙ same_exact (carried x).path new.path t ∙ made_so ∙ sym (moved_own from to) in
        let own : x.path ≡ from = back_same from to x.path from (free_so x h off) (λ p. free_so node found.0 (λ e. other_from (sym node_path ∙ e)) (ap (is_prefix Exact to) node_path ∙ p)) same in
        ap (λ b. is_folder_node (cond b new (carried x))) t ∙ ap is_folder_node (one_at all is.rises node x found.0 h (node_path ∙ sym own))
    | inr f ↦ ap (λ b. is_folder_node (cond b new (carried x))) f
  ]

  has_so : (x : Node) → Has all x → (x.path ≡ to → ⊥) → Has (moved_nodes all to moment node) (put (carried x))
  has_so x h off =
      subst (λ (s : DriveState). Has (renamed s moment node (made_path (drive_over all) to)).nodes (put (carried x))) (sym (without_so all (node_there all to)))
      (map_has put (in_order Exact (map carried (other_nodes all to))) (carried x) (order_has (map carried (other_nodes all to)) (carried x) (map_has carried (other_nodes all to) x (other_has all to x h off))))

  moves_so : IsMove all from to moment node
  moves_so = record {
    comes = comes_so;
    map = map_so;
    has = λ x h off. (put (carried x), has_so x h off, put_path (carried x) ∙ carried_path x, put_kind x h off);
    free = free_so;
    made = made_so;
  }

-- a node that is moved so
pub moves : (nodes : List Node) → IsFolderMap nodes → (from to : Names) (moment : ℕ) (node : Node) → node_there nodes from ≡ Some node → (from ≡ [] → ⊥) → may_move nodes from to ≡ true → is_same_path Exact from to ≡ false → list_all is_name to ≡ true
    → IsMove nodes from to moment node
moves nodes is from to moment node there some allowed apart named =
    subst (λ (l : List Node). IsFolderMap l → node_there l from ≡ Some node → may_move l from to ≡ true → IsMove l from to moment node) (sym is.root.2) (λ map at may. by is.root.0 is.root.1 map at may) is there allowed
  where
    by : (root : Node) (others : List Node) → IsFolderMap (root ∷ others) → node_there (root ∷ others) from ≡ Some node → may_move (root ∷ others) from to ≡ true → IsMove (root ∷ others) from to moment node
    by root others map at may = placed (position (is_at_path Exact from) others) refl
      where
        placed : (o : Option ℕ) → position (is_at_path Exact from) others ≡ o → IsMove (root ∷ others) from to moment node
        placed None e = absurd (none-some node (sym (there_none root others map from some e) ∙ at))
        placed (Some k) e = subst (IsMove (root ∷ others) from to moment) (same_Some (get_or others k blank) node (sym (there_at root others map from k blank e) ∙ at)) (moves_so root others map from to moment may apart named k e)
