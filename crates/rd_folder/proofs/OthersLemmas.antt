-- A node that is made among the root and the others, and one that goes.
use Rattle.std.proofs.Common.{◌≡◌, ◌∙◌, refl, sym, ap, subst, ℕ, ◌+◌, Bool, true, false, not, ◌&&◌, ◌||◌, ◌==◌, cond, List, [], ◌∷◌, filter, length, remove, position, Option, Some, None, ⊎_elim, arith}
use Rattle.std.specs.List.{list_any, list_all}
use Rattle.std.specs.Option.{is_some}
use Rattle.std.specs.Ordering.{is_lt}
use Rattle.std.proofs.lemmas.Bool.{and_parts, not-true}
use Rattle.std.proofs.lemmas.Bool.Decides.{nat_tests}
use Rattle.rd_dirinfo.specs.declared.naming.Naming.TheVariants.{Exact}
use Rattle.rd_dirinfo.specs.Paths.{Names, is_name, is_parent, is_prefix, parent, path_cmp}
use Rattle.rd_drive.specs.DriveState.{Node, add_node, has_children, has_folder, is_at_path, made_path, new_node}
use Rattle.rd_folder.specs.Told.{drive_over, IsFolderMap}
use Rattle.rd_folder.specs.FolderCalls.{folder_remove, leaving, making, may_make, node_there, only_if}
use Rattle.rd_folder.proofs.AtLemmas.{off_root, root_path, some_path, there_at, there_none}
use Rattle.rd_folder.proofs.EditLemmas.{found_at, remove_less}
use Rattle.rd_folder.proofs.ExactLemmas.{exact_apart, root_before}
use Rattle.rd_folder.proofs.MapLemmas.{add_map, less_map, made_same, no_root, path_kind}

false_after : (b : Bool) → (b && false) ≡ false
false_after true = refl
false_after false = refl

none_here : {X : Type 0} (o : Option X) → is_some o ≡ false → o ≡ None
none_here None e = refl
none_here (Some x) e = absurd (cc)

module _ (root : Node) (others : List Node) (is : IsFolderMap (root ∷ others)) where
  -- ---- one is made

  -- the root stays first
  pub past_root : (new : Node) → (new.path ≡ [] → ⊥) → add_node Exact new (root ∷ others) ≡ root ∷ add_node Exact new others
  past_root new some =
      ap (λ b. cond b (root ∷ add_node Exact new others) (new ∷ root ∷ others)) (ap (λ (p : Names). is_lt (path_cmp Exact p new.path)) (root_path root others is) ∙ root_before new.path some)

  module _ (path : Names) (bytes : Option (List ℕ)) (attributes moment : ℕ) (allowed : may_make (root ∷ others) path ≡ true) (named : list_all is_name path ≡ true) where
    abbrev pub new : Node
    new = new_node path bytes attributes moment

    parts : (not (length path == 0) ≡ true) × ((has_folder (drive_over (root ∷ others)) (parent path) && not (is_some (node_there (root ∷ others) path))) ≡ true)
    parts = and_parts (not (length path == 0)) (has_folder (drive_over (root ∷ others)) (parent path) && not (is_some (node_there (root ∷ others) path))) allowed

    more : (has_folder (drive_over (root ∷ others)) (parent path) ≡ true) × (not (is_some (node_there (root ∷ others) path)) ≡ true)
    more = and_parts (has_folder (drive_over (root ∷ others)) (parent path)) (not (is_some (node_there (root ∷ others) path))) parts.1

    some : path ≡ [] → ⊥
    some = some_path path (not-true (length path == 0) parts.0)

    pub made_map : IsFolderMap (root ∷ add_node Exact new others)
    made_map =
        subst IsFolderMap (past_root new some)
        (add_map (root ∷ others) is new (none_here (node_there (root ∷ others) path) (not-true (is_some (node_there (root ∷ others) path)) more.1)) some more.0 named)

    pub made_comes : (nodes : List Node) → root ∷ others ≡ nodes → making path bytes attributes moment nodes ≡ Some (tt, root ∷ add_node Exact new others)
    made_comes nodes e =
        ap (making path bytes attributes moment) (sym e)
        ∙ ap (λ b. only_if b (leaving (add_node Exact (new_node (made_path (drive_over (root ∷ others)) path) bytes attributes moment) (root ∷ others)))) allowed
        ∙ ap (λ (p : Names). leaving (add_node Exact (new_node p bytes attributes moment) (root ∷ others))) (made_same (root ∷ others) is.rises path some more.0)
        ∙ ap leaving (past_root new some)

  -- ---- one goes

  module _ (path : Names) where
    abbrev stays : Node → Bool
    stays node = not (is_at_path Exact path node)

    -- the root stands in no folder
    children_past : has_children (drive_over (root ∷ others)) path ≡ list_any (λ (node : Node). is_parent Exact path node.path) others
    children_past = ap (λ b. b || list_any (λ (node : Node). is_parent Exact path node.path) others) none
      where
        none : is_parent Exact path root.path ≡ false
        none = ap (is_parent Exact path) (root_path root others is) ∙ ap (λ b. is_prefix Exact path [] && b) (zero_apart (length path)) ∙ false_after (is_prefix Exact path [])
          where
            zero_apart : (n : ℕ) → (0 == n + 1) ≡ false
            zero_apart n = grind (arith, nat_tests)

    abbrev goes : List Node → Option (Unit {0} × List Node)
    goes nodes = leaving (filter stays nodes)

    pub none_goes : (nodes : List Node) → root ∷ others ≡ nodes → position (is_at_path Exact path) others ≡ None → (folder_remove path nodes ≡ None) × (nodes ≡ nodes)
    none_goes nodes e at = (ap (folder_remove path) (sym e) ∙ ⊎_elim top past (path_kind path), refl)
      where
        top : path ≡ [] → folder_remove path (root ∷ others) ≡ None
        top is_top =
            ap (λ b. only_if (not b && (is_some (node_there (root ∷ others) path) && not (has_children (drive_over (root ∷ others)) path))) (goes (root ∷ others))) (ap (λ (p : Names). length p == 0) is_top)

        past : (path ≡ [] → ⊥) → folder_remove path (root ∷ others) ≡ None
        past some =
            ap (λ (o : Option Node). only_if (not (length path == 0) && (is_some o && not (has_children (drive_over (root ∷ others)) path))) (goes (root ∷ others))) (there_none root others is path some at)
            ∙ ap (λ b. only_if b (goes (root ∷ others))) (false_after (not (length path == 0)))

    module _ (i : ℕ) (at : position (is_at_path Exact path) others ≡ Some i) where
      some_at : path ≡ [] → ⊥
      some_at = off_root root others is path i root at

      test_is : (b : Bool) → list_any (λ (node : Node). is_parent Exact path node.path) others ≡ b
          → folder_remove path (root ∷ others) ≡ only_if (not b) (goes (root ∷ others))
      test_is b bare =
          (λ k. only_if (not (no_root path some_at k) && (is_some (there_at root others is path i root at k) && not ((children_past ∙ bare) k))) (goes (root ∷ others)))

      pub kept_full : list_any (λ (node : Node). is_parent Exact path node.path) others ≡ true → (nodes : List Node) → root ∷ others ≡ nodes → (folder_remove path nodes ≡ None) × (nodes ≡ nodes)
      kept_full full nodes e = (ap (folder_remove path) (sym e) ∙ test_is true full, refl)

      module _ (bare : list_any (λ (node : Node). is_parent Exact path node.path) others ≡ false) where
        less_is : filter stays (root ∷ others) ≡ root ∷ remove others i
        less_is =
            let found = found_at (is_at_path Exact path) others i root at in
            ap (λ b. cond (not b) (root ∷ filter stays others) (filter stays others)) (exact_apart root.path path (λ e. some_at (sym e ∙ root_path root others is)))
            ∙ ap (◌∷◌ root) (sym (remove_less others is.rises.1 i root path found.0 found.2))

        pub gone_map : IsFolderMap (root ∷ remove others i)
        gone_map = subst IsFolderMap less_is (less_map (root ∷ others) is path some_at (children_past ∙ bare))

        pub gone_comes : (nodes : List Node) → root ∷ others ≡ nodes → folder_remove path nodes ≡ Some (tt, root ∷ remove others i)
        gone_comes nodes e = ap (folder_remove path) (sym e) ∙ test_is false bare ∙ ap leaving less_is
