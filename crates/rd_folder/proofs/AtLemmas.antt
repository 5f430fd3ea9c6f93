-- The node at a path, found among the root and the others, and what a call makes of it.
use Rattle.std.proofs.Common.{◌≡◌, ◌∙◌, refl, sym, ap, subst, ℕ, ◌<◌, inr, Bool, true, false, not, cond, List, [], ◌∷◌, find, length, get_or, set, position, Option, Some, None, Ok, Err, Result, suc, arith, ⊎_elim, nat_lt, ◌+◌, ◌++◌, ◌&&◌, ◌==◌}
use Rattle.std.specs.Option.{option_map, option_and_then}
use Rattle.std.proofs.lemmas.List.{nil_from_length, set-get_or}
use Rattle.rd_dirinfo.specs.declared.naming.Naming.TheVariants.{Exact}
use Rattle.rd_dirinfo.specs.Paths.{Names, is_name, is_parent, is_prefix, last_name, parent}
use Rattle.rd_dirinfo.specs.Naming.{Name}
use Rattle.rd_dirinfo.specs.Patterns.{is_wanted}
use Rattle.rd_drive.specs.QueryDir.{next_node}
use Rattle.rd_drive.proofs.TargetLemmas.{joined_at}
use Rattle.std.proofs.lemmas.Bool.{and_parts, eqb-true}
use Rattle.std.proofs.lemmas.Bool.Decides.{nat_tests}
use Rattle.std.specs.List.{list_all}
use Rattle.rd_drive.specs.DriveState.{Node, bytes_of, has_folder, is_at_path, is_folder_node}
use Rattle.rd_folder.specs.declared.folder.FolderNo.{FolderNo}
use Rattle.rd_folder.specs.declared.folder.FolderNo.TheVariants as no
use Rattle.rd_folder.specs.Told.{drive_over, ComesBefore, IsFolderMap}
use Rattle.rd_folder.specs.FolderCalls.{changing, folder_next, leaving, listed_of, answering, node_there, of_file, only_if, overwritten, with_put}
use Rattle.rd_contents.specs.Contents.{max_len, written}
use Rattle.rd_drive.specs.ReadWrite.{node_with_bytes}
use Rattle.rd_folder.specs.InMemory.{Alters, IsSamePlace, Tries}
use Rattle.rd_folder.proofs.EditLemmas.{found_at, found_nowhere, has_get, set_put}
use Rattle.rd_folder.proofs.ExactLemmas.{before_apart, exact_apart, exact_same, same_exact}
use Rattle.rd_folder.proofs.HasLemmas.{all_has, find_has, Has}
use Rattle.rd_folder.proofs.MapLemmas.{bytes_fold, named_so, path_kind, put_map}

module _ (root : Node) (others : List Node) (is : IsFolderMap (root ∷ others)) where
  first_root : root ≡ is.root.0
  first_root = let e = is.root.2 in cc

  pub root_path : root.path ≡ []
  root_path = ap (λ (n : Node). n.path) first_root ∙ is.root.3

  pub root_folds : is_folder_node root ≡ true
  root_folds = ap is_folder_node first_root ∙ bytes_fold is.root.0 is.root.4

  pub there_root : (p : Names) → p ≡ [] → node_there (root ∷ others) p ≡ Some root
  there_root p e = ap (λ b. cond b (Some root) (find (is_at_path Exact p) others)) (exact_same root.path p (root_path ∙ sym e))

  -- off the root
  pub there_past : (p : Names) → (p ≡ [] → ⊥) → node_there (root ∷ others) p ≡ find (is_at_path Exact p) others
  there_past p some = ap (λ b. cond b (Some root) (find (is_at_path Exact p) others)) (exact_apart root.path p (λ e. some (sym e ∙ root_path)))

  pub off_root : (p : Names) (i : ℕ) (d : Node) → position (is_at_path Exact p) others ≡ Some i → p ≡ [] → ⊥
  off_root p i d at e =
      let found = found_at (is_at_path Exact p) others i d at in
      before_apart root.path (get_or others i d).path (all_has (ComesBefore root) others is.rises.0 (get_or others i d) (has_get others i d found.0)) (root_path ∙ sym e ∙ sym (same_exact (get_or others i d).path p found.2))

  pub there_at : (p : Names) (i : ℕ) (d : Node) → position (is_at_path Exact p) others ≡ Some i → node_there (root ∷ others) p ≡ Some (get_or others i d)
  there_at p i d at = there_past p (off_root p i d at) ∙ (found_at (is_at_path Exact p) others i d at).1

  pub there_none : (p : Names) → (p ≡ [] → ⊥) → position (is_at_path Exact p) others ≡ None → node_there (root ∷ others) p ≡ None
  there_none p some at = there_past p some ∙ found_nowhere (is_at_path Exact p) others at

  -- the root isn't changed as a file is
  pub root_no_file : {X : Type 0} (some : Option X) → of_file root some ≡ None
  root_no_file some = ap (λ b. cond (not b) some None) root_folds

  pub overwritten_root : (offset : ℕ) (bytes : List ℕ) (moment : ℕ) → overwritten offset bytes moment root ≡ None
  overwritten_root offset [] moment = root_no_file (Some root)
  overwritten_root offset (b ∷ bs) moment =
      root_no_file (only_if (not (nat_lt max_len (offset + length (b ∷ bs)))) (Some (node_with_bytes root moment (written (bytes_of root) offset (b ∷ bs)))))

  -- ---- a node is changed

  module _ (p : Names) (change : Node → Option Node) where
    unchanged : change root ≡ None → position (is_at_path Exact p) others ≡ None → changing change p (root ∷ others) ≡ None
    unchanged none at = ⊎_elim (λ e. at_root e) (λ some. ap (option_and_then onward) (there_none p some at)) (path_kind p)
      where
        onward : Node → Option (Unit {0} × List Node)
        onward node = option_and_then (λ (after : Node). leaving (with_put (root ∷ others) after)) (change node)

        at_root : p ≡ [] → changing change p (root ∷ others) ≡ None
        at_root e = ap (option_and_then onward) (there_root p e) ∙ ap (option_and_then (λ (after : Node). leaving (with_put (root ∷ others) after))) none

    -- there is none, and the root isn't changed so
    pub missing : (nodes : List Node) → root ∷ others ≡ nodes → change root ≡ None → position (is_at_path Exact p) others ≡ None → (changing change p nodes ≡ None) × (nodes ≡ nodes)
    missing nodes e none at = (ap (changing change p) (sym e) ∙ unchanged none at, refl)

    module _ (i : ℕ) (old new : Node) (at : position (is_at_path Exact p) others ≡ Some i) (read : old ≡ get_or others i old) (same : IsSamePlace old new) where
      found : (i < length others) × (find (is_at_path Exact p) others ≡ Some (get_or others i old)) × (is_at_path Exact p (get_or others i old) ≡ true)
      found = found_at (is_at_path Exact p) others i old at

      set_is : root ∷ set others i new ≡ with_put (root ∷ others) new
      set_is = set_put (root ∷ others) is.rises (suc i) old new (omega (arith, found.0)) (same.0 ∙ ap (λ (n : Node). n.path) read)

      pub changed_map : IsFolderMap (root ∷ set others i new)
      changed_map = subst IsFolderMap (sym set_is) (put_map (root ∷ others) is old new (inr (subst (Has others) (sym read) (has_get others i old found.0))) same)

      comes_is : changing change p (root ∷ others) ≡ option_and_then (λ (after : Node). leaving (with_put (root ∷ others) after)) (change old)
      comes_is =
          ap (option_and_then (λ (node : Node). option_and_then (λ (after : Node). leaving (with_put (root ∷ others) after)) (change node))) (there_at p i old at ∙ ap (λ (n : Node). Some n) (sym read))

      still : new ≡ old → root ∷ set others i new ≡ root ∷ others
      still e = ap (λ (n : Node). root ∷ set others i n) (e ∙ read) ∙ ap (◌∷◌ root) (set-get_or others i old)

      pub tried : (result : Result (Unit {0}) FolderNo) → Alters old new (change old) result → Tries (root ∷ others) (root ∷ set others i new) (changing change p (root ∷ others)) result
      tried (Ok done) a = comes_is ∙ ap (option_and_then (λ (after : Node). leaving (with_put (root ∷ others) after))) a ∙ ap leaving (sym set_is)
      tried (Err no.Missing) a = (comes_is ∙ ap (option_and_then (λ (after : Node). leaving (with_put (root ∷ others) after))) a.0, still a.1)
      tried (Err no.Memory) a = still a
      tried (Err no.Failed) a = a
      tried (Err no.Full) a = a
      tried (Err no.Denied) a = a

      pub tried_on : (nodes : List Node) → root ∷ others ≡ nodes → (result : Result (Unit {0}) FolderNo) → Alters old new (change old) result → Tries nodes (root ∷ set others i new) (changing change p nodes) result
      tried_on nodes e result a = subst (λ (l : List Node). Tries l (root ∷ set others i new) (changing change p l) result) e (tried result a)

    -- there is none off the root
    pub missing_past : (nodes : List Node) → root ∷ others ≡ nodes → (p ≡ [] → ⊥) → position (is_at_path Exact p) others ≡ None → (changing change p nodes ≡ None) × (nodes ≡ nodes)
    missing_past nodes e some at = (
      ap (changing change p) (sym e) ∙ ap (option_and_then (λ (node : Node). option_and_then (λ (after : Node). leaving (with_put (root ∷ others) after)) (change node))) (there_none p some at),
      refl,
    )

    -- the root is changed
    pub root_changed : (nodes : List Node) → root ∷ others ≡ nodes → p ≡ [] → (new : Node) → Some new ≡ change root → IsSamePlace root new → changing change p nodes ≡ Some (tt, new ∷ others)
    root_changed nodes e top new changed same =
        ap (changing change p) (sym e)
        ∙ ap (option_and_then (λ (node : Node). option_and_then (λ (after : Node). leaving (with_put (root ∷ others) after)) (change node))) (there_root p top)
        ∙ ap (option_and_then (λ (after : Node). leaving (with_put (root ∷ others) after))) (sym changed)
        ∙ ap leaving (sym (set_put (root ∷ others) is.rises 0 root new (omega arith) same.0))

  -- ---- listing

  abbrev is_listed : Names → List ℕ → Option Name → Node → Bool
  is_listed path pattern after node = is_parent Exact path node.path && is_wanted Exact after pattern (last_name node.path)

  -- the root is listed in no folder
  next_past : (path : Names) (pattern : List ℕ) (after : Option Name) → next_node (drive_over (root ∷ others)) path pattern after ≡ find (is_listed path pattern after) others
  next_past path pattern after = ap (λ b. cond b (Some root) (find (is_listed path pattern after) others)) none
    where
      none : is_listed path pattern after root ≡ false
      none = ap (λ (p : Names). (is_prefix Exact path p && length p == length path + 1) && is_wanted Exact after pattern (last_name p)) root_path ∙ by (is_prefix Exact path []) (zero_apart (length path))
        where
          zero_apart : (n : ℕ) → (0 == n + 1) ≡ false
          zero_apart n = grind (arith, nat_tests)

          by : (b : Bool) → (0 == length path + 1) ≡ false → ((b && (0 == length path + 1)) && is_wanted Exact after pattern (last_name [])) ≡ false
          by true e = ap (λ c. c && is_wanted Exact after pattern (last_name [])) e
          by false e = refl

  -- what a listing gives
  pub listed : (nodes : List Node) → root ∷ others ≡ nodes → (path : Names) (after : Option Name) (pattern : List ℕ) (first : Option Node) → first ≡ find (is_listed path pattern after) others
      → has_folder (drive_over nodes) path ≡ true → folder_next path after pattern nodes ≡ Some (option_map listed_of first, nodes)
  listed nodes e path after pattern first is_first folds =
      ap (λ b. only_if b (answering nodes (option_map listed_of (next_node (drive_over nodes) path pattern after)))) folds
      ∙ ap (λ (o : Option Node). answering nodes (option_map listed_of o))
      (ap (λ (l : List Node). next_node (drive_over l) path pattern after) (sym e) ∙ next_past path pattern after ∙ sym is_first)

  -- a name that is listed is one
  pub listed_named : (path : Names) (after : Option Name) (pattern : List ℕ) (node : Node) → Some node ≡ find (is_listed path pattern after) others → is_name (last_name node.path) ≡ true
  listed_named path after pattern node e =
      let found = find_has (is_listed path pattern after) others node (sym e) in
      let here = and_parts (is_parent Exact path node.path) (is_wanted Exact after pattern (last_name node.path)) found.1 in
      let deep = and_parts (is_prefix Exact path node.path) (length node.path == length path + 1) here.0 in
      let long : length node.path ≡ length path + 1 = eqb-true (length node.path) (length path + 1) deep.1 in
      named_last node.path (λ empty. absurd (omega (arith, long, ap length empty))) (named_so (root ∷ others) is node (inr found.0))
    where
      all_last : (p : Names) (x : Name) → list_all is_name (p ++ x ∷ []) ≡ true → is_name x ≡ true
      all_last [] x all = (and_parts (is_name x) true all).0
      all_last (y ∷ ys) x all = all_last ys x (and_parts (is_name y) (list_all is_name (ys ++ x ∷ [])) all).1

      named_last : (p : Names) → (p ≡ [] → ⊥) → list_all is_name p ≡ true → is_name (last_name p) ≡ true
      named_last p some all = all_last (parent p) (last_name p) (ap (list_all is_name) (joined_at p some) ∙ all)

pub some_path : (p : Names) → (length p == 0) ≡ false → p ≡ [] → ⊥
some_path p e empty = absurd (let clash : true ≡ false = sym (ap (λ (q : Names). length q == 0) empty) ∙ e in cc)

pub no_path : (p : Names) → (length p == 0) ≡ true → p ≡ []
no_path p e = nil_from_length p (eqb-true (length p) 0 e)
