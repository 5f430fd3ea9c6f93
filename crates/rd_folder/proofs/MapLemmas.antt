-- The nodes of a folder stay a map: one that changes, one that is made, and one that goes.
use Rattle.std.proofs.Common.{◌≡◌, ◌∙◌, refl, sym, ap, subst, ℕ, ◌⊎◌, inl, inr, Bool, true, false, not, ◌||◌, ◌==◌, cond, List, [], ◌∷◌, ◌++◌, map, filter, find, length, Option, Some, None, ⊎_elim}
use Rattle.std.specs.List.{list_all}
use Rattle.std.specs.Option.{option_map_or, is_some}
use Rattle.std.specs.Ordering.{is_lt}
use Rattle.std.proofs.Math.Dec.{eqb-suc-zero}
use Rattle.std.proofs.lemmas.Bool.{cases_Bool}
use Rattle.rd_dirinfo.specs.declared.naming.Naming.TheVariants.{Exact}
use Rattle.rd_dirinfo.specs.Paths.{Names, is_name, is_parent, last_name, parent, path_cmp}
use Rattle.rd_drive.specs.DriveState.{Node, add_node, has_children, has_folder, is_at_path, is_folder_node, made_path}
use Rattle.rd_drive.proofs.TargetLemmas.{joined_at}
use Rattle.rd_folder.specs.Told.{drive_over, is_held, IsFolderMap, Rises}
use Rattle.rd_folder.specs.FolderCalls.{node_there, with_put}
use Rattle.rd_folder.specs.InMemory.{IsSamePlace}
use Rattle.rd_folder.proofs.ExactLemmas.{exact_apart, parent_is, root_before, same_exact}
use Rattle.rd_folder.proofs.HasLemmas.{add_has, add_rises, all_has, filter_has, filter_rises, find_has, has_add, has_all, has_any, has_filter, has_map, map_has, map_rises, none_is, one_at, there_is, Has}

-- the root's path or another one
pub path_kind : (p : Names) → (p ≡ []) ⊎ (p ≡ [] → ⊥)
path_kind [] = inl refl
path_kind (x ∷ xs) = inr (λ e. absurd (cc))

pub no_root : (p : Names) → (p ≡ [] → ⊥) → (length p == 0) ≡ false
no_root [] some = absurd (some refl)
no_root (x ∷ xs) some = eqb-suc-zero (length xs)

pub no_bytes : (node : Node) → is_folder_node node ≡ true → node.bytes ≡ None
no_bytes node t = by node.bytes t
  where
    by : (bytes : Option (List ℕ)) → not (is_some bytes) ≡ true → bytes ≡ None
    by None t = refl
    by (Some b) t = absurd (cc)

pub bytes_fold : (node : Node) → node.bytes ≡ None → is_folder_node node ≡ true
bytes_fold node e = ap (λ (bytes : Option (List ℕ)). not (is_some bytes)) e

-- a folder among nodes, at a path
abbrev pub HasFolder : List Node → Names → Type 0
HasFolder l p = (m : Node) × Has l m × (m.path ≡ p) × (is_folder_node m ≡ true)

pub folder_at : (l : List Node) (p : Names) → has_folder (drive_over l) p ≡ true → HasFolder l p
folder_at l p t = by (find (is_at_path Exact p) l) refl
  where
    by : (o : Option Node) → find (is_at_path Exact p) l ≡ o → HasFolder l p
    by None is = absurd (let clash : false ≡ true = sym (ap (λ (o : Option Node). option_map_or is_folder_node o false) is) ∙ t in cc)
    by (Some m) is =
        let found = find_has (is_at_path Exact p) l m is in
        (m, found.0, same_exact m.path p found.1, sym (ap (λ (o : Option Node). option_map_or is_folder_node o false) is) ∙ t)

pub at_folder : (l : List Node) → Rises l → (p : Names) → HasFolder l p → has_folder (drive_over l) p ≡ true
at_folder l rises p (m, has, at, folds) = ap (λ (o : Option Node). option_map_or is_folder_node o false) (there_is l rises m has p at) ∙ folds

-- ---- what a map is, by what it has

module _ (l : List Node) (is : IsFolderMap l) where
  pub held_by : (x : Node) → Has l x → (x.path ≡ [] → ⊥) → HasFolder l (parent x.path)
  held_by x has some =
      let held : is_held l x ≡ true = all_has (λ (node : Node). is_held l node ≡ true) l is.held x has in
      folder_at l (parent x.path) (sym (ap (λ b. b || has_folder (drive_over l) (parent x.path)) (no_root x.path some)) ∙ held)

  pub named_so : (x : Node) → Has l x → list_all is_name x.path ≡ true
  named_so x has = all_has (λ (node : Node). list_all is_name node.path ≡ true) l is.named x has

-- the first of some nodes is the root
abbrev pub HasRoot : List Node → Type 0
HasRoot l = (first : Node) × (others : List Node) × (l ≡ first ∷ others) × (first.path ≡ []) × (first.bytes ≡ None)

pub make_map : (l : List Node) → Rises l → HasRoot l → ((x : Node) → Has l x → (x.path ≡ [] → ⊥) → HasFolder l (parent x.path)) → ((x : Node) → Has l x → list_all is_name x.path ≡ true) → IsFolderMap l
make_map l rises root held named = record {
  rises = rises;
  root = root;
  held = has_all (λ (node : Node). is_held l node ≡ true) l (λ x has. ⊎_elim (λ e. at_root x e) (λ some. off_root x (held x has some)) (path_kind x.path));
  named = has_all (λ (node : Node). list_all is_name node.path ≡ true) l named;
}
  where
    at_root : (x : Node) → x.path ≡ [] → is_held l x ≡ true
    at_root x e = ap (λ (p : Names). (length p == 0) || has_folder (drive_over l) (parent p)) e

    off_root : (x : Node) → HasFolder l (parent x.path) → is_held l x ≡ true
    off_root x folder = ap (λ b. (length x.path == 0) || b) (at_folder l rises (parent x.path) folder) ∙ or_true (length x.path == 0)
      where
        or_true : (b : Bool) → (b || true) ≡ true
        or_true true = refl
        or_true false = refl

-- ---- one node changes, at its path

module _ (l : List Node) (is : IsFolderMap l) (old new : Node) (has : Has l old) (same : IsSamePlace old new) where
  abbrev change : Node → Node
  change other = cond (is_at_path Exact new.path other) new other

  same_path : (x : Node) → Has l x → (change x).path ≡ x.path
  same_path x h =
      ⊎_elim
      (λ t. ap (λ b. (cond b new x).path) t ∙ sym (same_exact x.path new.path t))
      (λ f. ap (λ b. (cond b new x).path) f)
      (cases_Bool (is_at_path Exact new.path x))

  same_kind : (x : Node) → Has l x → is_folder_node (change x) ≡ is_folder_node x
  same_kind x h =
      ⊎_elim
      (λ t. ap (λ b. is_folder_node (cond b new x)) t ∙ same.1 ∙ ap is_folder_node (sym (one_at l is.rises x old h has (same_exact x.path new.path t ∙ same.0))))
      (λ f. ap (λ b. is_folder_node (cond b new x)) f)
      (cases_Bool (is_at_path Exact new.path x))

  root_put : HasRoot l → HasRoot (with_put l new)
  root_put (first, others, e, path, bytes) =
      let here : Has l first = subst (λ (k : List Node). Has k first) (sym e) (inl refl) in (
        change first,
        map change others,
        ap (map change) e,
        same_path first here ∙ path,
        no_bytes (change first) (same_kind first here ∙ bytes_fold first bytes),
      )

  pub put_map : IsFolderMap (with_put l new)
  put_map =
      make_map (with_put l new) (map_rises change l same_path is.rises) (root_put is.root)
      (λ z h some.
      let x = has_map change l z h in
      let path : z.path ≡ x.0.path = ap (λ (n : Node). n.path) x.2 ∙ same_path x.0 x.1 in
      let folder = held_by l is x.0 x.1 (λ e. some (path ∙ e)) in
      (change folder.0, map_has change l folder.0 folder.1, same_path folder.0 folder.1 ∙ folder.2 ∙ ap parent (sym path), same_kind folder.0 folder.1 ∙ folder.3))
      (λ z h.
      let x = has_map change l z h in
      ap (list_all is_name) (ap (λ (n : Node). n.path) x.2 ∙ same_path x.0 x.1) ∙ named_so l is x.0 x.1)

-- ---- one node is made

module _ (l : List Node) (is : IsFolderMap l) (new : Node) (none : node_there l new.path ≡ None) (some : new.path ≡ [] → ⊥) (folder : has_folder (drive_over l) (parent new.path) ≡ true) (named : list_all is_name new.path ≡ true) where
  other : (x : Node) → Has l x → x.path ≡ new.path → ⊥
  other x h e = none_is l new.path none x h e

  still : (p : Names) → HasFolder l p → HasFolder (add_node Exact new l) p
  still p (m, has, at, folds) = (m, add_has new l m (inr has), at, folds)

  root_add : HasRoot l → HasRoot (add_node Exact new l)
  root_add (first, others, e, path, bytes) = (
    first,
    add_node Exact new others,
    ap (add_node Exact new) e ∙ ap (λ b. cond b (first ∷ add_node Exact new others) (new ∷ first ∷ others)) (before path),
    path,
    bytes,
  )
    where
      before : first.path ≡ [] → is_lt (path_cmp Exact first.path new.path) ≡ true
      before e = ap (λ (p : Names). is_lt (path_cmp Exact p new.path)) e ∙ root_before new.path some

  pub add_map : IsFolderMap (add_node Exact new l)
  add_map =
      make_map (add_node Exact new l) (add_rises new l is.rises other) (root_add is.root)
      (λ x h non. still (parent x.path) (⊎_elim (λ e. subst (λ (p : Names). HasFolder l (parent p)) (ap (λ (n : Node). n.path) (sym e)) (folder_at l (parent new.path) folder)) (λ k. held_by l is x k non) (has_add new l x h)))
      (λ x h. ⊎_elim (λ e. ap (λ (n : Node). list_all is_name n.path) e ∙ named) (λ k. named_so l is x k) (has_add new l x h))

-- ---- one node goes

module _ (l : List Node) (is : IsFolderMap l) (path : Names) (some : path ≡ [] → ⊥) (bare : has_children (drive_over l) path ≡ false) where
  abbrev stays : Node → Bool
  stays node = not (is_at_path Exact path node)

  stays_other : (x : Node) → (x.path ≡ path → ⊥) → stays x ≡ true
  stays_other x other = ap not (exact_apart x.path path other)

  root_stays : HasRoot l → HasRoot (filter stays l)
  root_stays (first, others, e, at, bytes) = (
    first,
    filter stays others,
    ap (filter stays) e ∙ ap (λ b. cond b (first ∷ filter stays others) (filter stays others)) (stays_other first (λ same. some (sym same ∙ at))),
    at,
    bytes,
  )

  -- what stands in a folder stands in one that stays
  other_folder : (x : Node) → Has l x → (x.path ≡ [] → ⊥) → parent x.path ≡ path → ⊥
  other_folder x h non e =
      absurd (let clash : true ≡ false = sym (has_any (λ (node : Node). is_parent Exact path node.path) l x h (ap (λ (p : Names). is_parent Exact p x.path) (sym e) ∙ parent_is x.path non)) ∙ bare in cc)

  pub less_map : IsFolderMap (filter stays l)
  less_map =
      make_map (filter stays l) (filter_rises stays l is.rises) (root_stays is.root)
      (λ x h non.
      let was = (has_filter stays l x h).0 in
      let folder = held_by l is x was non in
      (folder.0, filter_has stays l folder.0 folder.1 (stays_other folder.0 (λ e. other_folder x was non (sym folder.2 ∙ e))), folder.2, folder.3))
      (λ x h. named_so l is x (has_filter stays l x h).0)

-- the path that a new node gets, or one that is moved
pub made_same : (l : List Node) → Rises l → (path : Names) → (path ≡ [] → ⊥) → has_folder (drive_over l) (parent path) ≡ true → made_path (drive_over l) path ≡ path
made_same l rises path some folds =
    let folder = folder_at l (parent path) folds in
    ap (λ (o : Option Node). option_map_or (λ (node : Node). node.path) o (parent path) ++ last_name path ∷ []) (there_is l rises folder.0 folder.1 (parent path) folder.2)
    ∙ ap (λ (p : Names). p ++ last_name path ∷ []) folder.2 ∙ joined_at path some
