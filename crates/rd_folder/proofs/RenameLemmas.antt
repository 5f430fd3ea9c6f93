-- A node that isn't the root gets another path, with all that is below it.
use Rattle.std.proofs.Common.{◌≡◌, ◌∙◌, refl, sym, ap, subst, ℕ, ◌+◌, ◌<◌, ◌⊎◌, inl, inr, Bool, true, false, not, ◌&&◌, ◌==◌, cond, List, [], ◌∷◌, ◌++◌, map, filter, find, drop, length, get_or, position, suc, zero, Option, Some, None, ⊎_elim, arith, length-append, append_assoc, nat_le}
use Rattle.std.specs.List.{list_all}
use Rattle.std.specs.Option.{option_and_then}
use Rattle.std.specs.Ordering.{is_lt}
use Rattle.std.proofs.lemmas.Bool.{cases_Bool, and_parts, not-true}
use Rattle.std.proofs.lemmas.Bool.Decides.{nat_tests}
use Rattle.std.proofs.lemmas.List.{append-nil, map-id, nil_from_length}
use Rattle.rd_dirinfo.specs.declared.naming.Naming.TheVariants.{Exact}
use Rattle.rd_dirinfo.specs.Naming.{Name}
use Rattle.rd_dirinfo.specs.Paths.{Names, is_below, is_name, is_prefix, is_same_path, last_name, moved_path, parent, path_cmp}
use Rattle.rd_drive.specs.DriveState.{Node, add_node, has_folder, in_order, is_at_path, is_folder_node, made_path, new_node}
use Rattle.rd_drive.specs.Rename.{renamed, without_target}
use Rattle.rd_drive.proofs.NodeLemmas.{order_put}
use Rattle.rd_drive.proofs.TargetLemmas.{joined_at}
use Rattle.rd_folder.specs.Told.{drive_over, ComesBefore, IsFolderMap, Rises}
use Rattle.rd_folder.specs.FolderCalls.{folder_rename, leaving, may_move, moving, node_there, only_if}
use Rattle.rd_folder.specs.InMemory.{relocating, changed_node, left_out, relocated}
use Rattle.rd_folder.proofs.AtLemmas.{off_root, root_folds, root_path, some_path, there_at, there_none}
use Rattle.rd_folder.proofs.EditLemmas.{found_at, found_nowhere, has_get, remove_less, set_put}
use Rattle.rd_folder.proofs.ExactLemmas.{before_apart, exact_apart, exact_same, joined_prefix, joined_rest, none_before_root, own_beginning, parent_after, parent_shorter, prefix_exact, same_exact, same_rest}
use Rattle.rd_folder.proofs.HasLemmas.{all_has, filter_has, filter_rises, filter_still, find_has, find_none, has_filter, has_map, has_order, map_has, one_at, order_has, order_rises, AreApart, Has}
use Rattle.rd_folder.proofs.MapLemmas.{at_folder, folder_at, held_by, made_same, make_map, named_so, no_bytes, no_root, path_kind, HasFolder}
use Rattle.rd_folder.proofs.RelocateLemmas.{left_map}

-- ---- lists

map_twice : (f g h k : Node → Node) (l : List Node) → ((x : Node) → Has l x → f (g x) ≡ h (k x)) → map f (map g l) ≡ map h (map k l)
map_twice f g h k [] same = refl
map_twice f g h k (y ∷ ys) same = λ i. same y (inl refl) i ∷ map_twice f g h k ys (λ x has. same x (inr has)) i

apart_map : (c : Node → Node) (l : List Node) → Rises l → ((x y : Node) → Has l x → Has l y → (c x).path ≡ (c y).path → x.path ≡ y.path) → AreApart (map c l)
apart_map c [] rises back = tt
apart_map c (x ∷ xs) rises back = (
  λ z h e.
      let y = has_map c xs z h in
      before_apart x.path y.0.path (all_has (ComesBefore x) xs rises.0 y.0 y.1) (back x y.0 (inl refl) (inr y.1) (sym e ∙ ap (λ (n : Node). n.path) y.2)),
  apart_map c xs rises.1 (λ y z h k e. back y z (inr h) (inr k) e),
)

pub all_joined : (p q : Names) → list_all is_name p ≡ true → list_all is_name q ≡ true → list_all is_name (p ++ q) ≡ true
all_joined [] q all more = more
all_joined (x ∷ xs) q all more = let parts = and_parts (is_name x) (list_all is_name xs) all in λ i. parts.0 i && all_joined xs q parts.1 more i

all_after : (p q : Names) → list_all is_name (p ++ q) ≡ true → list_all is_name q ≡ true
all_after [] q all = all
all_after (x ∷ xs) q all = all_after xs q (and_parts (is_name x) (list_all is_name (xs ++ q)) all).1

-- the root stands first
root_first : (root : Node) → root.path ≡ [] → (l : List Node) → add_node Exact root l ≡ root ∷ l
root_first root top [] = refl
root_first root top (y ∷ ys) = ap (λ b. cond b (y ∷ add_node Exact root ys) (root ∷ y ∷ ys)) (ap (λ (p : Names). is_lt (path_cmp Exact y.path p)) top ∙ none_before_root y.path)

-- ---- what moving makes of a path

module _ (from to : Names) where
  abbrev pub new_path : Names → Names
  new_path path = moved_path Exact from to path

  moved : (path : Names) → is_prefix Exact from path ≡ true → new_path path ≡ to ++ drop (length from) path
  moved path t = ap (λ b. cond b (to ++ drop (length from) path) path) t

  stays : (path : Names) → is_prefix Exact from path ≡ false → new_path path ≡ path
  stays path f = ap (λ b. cond b (to ++ drop (length from) path) path) f

  moved_joined : (r : Names) → new_path (from ++ r) ≡ to ++ r
  moved_joined r = moved (from ++ r) (joined_prefix from r) ∙ ap (λ (q : Names). to ++ q) (joined_rest from r)

  moved_own : new_path from ≡ to
  moved_own = ap new_path (sym (append-nil from)) ∙ moved_joined [] ∙ append-nil to

  -- what isn't at or below `to` and comes to be there was at or below `from`
  pub back_same : (p q : Names) → (is_prefix Exact to p ≡ true → ⊥) → (is_prefix Exact to q ≡ true → ⊥) → new_path p ≡ new_path q → p ≡ q
  back_same p q free other e =
      ⊎_elim
      (λ s. ⊎_elim
      (λ t. prefix_exact from p s ∙ ap (λ (r : Names). from ++ r) (same_rest to (drop (length from) p) (drop (length from) q) (sym (moved p s) ∙ e ∙ moved q t)) ∙ sym (prefix_exact from q t))
      (λ t. absurd (other (ap (is_prefix Exact to) (sym (sym (moved p s) ∙ e ∙ stays q t)) ∙ joined_prefix to (drop (length from) p))))
      (cases_Bool (is_prefix Exact from q)))
      (λ s. ⊎_elim
      (λ t. absurd (free (ap (is_prefix Exact to) (sym (stays p s) ∙ e ∙ moved q t) ∙ joined_prefix to (drop (length from) q))))
      (λ t. sym (stays p s) ∙ e ∙ stays q t)
      (cases_Bool (is_prefix Exact from q)))
      (cases_Bool (is_prefix Exact from p))

-- a path in a folder that is at or below one is below it
below_in : (from p : Names) → (p ≡ [] → ⊥) → is_prefix Exact from (parent p) ≡ true → (is_prefix Exact from p ≡ true) × ((length from == length p) ≡ false)
below_in from p some t =
    let front : p ≡ from ++ (drop (length from) (parent p) ++ last_name p ∷ []) =
    sym (joined_at p some) ∙ ap (λ (q : Names). q ++ last_name p ∷ []) (prefix_exact from (parent p) t) ∙ append_assoc from (drop (length from) (parent p)) (last_name p ∷ []) in
    let long : length (parent p) ≡ length from + length (drop (length from) (parent p)) = ap (length {A = Name}) (prefix_exact from (parent p) t) ∙ length-append from (drop (length from) (parent p)) in
    (ap (is_prefix Exact from) front ∙ joined_prefix from (drop (length from) (parent p) ++ last_name p ∷ []), apart (length from) (length p) (omega (arith, long, parent_shorter p some)))
  where
    apart : (a b : ℕ) → a < b → (a == b) ≡ false
    apart a b h = grind (arith, nat_tests)

-- ---- the move

module _ (root : Node) (others : List Node) (is : IsFolderMap (root ∷ others)) (from to : Names) (moment : ℕ) (at : ℕ) (here : position (is_at_path Exact from) others ≡ Some at)
    (allowed : may_move (root ∷ others) from to ≡ true) (named : list_all is_name to ≡ true) where
  abbrev nodes : List Node
  nodes = root ∷ others

  abbrev blank : Node
  blank = new_node [] None 0 0

  abbrev node : Node
  node = get_or others at blank

  abbrev changed : Node
  changed = changed_node node moment

  found : (at < length others) × (find (is_at_path Exact from) others ≡ Some node) × (is_at_path Exact from node ≡ true)
  found = found_at (is_at_path Exact from) others at blank here

  node_at : node.path ≡ from
  node_at = same_exact node.path from found.2

  has_node : Has nodes node
  has_node = inr (has_get others at blank found.0)

  some_from : from ≡ [] → ⊥
  some_from = off_root root others is from at blank here

  parts : (not (length to == 0) ≡ true) × ((not (is_below Exact from to) && (has_folder (drive_over nodes) (parent to) && not (has_folder (drive_over nodes) to))) ≡ true)
  parts = and_parts (not (length to == 0)) (not (is_below Exact from to) && (has_folder (drive_over nodes) (parent to) && not (has_folder (drive_over nodes) to))) allowed

  parts' : (not (is_below Exact from to) ≡ true) × ((has_folder (drive_over nodes) (parent to) && not (has_folder (drive_over nodes) to)) ≡ true)
  parts' = and_parts (not (is_below Exact from to)) (has_folder (drive_over nodes) (parent to) && not (has_folder (drive_over nodes) to)) parts.1

  parts'' : (has_folder (drive_over nodes) (parent to) ≡ true) × (not (has_folder (drive_over nodes) to) ≡ true)
  parts'' = and_parts (has_folder (drive_over nodes) (parent to)) (not (has_folder (drive_over nodes) to)) parts'.1

  some_to : to ≡ [] → ⊥
  some_to = some_path to (not-true (length to == 0) parts.0)

  not_below : is_below Exact from to ≡ false
  not_below = not-true (is_below Exact from to) parts'.0

  no_folder : HasFolder nodes to → ⊥
  no_folder folder = absurd (let clash : true ≡ false = sym (at_folder nodes is.rises to folder) ∙ not-true (has_folder (drive_over nodes) to) parts''.1 in cc)

  -- ---- what is left without the target
  abbrev stays_there : Node → Bool
  stays_there x = not (is_at_path Exact to x)

  abbrev left : List Node
  left = filter stays_there others

  root_off : is_at_path Exact to root ≡ false
  root_off = exact_apart root.path to (λ e. some_to (sym e ∙ root_path root others is))

  left_whole : filter stays_there nodes ≡ root ∷ left
  left_whole = ap (λ b. cond (not b) (root ∷ left) left) root_off

  left_off : (x : Node) → Has left x → Has others x × (x.path ≡ to → ⊥)
  left_off x h =
      let was = has_filter stays_there others x h in
      (was.0, λ e. absurd (let clash : true ≡ false = sym (exact_same x.path to e) ∙ not-true (is_at_path Exact to x) was.1 in cc))

  left_is : left_out others (position (is_at_path Exact to) others) ≡ left
  left_is = by (position (is_at_path Exact to) others) refl
    where
      by : (o : Option ℕ) → position (is_at_path Exact to) others ≡ o → left_out others o ≡ left
      by None e = sym (filter_still stays_there others (λ x h. ap not (find_none (is_at_path Exact to) others (found_nowhere (is_at_path Exact to) others e) x h)))
      by (Some t) e = let there = found_at (is_at_path Exact to) others t blank e in remove_less others is.rises.1 t blank to there.0 there.2

  -- of the definition
  without_is : without_target (drive_over nodes) (node_there nodes to) ≡ drive_over (root ∷ left)
  without_is = by (find (is_at_path Exact to) nodes) refl ∙ ap drive_over left_whole
    where
      by : (o : Option Node) → find (is_at_path Exact to) nodes ≡ o → without_target (drive_over nodes) (find (is_at_path Exact to) nodes) ≡ drive_over (filter stays_there nodes)
      by None e =
          ap (without_target (drive_over nodes)) e
          ∙ ap drive_over (sym (filter_still stays_there nodes (λ x h. ap not (find_none (is_at_path Exact to) nodes e x h))))
      by (Some t) e =
          ap (without_target (drive_over nodes)) e
          ∙ ap (λ (p : Names). drive_over (filter (λ (x : Node). not (is_at_path Exact p x)) nodes)) (same_exact t.path to (find_has (is_at_path Exact to) nodes t e).1)

  -- ---- nothing is at the target or below it
  -- a folder is above what would be below it
  pub above_it : (r : Names) → 0 < length r → (x : Node) → Has nodes x → x.path ≡ to ++ r → HasFolder nodes (to ++ parent r)
  above_it r long x h e =
      let some : r ≡ [] → ⊥ = λ empty. absurd (omega (arith, long, ap (length {A = Name}) empty)) in
      let deep : x.path ≡ [] → ⊥ = λ empty. absurd (omega (arith, long, ap (length {A = Name}) (sym e ∙ empty), length-append to r)) in
      let folder = held_by nodes is x h deep in
      (folder.0, folder.1, folder.2 ∙ ap parent e ∙ parent_after to r some, folder.3)

  shorter : (r : Names) → 0 < length r → length (parent r) + 1 ≡ length r
  shorter r long = sym (parent_shorter r (λ empty. absurd (omega (arith, long, ap (length {A = Name}) empty))))

  pub below_free : (k : ℕ) (r : Names) → length r ≡ suc k → (x : Node) → Has nodes x → x.path ≡ to ++ r → ⊥
  below_free zero r long x h e =
      let up = above_it r (omega (arith, long)) x h e in
      no_folder (up.0, up.1, up.2 ∙ ap (λ (p : Names). to ++ p) (nil_from_length (parent r) (omega (arith, long, shorter r (omega (arith, long))))) ∙ append-nil to, up.3)
  below_free (suc k) r long x h e =
      let up = above_it r (omega (arith, long)) x h e in
      below_free k (parent r) (omega (arith, long, shorter r (omega (arith, long)))) up.0 up.1 up.2

  pub free : (x : Node) → Has (root ∷ left) x → is_prefix Exact to x.path ≡ true → ⊥
  free x (inl same) t =
      some_to (no_front to (drop (length to) x.path) (sym (prefix_exact to x.path t) ∙ ap (λ (n : Node). n.path) same ∙ root_path root others is))
    where
      no_front : (p r : Names) → p ++ r ≡ [] → p ≡ []
      no_front [] r e = refl
      no_front (y ∷ ys) r e = absurd (cc)
  free x (inr h) t =
      let off = left_off x h in
      by (drop (length to) x.path) (prefix_exact to x.path t) off.0 off.1
    where
      by : (r : Names) → x.path ≡ to ++ r → Has others x → (x.path ≡ to → ⊥) → ⊥
      by [] e has other = other (e ∙ append-nil to)
      by (y ∷ ys) e has other = below_free (length ys) (y ∷ ys) refl x (inr has) e

  -- ---- what the move makes of a node

  -- the node changes
  abbrev put_changed : Node → Node
  put_changed x = cond (is_at_path Exact changed.path x) changed x

  abbrev carry : Node → Node
  carry x = relocating from to x

  abbrev move : Node → Node
  move x = carry (put_changed x)

  put_path : (x : Node) → (put_changed x).path ≡ x.path
  put_path x =
      ⊎_elim
      (λ t. ap (λ b. (cond b changed x).path) t ∙ sym (same_exact x.path changed.path t))
      (λ f. ap (λ b. (cond b changed x).path) f)
      (cases_Bool (is_at_path Exact changed.path x))

  put_kind : (x : Node) → Has nodes x → is_folder_node (put_changed x) ≡ is_folder_node x
  put_kind x h =
      ⊎_elim
      (λ t. ap (λ b. is_folder_node (cond b changed x)) t ∙ ap is_folder_node (sym (one_at nodes is.rises x node h has_node (same_exact x.path changed.path t))))
      (λ f. ap (λ b. is_folder_node (cond b changed x)) f)
      (cases_Bool (is_at_path Exact changed.path x))

  put_other : (x : Node) → (x.path ≡ from → ⊥) → put_changed x ≡ x
  put_other x other = ap (λ b. cond b changed x) (exact_apart x.path changed.path (λ e. other (e ∙ node_at)))

  put_own : (x : Node) → x.path ≡ from → put_changed x ≡ changed
  put_own x e = ap (λ b. cond b changed x) (exact_same x.path changed.path (e ∙ sym node_at))

  move_path : (x : Node) → (move x).path ≡ new_path from to x.path
  move_path x = ap (new_path from to) (put_path x)

  root_other : root.path ≡ from → ⊥
  root_other e = some_from (sym e ∙ root_path root others is)

  root_still : move root ≡ root
  root_still =
      ap carry (put_other root root_other)
      ∙ (λ i. record root { path = stays from to root.path past i })
    where
      past : is_prefix Exact from root.path ≡ false
      past = ap (is_prefix Exact from) (root_path root others is) ∙ by from some_from
        where
          by : (p : Names) → (p ≡ [] → ⊥) → is_prefix Exact p [] ≡ false
          by [] some = absurd (some refl)
          by (y ∷ ys) some = ap (λ b. b && is_same_path Exact (y ∷ ys) []) (none_fits (length ys))
            where
              none_fits : (n : ℕ) → nat_le (suc n) 0 ≡ false
              none_fits n = grind (arith, nat_tests)

  -- all nodes, before they are in order
  abbrev all : List Node
  all = map move (root ∷ left)

  abbrev others_after : List Node
  others_after = in_order Exact (map carry (map put_changed left))

  twice : map carry (map put_changed left) ≡ map move left
  twice = map_twice carry put_changed (λ (x : Node). x) move left (λ x h. refl) ∙ map-id (map move left)

  in_all : in_order Exact all ≡ root ∷ others_after
  in_all = (λ i. add_node Exact (root_still i) (in_order Exact (sym twice i))) ∙ root_first root (root_path root others is) others_after

  pub has_all_after : (x : Node) → Has (root ∷ left) x → Has (root ∷ others_after) (move x)
  has_all_after x h = subst (λ (l : List Node). Has l (move x)) in_all (order_has all (move x) (map_has move (root ∷ left) x h))

  pub from_all_after : (z : Node) → Has (root ∷ others_after) z → (x : Node) × Has (root ∷ left) x × (z ≡ move x)
  from_all_after z h = has_map move (root ∷ left) z (has_order all z (subst (λ (l : List Node). Has l z) (sym in_all) h))

  was_there : (x : Node) → Has (root ∷ left) x → Has nodes x
  was_there x (inl e) = inl e
  was_there x (inr h) = inr (left_off x h).0

  -- ---- it is a map
  rises_after : Rises (root ∷ others_after)
  rises_after =
      subst Rises in_all (order_rises all (apart_map move (root ∷ left) left_rises (λ x y h k e. back_same from to x.path y.path (free x h) (free y k) (sym (move_path x) ∙ e ∙ move_path y))))
    where
      left_rises : Rises (root ∷ left)
      left_rises = subst Rises left_whole (filter_rises stays_there nodes is.rises)

  pub kind_after : (x : Node) → Has (root ∷ left) x → is_folder_node (move x) ≡ is_folder_node x
  kind_after x h = put_kind x (was_there x h)

  -- a folder that was there, and what its path becomes
  folder_after : (p : Names) → HasFolder nodes p → HasFolder (root ∷ others_after) (new_path from to p)
  folder_after p (m, h, e, folds) =
      let stays_here : Has (root ∷ left) m = subst (λ (l : List Node). Has l m) left_whole (filter_has stays_there nodes m h (ap not (exact_apart m.path to (λ same. no_folder (m, h, same, folds))))) in
      (move m, has_all_after m stays_here, move_path m ∙ ap (new_path from to) e, kind_after m stays_here ∙ folds)

  parent_off : is_prefix Exact from (parent to) ≡ false
  parent_off = ⊎_elim (λ t. absurd (clash (below_in from to some_to t))) (λ f. f) (cases_Bool (is_prefix Exact from (parent to)))
    where
      clash : (is_prefix Exact from to ≡ true) × ((length from == length to) ≡ false) → ⊥
      clash (t, apart) = absurd (let both : true ≡ false = sym (λ i. t i && not (apart i)) ∙ not_below in cc)

  held_after : (x : Node) → Has (root ∷ left) x → ((move x).path ≡ [] → ⊥) → HasFolder (root ∷ others_after) (parent (move x).path)
  held_after x h some =
      ⊎_elim
      (λ t. by (drop (length from) x.path) (prefix_exact from x.path t))
      (λ f.
      let path : (move x).path ≡ x.path = move_path x ∙ stays from to x.path f in
      let deep : x.path ≡ [] → ⊥ = λ e. some (path ∙ e) in
      let folder = folder_after (parent x.path) (held_by nodes is x (was_there x h) deep) in
      let past : is_prefix Exact from (parent x.path) ≡ false = ⊎_elim (λ t. absurd (let both : true ≡ false = sym (below_in from x.path deep t).0 ∙ f in cc)) (λ g. g) (cases_Bool (is_prefix Exact from (parent x.path))) in
      (folder.0, folder.1, folder.2 ∙ stays from to (parent x.path) past ∙ ap parent (sym path), folder.3))
      (cases_Bool (is_prefix Exact from x.path))
    where
      by : (r : Names) → x.path ≡ from ++ r → HasFolder (root ∷ others_after) (parent (move x).path)
      by [] e =
          let path : (move x).path ≡ to = move_path x ∙ ap (new_path from to) (e ∙ append-nil from) ∙ moved_own from to in
          let folder = folder_after (parent to) (folder_at nodes (parent to) parts''.0) in
          (folder.0, folder.1, folder.2 ∙ stays from to (parent to) parent_off ∙ ap parent (sym path), folder.3)
      by (y ∷ ys) e =
          let path : (move x).path ≡ to ++ y ∷ ys = move_path x ∙ ap (new_path from to) e ∙ moved_joined from to (y ∷ ys) in
          let deep : x.path ≡ [] → ⊥ = λ empty. some_from (front from (y ∷ ys) (sym e ∙ empty)) in
          let folder = folder_after (parent x.path) (held_by nodes is x (was_there x h) deep) in
          (folder.0, folder.1, folder.2 ∙ ap (new_path from to) (ap parent e ∙ parent_after from (y ∷ ys) (λ k. absurd (cc))) ∙ moved_joined from to (parent (y ∷ ys)) ∙ sym (ap parent path ∙ parent_after to (y ∷ ys) (λ k. absurd (cc))), folder.3)
        where
          front : (p r : Names) → p ++ r ≡ [] → p ≡ []
          front [] r e = refl
          front (z ∷ zs) r e = absurd (cc)

  named_after : (x : Node) → Has (root ∷ left) x → list_all is_name (move x).path ≡ true
  named_after x h =
      ap (list_all is_name) (move_path x)
      ∙ ⊎_elim
      (λ t. ap (list_all is_name) (moved from to x.path t) ∙ all_joined to (drop (length from) x.path) named (all_after from (drop (length from) x.path) (ap (list_all is_name) (sym (prefix_exact from x.path t)) ∙ named_so nodes is x (was_there x h))))
      (λ f. ap (list_all is_name) (stays from to x.path f) ∙ named_so nodes is x (was_there x h))
      (cases_Bool (is_prefix Exact from x.path))

  map_after : IsFolderMap (root ∷ others_after)
  map_after =
      make_map (root ∷ others_after) rises_after (root, others_after, refl, root_path root others is, no_bytes root (root_folds root others is))
      (λ z h some.
      let x = from_all_after z h in
      subst (λ (n : Node). HasFolder (root ∷ others_after) (parent n.path)) (sym x.2) (held_after x.0 x.1 (λ e. some (ap (λ (n : Node). n.path) x.2 ∙ e))))
      (λ z h. let x = from_all_after z h in ap (λ (n : Node). list_all is_name n.path) x.2 ∙ named_after x.0 x.1)

  -- ---- it is what the definition says, and what the code makes

  abbrev arrived : Node
  arrived = record changed { path = to }

  own_arrives : carry changed ≡ arrived
  own_arrives = λ i. record changed { path = (ap (new_path from to) node_at ∙ moved_own from to) i }

  -- each node, as the definition has it
  each_after : (x : Node) → Has (root ∷ left) x → cond (is_at_path Exact to (carry x)) arrived (carry x) ≡ move x
  each_after x h = ⊎_elim own other (same_or (is_same_path Exact x.path from) refl)
    where
      same_or : (b : Bool) → is_same_path Exact x.path from ≡ b → (x.path ≡ from) ⊎ (x.path ≡ from → ⊥)
      same_or true t = inl (same_exact x.path from t)
      same_or false f = inr (λ e. absurd (let both : true ≡ false = sym (exact_same x.path from e) ∙ f in cc))

      own : x.path ≡ from → cond (is_at_path Exact to (carry x)) arrived (carry x) ≡ move x
      own e =
          ap (λ b. cond b arrived (carry x)) (exact_same (carry x).path to (ap (new_path from to) e ∙ moved_own from to))
          ∙ sym own_arrives ∙ ap carry (sym (put_own x e))

      other : (x.path ≡ from → ⊥) → cond (is_at_path Exact to (carry x)) arrived (carry x) ≡ move x
      other away =
          ap (λ b. cond b arrived (carry x))
          (exact_apart (carry x).path to (λ e. away (back_or e)))
          ∙ ap carry (sym (put_other x away))
        where
          back_or : new_path from to x.path ≡ to → x.path ≡ from
          back_or e =
              ⊎_elim
              (λ t. prefix_exact from x.path t ∙ ap (λ (r : Names). from ++ r) (own_beginning to (drop (length from) x.path) (sym (moved from to x.path t) ∙ e)) ∙ append-nil from)
              (λ f. absurd (free x h (ap (is_prefix Exact to) (sym (stays from to x.path f) ∙ e ∙ sym (append-nil to)) ∙ joined_prefix to [])))
              (cases_Bool (is_prefix Exact from x.path))

  definition_is : (renamed (without_target (drive_over nodes) (node_there nodes to)) moment node (made_path (drive_over nodes) to)).nodes ≡ root ∷ others_after
  definition_is =
      (λ i. (renamed (without_is i) moment node (to_is i)).nodes)
      ∙ ap (λ (p : Names). map (λ (x : Node). cond (is_at_path Exact to x) arrived x) (in_order Exact (map (λ (x : Node). record x { path = moved_path Exact p to x.path }) (root ∷ left)))) node_at
      ∙ sym (order_put Exact arrived (map carry (root ∷ left)))
      ∙ ap (in_order Exact) (map_twice (λ (x : Node). cond (is_at_path Exact to x) arrived x) carry (λ (x : Node). x) move (root ∷ left) each_after ∙ map-id all)
      ∙ in_all
    where
      to_is : made_path (drive_over nodes) to ≡ to
      to_is = made_same nodes is.rises to some_to parts''.0

  code_is : relocated others at from to moment ≡ others_after
  code_is =
      ap (λ (l : List Node). in_order Exact (map carry l))
      (ap (λ (l : List Node). left_out l (position (is_at_path Exact to) others)) (set_put others is.rises.1 at blank changed found.0 refl)
      ∙ left_map put_changed others (position (is_at_path Exact to) others) ∙ ap (map put_changed) left_is)

  pub renamed_map : IsFolderMap (root ∷ relocated others at from to moment)
  renamed_map = subst (λ (l : List Node). IsFolderMap (root ∷ l)) (sym code_is) map_after

  pub renamed_comes : is_same_path Exact from to ≡ false → (whole : List Node) → root ∷ others ≡ whole → folder_rename from to moment whole ≡ Some (tt, root ∷ relocated others at from to moment)
  renamed_comes apart whole e =
      ap (folder_rename from to moment) (sym e)
      ∙ ap (λ b. only_if (not b) (option_and_then (moving from to moment nodes) (node_there nodes from))) (no_root from some_from)
      ∙ ap (option_and_then (moving from to moment nodes)) (there_at root others is from at blank here)
      ∙ (λ i. cond (apart i) (leaving nodes) (only_if (allowed i) (leaving (renamed (without_target (drive_over nodes) (node_there nodes to)) moment node (made_path (drive_over nodes) to)).nodes)))
      ∙ ap leaving (definition_is ∙ ap (◌∷◌ root) (sym code_is))

-- ---- no move

module _ (root : Node) (others : List Node) (is : IsFolderMap (root ∷ others)) (from to : Names) (moment : ℕ) (whole : List Node) (e : root ∷ others ≡ whole) where
  pub none_moves : position (is_at_path Exact from) others ≡ None → (folder_rename from to moment whole ≡ None) × (whole ≡ whole)
  none_moves at = (ap (folder_rename from to moment) (sym e) ∙ ⊎_elim top past (path_kind from), refl)
    where
      top : from ≡ [] → folder_rename from to moment (root ∷ others) ≡ None
      top is_top = ap (λ b. only_if (not b) (option_and_then (moving from to moment (root ∷ others)) (node_there (root ∷ others) from))) (ap (λ (p : Names). length p == 0) is_top)

      past : (from ≡ [] → ⊥) → folder_rename from to moment (root ∷ others) ≡ None
      past some =
          (λ i. only_if (not (no_root from some i)) (option_and_then (moving from to moment (root ∷ others)) (there_none root others is from some at i)))

  pub stays_put : (at : ℕ) → position (is_at_path Exact from) others ≡ Some at → is_same_path Exact from to ≡ true → folder_rename from to moment whole ≡ Some (tt, whole)
  stays_put at here same =
      ap (folder_rename from to moment) (sym e)
      ∙ (λ i. only_if (not (no_root from (off_root root others is from at root here) i)) (option_and_then (moving from to moment (root ∷ others)) (there_at root others is from at root here i)))
      ∙ ap (λ b. cond b (leaving (root ∷ others)) (only_if (may_move (root ∷ others) from to) (leaving (renamed (without_target (drive_over (root ∷ others)) (node_there (root ∷ others) to)) moment (get_or others at root) (made_path (drive_over (root ∷ others)) to)).nodes))) same
      ∙ ap leaving e

  pub not_moved : (at : ℕ) → position (is_at_path Exact from) others ≡ Some at → is_same_path Exact from to ≡ false → may_move whole from to ≡ false → (folder_rename from to moment whole ≡ None) × (whole ≡ whole)
  not_moved at here apart refused = (
    ap (folder_rename from to moment) (sym e)
        ∙ (λ i. only_if (not (no_root from (off_root root others is from at root here) i)) (option_and_then (moving from to moment (root ∷ others)) (there_at root others is from at root here i)))
        ∙ (λ i. cond (apart i) (leaving (root ∷ others)) (only_if ((ap (λ (l : List Node). may_move l from to) e ∙ refused) i) (leaving (renamed (without_target (drive_over (root ∷ others)) (node_there (root ∷ others) to)) moment (get_or others at root) (made_path (drive_over (root ∷ others)) to)).nodes))),
    refl,
  )
