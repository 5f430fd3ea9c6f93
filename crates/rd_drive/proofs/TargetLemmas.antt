-- The path that a renamed node gets: what is above it, how long it is, and that the drive sees it as its tree does.
use Rattle.std.proofs.Common.{◌≡◌, ◌∙◌, refl, sym, ap, subst, ℕ, ◌+◌, ◌<◌, ◌≤◌, ◌==◌, Bool, true, false, not, ◌&&◌, ◌||◌, nat_le, List, [], ◌∷◌, ◌++◌, map, length, take, drop, find, Some, None, arith, append_assoc, length-append}
use Rattle.std.specs.List.{list_any}
use Rattle.std.specs.Option.{option_map, option_map_or, option_and_then}
use Rattle.std.proofs.lemmas.Bool.Decides.{nat_tests}
use Rattle.std.proofs.lemmas.Bool.{and_parts, false_from_ne_true, leb-true}
use Rattle.rd_dirinfo.specs.declared.naming.Naming.{Naming}
use Rattle.rd_dirinfo.specs.Naming.{Name, seen}
use Rattle.rd_dirinfo.specs.Paths.{Names, IsSamePath, is_below, is_prefix, is_same_path, is_within_limits, last_name, parent, seen_path}
use Rattle.rd_tree.specs.Places as places
use Rattle.rd_tree.specs.Places.{Place, Places, place, path_at, own_path, node_at, IsLive, IsWhole}
use Rattle.rd_tree.proofs.RefuseLemmas.{prefix_split, split_prefix}
use Rattle.rd_tree.proofs.WayLemmas.{same_true, true_same}
use Rattle.rd_drive.specs.declared.store.Store.{Store}
use Rattle.rd_drive.specs.DriveState as drive
use Rattle.rd_drive.specs.DriveState.{Node, is_at_path}
use Rattle.rd_drive.specs.Kept.{own_node}
use Rattle.rd_drive.specs.Rename as renaming
use Rattle.rd_drive.specs.Store.{state_of, node_of, node_with, nodes_of, drive_of, IsSound}
use Rattle.rd_drive.proofs.AboveLemmas.{folder_seen, node_same, path_joined, seen_count}
use Rattle.rd_drive.proofs.AskedLemmas.{asked_same, node_seen, same_limits, seen_joined}
use Rattle.rd_drive.proofs.KeptLemmas.{lived}
use Rattle.rd_drive.proofs.LockLemmas.{alike}
use Rattle.rd_drive.proofs.NodeLemmas.{place_here}
use Rattle.rd_drive.proofs.OrderLemmas.{order_any}
use Rattle.rd_drive.proofs.StoreLemmas.{node_of_number, number_at_own}

-- ---- paths

pub joined_at : (p : Names) → (p ≡ [] → ⊥) → parent p ++ last_name p ∷ [] ≡ p
joined_at [] some = absurd (some refl)
joined_at (y ∷ ys) some = path_joined y ys

pub parent_shorter : (p : Names) → (p ≡ [] → ⊥) → length p ≡ length (parent p) + 1
parent_shorter p some = ap (length {A = Name}) (sym (joined_at p some)) ∙ length-append (parent p) (last_name p ∷ [])

-- what is below is it by the naming alone
prefix_on : (naming : Naming) (from p q : Names) → IsSamePath naming p q → is_prefix naming from p ≡ true → is_prefix naming from q ≡ true
prefix_on naming from p q same t = (split_prefix naming from q (seen_path naming (drop (length from) p)) (sym same ∙ prefix_split naming from p t)).0

pub prefix_alike : (naming : Naming) (from p q : Names) → IsSamePath naming p q → is_prefix naming from p ≡ is_prefix naming from q
prefix_alike naming from p q same = alike (is_prefix naming from p) (is_prefix naming from q) (prefix_on naming from p q same) (prefix_on naming from q p (sym same))

long_prefix : (naming : Naming) (from p : Names) → is_prefix naming from p ≡ true → length from ≤ length p
long_prefix naming from p t = leb-true (length from) (length p) (and_parts (nat_le (length from) (length p)) (is_same_path naming from (take (length from) p)) t).0

-- what is in a folder at or below a path is below it
pub parent_below : (naming : Naming) (from p : Names) → (p ≡ [] → ⊥) → is_prefix naming from (parent p) ≡ true → is_below naming from p ≡ true
parent_below naming from p some t =
    let short = long_prefix naming from (parent p) t in
    let longer = parent_shorter p some in
    let split : seen_path naming p ≡ seen_path naming from ++ (seen_path naming (drop (length from) (parent p)) ++ seen naming (last_name p) ∷ []) =
    ap (seen_path naming) (sym (joined_at p some)) ∙ seen_joined naming (parent p) (last_name p ∷ [])
    ∙ ap (λ (k : Names). k ++ seen naming (last_name p) ∷ []) (prefix_split naming from (parent p) t)
    ∙ append_assoc (seen_path naming from) (seen_path naming (drop (length from) (parent p))) (seen naming (last_name p) ∷ []) in
    λ i. (split_prefix naming from p (seen_path naming (drop (length from) (parent p)) ++ seen naming (last_name p) ∷ []) split).0 i && not (apart (length from) (length p) (omega (arith, short, longer)) i)
  where
    apart : (a b : ℕ) → a < b → (a == b) ≡ false
    apart a b h = grind (arith, nat_tests)

pub below_alike : (naming : Naming) (from p q : Names) → IsSamePath naming p q → is_below naming from p ≡ is_below naming from q
below_alike naming from p q same =
    let count : length p ≡ length q = sym (seen_count naming p) ∙ ap (length {A = Name}) same ∙ seen_count naming q in
    λ i. prefix_alike naming from p q same i && not (length from == count i)

-- a path isn't at or above the folder that it is in
pub parent_above : (naming : Naming) (p : Names) → (p ≡ [] → ⊥) → is_prefix naming p (parent p) ≡ false
parent_above naming p some = false_from_ne_true (is_prefix naming p (parent p)) (λ t.
    let long = long_prefix naming p (parent p) t in
    let short = parent_shorter p some in
    absurd (omega (arith, long, short)))

-- a path that begins as another one, with that beginning replaced by one that is the same as a third
pub carried_limits : (naming : Naming) (to asked rest : Names) → IsSamePath naming asked to → is_within_limits (asked ++ rest) ≡ is_within_limits (to ++ rest)
carried_limits naming to asked rest same =
    same_limits naming (asked ++ rest) (to ++ rest) (seen_joined naming asked rest ∙ ap (λ (k : Names). k ++ seen_path naming rest) same ∙ sym (seen_joined naming to rest))

-- ---- the tree
module _ (tree : Places) (whole : IsWhole tree) where
  -- the path that a node gets is the asked one, as the naming sees it
  pub asked_alike : (p : Names) → (p ≡ [] → ⊥) → IsSamePath tree.naming (places.asked_path tree p) p
  asked_alike [] some = absurd (some refl)
  asked_alike (y ∷ ys) some = asked_same tree whole y ys

  -- the number at a path is the only one whose path is the same
  pub only_at : (n : ℕ) → IsLive tree n → (p : Names) → is_same_path tree.naming (own_path tree n) p ≡ true → node_at tree p ≡ Some n
  only_at n live p same = let x = lived tree n live in node_same tree whole p (own_path tree n) (same_true tree.naming p (own_path tree n) (sym (true_same tree.naming (own_path tree n) p same))) ∙ number_at_own tree whole n x.0 x.1

-- ---- as callers see it
module _ (s : Store) (sound : IsSound s) where
  pub none_at : (p : Names) → node_at s.tree p ≡ None → drive.node_of_path (drive_of s) p ≡ None
  none_at p e = node_seen s sound p ∙ ap (option_and_then (node_of_number s.tree sound.whole s.states)) e

  pub one_at : (p : Names) (t : ℕ) → IsLive s.tree t → node_at s.tree p ≡ Some t → drive.node_of_path (drive_of s) p ≡ Some (own_node s t)
  one_at p t live e =
      let x = lived s.tree t live in
      node_seen s sound p ∙ ap (option_and_then (node_of_number s.tree sound.whole s.states)) e ∙ ap (option_map (node_with (state_of s.states t))) x.1
      ∙ ap (λ (y : Place). Some (node_with (state_of s.states t) y)) (sym (place_here s.tree sound.whole t x.0 x.1))

  pub folder_at : (p : Names) → drive.has_folder (drive_of s) p ≡ places.is_folder_at s.tree p
  folder_at p = subst (λ naming. option_map_or drive.is_folder_node (find (is_at_path naming p) (nodes_of s.tree s.states)) false ≡ places.is_folder_at s.tree p) sound.naming (folder_seen s.tree sound.whole s.states p)

  -- whether some moved path would be past the limits
  deep_listed : (q : Names → Bool) (l : List (ℕ × Place)) → list_any (λ (node : Node). q node.path) (map (node_of s.states) l) ≡ list_any (λ (e : ℕ × Place). q e.1.path) l
  deep_listed q [] = refl
  deep_listed q (e ∷ l) = ap (λ b. q e.1.path || b) (deep_listed q l)

  pub deep_at : (n : ℕ) (p : Names) → renaming.goes_too_deep (drive_of s) (own_path s.tree n) p ≡ places.is_too_deep s.tree n p
  deep_at n p =
      order_any s.tree.naming (λ (node : Node). is_prefix s.naming (own_path s.tree n) node.path && not (is_within_limits (p ++ drop (length (own_path s.tree n)) node.path))) (map (node_of s.states) s.tree.list)
      ∙ deep_listed (λ (path : Names). is_prefix s.naming (own_path s.tree n) path && not (is_within_limits (p ++ drop (length (own_path s.tree n)) path))) s.tree.list
      ∙ ap (λ naming. list_any (λ (e : ℕ × Place). is_prefix naming (own_path s.tree n) e.1.path && not (is_within_limits (p ++ drop (length (own_path s.tree n)) e.1.path))) s.tree.list) (sym sound.naming)
