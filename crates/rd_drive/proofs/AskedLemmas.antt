-- The path that a new node gets: it is the asked one as the naming sees it, and nothing else is at it; and that the drive sees paths as its tree
-- does.
use Rattle.std.proofs.Common.{◌≡◌, ◌∙◌, refl, sym, ap, subst, ℕ, ◌+◌, ◌-◌, ◌==◌, Bool, true, false, ◌&&◌, [], ◌∷◌, ◌++◌, take, length, Option, Some, None, find, sum_by, arith}
use Rattle.std.specs.Prelude.{nat_le}
use Rattle.std.specs.List.{list_any}
use Rattle.std.specs.Option.{option_map, option_map_or, option_and_then, unwrap_or, is_some}
use Rattle.std.proofs.lemmas.List.{map-append}
use Rattle.std.proofs.lemmas.List.Sums.{sum_by-cons}
use Rattle.std.proofs.lemmas.Bool.{eqb-true}
use Rattle.rd_dirinfo.specs.declared.naming.Naming.{Naming}
use Rattle.rd_dirinfo.specs.Naming.{Name, seen}
use Rattle.rd_dirinfo.specs.Paths.{Names, IsSamePath, is_parent, is_prefix, is_same_path, is_within_limits, last_name, most_names, most_path_units, parent, seen_path}
use Rattle.rd_dirinfo.proofs.NamingLemmas.{seen_length}
use Rattle.rd_tree.specs.Places as places
use Rattle.rd_tree.specs.Places.{Place, Places, place, path_at, own_path, node_at, has_child, with_place, is_folder, is_folder_at, IsLive, IsWhole}
use Rattle.rd_tree.proofs.WayLemmas.{same_true, true_same}
use Rattle.rd_drive.specs.declared.store.Store.{Store}
use Rattle.rd_drive.specs.DriveState as drive
use Rattle.rd_drive.specs.DriveState.{Node, is_at_path}
use Rattle.rd_drive.specs.Store.{state_of, node_with, nodes_of, drive_of, IsSound}
use Rattle.rd_drive.proofs.AboveLemmas.{both_true, node_same, path_joined, seen_count, some_child}
use Rattle.rd_drive.proofs.GrownLemmas.{grown_here, grown_other}
use Rattle.rd_drive.proofs.KeptLemmas.{lived}
use Rattle.rd_drive.proofs.StoreLemmas.{all_listed, first_listed, node_at_seen, node_of_number, number_at_own, own_is}

sum_seen : (naming : Naming) (p : Names) → sum_by (λ (name : Name). length name) (seen_path naming p) ≡ sum_by (λ (name : Name). length name) p
sum_seen naming [] = refl
sum_seen naming (x ∷ p) =
    sum_by-cons (λ (name : Name). length name) (seen naming x) (seen_path naming p)
    ∙ (λ i. seen_length naming x i + sum_seen naming p i)
    ∙ sym (sum_by-cons (λ (name : Name). length name) x p)

-- paths that are the same are as long
pub same_limits : (naming : Naming) (p q : Names) → IsSamePath naming p q → is_within_limits p ≡ is_within_limits q
same_limits naming p q same =
    let count : length p ≡ length q = sym (seen_count naming p) ∙ ap (length {A = Name}) same ∙ seen_count naming q in
    let units : sum_by (λ (name : Name). length name) p ≡ sum_by (λ (name : Name). length name) q = sym (sum_seen naming p) ∙ ap (sum_by (λ (name : Name). length name)) same ∙ sum_seen naming q in
    λ i. nat_le (count i) most_names && nat_le (units i + (count i - 1)) most_path_units

pub seen_joined : (naming : Naming) (p q : Names) → seen_path naming (p ++ q) ≡ seen_path naming p ++ seen_path naming q
seen_joined naming p q = map-append (seen naming) p q

module _ (tree : Places) (whole : IsWhole tree) where
  kept_same : (p : Names) → IsSamePath tree.naming (places.kept_path tree p) p
  kept_same p = by (node_at tree p) refl
    where
      by : (o : Option ℕ) → node_at tree p ≡ o → IsSamePath tree.naming (unwrap_or (option_and_then (path_at tree) o) p) p
      by None e = refl
      by (Some n) e =
          let there = first_listed tree whole p n tree.list (all_listed tree whole) e in
          let x = lived tree n there.0 in
          ap (λ (o : Option Place). seen_path tree.naming (unwrap_or (option_map (λ (q : Place). q.path) o) p)) x.1
          ∙ ap (seen_path tree.naming) (sym (own_is tree whole n x.0 x.1))
          ∙ true_same tree.naming (own_path tree n) p there.1

  -- it is the asked one, as the naming sees it
  pub asked_same : (y : Name) (ys : Names) → IsSamePath tree.naming (places.asked_path tree (y ∷ ys)) (y ∷ ys)
  asked_same y ys =
      seen_joined tree.naming (places.kept_path tree (parent (y ∷ ys))) (last_name (y ∷ ys) ∷ [])
      ∙ ap (λ (q : Names). q ++ seen tree.naming (last_name (y ∷ ys)) ∷ []) (kept_same (parent (y ∷ ys)))
      ∙ sym (seen_joined tree.naming (parent (y ∷ ys)) (last_name (y ∷ ys) ∷ []))
      ∙ ap (seen_path tree.naming) (path_joined y ys)

  pub asked_fits : (y : Name) (ys : Names) → is_within_limits (y ∷ ys) ≡ true → is_within_limits (places.asked_path tree (y ∷ ys)) ≡ true
  asked_fits y ys fits = same_limits tree.naming (places.asked_path tree (y ∷ ys)) (y ∷ ys) (asked_same y ys) ∙ fits

  -- where nothing is at the asked path
  pub asked_alone : (y : Name) (ys : Names) → node_at tree (y ∷ ys) ≡ None → (k : ℕ) → IsLive tree k → is_same_path tree.naming (places.asked_path tree (y ∷ ys)) (own_path tree k) ≡ false
  asked_alone y ys none k live = by (is_same_path tree.naming (places.asked_path tree (y ∷ ys)) (own_path tree k)) refl
    where
      by : (b : Bool) → is_same_path tree.naming (places.asked_path tree (y ∷ ys)) (own_path tree k) ≡ b → b ≡ false
      by true t =
          let x = lived tree k live in
          let same : is_same_path tree.naming (y ∷ ys) (own_path tree k) ≡ true = same_true tree.naming (y ∷ ys) (own_path tree k) (sym (asked_same y ys) ∙ true_same tree.naming (places.asked_path tree (y ∷ ys)) (own_path tree k) t) in
          absurd (let both : None ≡ Some k = sym none ∙ node_same tree whole (y ∷ ys) (own_path tree k) same ∙ number_at_own tree whole k x.0 x.1 in cc)
      by false t = refl

  -- a new node has no children
  module _ (n : ℕ) (fresh : place tree n ≡ None) (p : Place) (alone : (k : ℕ) → IsLive tree k → is_same_path tree.naming p.path (own_path tree k) ≡ false) (after : IsWhole (with_place tree n p)) where
    pub childless : has_child (with_place tree n p) n ≡ false
    childless = by (has_child (with_place tree n p) n) refl
      where
        own : own_path (with_place tree n p) n ≡ p.path
        own = own_is (with_place tree n p) after n p (grown_here tree whole n fresh p)

        -- no child is the node itself, or the root, and where its parent is another node is at the new one's path
        impossible : (k : ℕ) (x : Place) → place (with_place tree n p) k ≡ Some x → is_parent tree.naming p.path x.path ≡ true → ⊥
        impossible k x listed child =
            let parts = both_true tree whole (is_prefix tree.naming p.path x.path) (length x.path == length p.path + 1) child in
            let long : length x.path ≡ length p.path + 1 = eqb-true (length x.path) (length p.path + 1) parts.1 in
            at (k == n) refl long (both_true tree whole (nat_le (length p.path) (length x.path)) (is_same_path tree.naming p.path (take (length p.path) x.path)) parts.0).1
          where
            at : (b : Bool) → (k == n) ≡ b → length x.path ≡ length p.path + 1 → is_same_path tree.naming p.path (take (length p.path) x.path) ≡ true → ⊥
            at true e long same =
                let one : x.path ≡ p.path = sym (own_is (with_place tree n p) after k x listed) ∙ ap (own_path (with_place tree n p)) (eqb-true k n e) ∙ own in
                let short : length x.path ≡ length p.path = ap (length {A = Name}) one in
                omega (arith, long, short)
            at false e long same =
                let was : place tree k ≡ Some x = sym (grown_other tree whole n fresh p k e) ∙ listed in
                let path : own_path tree k ≡ x.path = own_is tree whole k x was in
                let up : parent x.path ≡ take (length p.path) x.path = ap (λ m. take m x.path) (less (length x.path) (length p.path) long) in
                above (node_at tree (parent (own_path tree k))) refl (whole.parents k (ap is_some was) (λ z. root z path long)) (ap (is_same_path tree.naming p.path) (ap parent path ∙ up) ∙ same)
              where
                less : (m j : ℕ) → m ≡ j + 1 → m - 1 ≡ j
                less m j e = omega arith

                root : 0 ≡ k → own_path tree k ≡ x.path → length x.path ≡ length p.path + 1 → ⊥
                root z path long =
                    let none : x.path ≡ [] = sym path ∙ ap (own_path tree) (sym z) ∙ own_is tree whole 0 (record { path = []; bytes = None }) whole.root in
                    let short : length x.path ≡ 0 = ap (length {A = Name}) none in
                    omega (arith, long, short)

                above : (o : Option ℕ) → node_at tree (parent (own_path tree k)) ≡ o → unwrap_or (option_and_then (is_folder tree) o) false ≡ true → is_same_path tree.naming p.path (parent (own_path tree k)) ≡ true → ⊥
                above None at folder same = absurd (cc)
                above (Some j) at folder same =
                    let there = first_listed tree whole (parent (own_path tree k)) j tree.list (all_listed tree whole) at in
                    let both : true ≡ false = sym (same_true tree.naming p.path (own_path tree j) (true_same tree.naming p.path (parent (own_path tree k)) same ∙ sym (true_same tree.naming (own_path tree j) (parent (own_path tree k)) there.1))) ∙ alone j there.0 in
                    absurd (cc)

        by : (b : Bool) → has_child (with_place tree n p) n ≡ b → b ≡ false
        by true any =
            let child = some_child (with_place tree n p) after p.path (with_place tree n p).list (all_listed (with_place tree n p) after) (ap (λ (q : Names). list_any (λ (e : ℕ × Place). is_parent tree.naming q e.1.path) (with_place tree n p).list) (sym own) ∙ any) in
            absurd (impossible child.0.0 child.0.1 child.1 child.2)
        by false any = refl

-- ---- as callers see it
module _ (s : Store) (sound : IsSound s) where
  -- the node at a path
  pub node_seen : (p : Names) → drive.node_of_path (drive_of s) p ≡ option_and_then (node_of_number s.tree sound.whole s.states) (node_at s.tree p)
  node_seen p = subst (λ naming. find (is_at_path naming p) (nodes_of s.tree s.states) ≡ option_and_then (node_of_number s.tree sound.whole s.states) (node_at s.tree p)) sound.naming (node_at_seen s.tree sound.whole s.states p)

  pub kept_seen : (p : Names) → drive.node_path (drive_of s) p ≡ places.kept_path s.tree p
  kept_seen p = ap (λ (o : Option Node). option_map_or (λ (node : Node). node.path) o p) (node_seen p) ∙ by (node_at s.tree p)
    where
      by : (o : Option ℕ) → option_map_or (λ (node : Node). node.path) (option_and_then (node_of_number s.tree sound.whole s.states) o) p ≡ unwrap_or (option_and_then (path_at s.tree) o) p
      by None = refl
      by (Some n) = at (place s.tree n)
        where
          at : (o : Option Place) → option_map_or (λ (node : Node). node.path) (option_map (node_with (state_of s.states n)) o) p ≡ unwrap_or (option_map (λ (q : Place). q.path) o) p
          at None = refl
          at (Some x) = refl

  pub asked_seen : (p : Names) → drive.made_path (drive_of s) p ≡ places.asked_path s.tree p
  asked_seen p = ap (λ (q : Names). q ++ last_name p ∷ []) (kept_seen (parent p))
