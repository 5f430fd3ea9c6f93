-- Why a node can't be renamed, by what is found on the ways.
use Rattle.std.proofs.Common.{◌≡◌, ◌∙◌, refl, sym, ap, ℕ, ◌+◌, ◌-◌, ◌≤◌, ◌<◌, ◌==◌, ◌⊎◌, inl, inr, ⊎_elim, Bool, true, false, not, ◌&&◌, ◌||◌, cond, nat_le, [], ◌∷◌, ◌++◌, length, take, drop, Option, Some, None, arith, length-append}
use Rattle.std.proofs.lemmas.List.{take-append-le, take_all, take-append-drop, take-map, drop-map, length-map, map-append, append-nil}
use Rattle.std.proofs.lemmas.List.Sums.{sum_by-append, sum_by-cons}
use Rattle.std.proofs.Math.Seq.{drop-append_seam}
use Rattle.std.specs.List.{list_any, sum_by}
use Rattle.std.specs.Option.{option_and_then, unwrap_or, is_some, IsSome}
use Rattle.std.proofs.lemmas.Bool.{and_parts, eqb-true, le-leb, false_from_ne_true, leb-true, both_ways, not-true}
use Rattle.slab.specs.Slab.{Slab, entries}
use Rattle.slab.proofs.SlabLemmas.{Contains-entries}
use Rattle.rd_dirinfo.specs.declared.naming.Naming.{Naming}
use Rattle.rd_dirinfo.specs.Naming.{Name, seen}
use Rattle.rd_dirinfo.specs.Paths.{Names, seen_path, parent, is_same_path, is_prefix, is_below, is_within_limits, path_len}
use Rattle.rd_dirinfo.proofs.NamingLemmas.{seen_length}
use Rattle.rd_tree.specs.declared.node.Node.{Node}
use Rattle.rd_tree.specs.declared.refusal.MoveNo.{MoveNo}
use Rattle.rd_tree.specs.declared.refusal.MoveNo.TheVariants as move
use Rattle.rd_tree.specs.Walk.{Keys, down, kind_at, path_of, LeadsThrough, FitsWithin, IsDeep, added_units}
use Rattle.rd_tree.specs.Places.{Place, Places, node_at, is_folder_at, own_path, is_own, is_too_deep, is_taken, move_refusal}
use Rattle.rd_tree.specs.Nodes.{child_of, link_of, up_of, kind_of, node_bytes, placed, places_of, LacksFolder, IsSoundTree}
use Rattle.rd_tree.proofs.KeyLemmas.{one_path, down_on}
use Rattle.rd_tree.proofs.TreeLemmas.{some_is}
use Rattle.rd_tree.proofs.NodeLemmas.{kind_of-at}
use Rattle.rd_tree.proofs.WayLemmas.{keys_of_way, found_live, live_node, node_found, same_true, true_same}
use Rattle.rd_tree.proofs.PlaceLemmas.{path_seen, folder_seen}
use Rattle.rd_tree.proofs.ParentLemmas.{any_from, from_any}

nil_of : (r : Keys) → length r ≡ 0 → r ≡ []
nil_of [] e = refl
nil_of (x ∷ r) e = absurd (omega arith)

-- the refusal, by its five tests
pub move_is : (tree : Places) (n : ℕ) (to : Names) (replace : Bool) (a b c d e : Bool) → is_own tree n to ≡ a → is_below tree.naming (own_path tree n) to ≡ b → is_folder_at tree (parent to) ≡ c → is_too_deep tree n to ≡ d → is_taken tree to replace ≡ e
    → move_refusal tree n to replace ≡ cond a None (cond b (Some move.Inside) (cond (not c) (Some move.PathNotFound) (cond d (Some move.TooDeep) (cond e (Some move.Collision) None))))
move_is tree n to replace a b c d e f g h k l = λ i. cond (f i) None (cond (g i) (Some move.Inside) (cond (not (h i)) (Some move.PathNotFound) (cond (k i) (Some move.TooDeep) (cond (l i) (Some move.Collision) None))))

-- ---- prefixes
pub prefix_split : (naming : Naming) (p q : Names) → is_prefix naming p q ≡ true → seen_path naming q ≡ seen_path naming p ++ seen_path naming (drop (length p) q)
prefix_split naming p q t =
    let parts = and_parts (nat_le (length p) (length q)) (is_same_path naming p (take (length p) q)) t in
    let front : seen_path naming p ≡ seen_path naming (take (length p) q) = true_same naming p (take (length p) q) parts.1 in
    ap (seen_path naming) (sym (take-append-drop (length p) q)) ∙ map-append (seen naming) (take (length p) q) (drop (length p) q) ∙ ap (λ (f : Names). f ++ seen_path naming (drop (length p) q)) (sym front)

pub split_prefix : (naming : Naming) (p q : Names) (r : Keys) → seen_path naming q ≡ seen_path naming p ++ r → (is_prefix naming p q ≡ true) × (seen_path naming (drop (length p) q) ≡ r)
split_prefix naming p q r e =
    let long : length (seen_path naming p) ≡ length p = length-map p (seen naming) in
    let total : length q ≡ length p + length r = omega (arith, length-map q (seen naming), ap (λ (k : Keys). length k) e, length-append (seen_path naming p) r, long) in
    let front : seen_path naming (take (length p) q) ≡ seen_path naming p =
    sym (take-map (seen naming) (length p) q) ∙ ap (take (length p)) e ∙ take-append-le (length p) (seen_path naming p) r (omega (arith, long)) ∙ take_all (length p) (seen_path naming p) (omega (arith, long)) in
    let back : seen_path naming (drop (length p) q) ≡ r =
    sym (drop-map (seen naming) (length p) q) ∙ ap (drop (length p)) e ∙ ap (λ n. drop n (seen_path naming p ++ r)) (sym long) ∙ drop-append_seam (seen_path naming p) r in
    (λ i. le-leb (length p) (length q) (omega (arith, total)) i && same_true naming p (take (length p) q) (sym front) i, back)

-- ---- limits
added_is : (r : Names) → added_units r ≡ sum_by (λ (x : Name). length x) r + length r
added_is [] = refl
added_is (x ∷ r) = omega (arith, added_is r, sum_by-cons (λ (y : Name). length y) x r)

added_seen : (naming : Naming) (r : Names) → added_units (seen_path naming r) ≡ added_units r
added_seen naming [] = refl
added_seen naming (x ∷ r) = omega (arith, added_seen naming r, seen_length naming x)

pub added_within : (to : Names) → is_within_limits to ≡ true → (length to ≤ 64) × (added_units to ≤ 4097)
added_within to t =
    let parts = and_parts (nat_le (length to) 64) (nat_le (path_len to) 4096) t in
    let len = leb-true (path_len to) 4096 parts.1 in
    (leb-true (length to) 64 parts.0, omega (arith, len, added_is to))

within_is : (to r : Names) → 0 < length to → length to + length r ≤ 64 → added_units to + added_units r ≤ 4097 → is_within_limits (to ++ r) ≡ true
within_is to r some names units = λ i. le-leb (length (to ++ r)) 64 (omega (arith, length-append to r, names)) i
    && le-leb (path_len (to ++ r)) 4096 (omega (arith, length-append to r, sum_by-append (λ (x : Name). length x) to r, added_is to, added_is r, units, some)) i

within_not : (to r : Names) → 0 < length to → (64 < length to + length r) ⊎ (4097 < added_units to + added_units r) → is_within_limits (to ++ r) ≡ false
within_not to r some deep = false_from_ne_true (is_within_limits (to ++ r)) (λ t.
    let parts = and_parts (nat_le (length (to ++ r)) 64) (nat_le (path_len (to ++ r)) 4096) t in
    let names = leb-true (length (to ++ r)) 64 parts.0 in
    let len = leb-true (path_len (to ++ r)) 4096 parts.1 in
    ⊎_elim (λ h. absurd (omega (arith, h, names, length-append to r)))
    (λ h. absurd (omega (arith, h, len, some, length-append to r, sum_by-append (λ (x : Name). length x) to r, added_is to, added_is r))) deep)

module _ (naming : Naming) (nodes : Slab Node) (s : IsSoundTree naming nodes) (m : ℕ) (live : IsSome (kind_of nodes m)) where
  own_at : own_path (places_of naming nodes) m ≡ path_of (link_of nodes) m
  own_at = ap (λ (o : Option Names). unwrap_or o []) (path_seen naming nodes m live)

  pub own_keys : seen_path naming (path_of (link_of nodes) m) ≡ path_of (up_of naming nodes) m
  own_keys = keys_of_way naming nodes m

  pub there : down (child_of nodes) 0 (path_of (up_of naming nodes) m) ≡ Some m
  there = s.tree.rooted m live

  -- a way to a node is its own
  pub only_way : (p : Keys) → down (child_of nodes) 0 p ≡ Some m → p ≡ seen_path naming (path_of (link_of nodes) m)
  only_way p is = one_path (child_of nodes) (up_of naming nodes) s.tree.agrees p (path_of (up_of naming nodes) m) m is there ∙ sym own_keys

  own_there : down (child_of nodes) 0 (seen_path naming (path_of (link_of nodes) m)) ≡ Some m
  own_there = ap (down (child_of nodes) 0) own_keys ∙ there

  module _ (to : Names) where
    pub own_is : down (child_of nodes) 0 (seen_path naming to) ≡ Some m → is_own (places_of naming nodes) m to ≡ true
    unfolding places_of
    own_is is = ap (λ (p : Names). is_same_path naming p to) own_at ∙ same_true naming (path_of (link_of nodes) m) to (sym (only_way (seen_path naming to) is))

    pub own_not : (down (child_of nodes) 0 (seen_path naming to) ≡ Some m → ⊥) → is_own (places_of naming nodes) m to ≡ false
    unfolding places_of
    own_not other = ap (λ (p : Names). is_same_path naming p to) own_at
        ∙ false_from_ne_true (is_same_path naming (path_of (link_of nodes) m) to) (λ t. other (ap (down (child_of nodes) 0) (sym (true_same naming (path_of (link_of nodes) m) to t)) ∙ own_there))

    pub below_is : (down (child_of nodes) 0 (seen_path naming to) ≡ Some m → ⊥) → LeadsThrough (child_of nodes) 0 m (seen_path naming to) → is_below (places_of naming nodes).naming (own_path (places_of naming nodes) m) to ≡ true
    unfolding places_of
    below_is other w =
        let own : Names = path_of (link_of nodes) m in
        let e : seen_path naming to ≡ seen_path naming own ++ w.1 = w.2 ∙ ap (λ (p : Keys). p ++ w.1) (only_way w.0 w.3) in
        let longer : (length own == length to) ≡ false = false_from_ne_true (length own == length to) (λ t.
        let none : length w.1 ≡ 0 = omega (arith, eqb-true (length own) (length to) t, ap (λ (k : Keys). length k) e, length-append (seen_path naming own) w.1, length-map own (seen naming), length-map to (seen naming)) in
        other (ap (down (child_of nodes) 0) (e ∙ ap (λ (r : Keys). seen_path naming own ++ r) (nil_of w.1 none) ∙ append-nil (seen_path naming own)) ∙ own_there)) in
        ap (λ (p : Names). is_below naming p to) own_at ∙ (λ i. (split_prefix naming own to w.1 e).0 i && not (longer i))

    pub below_not : (LeadsThrough (child_of nodes) 0 m (seen_path naming to) → ⊥) → is_below (places_of naming nodes).naming (own_path (places_of naming nodes) m) to ≡ false
    unfolding places_of
    below_not past =
        let own : Names = path_of (link_of nodes) m in
        ap (λ (p : Names). is_below naming p to) own_at ∙ false_from_ne_true (is_below naming own to) (λ t.
        let prefix = (and_parts (is_prefix naming own to) (not (length own == length to)) t).0 in
        past (seen_path naming own, seen_path naming (drop (length own) to), prefix_split naming own to prefix, own_there))

    pub folder_not : LacksFolder naming nodes to → is_folder_at (places_of naming nodes) (parent to) ≡ false
    folder_not lacks = folder_seen naming nodes s (parent to) ∙ not_folder (kind_at (child_of nodes) (kind_of nodes) (seen_path naming (parent to))) lacks
      where
        not_folder : (o : Option Bool) → (o ≡ Some true → ⊥) → unwrap_or o false ≡ false
        not_folder None h = refl
        not_folder (Some true) h = absurd (h refl)
        not_folder (Some false) h = refl

    pub taken_is : (replace b : Bool) (target : Option ℕ) → target ≡ down (child_of nodes) 0 (seen_path naming to) → (is_some target && (not replace || unwrap_or (option_and_then (kind_of nodes) target) false)) ≡ b → is_taken (places_of naming nodes) to replace ≡ b
    taken_is replace b target is e =
        let at : node_at (places_of naming nodes) to ≡ target = node_found naming nodes s to ∙ sym is in
        let folder : is_folder_at (places_of naming nodes) to ≡ unwrap_or (option_and_then (kind_of nodes) target) false = folder_seen naming nodes s to ∙ ap (λ (o : Option ℕ). unwrap_or (option_and_then (kind_of nodes) o) false) (sym is) in
        (λ i. is_some (at i) && (not replace || folder i)) ∙ e

    abbrev IsLong : ℕ × Place → Bool
    IsLong e = is_prefix naming (path_of (link_of nodes) m) e.1.path && not (is_within_limits (to ++ drop (length (path_of (link_of nodes) m)) e.1.path))

    deep_seen : is_too_deep (places_of naming nodes) m to ≡ list_any IsLong (places_of naming nodes).list
    unfolding places_of
    deep_seen = ap (λ (own : Names). list_any (λ (e : ℕ × Place). is_prefix naming own e.1.path && not (is_within_limits (to ++ drop (length own) e.1.path))) (places_of naming nodes).list) own_at

    pub deep_not : 0 < length to → length to ≤ 64 → added_units to ≤ 4097 → FitsWithin (child_of nodes) m (64 - length to) (4097 - added_units to) → is_too_deep (places_of naming nodes) m to ≡ false
    unfolding places_of
    deep_not some few short fits = deep_seen ∙ false_from_ne_true (list_any IsLong (places_of naming nodes).list) (λ t.
        let e = from_any (λ e. (e.0, placed (link_of nodes) e.0 (node_bytes e.1))) IsLong (entries nodes) t in
        let k : ℕ = e.0.0 in
        let own : Names = path_of (link_of nodes) m in
        let path : Names = path_of (link_of nodes) k in
        let rest : Names = drop (length own) path in
        let alive : IsSome (kind_of nodes k) = some_is (kind_of nodes k) e.0.1.folder (kind_of-at nodes k e.0.1 ((Contains-entries nodes k e.0.1).0 e.1)) in
        let parts = and_parts (is_prefix naming own path) (not (is_within_limits (to ++ rest))) e.2 in
        let way : seen_path naming path ≡ seen_path naming own ++ seen_path naming rest = prefix_split naming own path parts.0 in
        let below : down (child_of nodes) m (seen_path naming rest) ≡ Some k =
        sym (down_on (child_of nodes) 0 m (seen_path naming own) (seen_path naming rest) own_there) ∙ ap (down (child_of nodes) 0) (sym way ∙ keys_of_way naming nodes k) ∙ s.tree.rooted k alive in
        let f = fits (seen_path naming rest) k below in
        both_ways (is_within_limits (to ++ rest)) (not-true (is_within_limits (to ++ rest)) parts.1) (within_is to rest some (omega (arith, few, f.0, length-map rest (seen naming))) (omega (arith, short, f.1, added_seen naming rest))))

    pub deep_is : 0 < length to → IsDeep (child_of nodes) m (64 - length to) (4097 - added_units to) → is_too_deep (places_of naming nodes) m to ≡ true
    unfolding places_of
    deep_is some d =
        let q : Keys = d.0 in
        let k : ℕ = d.1 in
        let own : Names = path_of (link_of nodes) m in
        let path : Names = path_of (link_of nodes) k in
        let rest : Names = drop (length own) path in
        let full : down (child_of nodes) 0 (seen_path naming own ++ q) ≡ Some k = down_on (child_of nodes) 0 m (seen_path naming own) q own_there ∙ d.2 in
        let alive = found_live (child_of nodes) (up_of naming nodes) (kind_of nodes) s.tree (seen_path naming own ++ q) k full in
        let node = live_node nodes k alive in
        let way : seen_path naming path ≡ seen_path naming own ++ q = keys_of_way naming nodes k ∙ one_path (child_of nodes) (up_of naming nodes) s.tree.agrees (path_of (up_of naming nodes) k) (seen_path naming own ++ q) k (s.tree.rooted k alive) full in
        let prefix = split_prefix naming own path q way in
        let long : length rest ≡ length q = sym (length-map rest (seen naming)) ∙ ap (λ (r : Keys). length r) prefix.1 in
        let units : added_units rest ≡ added_units q = sym (added_seen naming rest) ∙ ap added_units prefix.1 in
        let limits : is_within_limits (to ++ rest) ≡ false = within_not to rest some (⊎_elim (λ h. inl (omega (arith, h, long))) (λ h. inr (omega (arith, h, units))) d.3) in
        deep_seen ∙ any_from (λ e. (e.0, placed (link_of nodes) e.0 (node_bytes e.1))) IsLong (entries nodes) (k, node.0) ((Contains-entries nodes k node.0).1 node.1) (λ i. prefix.0 i && not (limits i))

-- ---- the refusals
module _ (naming : Naming) (nodes : Slab Node) (s : IsSoundTree naming nodes) (m : ℕ) (live : IsSome (kind_of nodes m)) (to : Names) (replace : Bool) where
  pub why_own : down (child_of nodes) 0 (seen_path naming to) ≡ Some m → move_refusal (places_of naming nodes) m to replace ≡ None
  why_own is = ap (λ b. cond b None (rest (places_of naming nodes))) (own_is naming nodes s m live to is)
    where
      rest : Places → Option MoveNo
      rest tree = cond (is_below tree.naming (own_path tree m) to) (Some move.Inside) (cond (not (is_folder_at tree (parent to))) (Some move.PathNotFound) (cond (is_too_deep tree m to) (Some move.TooDeep) (cond (is_taken tree to replace) (Some move.Collision) None)))

  module _ (other : down (child_of nodes) 0 (seen_path naming to) ≡ Some m → ⊥) where
    why : (b c d e : Bool) → is_below (places_of naming nodes).naming (own_path (places_of naming nodes) m) to ≡ b → is_folder_at (places_of naming nodes) (parent to) ≡ c → is_too_deep (places_of naming nodes) m to ≡ d → is_taken (places_of naming nodes) to replace ≡ e
        → move_refusal (places_of naming nodes) m to replace ≡ cond b (Some move.Inside) (cond (not c) (Some move.PathNotFound) (cond d (Some move.TooDeep) (cond e (Some move.Collision) None)))
    why b c d e = move_is (places_of naming nodes) m to replace false b c d e (own_not naming nodes s m live to other)

    pub why_inside : LeadsThrough (child_of nodes) 0 m (seen_path naming to) → move_refusal (places_of naming nodes) m to replace ≡ Some move.Inside
    why_inside w = why true (is_folder_at (places_of naming nodes) (parent to)) (is_too_deep (places_of naming nodes) m to) (is_taken (places_of naming nodes) to replace) (below_is naming nodes s m live to other w) refl refl refl

    module _ (past : LeadsThrough (child_of nodes) 0 m (seen_path naming to) → ⊥) where
      pub why_lost : LacksFolder naming nodes to → move_refusal (places_of naming nodes) m to replace ≡ Some move.PathNotFound
      why_lost lacks = why false false (is_too_deep (places_of naming nodes) m to) (is_taken (places_of naming nodes) to replace) (below_not naming nodes s m live to past) (folder_not naming nodes s m live to lacks) refl refl

      module _ (folder : is_folder_at (places_of naming nodes) (parent to) ≡ true) where
        pub why_deep : 0 < length to → IsDeep (child_of nodes) m (64 - length to) (4097 - added_units to) → move_refusal (places_of naming nodes) m to replace ≡ Some move.TooDeep
        why_deep some d = why false true true (is_taken (places_of naming nodes) to replace) (below_not naming nodes s m live to past) folder (deep_is naming nodes s m live to some d) refl

        pub why_last : 0 < length to → (b : Bool) (target : Option ℕ) → target ≡ down (child_of nodes) 0 (seen_path naming to) → is_within_limits to ≡ true → FitsWithin (child_of nodes) m (64 - length to) (4097 - added_units to) → (is_some target && (not replace || unwrap_or (option_and_then (kind_of nodes) target) false)) ≡ b
            → move_refusal (places_of naming nodes) m to replace ≡ cond b (Some move.Collision) None
        why_last some b target is within fits taken =
            let limits = added_within to within in
            why false true false b (below_not naming nodes s m live to past) folder (deep_not naming nodes s m live to some limits.0 limits.1 fits) (taken_is naming nodes s m live to replace b target is taken)
