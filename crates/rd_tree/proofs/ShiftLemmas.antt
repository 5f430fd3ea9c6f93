-- A node that is another folder's child: the nodes are a tree still, and callers see it moved.
use Rattle.std.proofs.Common.{◌≡◌, ◌∙◌, refl, sym, ap, subst, ℕ, ◌-◌, ◌≤◌, ◌==◌, ⊎_elim, Bool, true, false, not, ◌&&◌, ◌||◌, cond, List, [], ◌∷◌, ◌++◌, length, Option, Some, None, arith, append_assoc, length-append}
use Rattle.std.proofs.lemmas.List.{length-map}
use Rattle.std.proofs.lemmas.Bool.{cases_eq, eqb-true, false_from_ne_true}
use Rattle.std.specs.Option.{option_map, option_map_or, option_and_then, unwrap_or, is_some, IsSome}
use Rattle.slab.specs.Slab.{Slab}
use Rattle.rd_dirinfo.specs.declared.naming.Naming.{Naming}
use Rattle.rd_dirinfo.specs.Naming.{Name, seen}
use Rattle.rd_dirinfo.specs.Paths.{Names, is_name, seen_path}
use Rattle.rd_tree.specs.declared.node.Node.{Node}
use Rattle.rd_tree.specs.Walk.{Key, Keys, onward, down, path_of, Starts, LeadsThrough, FitsWithin, added_units}
use Rattle.rd_tree.specs.Places.{without, moved}
use Rattle.rd_tree.specs.Nodes.{child_of, link_of, up_of, kind_of, places_of, Locates, Shifts, IsSoundTree}
use Rattle.rd_tree.proofs.KeyLemmas.{one_path, down_on, Edge}
use Rattle.rd_tree.proofs.TreeLemmas.{not_some, none_some, inside, sound_moved}
use Rattle.rd_tree.proofs.NodeLemmas.{up_of-at, up_of-none, up_of-same, kind_of-same}
use Rattle.rd_tree.proofs.WayLemmas.{live_above, node_found}
use Rattle.rd_tree.proofs.PlaceLemmas.{located_node, keys_split}
use Rattle.rd_tree.proofs.RefuseLemmas.{there}
use Rattle.rd_tree.proofs.MoveLemmas.{less, is_gone, moved_seen}

module _ (naming : Naming) (old : Slab Node) (s : IsSoundTree naming old) (m a : ℕ) (x : Name) (live : IsSome (kind_of old m)) (link : link_of old m ≡ Some (a, x)) (to : Names) (b : ℕ) (y : Name) (l : Locates naming old to b y) (target : Option ℕ)
    (is_target : target ≡ down (child_of old) 0 (seen_path naming to)) (other : down (child_of old) 0 (seen_path naming to) ≡ Some m → ⊥) (past : LeadsThrough (child_of old) 0 m (seen_path naming to) → ⊥) (few : length to ≤ 64)
    (fits : FitsWithin (child_of old) m (64 - length to) (4097 - added_units to)) (replace : Bool) (free : (is_some target && (not replace || unwrap_or (option_and_then (kind_of old) target) false)) ≡ false) where
  at_target : target ≡ child_of old b (seen naming y)
  at_target = is_target ∙ sym (node_found naming old s to) ∙ located_node naming old s to b y l

  edge : child_of old a (seen naming x) ≡ Some m
  edge = s.tree.back m a (seen naming x) (up_of-at naming old m a x link)

  elsewhere : (b ≡ a) × (seen naming y ≡ seen naming x) → ⊥
  elsewhere e = other (sym is_target ∙ at_target ∙ ap (λ k. child_of old k (seen naming y)) e.0 ∙ ap (child_of old a) e.1 ∙ edge)

  not_itself : target ≡ Some m → ⊥
  not_itself e = other (sym is_target ∙ e)

  is_file : (t : ℕ) → target ≡ Some t → kind_of old t ≡ Some false
  is_file t e = by (kind_of old t) refl (s.tree.lives t b (seen naming y) (s.tree.agrees.links b (seen naming y) t (sym at_target ∙ e)))
    where
      taken : (v : Bool) → (not v || true) ≡ false → ⊥
      taken true f = absurd (cc)
      taken false f = absurd (cc)

      by : (o : Option Bool) → kind_of old t ≡ o → IsSome o → kind_of old t ≡ Some false
      by None k alive = absurd (not_some {T = Bool} None refl alive)
      by (Some true) k alive = absurd (taken replace (sym (ap (λ (o : Option Bool). not replace || unwrap_or o false) k) ∙ sym (ap (λ (o : Option ℕ). is_some o && (not replace || unwrap_or (option_and_then (kind_of old) o) false)) e) ∙ free))
      by (Some false) k alive = k

  not_parent : target ≡ Some b → ⊥
  not_parent e = two (sym (is_file b e) ∙ l.is_folder)
    where
      two : Some false ≡ Some true → ⊥
      two f = absurd (cc)

  own_way : path_of (up_of naming old) m ≡ path_of (up_of naming old) a ++ seen naming x ∷ []
  own_way = one_path (child_of old) (up_of naming old) s.tree.agrees (path_of (up_of naming old) m) (path_of (up_of naming old) a ++ seen naming x ∷ []) m (there naming old s m live)
      (down_on (child_of old) 0 a (path_of (up_of naming old) a) (seen naming x ∷ []) (s.tree.rooted a (live_above naming old s m a x link)) ∙ ap (λ o. onward o (λ k. Some k)) edge)

  outside : Starts (path_of (up_of naming old) m) (seen_path naming l.front) → ⊥
  outside w = past (path_of (up_of naming old) m, w.0 ++ seen naming y ∷ [], keys_split naming old s to b y l ∙ ap (λ (p : Keys). p ++ seen naming y ∷ []) w.1 ∙ append_assoc (path_of (up_of naming old) m) w.0 (seen naming y ∷ []), there naming old s m live)

  module _ (new : Slab Node) (h : Shifts naming old new m a x b y target) where
    all_same : (k : ℕ) (z : Key) → (Edge a (seen naming x) k z → ⊥) → (Edge b (seen naming y) k z → ⊥) → child_of new k z ≡ child_of old k z
    all_same k z e f = ⊎_elim (λ g. h.bare k z g ∙ sym (s.tree.files k z (is_file k g))) (λ stays. h.others k z e f stays) (is_gone target k)

    gone : (k : ℕ) → target ≡ Some k → kind_of new k ≡ None
    gone k g = ap (option_map (λ (bytes : Option (List ℕ)). not (is_some bytes))) (h.steps.dead k g)

    sound_shifted : IsSoundTree naming new
    sound_shifted = record {
      tree = sound_moved (child_of old) (up_of naming old) (kind_of old) s.tree (child_of new) (up_of naming new) (kind_of new) (path_of (up_of naming old) a) (seen_path naming l.front) (seen naming x) (seen naming y) a b m
          (s.tree.rooted a (live_above naming old s m a x link)) edge l.at l.is_folder (λ w. outside (w.0, w.1 ∙ ap (λ (p : Keys). p ++ w.0) (sym own_way))) elsewhere (λ t e. is_file t (at_target ∙ e))
          (λ q j below. omega (arith, (fits q j below).0, few, length-map l.front (seen naming), ap (λ (p : Names). length p) l.split, length-append l.front (y ∷ [])))
          h.here h.left all_same (up_of-at naming new m b y h.steps.link)
          (λ k apart away. up_of-same naming old new k (h.steps.links k apart (λ g. away (sym at_target ∙ g)))) (λ k g. up_of-none naming new k (h.steps.unlinked k (at_target ∙ g)))
          (λ k away. kind_of-same old new k (h.steps.files k (λ g. away (sym at_target ∙ g)))) (λ k g. gone k (at_target ∙ g));
      names = λ n c z linked. ⊎_elim
          (λ e. let p : ◌≡◌ {A = ℕ × Key} (b, y) (c, z) = inside (b, y) (c, z) (sym h.steps.link ∙ ap (link_of new) (sym e) ∙ linked) in sym (ap (λ q. is_name q.1) p) ∙ l.named)
          (λ apart. ⊎_elim
          (λ g. absurd (none_some (c, z) (sym (h.steps.unlinked n g) ∙ linked)))
          (λ stays. s.names n c z (sym (h.steps.links n apart stays) ∙ linked)) (is_gone target n)) (cases_eq n m);
      small = λ n alive. ⊎_elim
          (λ g. absurd (not_some (kind_of new n) (gone n g) alive))
          (λ stays. s.small n (subst (λ (o : Option Bool). IsSome o) (kind_of-same old new n (h.steps.files n stays)) alive)) (is_gone target n);
    }

    shifted_seen : places_of naming new ≡ moved (places_of naming old) m to
    shifted_seen = moved_seen naming old new s sound_shifted m live to b y l target h.steps (λ k z g. s.tree.files k z (is_file k g)) not_parent outside
        (ap (λ o. option_map_or (λ t. cond (t == m) (places_of naming old) (without (places_of naming old) t)) o (places_of naming old)) (node_found naming old s to ∙ sym is_target) ∙ by target not_itself)
      where
        by : (o : Option ℕ) → (o ≡ Some m → ⊥) → option_map_or (λ t. cond (t == m) (places_of naming old) (without (places_of naming old) t)) o (places_of naming old) ≡ less (places_of naming old) o
        by None apart = refl
        by (Some t) apart = ap (λ v. cond v (places_of naming old) (without (places_of naming old) t)) (false_from_ne_true (t == m) (λ e. apart (ap Some (eqb-true t m e))))

  -- where a shift is asked for so, its nodes are sound, and callers see the node moved
  pub shifted : (new : Slab Node) → (((b ≡ a) × (seen naming y ≡ seen naming x) → ⊥) → (target ≡ Some m → ⊥) → (target ≡ Some b → ⊥) → Shifts naming old new m a x b y target)
      → IsSoundTree naming new × (places_of naming new ≡ moved (places_of naming old) m to)
  shifted new shifts = let h = shifts elsewhere not_itself not_parent in (sound_shifted new h, shifted_seen new h)
