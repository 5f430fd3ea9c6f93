-- What is left when a node without children goes.
use Rattle.std.proofs.Common.{◌≡◌, ◌∙◌, sym, ap, subst, ℕ, ⊎_elim, Bool, not, List, [], Option, Some, None}
use Rattle.std.specs.Option.{option_map, is_some, IsSome}
use Rattle.std.proofs.lemmas.Bool.{cases_eq}
use Rattle.slab.specs.Slab.{Slab}
use Rattle.rd_dirinfo.specs.declared.naming.Naming.{Naming}
use Rattle.rd_dirinfo.specs.Naming.{Name, seen}
use Rattle.rd_tree.specs.declared.node.Node.{Node}
use Rattle.rd_tree.specs.Walk.{Key, path_of}
use Rattle.rd_tree.specs.Places.{without}
use Rattle.rd_tree.specs.Nodes.{child_of, link_of, up_of, file_of, kind_of, placed, places_of, Removes, IsSoundTree}
use Rattle.rd_tree.proofs.TreeLemmas.{none_some, sound_removed}
use Rattle.rd_tree.proofs.NodeLemmas.{up_of-at, up_of-none, up_of-same, kind_of-same}
use Rattle.rd_tree.proofs.ViewLemmas.{place_seen, placed_without}
use Rattle.rd_tree.proofs.WayLemmas.{same_way, live_above}
use Rattle.rd_tree.proofs.PlaceLemmas.{place_kept, live_file}

module _ (naming : Naming) (old new : Slab Node) (s : IsSoundTree naming old) (m a : ℕ) (x : Name) (link : link_of old m ≡ Some (a, x)) (bare : (y : Key) → child_of old m y ≡ None) (h : Removes old new a (seen naming x) m) where
  others : (n : ℕ) (y : Key) → ((n ≡ a) × (y ≡ seen naming x) → ⊥) → child_of new n y ≡ child_of old n y
  others n y apart = ⊎_elim
      (λ e. ap (λ k. child_of new k y) e ∙ h.bare y ∙ sym (bare y) ∙ ap (λ k. child_of old k y) (sym e))
      (λ other. h.others n y apart other) (cases_eq n m)

  pub sound_taken : IsSoundTree naming new
  sound_taken = record {
    tree = sound_removed (child_of old) (up_of naming old) (kind_of old) s.tree (child_of new) (up_of naming new) (kind_of new) (path_of (up_of naming old) a) (seen naming x) a m
        (s.tree.rooted a (live_above naming old s m a x link)) (s.tree.back m a (seen naming x) (up_of-at naming old m a x link)) bare others h.gone
        (λ k other. up_of-same naming old new k (h.links k other)) (up_of-none naming new m h.link)
        (λ k other. kind_of-same old new k (h.files k other)) (ap (option_map (λ bytes. not (is_some bytes))) h.file);
    names = λ n b y linked. ⊎_elim
        (λ e. absurd (none_some (b, y) (sym h.link ∙ ap (link_of new) (sym e) ∙ linked)))
        (λ other. s.names n b y (sym (h.links n other) ∙ linked)) (cases_eq n m);
    small = λ n live. ⊎_elim
        (λ e. absurd (gone (file_of new n) (ap (file_of new) e ∙ h.file) live))
        (λ other. s.small n (subst (λ (o : Option Bool). IsSome o) (kind_of-same old new n (h.files n other)) live)) (cases_eq n m);
  }
    where
      gone : (o : Option (Option (List ℕ))) → o ≡ None → IsSome (option_map (λ (bytes : Option (List ℕ)). not (is_some bytes)) o) → ⊥
      gone None e live = absurd (cc)
      gone (Some b) e live = absurd (cc)

  -- the ways to the others, of which none leads through it
  ways_stay : (k : ℕ) → IsSome (kind_of old k) → (k ≡ m → ⊥) → path_of (link_of new) k ≡ path_of (link_of old) k
  ways_stay k live other = same_way (λ j. IsSome (kind_of old j) × (j ≡ m → ⊥)) (link_of old) (link_of new)
      (λ j b y p linked. (
        live_above naming old s j b y linked,
        λ e. childless (seen naming y) j (ap (λ i. child_of old i (seen naming y)) (sym e) ∙ s.tree.back j b (seen naming y) (up_of-at naming old j b y linked)),
      ))
      (λ j p. h.links j p.1) 64 k [] (live, other)
    where
      childless : (y : Key) (j : ℕ) → child_of old m y ≡ Some j → ⊥
      childless y j is = let both : None ≡ Some j = sym (bare y) ∙ is in absurd (cc)

  pub removed_seen : places_of naming new ≡ without (places_of naming old) m
  removed_seen = placed_without naming old new m (place_seen naming new m ∙ ap (option_map (placed (link_of new) m)) h.file)
      (λ k other. place_kept naming old new k (h.files k other) (λ live. ways_stay k (live_file old k live) other))
