-- A node that gets its own path, with its name as it is asked.
use Rattle.std.proofs.Common.{◌≡◌, ◌∙◌, refl, sym, ap, ℕ, ◌==◌, true, false, cond, [], ◌∷◌, ◌++◌, drop, length, bytes_eq, Option, Some, None, Ok, Err}
use Rattle.std.specs.Option.{option_map_or}
use Rattle.std.specs.Ordering.{nat_cmp}
use Rattle.std.specs.Map.{keys_of}
use Rattle.std.specs.List.Sorted.{IsStrictlySortedBy}
use Rattle.std.proofs.lemmas.Bool.{eq-eqb}
use Rattle.rd_irp.specs.declared.completion.Body.TheVariants.{Count}
use Rattle.rd_dirinfo.specs.Naming.{Name}
use Rattle.rd_dirinfo.specs.Paths.{Names, IsSamePath, is_prefix, is_within_limits, last_name, parent, seen_path}
use Rattle.rd_tree.specs.declared.node.NodeId.{NodeId}
use Rattle.rd_tree.specs.Places.{Places, place, own_path, bytes_at, cleared, moved, node_at, without, IsLive, IsWhole}
use Rattle.rd_tree.proofs.PlaceLemmas.{last_of}
use Rattle.rd_tree.proofs.RefuseLemmas.{prefix_split}
use Rattle.rd_tree.proofs.WayLemmas.{true_same}
use Rattle.rd_drive.specs.declared.news.News as told_news
use Rattle.rd_drive.specs.declared.store.Store.{Store}
use Rattle.rd_drive.specs.declared.store.Done.{Done}
use Rattle.rd_drive.specs.declared.store.Done.TheVariants as done
use Rattle.rd_drive.specs.DriveState.{made_path, node_path}
use Rattle.rd_drive.specs.Changes.{renamed_from, renamed_to}
use Rattle.rd_drive.specs.Kept.{own_node, IsKept}
use Rattle.rd_drive.specs.Outcome.{Outcome, changed, no_news, succeeded}
use Rattle.rd_drive.specs.Rename.{renamed, respell}
use Rattle.rd_drive.specs.Renaming.{changed_at, kind_bit, renaming, IsAbove}
use Rattle.rd_base.specs.Statuses.{no_memory}
use Rattle.rd_drive.specs.Store.{state_of, drive_of, nothing, IsSound, Serves}
use Rattle.rd_drive.proofs.CheckLemmas.{one_false, one_true}
use Rattle.rd_drive.proofs.MovedLemmas.{live_after, moved_fits}
use Rattle.rd_drive.proofs.RelocatedLemmas.{drive_left}
use Rattle.rd_drive.proofs.RenameLemmas.{serves_moved}
use Rattle.rd_drive.proofs.ServesLemmas.{serves_no_memory, serves_quiet}
use Rattle.rd_drive.proofs.StoreLemmas.{all_listed, first_listed}
use Rattle.rd_drive.proofs.AskedLemmas.{asked_seen, same_limits, seen_joined}

-- nothing goes
cleared_own : (tree : Places) (n : ℕ) (to : Names) → node_at tree to ≡ Some n → cleared tree n to ≡ tree
cleared_own tree n to at = ap (λ (o : Option ℕ). option_map_or (λ t. cond (t == n) tree (without tree t)) o tree) at ∙ ap (λ b. cond b tree (without tree n)) (eq-eqb n n refl)

module _ (s : Store) (sound : IsSound s) (node : NodeId) (live : IsLive s.tree node.0) (to : Names) (at : node_at s.tree to ≡ Some node.0) (moment count : ℕ) where
  abbrev n : ℕ
  n = node.0

  abbrev from : Names
  from = own_path s.tree n

  abbrev pub comes_own : Outcome
  comes_own = respell (drive_of s) moment count (own_node s node.0) (made_path (drive_of s) to)

  test_is : (old : Name) → old ≡ last_name from → bytes_eq (last_name from) (last_name (made_path (drive_of s) to)) ≡ bytes_eq old (last_name to)
  test_is old named_so = λ i. bytes_eq (sym named_so i) (last_of (node_path (drive_of s) (parent to)) (last_name to) i)

  -- it has the name
  pub respell_quiet : (old : Name) → old ≡ last_name (own_path s.tree node.0) → bytes_eq old (last_name to) ≡ true → (news : told_news.News) → news ≡ nothing → Serves s s comes_own (Ok (done.Replied (Count count) news))
  respell_quiet old named_so same news quiet =
      serves_quiet s s comes_own (Count count) news sound quiet
      (one_true (bytes_eq (last_name from) (last_name (made_path (drive_of s) to))) (succeeded (drive_of s) (Count count) no_news)
      (succeeded (renamed (drive_of s) moment (own_node s n) (made_path (drive_of s) to)) (Count count) (changed (renamed_from from (own_node s n) ∷ renamed_to (made_path (drive_of s) to) (own_node s n) ∷ [])))
      (test_is old named_so ∙ same))

  pub respell_refused : (new : Store) → new ≡ s → Serves s new comes_own (Err no_memory)
  respell_refused new same = serves_no_memory s new comes_own sound same

  module _ (order : IsStrictlySortedBy nat_cmp (keys_of s.handles.entries)) (other : 0 ≡ n → ⊥) (some : to ≡ [] → ⊥) (after : IsWhole (moved s.tree node.0 to)) where
    same : (k : ℕ) → place (cleared s.tree n to) k ≡ place s.tree k
    same k = ap (λ (t : Places). place t k) (cleared_own s.tree n to at)

    pub own_lives : (k : ℕ) → IsLive s.tree k → IsLive (moved s.tree node.0 to) k
    own_lives k there = live_after s.tree sound.whole n to after k (same k) there

    own_alike : IsSamePath s.tree.naming from to
    own_alike = true_same s.tree.naming from to (first_listed s.tree sound.whole to n s.tree.list (all_listed s.tree sound.whole) at).1

    -- a path at or below the node is as long with its own path as it is asked
    shallow_own : (k : ℕ) → IsLive s.tree k → is_prefix s.tree.naming from (own_path s.tree k) ≡ true → is_within_limits (to ++ drop (length from) (own_path s.tree k)) ≡ true
    shallow_own k there below =
        same_limits s.tree.naming (to ++ drop (length from) (own_path s.tree k)) (own_path s.tree k)
        (seen_joined s.tree.naming to (drop (length from) (own_path s.tree k)) ∙ ap (λ (p : Names). p ++ seen_path s.tree.naming (drop (length from) (own_path s.tree k))) (sym own_alike) ∙ sym (prefix_split s.tree.naming from (own_path s.tree k) below))
        ∙ sound.fitting k there

    pub respell_moved : (folder : NodeId) → IsAbove s.tree node.0 folder → (old : Name) → old ≡ last_name (own_path s.tree node.0) → bytes_eq old (last_name to) ≡ false
        → (new : Store) → new ≡ record s { tree = moved s.tree node.0 to; states = new.states } → IsKept s.states new.states node.0 (changed_at (state_of s.states node.0) moment)
        → (returns : Done) → returns ≡ done.Replied (Count count) (renaming None folder old node (kind_bit (bytes_at (moved s.tree node.0 to) node.0))) → Serves s new comes_own (Ok returns)
    respell_moved folder above old named_so differs new is now returns told =
        serves_moved s sound order node live other to after (λ k _. same k) (own_lives n live) s.states (λ k _. refl) (λ file h found. own_lives h.node.0 (sound.opened file h found).0)
        (moved_fits s.tree sound.whole n to after (λ k _. same k) some sound.fitting shallow_own)
        folder above (own_lives folder.0 above.live) old named_so moment new.states now count None [] tt refl comes_own
        (one_false (bytes_eq (last_name from) (last_name (made_path (drive_of s) to))) (succeeded (drive_of s) (Count count) no_news)
        (succeeded (renamed (drive_of s) moment (own_node s n) (made_path (drive_of s) to)) (Count count) (changed (renamed_from from (own_node s n) ∷ renamed_to (made_path (drive_of s) to) (own_node s n) ∷ [])))
        (test_is old named_so ∙ differs)
        ∙ (λ i. succeeded (renamed (sym (drive_left s (cleared s.tree n to) (cleared_own s.tree n to at)) i) moment (own_node s n) (asked_seen s sound to i)) (Count count)
        (changed (renamed_from (own_path s.tree n) (own_node s n) ∷ renamed_to (asked_seen s sound to i) (own_node s n) ∷ []))))
        new is returns told
