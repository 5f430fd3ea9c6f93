-- A node that gets a path where nothing stands.
use Rattle.std.proofs.Common.{◌≡◌, ◌∙◌, refl, sym, ap, ℕ, ◌==◌, Bool, false, not, ◌&&◌, ◌||◌, cond, [], ◌∷◌, map, Option, Some, None, Ok, Err}
use Rattle.std.specs.Option.{option_map_or, unwrap_or, is_some}
use Rattle.std.specs.Ordering.{nat_cmp}
use Rattle.std.specs.Map.{keys_of}
use Rattle.std.specs.List.Sorted.{IsStrictlySortedBy}
use Rattle.rd_irp.specs.declared.completion.Body.TheVariants.{Count}
use Rattle.rd_dirinfo.specs.Naming.{Name}
use Rattle.rd_dirinfo.specs.Paths.{Names, last_name}
use Rattle.rd_tree.specs.declared.node.NodeId.{NodeId}
use Rattle.rd_tree.specs.declared.refusal.MoveNo.{MoveNo}
use Rattle.rd_tree.specs.declared.refusal.MoveNo.TheVariants as move
use Rattle.rd_tree.specs.Places as places
use Rattle.rd_tree.specs.Places.{Places, place, own_path, bytes_at, cleared, moved, move_refusal, node_at, without, IsLive, IsWhole}
use Rattle.rd_drive.specs.declared.store.Store.{Store}
use Rattle.rd_drive.specs.declared.store.Done.{Done}
use Rattle.rd_drive.specs.declared.store.Done.TheVariants as done
use Rattle.rd_drive.specs.DriveState.{DriveState, in_order, made_path}
use Rattle.rd_drive.specs.Changes.{renamed_from, renamed_to}
use Rattle.rd_drive.specs.Kept.{own_node, IsKept}
use Rattle.rd_drive.specs.Outcome.{Outcome, changed, succeeded}
use Rattle.rd_drive.specs.Rename.{relocate, renamed}
use Rattle.rd_drive.specs.Renaming.{changed_at, kind_bit, move_status, renaming, IsAbove}
use Rattle.rd_drive.specs.Store.{state_of, node_of, drive_of, IsSound, Serves}
use Rattle.rd_drive.proofs.MovedLemmas.{live_after, moved_fits}
use Rattle.rd_drive.proofs.RefusalLemmas.{moves_as, refused_as, serves_no, shallow_at}
use Rattle.rd_drive.proofs.RenameLemmas.{serves_moved}
use Rattle.rd_drive.proofs.AskedLemmas.{asked_seen}

-- nothing goes
pub cleared_none : (tree : Places) (n : ℕ) (to : Names) → node_at tree to ≡ None → cleared tree n to ≡ tree
cleared_none tree n to free = ap (λ (o : Option ℕ). option_map_or (λ t. cond (t == n) tree (without tree t)) o tree) free

-- the drive without what went, where nothing did
pub drive_left : (s : Store) (left : Places) → left ≡ s.tree → ◌≡◌ {A = DriveState} (record (drive_of s) { nodes = in_order s.tree.naming (map (node_of s.states) left.list) }) (drive_of s)
drive_left s left same = λ i. record (drive_of s) { nodes = in_order s.tree.naming (map (node_of s.states) (same i).list) }

none_some : (n : ℕ) → None ≡ Some n → ⊥
none_some n e = absurd (cc)

module _ (s : Store) (sound : IsSound s) (node : NodeId) (live : IsLive s.tree node.0) (to : Names) (free : node_at s.tree to ≡ None) (moment count : ℕ) (replace : Bool) where
  abbrev n : ℕ
  n = node.0

  abbrev pub comes_free : Outcome
  comes_free = relocate (drive_of s) moment count (own_node s node.0) replace to (made_path (drive_of s) to) None

  abbrev moves : Outcome
  moves = succeeded (renamed (drive_of s) moment (own_node s node.0) (made_path (drive_of s) to)) (Count count)
      (changed (renamed_from (own_path s.tree node.0) (own_node s node.0) ∷ renamed_to (made_path (drive_of s) to) (own_node s node.0) ∷ []))

  apart : node_at s.tree to ≡ Some n → ⊥
  apart e = none_some n (sym free ∙ e)

  taken : places.is_taken s.tree to false ≡ false
  taken = ap (λ (o : Option ℕ). is_some o && (not false || places.is_folder_at s.tree to)) free

  pub relocate_refused : (why : MoveNo) → why ≡ unwrap_or (move_refusal s.tree n to false) move.Memory → (new : Store) → new ≡ s → Serves s new comes_free (Err (move_status why replace))
  relocate_refused why is new same =
      serves_no s new same sound comes_free (move_status why replace) (refused_as s sound n live to apart None false replace (λ _. refl) taken moves why is)

  module _ (order : IsStrictlySortedBy nat_cmp (keys_of s.handles.entries)) (other : 0 ≡ n → ⊥) (some : to ≡ [] → ⊥) (after : IsWhole (moved s.tree node.0 to)) where
    same : (k : ℕ) → place (cleared s.tree n to) k ≡ place s.tree k
    same k = ap (λ (t : Places). place t k) (cleared_none s.tree n to free)

    pub free_lives : (k : ℕ) → IsLive s.tree k → IsLive (moved s.tree node.0 to) k
    free_lives k there = live_after s.tree sound.whole n to after k (same k) there

    pub relocate_moved : move_refusal s.tree node.0 to false ≡ None → (folder : NodeId) → IsAbove s.tree node.0 folder → (old : Name) → old ≡ last_name (own_path s.tree node.0)
        → (new : Store) → new ≡ record s { tree = moved s.tree node.0 to; states = new.states } → IsKept s.states new.states node.0 (changed_at (state_of s.states node.0) moment)
        → (returns : Done) → returns ≡ done.Replied (Count count) (renaming None folder old node (kind_bit (bytes_at (moved s.tree node.0 to) node.0))) → Serves s new comes_free (Ok returns)
    relocate_moved allowed folder above old named_so new is now returns told =
        let m = moves_as s sound n live to apart None false replace (λ _. refl) taken moves allowed in
        serves_moved s sound order node live other to after (λ k _. same k) (free_lives n live) s.states (λ k _. refl) (λ file h found. free_lives h.node.0 (sound.opened file h found).0)
        (moved_fits s.tree sound.whole n to after (λ k _. same k) some sound.fitting (shallow_at s.tree n to m.shallow))
        folder above (free_lives folder.0 above.live) old named_so moment new.states now count None [] tt refl comes_free
        (m.served ∙ (λ i. succeeded (renamed (sym (drive_left s (cleared s.tree n to) (cleared_none s.tree n to free)) i) moment (own_node s n) (asked_seen s sound to i)) (Count count)
        (changed (renamed_from (own_path s.tree n) (own_node s n) ∷ renamed_to (asked_seen s sound to i) (own_node s n) ∷ []))))
        new is returns told
