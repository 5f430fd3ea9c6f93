-- What a rename comes to, by what its path is.
use Rattle.std.proofs.Common.{◌≡◌, ◌∙◌, sym, ap, ℕ, ◌==◌, Bool, true, false, List, [], length, Option, Some, None}
use Rattle.std.proofs.lemmas.Bool.{false_from_ne_true}
use Rattle.std.proofs.lemmas.Option.{same_Some}
use Rattle.rd_dirinfo.specs.Paths.{Names, is_same_path, names_of, parsed_path, path_fault}
use Rattle.rd_tree.specs.Places.{own_path, node_at, IsLive}
use Rattle.rd_tree.proofs.WayLemmas.{same_true, true_same}
use Rattle.rd_drive.specs.declared.store.Store.{Store}
use Rattle.rd_drive.specs.DriveState as drive
use Rattle.rd_drive.specs.DriveState.{DriveState, Node, made_path}
use Rattle.rd_drive.specs.Kept.{own_node}
use Rattle.rd_drive.specs.Outcome.{Outcome, fault, given, one_of, refused}
use Rattle.rd_drive.specs.Rename.{relocate, rename_to, respell}
use Rattle.rd_drive.specs.Renaming.{rename_path}
use Rattle.rd_base.specs.Statuses.{access_denied, object_name_invalid}
use Rattle.rd_drive.specs.Store.{drive_of, IsSound}
use Rattle.rd_drive.proofs.CheckLemmas.{check_applies, check_passed, checks_done, one_false, one_true}
use Rattle.rd_drive.proofs.StoreLemmas.{all_listed, first_listed}
use Rattle.rd_drive.proofs.TargetLemmas.{none_at, one_at, only_at}

-- ---- the units
pub comes_path : (s : DriveState) (moment count : ℕ) (node : Node) (replace : Bool) (units : List ℕ) (path : Names) → parsed_path units ≡ Some path → rename_to s moment count node replace units ≡ rename_path s moment count node replace path
unfolding given
comes_path s moment count node replace units path spelled = ap (λ (o : Option Names). given s o object_name_invalid (rename_path s moment count node replace)) spelled

pub comes_no_path : (s : DriveState) (moment count : ℕ) (node : Node) (replace : Bool) (units : List ℕ) (at : ℕ) → path_fault units ≡ Some at → rename_to s moment count node replace units ≡ refused s object_name_invalid
unfolding given
comes_no_path s moment count node replace units at bad =
    ap (λ (o : Option Names). given s o object_name_invalid (rename_path s moment count node replace)) none
  where
    none : parsed_path units ≡ None
    none = ap (λ (o : Option ℕ). elim o [ Some at ↦ None | None ↦ Some (names_of units) ]) bad

-- ---- the path
module _ (s : Store) (sound : IsSound s) (n : ℕ) (live : IsLive s.tree n) (to : Names) (moment count : ℕ) (replace : Bool) where
  abbrev comes : Outcome
  comes = rename_path (drive_of s) moment count (own_node s n) replace to

  abbrev to_own : Outcome
  to_own = respell (drive_of s) moment count (own_node s n) (made_path (drive_of s) to)

  abbrev elsewhere : Option Node → Outcome
  elsewhere target = relocate (drive_of s) moment count (own_node s n) replace to (made_path (drive_of s) to) target

  -- the root's path is nobody's else
  pub comes_root : (length to == 0) ≡ true → comes ≡ refused (drive_of s) access_denied
  comes_root empty =
      check_applies (drive_of s) (length to == 0, fault access_denied) [] (one_of (is_same_path s.naming to (own_path s.tree n)) to_own (elsewhere (drive.node_of_path (drive_of s) to))) empty

  passed : (length to == 0) ≡ false → comes ≡ one_of (is_same_path s.naming to (own_path s.tree n)) to_own (elsewhere (drive.node_of_path (drive_of s) to))
  passed some =
      check_passed (drive_of s) (length to == 0, fault access_denied) [] (one_of (is_same_path s.naming to (own_path s.tree n)) to_own (elsewhere (drive.node_of_path (drive_of s) to))) some
      ∙ checks_done (drive_of s) (one_of (is_same_path s.naming to (own_path s.tree n)) to_own (elsewhere (drive.node_of_path (drive_of s) to)))

  pub comes_own : (length to == 0) ≡ false → node_at s.tree to ≡ Some n → comes ≡ to_own
  comes_own some at =
      passed some
      ∙ one_true (is_same_path s.naming to (own_path s.tree n)) to_own (elsewhere (drive.node_of_path (drive_of s) to))
      (ap (λ naming. is_same_path naming to (own_path s.tree n)) (sym sound.naming)
      ∙ same_true s.tree.naming to (own_path s.tree n) (sym (true_same s.tree.naming (own_path s.tree n) to (first_listed s.tree sound.whole to n s.tree.list (all_listed s.tree sound.whole) at).1)))

  other : (length to == 0) ≡ false → (node_at s.tree to ≡ Some n → ⊥) → comes ≡ elsewhere (drive.node_of_path (drive_of s) to)
  other some apart =
      passed some
      ∙ one_false (is_same_path s.naming to (own_path s.tree n)) to_own (elsewhere (drive.node_of_path (drive_of s) to))
      (ap (λ naming. is_same_path naming to (own_path s.tree n)) (sym sound.naming)
      ∙ false_from_ne_true (is_same_path s.tree.naming to (own_path s.tree n)) (λ t. apart (only_at s.tree sound.whole n live to (same_true s.tree.naming (own_path s.tree n) to (sym (true_same s.tree.naming to (own_path s.tree n) t))))))

  none_some : None ≡ Some n → ⊥
  none_some e = absurd (cc)

  pub comes_free : (length to == 0) ≡ false → node_at s.tree to ≡ None → comes ≡ elsewhere None
  comes_free some free = other some (λ e. none_some (sym free ∙ e)) ∙ ap (λ (o : Option Node). elsewhere o) (none_at s sound to free)

  pub comes_over : (length to == 0) ≡ false → (t : ℕ) → IsLive s.tree t → node_at s.tree to ≡ Some t → (t ≡ n → ⊥) → comes ≡ elsewhere (Some (own_node s t))
  comes_over some t there at apart = other some (λ e. apart (same_Some t n (sym at ∙ e))) ∙ ap (λ (o : Option Node). elsewhere o) (one_at s sound to t there at)
