-- A write into what a file id has open, check by check.
use Rattle.std.proofs.Common.{◌≡◌, ◌∙◌, refl, sym, ap, ℕ, ◌+◌, ◌==◌, ◌<◌, Bool, true, false, not, ◌&&◌, List, [], ◌∷◌, Option, Some, None, length, arith}
use Rattle.std.specs.Prelude.{nat_lt}
use Rattle.std.proofs.lemmas.Bool.Decides.{nat_tests}
use Rattle.std.specs.List.{list_any}
use Rattle.std.specs.Option.{unwrap_or, is_some}
use Rattle.std.proofs.Math.Bool.{and_assoc, not-not}
use Rattle.rd_irp.specs.declared.op.Range.{Range}
use Rattle.rd_irp.specs.declared.completion.Body.TheVariants.{Count}
use Rattle.rd_contents.specs.Contents.{written, max_len}
use Rattle.rd_locks.specs.declared.held.Held.{Held}
use Rattle.rd_locks.specs.Locks.{overlaps, may_write}
use Rattle.rd_tree.specs.Places.{own_path, bytes_at, IsLive}
use Rattle.rd_drive.specs.declared.handle.Handle as kept
use Rattle.rd_drive.specs.declared.store.Store.{Store}
use Rattle.rd_drive.specs.DriveState as drive
use Rattle.rd_drive.specs.DriveState.{Node, with_node, is_folder_node, bytes_of}
use Rattle.rd_drive.specs.Access.{writes}
use Rattle.rd_drive.specs.Changes.{modified}
use Rattle.rd_drive.specs.Outcome.{Outcome, outcome_with_reply, refused, succeeded, changed, done, on_handle}
use Rattle.rd_drive.specs.ReadWrite.{write, node_with_bytes, is_write_locked}
use Rattle.rd_base.specs.Statuses.{invalid_device_request, access_denied, file_lock_conflict, disk_full}
use Rattle.rd_drive.specs.Store.{state_of, node_with, handle_of, drive_of, kept_handle, IsSound}
use Rattle.rd_drive.specs.Kept.{own_node, place_with, written_at}
use Rattle.rd_drive.proofs.CheckLemmas.{check_applies, check_passed, checks_done}
use Rattle.rd_drive.proofs.LockLemmas.{any_on}
use Rattle.rd_drive.proofs.KeptLemmas.{on_own}

-- a folder has no end, and a file has bytes
-- what a test for a folder says of the bytes
pub bytes_none : (folder : Bool) (o : Option (List ℕ)) → folder ≡ not (is_some o) → folder ≡ true → o ≡ None
bytes_none folder None e none = refl
bytes_none folder (Some b) e none = absurd (let both : false ≡ true = sym e ∙ none in cc)

pub bytes_some : (folder : Bool) (o : Option (List ℕ)) → folder ≡ not (is_some o) → folder ≡ false → (b : List ℕ) × (o ≡ Some b)
bytes_some folder None e some = absurd (let both : true ≡ false = sym e ∙ some in cc)
bytes_some folder (Some b) e some = (b, refl)

pub near_is : (m n : ℕ) → (m < n → ⊥) → nat_lt m n ≡ false
near_is m n e = grind (arith, nat_tests)

-- a file with other bytes, written at a moment, is its node where they are kept
pub written_node : (s : Store) (n moment : ℕ) (bytes : List ℕ) → node_with_bytes (own_node s n) moment bytes ≡ node_with (written_at (state_of s.states n) moment) (place_with s.tree n (Some bytes))
written_node s n moment bytes = refl

module _ (s : Store) (sound : IsSound s) (file : ℕ) (h : kept.Handle) (is : kept_handle s file ≡ Some h) (moment offset : ℕ) (bytes : List ℕ) where
  abbrev n : ℕ
  n = h.node.0

  live : IsLive s.tree n
  live = (sound.opened file h is).0

  abbrev node : Node
  node = own_node s n

  abbrev pub comes : Outcome
  comes = on_handle (drive_of s) file (write (drive_of s) moment file offset bytes)

  goes : comes ≡ write (drive_of s) moment file offset bytes (handle_of s.tree h) node
  goes = on_own s sound file h is (write (drive_of s) moment file offset bytes)

  pub write_folder : bytes_at s.tree n ≡ None → comes ≡ refused (drive_of s) invalid_device_request
  write_folder none = goes ∙ check_applies (drive_of s) _ _ _ (ap (λ (o : Option (List ℕ)). not (is_some o)) none)

  module _ (b : List ℕ) (some : bytes_at s.tree n ≡ Some b) where
    no_folder : is_folder_node node ≡ false
    no_folder = ap (λ (o : Option (List ℕ)). not (is_some o)) some

    bytes_are : bytes_of node ≡ b
    bytes_are = ap (λ (o : Option (List ℕ)). unwrap_or o []) some

    pub write_denied : writes h.access ≡ false → comes ≡ refused (drive_of s) access_denied
    write_denied denied = goes ∙ check_passed (drive_of s) _ _ _ no_folder ∙ check_applies (drive_of s) _ _ _ (ap not denied)

    module _ (allowed : writes h.access ≡ true) where
      pub write_nothing : (length bytes == 0) ≡ true → comes ≡ outcome_with_reply (drive_of s) (done (Count 0))
      write_nothing zero = goes ∙ check_passed (drive_of s) _ _ _ no_folder ∙ check_passed (drive_of s) _ _ _ (ap not allowed) ∙ check_applies (drive_of s) _ _ _ zero

      abbrev pub range : Range
      range = record { offset = offset; length = length bytes }

      locks_seen : is_write_locked (drive_of s) file (own_path s.tree n) range ≡ not (may_write s.locks.locks n file range)
      locks_seen =
          any_on s sound n live (λ (lock : drive.Lock). overlaps range lock.range && not (lock.exclusive && lock.file == file)) s.locks.locks sound.locked
          ∙ ap (λ (q : Held → Bool). list_any q s.locks.locks) (λ i. λ (held : Held). sym (and_assoc (held.node == n) (overlaps range held.range) (not (held.exclusive && held.file == file))) i)
          ∙ sym (not-not (list_any (λ (held : Held). held.node == n && overlaps range held.range && not (held.exclusive && held.file == file)) s.locks.locks))

      module _ (more : (length bytes == 0) ≡ false) where
        pub write_locked : may_write s.locks.locks n file range ≡ false → comes ≡ refused (drive_of s) file_lock_conflict
        write_locked locked = goes ∙ check_passed (drive_of s) _ _ _ no_folder ∙ check_passed (drive_of s) _ _ _ (ap not allowed) ∙ check_passed (drive_of s) _ _ _ more ∙ check_applies (drive_of s) _ _ _ (locks_seen ∙ ap not locked)

        module _ (free : may_write s.locks.locks n file range ≡ true) where
          unlocked : is_write_locked (drive_of s) file (own_path s.tree n) range ≡ false
          unlocked = locks_seen ∙ ap not free

          pub write_far : nat_lt max_len (offset + length bytes) ≡ true → comes ≡ refused (drive_of s) disk_full
          write_far far =
              goes ∙ check_passed (drive_of s) _ _ _ no_folder ∙ check_passed (drive_of s) _ _ _ (ap not allowed) ∙ check_passed (drive_of s) _ _ _ more ∙ check_passed (drive_of s) _ _ _ unlocked
              ∙ check_applies (drive_of s) _ _ _ far

          pub write_done : nat_lt max_len (offset + length bytes) ≡ false
              → comes ≡ succeeded (with_node (drive_of s) (node_with (written_at (state_of s.states n) moment) (place_with s.tree n (Some (written b offset bytes))))) (Count (length bytes)) (changed (modified (own_path s.tree n) ∷ []))
          write_done near_by =
              goes ∙ check_passed (drive_of s) _ _ _ no_folder ∙ check_passed (drive_of s) _ _ _ (ap not allowed) ∙ check_passed (drive_of s) _ _ _ more ∙ check_passed (drive_of s) _ _ _ unlocked
              ∙ check_passed (drive_of s) _ _ _ near_by ∙ checks_done (drive_of s) _
              ∙ ap (λ (l : List ℕ). succeeded (with_node (drive_of s) (node_with_bytes node moment (written l offset bytes))) (Count (length bytes)) (changed (modified (own_path s.tree n) ∷ []))) bytes_are
