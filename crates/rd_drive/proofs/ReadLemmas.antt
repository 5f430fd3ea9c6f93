-- A read of what a file id has open, check by check.
use Rattle.std.proofs.Common.{◌≡◌, ◌∙◌, refl, sym, ap, ℕ, ◌==◌, Bool, true, false, not, ◌&&◌, List, [], Option, Some, None, length, min}
use Rattle.std.specs.Prelude.{nat_le}
use Rattle.std.specs.List.{list_any}
use Rattle.std.specs.Option.{option_and_then, option_map, unwrap_or, is_some}
use Rattle.std.proofs.Math.Bool.{and_assoc, not-not}
use Rattle.rd_dirinfo.specs.Paths.{Names}
use Rattle.rd_irp.specs.declared.op.Range.{Range}
use Rattle.rd_irp.specs.declared.completion.Body.TheVariants.{Buffer}
use Rattle.rd_contents.specs.Contents.{part}
use Rattle.rd_locks.specs.declared.held.Held.{Held}
use Rattle.rd_locks.specs.Locks.{overlaps, may_read}
use Rattle.rd_tree.specs.Places.{Place, place, own_path, bytes_at}
use Rattle.rd_drive.specs.declared.handle.Handle as kept
use Rattle.rd_drive.specs.declared.store.Store.{Store}
use Rattle.rd_drive.specs.DriveState as drive
use Rattle.rd_drive.specs.DriveState.{Node, is_folder_node, bytes_of}
use Rattle.rd_drive.specs.Access.{reads}
use Rattle.rd_drive.specs.Outcome.{Outcome, outcome_with_reply, refused, succeeded, no_news, done, on_handle}
use Rattle.rd_drive.specs.ReadWrite.{read, max_read, is_read_locked}
use Rattle.rd_base.specs.Statuses.{invalid_device_request, access_denied, file_lock_conflict, end_of_file}
use Rattle.rd_drive.specs.Store.{state_of, node_with, handle_of, drive_of, kept_handle, IsSound}
use Rattle.rd_drive.proofs.CheckLemmas.{check_applies, check_passed, checks_done}
use Rattle.rd_drive.proofs.HandleLemmas.{on_open}
use Rattle.rd_drive.proofs.LockLemmas.{any_on}

-- of what a folder, or a file, says of its end
pub no_bytes : (o : Option (List ℕ)) → None ≡ option_map (length {A = ℕ}) o → o ≡ None
no_bytes None e = refl
no_bytes (Some b) e = absurd (cc)

pub some_bytes : (end : ℕ) (o : Option (List ℕ)) → Some end ≡ option_map (length {A = ℕ}) o → (b : List ℕ) × (o ≡ Some b) × (length b ≡ end)
some_bytes end None e = absurd (cc)
some_bytes end (Some b) e = (b, refl, ap (λ (o : Option ℕ). unwrap_or o 0) (sym e))

module _ (s : Store) (sound : IsSound s) (file : ℕ) (h : kept.Handle) (is : kept_handle s file ≡ Some h) (x : Place) (here : place s.tree h.node.0 ≡ Some x) (offset asked : ℕ) where
  abbrev pub node : Node
  node = node_with (state_of s.states h.node.0) x

  bytes_here : bytes_at s.tree h.node.0 ≡ x.bytes
  bytes_here = ap (option_and_then (λ (p : Place). p.bytes)) here

  own_here : own_path s.tree h.node.0 ≡ x.path
  own_here = ap (λ (o : Option Place). unwrap_or (option_map (λ (p : Place). p.path) o) []) here

  abbrev pub comes : Outcome
  comes = on_handle (drive_of s) file (read (drive_of s) file offset asked)

  goes : comes ≡ read (drive_of s) file offset asked (handle_of s.tree h) node
  goes = on_open s sound file h is x here (read (drive_of s) file offset asked)

  pub read_folder : bytes_at s.tree h.node.0 ≡ None → comes ≡ refused (drive_of s) invalid_device_request
  read_folder none = goes ∙ check_applies (drive_of s) _ _ _ (ap (λ (o : Option (List ℕ)). not (is_some o)) (sym bytes_here ∙ none))

  module _ (bytes : List ℕ) (some : bytes_at s.tree h.node.0 ≡ Some bytes) where
    no_folder : is_folder_node node ≡ false
    no_folder = ap (λ (o : Option (List ℕ)). not (is_some o)) (sym bytes_here ∙ some)

    bytes_are : bytes_of node ≡ bytes
    bytes_are = ap (λ (o : Option (List ℕ)). unwrap_or o []) (sym bytes_here ∙ some)

    pub read_denied : reads h.access ≡ false → comes ≡ refused (drive_of s) access_denied
    read_denied denied = goes ∙ check_passed (drive_of s) _ _ _ no_folder ∙ check_applies (drive_of s) _ _ _ (ap not denied)

    module _ (allowed : reads h.access ≡ true) where
      abbrev pub count : ℕ
      count = min asked max_read

      pub read_nothing : (count == 0) ≡ true → comes ≡ outcome_with_reply (drive_of s) (done (Buffer []))
      read_nothing zero = goes ∙ check_passed (drive_of s) _ _ _ no_folder ∙ check_passed (drive_of s) _ _ _ (ap not allowed) ∙ check_applies (drive_of s) _ _ _ zero

      abbrev pub range : Range
      range = record { offset = offset; length = count }

      locks_seen : is_read_locked (drive_of s) file node.path range ≡ not (may_read s.locks.locks h.node.0 file range)
      locks_seen =
          ap (λ (p : Names). is_read_locked (drive_of s) file p range) (sym own_here)
          ∙ any_on s sound h.node.0 (ap is_some here) (λ (lock : drive.Lock). overlaps range lock.range && (lock.exclusive && not (lock.file == file))) s.locks.locks sound.locked
          ∙ ap (λ (q : Held → Bool). list_any q s.locks.locks) (λ i. λ (held : Held). sym (and_assoc (held.node == h.node.0) (overlaps range held.range) (held.exclusive && not (held.file == file))) i)
          ∙ sym (not-not (list_any (λ (held : Held). held.node == h.node.0 && overlaps range held.range && (held.exclusive && not (held.file == file))) s.locks.locks))

      module _ (more : (count == 0) ≡ false) where
        pub read_locked : may_read s.locks.locks h.node.0 file range ≡ false → comes ≡ refused (drive_of s) file_lock_conflict
        read_locked locked = goes ∙ check_passed (drive_of s) _ _ _ no_folder ∙ check_passed (drive_of s) _ _ _ (ap not allowed) ∙ check_passed (drive_of s) _ _ _ more ∙ check_applies (drive_of s) _ _ _ (locks_seen ∙ ap not locked)

        module _ (free : may_read s.locks.locks h.node.0 file range ≡ true) where
          pub read_past : nat_le (length bytes) offset ≡ true → comes ≡ refused (drive_of s) end_of_file
          read_past past =
              goes ∙ check_passed (drive_of s) _ _ _ no_folder ∙ check_passed (drive_of s) _ _ _ (ap not allowed) ∙ check_passed (drive_of s) _ _ _ more ∙ check_passed (drive_of s) _ _ _ (locks_seen ∙ ap not free)
              ∙ check_applies (drive_of s) _ _ _ (ap (λ (l : List ℕ). nat_le (length l) offset) bytes_are ∙ past)

          pub read_given : nat_le (length bytes) offset ≡ false → comes ≡ succeeded (drive_of s) (Buffer (part bytes offset count)) no_news
          read_given within =
              goes ∙ check_passed (drive_of s) _ _ _ no_folder ∙ check_passed (drive_of s) _ _ _ (ap not allowed) ∙ check_passed (drive_of s) _ _ _ more ∙ check_passed (drive_of s) _ _ _ (locks_seen ∙ ap not free)
              ∙ check_passed (drive_of s) _ _ _ (ap (λ (l : List ℕ). nat_le (length l) offset) bytes_are ∙ within) ∙ checks_done (drive_of s) _
              ∙ ap (λ (l : List ℕ). succeeded (drive_of s) (Buffer (part l offset count)) no_news) bytes_are
