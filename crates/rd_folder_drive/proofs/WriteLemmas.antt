-- A write into what a file id has open, check by check.
use Rattle.std.proofs.Common.{◌≡◌, ◌∙◌, sym, ap, ℕ, ◌+◌, ◌==◌, Bool, true, false, not, ◌&&◌, cond, List, [], ◌∷◌, Option, Some, None, length}
use Rattle.std.specs.Prelude.{nat_lt}
use Rattle.std.specs.List.{list_any}
use Rattle.std.specs.Option.{IsSome, is_some, option_and_then}
use Rattle.std.proofs.lemmas.Option.{none-some}
use Rattle.std.proofs.Math.Bool.{and_assoc, not-not}
use Rattle.rd_dirinfo.specs.Paths.{Names}
use Rattle.rd_irp.specs.declared.op.Range.{Range}
use Rattle.rd_irp.specs.declared.completion.Body.TheVariants.{Count}
use Rattle.rd_contents.specs.Contents.{max_len, written}
use Rattle.rd_locks.specs.declared.held.Held.{Held}
use Rattle.rd_locks.specs.Locks.{overlaps, may_write}
use Rattle.rd_drive.specs.DriveState as drive
use Rattle.rd_drive.specs.DriveState.{DriveState, Node, bytes_of, is_folder_node, with_node}
use Rattle.rd_drive.specs.Access.{writes}
use Rattle.rd_drive.specs.Changes.{modified}
use Rattle.rd_drive.specs.Outcome.{Outcome, outcome_with_reply, refused, succeeded, checked, changed, fault, done, on_handle}
use Rattle.rd_drive.specs.ReadWrite.{write, node_with_bytes, is_write_locked}
use Rattle.rd_base.specs.Statuses.{invalid_device_request, access_denied, file_lock_conflict, disk_full}
use Rattle.rd_drive.proofs.CheckLemmas.{check_applies, check_passed, checks_done}
use Rattle.rd_folder.specs.FolderCalls.{folder_write, leaving, only_if, overwritten, with_put}
use Rattle.rd_folder_drive.specs.declared.handle.Handle as kept
use Rattle.rd_folder_drive.specs.declared.open.Open.{Open}
use Rattle.rd_folder_drive.specs.declared.table.Table.{Table}
use Rattle.rd_folder_drive.specs.Table.{HasNodes, IsSound, drive_of, handle_of, kept_handle, marked, open_at, path_at}
use Rattle.rd_folder_drive.proofs.LockLemmas.{any_on}
use Rattle.rd_folder_drive.proofs.TableLemmas as table

module _ (t : Table) (sound : IsSound t) (moment file offset : ℕ) (bytes : List ℕ) (h : kept.Handle) (o : Open) (is : kept_handle t file ≡ Some h) (on : open_at t h.node ≡ Some o) (nodes : List Node) (holds : HasNodes t nodes) where
  abbrev pub s : DriveState
  s = drive_of t nodes

  abbrev pub node : Node
  node = table.node t sound nodes holds file h o is on

  abbrev own : Node
  own = marked t.opens.entries node

  abbrev pub comes : DriveState → Outcome
  comes s = on_handle s file (write s moment file offset bytes)

  writing : comes s ≡ write s moment file offset bytes (handle_of t h) own
  writing = table.on_open t sound nodes holds file h o is on (write s moment file offset bytes)

  kind : is_folder_node node ≡ o.folder
  kind = table.kind t sound nodes holds file h o is on

  opened : IsSome (open_at t h.node)
  opened = ap is_some on

  pub write_folder : o.folder ≡ true → comes s ≡ refused s invalid_device_request
  write_folder folder = writing ∙ check_applies s _ _ _ (kind ∙ folder)

  module _ (plain : o.folder ≡ false) where
    pub write_denied : writes h.access ≡ false → comes s ≡ refused s access_denied
    write_denied denied = writing ∙ check_passed s _ _ _ (kind ∙ plain) ∙ check_applies s _ _ _ (ap not denied)

    module _ (allowed : writes h.access ≡ true) where
      pub write_nothing : (length bytes == 0) ≡ true → comes s ≡ outcome_with_reply s (done (Count 0))
      write_nothing none = writing ∙ check_passed s _ _ _ (kind ∙ plain) ∙ check_passed s _ _ _ (ap not allowed) ∙ check_applies s _ _ _ none

      module _ (some : (length bytes == 0) ≡ false) where
        abbrev pub range : Range
        range = record { offset = offset; length = length bytes }

        locks_seen : is_write_locked s file own.path range ≡ not (may_write t.locks.locks h.node file range)
        locks_seen =
            ap (λ (p : Names). is_write_locked s file p range) (table.node_at t sound nodes holds file h o is on)
            ∙ any_on t sound nodes h.node opened (λ (lock : drive.Lock). overlaps range lock.range && not (lock.exclusive && lock.file == file)) t.locks.locks sound.locked
            ∙ ap (λ (q : Held → Bool). list_any q t.locks.locks) (λ i. λ (held : Held). sym (and_assoc (held.node == h.node) (overlaps range held.range) (not (held.exclusive && held.file == file))) i)
            ∙ sym (not-not (list_any (λ (held : Held). held.node == h.node && overlaps range held.range && not (held.exclusive && held.file == file)) t.locks.locks))

        goes : comes s ≡ checked s
            ((is_write_locked s file own.path range, fault file_lock_conflict)
            ∷ (nat_lt max_len (offset + length bytes), fault disk_full)
            ∷ [])
            (succeeded (with_node s (node_with_bytes own moment (written (bytes_of own) offset bytes))) (Count (length bytes)) (changed (modified own.path ∷ [])))
        goes = writing ∙ check_passed s _ _ _ (kind ∙ plain) ∙ check_passed s _ _ _ (ap not allowed) ∙ check_passed s _ _ _ some

        pub write_locked : may_write t.locks.locks h.node file range ≡ false → comes s ≡ refused s file_lock_conflict
        write_locked locked = goes ∙ check_applies s _ _ _ (locks_seen ∙ ap not locked)

        module _ (free : may_write t.locks.locks h.node file range ≡ true) where
          pub write_full : nat_lt max_len (offset + length bytes) ≡ true → comes s ≡ refused s disk_full
          write_full past = goes ∙ check_passed s _ _ _ (locks_seen ∙ ap not free) ∙ check_applies s _ _ _ past

          module _ (within : nat_lt max_len (offset + length bytes) ≡ false) where
            abbrev pub new : Node
            new = node_with_bytes node moment (written (bytes_of node) offset bytes)

            file_there : is_folder_node node ≡ false
            file_there = kind ∙ plain

            -- what the folder writes
            pub write_does : folder_write o.path offset bytes moment nodes ≡ Some (tt, with_put nodes new)
            write_does =
                ap (λ (found : Option Node). option_and_then (λ (n : Node). option_and_then (λ (after : Node). leaving (with_put nodes after)) (overwritten offset bytes moment n)) found) (table.there t sound nodes holds file h o is on)
                ∙ ap (option_and_then (λ (after : Node). leaving (with_put nodes after))) (over bytes some within)
              where
                over : (l : List ℕ) → (length l == 0) ≡ false → nat_lt max_len (offset + length l) ≡ false → overwritten offset l moment node ≡ Some (node_with_bytes node moment (written (bytes_of node) offset l))
                over [] e w = absurd (let both : true ≡ false = e in cc)
                over (b ∷ bs) e w =
                    ap (λ (c : Bool). cond (not c) (only_if (not (nat_lt max_len (offset + length (b ∷ bs)))) (Some (node_with_bytes node moment (written (bytes_of node) offset (b ∷ bs))))) None) file_there
                    ∙ ap (λ (c : Bool). only_if (not c) (Some (node_with_bytes node moment (written (bytes_of node) offset (b ∷ bs))))) w

            pub never_missing : folder_write o.path offset bytes moment nodes ≡ None → ⊥
            never_missing none = none-some _ (sym none ∙ write_does)

            pub write_done : comes s ≡ succeeded (drive_of t (with_put nodes new)) (Count (length bytes)) (changed (modified (path_at t h.node) ∷ []))
            write_done =
                goes ∙ check_passed s _ _ _ (locks_seen ∙ ap not free) ∙ check_passed s _ _ _ within ∙ checks_done s _
                ∙ (λ i. succeeded (sym (table.with_seen t nodes new) i) (Count (length bytes)) (changed (modified (table.node_at t sound nodes holds file h o is on i) ∷ [])))
