-- A read of what a file id has open, check by check.
use Rattle.std.proofs.Common.{◌≡◌, ◌∙◌, refl, sym, ap, ℕ, ◌==◌, Bool, true, false, not, ◌&&◌, List, [], ◌∷◌, Some, None, length, min, drop, take, ◌-◌, ◌≤◌, arith, inl, inr}
use Rattle.std.specs.Prelude.{nat_le}
use Rattle.std.specs.List.{list_any}
use Rattle.std.specs.Option.{IsSome, is_some}
use Rattle.std.proofs.lemmas.Option.{none-some, same_Some}
use Rattle.std.proofs.Math.Bool.{and_assoc, not-not}
use Rattle.std.proofs.lemmas.List.{length-drop, length-take}
use Rattle.std.proofs.Math.ListN.{drop_of_length-le}
use Rattle.std.proofs.lemmas.Bool.{cases_Bool, eq-eqb, eqb-true}
use Rattle.std.proofs.Math.Seq.{take-nil}
use Rattle.std.proofs.lemmas.Bool.Decides.{nat_tests}
use Rattle.rd_dirinfo.specs.Paths.{Names}
use Rattle.rd_irp.specs.declared.op.Range.{Range}
use Rattle.rd_irp.specs.declared.completion.Body.TheVariants.{Buffer}
use Rattle.rd_contents.specs.Contents.{part}
use Rattle.rd_locks.specs.declared.held.Held.{Held}
use Rattle.rd_locks.specs.Locks.{overlaps, may_read}
use Rattle.rd_drive.specs.DriveState as drive
use Rattle.rd_drive.specs.DriveState.{DriveState, Node, is_folder_node, bytes_of}
use Rattle.rd_drive.specs.Access.{reads}
use Rattle.rd_drive.specs.Outcome.{Outcome, outcome_with_reply, refused, succeeded, checked, fault, no_news, done, on_handle}
use Rattle.rd_drive.specs.ReadWrite.{read, max_read, is_read_locked}
use Rattle.rd_base.specs.Statuses.{invalid_device_request, access_denied, file_lock_conflict, end_of_file}
use Rattle.rd_drive.proofs.CheckLemmas.{check_applies, check_passed, checks_done}
use Rattle.rd_folder_drive.specs.declared.handle.Handle as kept
use Rattle.rd_folder_drive.specs.declared.open.Open.{Open}
use Rattle.rd_folder_drive.specs.declared.table.Table.{Table}
use Rattle.rd_folder_drive.specs.Table.{HasNodes, IsSound, drive_of, kept_handle, marked, open_at}
use Rattle.rd_folder.specs.FolderCalls.{folder_read}
use Rattle.rd_folder_drive.proofs.AskLemmas.{read_from}
use Rattle.rd_folder_drive.proofs.LockLemmas.{any_on}
use Rattle.rd_folder_drive.proofs.TableLemmas as table

-- what has no length
pub none_left : (l : List ℕ) → (length l == 0) ≡ true → l ≡ []
none_left [] e = refl
none_left (x ∷ l) e = let none : length (x ∷ l) ≡ 0 = eqb-true (length (x ∷ l)) 0 e in absurd (omega (arith, none))

pub some_left : (l : List ℕ) → (length l == 0) ≡ false → l ≡ [] → ⊥
some_left l e none = let both : true ≡ false = sym (ap (λ (m : List ℕ). length m == 0) none) ∙ e in absurd (cc)

ends : (count len offset : ℕ) → min count (len - offset) ≡ 0 → (count ≡ 0 → ⊥) → nat_le len offset ≡ true
ends count len offset none some = grind (arith, nat_tests)

le_of : (len offset : ℕ) → nat_le len offset ≡ true → len ≤ offset
le_of len offset past = grind (arith, nat_tests)

-- a part of some bytes is empty exactly from their end on
part_ends : (bytes : List ℕ) (offset count : ℕ) → (count == 0) ≡ false → part bytes offset count ≡ [] → nat_le (length bytes) offset ≡ true
part_ends bytes offset count more nothing =
    let none : min count (length bytes - offset) ≡ 0 = sym (length-take count (drop offset bytes) ∙ ap (min count) (length-drop offset bytes)) ∙ ap length nothing in
    let some : (count ≡ 0) → ⊥ = λ zero. absurd (let both : true ≡ false = sym (eq-eqb count 0 zero) ∙ more in cc) in
    ends count (length bytes) offset none some

part_begins : (bytes : List ℕ) (offset count : ℕ) → (part bytes offset count ≡ [] → ⊥) → nat_le (length bytes) offset ≡ false
part_begins bytes offset count some = elim (cases_Bool (nat_le (length bytes) offset)) [
  | inl past ↦ absurd (some (ap (take count) (drop_of_length-le bytes (le_of (length bytes) offset past)) ∙ take-nil count))
  | inr within ↦ within
]

module _ (t : Table) (sound : IsSound t) (file offset asked : ℕ) (h : kept.Handle) (o : Open) (is : kept_handle t file ≡ Some h) (on : open_at t h.node ≡ Some o) (nodes : List Node) (holds : HasNodes t nodes) where
  abbrev pub s : DriveState
  s = drive_of t nodes

  abbrev pub node : Node
  node = table.node t sound nodes holds file h o is on

  abbrev pub comes : DriveState → Outcome
  comes s = on_handle s file (read s file offset asked)

  -- a read of so many bytes
  reading : ℕ → Outcome
  reading count =
      checked s
      ((is_folder_node node, fault invalid_device_request)
      ∷ (not (reads h.access), fault access_denied)
      ∷ (count == 0, done (Buffer []))
      ∷ (is_read_locked s file node.path (record { offset = offset; length = count }), fault file_lock_conflict)
      ∷ (nat_le (length (bytes_of node)) offset, fault end_of_file)
      ∷ [])
      (succeeded s (Buffer (part (bytes_of node) offset count)) no_news)

  read_is : comes s ≡ reading (min asked max_read)
  unfolding reading
  read_is = table.on_open t sound nodes holds file h o is on (read s file offset asked)

  opened : IsSome (open_at t h.node)
  opened = ap is_some on

  kind : is_folder_node node ≡ o.folder
  kind = table.kind t sound nodes holds file h o is on

  pub read_folder : o.folder ≡ true → comes s ≡ refused s invalid_device_request
  unfolding reading
  read_folder folder = read_is ∙ check_applies s _ _ _ (kind ∙ folder)

  module _ (plain : o.folder ≡ false) where
    pub read_denied : reads h.access ≡ false → comes s ≡ refused s access_denied
    unfolding reading
    read_denied denied = read_is ∙ check_passed s _ _ _ (kind ∙ plain) ∙ check_applies s _ _ _ (ap not denied)

    module _ (allowed : reads h.access ≡ true) (count : ℕ) (least : count ≡ min asked max_read) where
      goes : comes s ≡ checked s
          ((count == 0, done (Buffer []))
          ∷ (is_read_locked s file node.path (record { offset = offset; length = count }), fault file_lock_conflict)
          ∷ (nat_le (length (bytes_of node)) offset, fault end_of_file)
          ∷ [])
          (succeeded s (Buffer (part (bytes_of node) offset count)) no_news)
      unfolding reading
      goes = read_is ∙ ap reading (sym least) ∙ check_passed s _ _ _ (kind ∙ plain) ∙ check_passed s _ _ _ (ap not allowed)

      pub read_nothing : (count == 0) ≡ true → comes s ≡ outcome_with_reply s (done (Buffer []))
      read_nothing zero = goes ∙ check_applies s _ _ _ zero

      abbrev pub range : Range
      range = record { offset = offset; length = count }

      locks_seen : is_read_locked s file (marked t.opens.entries node).path range ≡ not (may_read t.locks.locks h.node file range)
      locks_seen =
          ap (λ (p : Names). is_read_locked s file p range) (table.node_at t sound nodes holds file h o is on)
          ∙ any_on t sound nodes h.node opened (λ (lock : drive.Lock). overlaps range lock.range && (lock.exclusive && not (lock.file == file))) t.locks.locks sound.locked
          ∙ ap (λ (q : Held → Bool). list_any q t.locks.locks) (λ i. λ (held : Held). sym (and_assoc (held.node == h.node) (overlaps range held.range) (held.exclusive && not (held.file == file))) i)
          ∙ sym (not-not (list_any (λ (held : Held). held.node == h.node && overlaps range held.range && (held.exclusive && not (held.file == file))) t.locks.locks))

      module _ (more : (count == 0) ≡ false) where
        pub read_locked : may_read t.locks.locks h.node file range ≡ false → comes s ≡ refused s file_lock_conflict
        read_locked locked = goes ∙ check_passed s _ _ _ more ∙ check_applies s _ _ _ (locks_seen ∙ ap not locked)

        module _ (free : may_read t.locks.locks h.node file range ≡ true) where
          passed : comes s ≡ checked s ((nat_le (length (bytes_of node)) offset, fault end_of_file) ∷ []) (succeeded s (Buffer (part (bytes_of node) offset count)) no_news)
          passed = goes ∙ check_passed s _ _ _ more ∙ check_passed s _ _ _ (locks_seen ∙ ap not free)

          -- what the folder reads
          pub read_gives : folder_read o.path offset count nodes ≡ Some (part (bytes_of node) offset count, nodes)
          read_gives = read_from o.path offset count nodes node (table.there t sound nodes holds file h o is on) (kind ∙ plain)

          pub read_past : part (bytes_of node) offset count ≡ [] → comes s ≡ refused s end_of_file
          read_past nothing = passed ∙ check_applies s _ _ _ (part_ends (bytes_of node) offset count more nothing)

          pub read_given : (part (bytes_of node) offset count ≡ [] → ⊥) → comes s ≡ succeeded s (Buffer (part (bytes_of node) offset count)) no_news
          read_given some = passed ∙ check_passed s _ _ _ (part_begins (bytes_of node) offset count some) ∙ checks_done s _

          -- what the folder answered is that part
          pub answered : (bytes : List ℕ) (left : List Node) → folder_read o.path offset count nodes ≡ Some (bytes, left) → part (bytes_of node) offset count ≡ bytes
          answered bytes left read = ap (λ (p : List ℕ × List Node). p.0) (same_Some _ _ (sym read_gives ∙ read))

          -- it is there to be read
          pub never_missing : folder_read o.path offset count nodes ≡ None → ⊥
          never_missing none = none-some _ (sym none ∙ read_gives)
