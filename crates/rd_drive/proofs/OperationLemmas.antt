-- Each operation is answered by a reply of its layout, or its request waits.
use Rattle.std.proofs.Common.{◌≡◌, refl, sym, subst, ℕ, ◌+◌, ◌≤◌, ◌==◌, ◌&&◌, ◌||◌, Bool, true, false, not, List, [], ◌∷◌, drop, length, length-take, Option, Some, None, min, if◌then◌else◌, arith}
use Rattle.std.specs.Prelude.{nat_lt}
use Rattle.std.proofs.Math.Nat.{min-le_left, min-le_right}
use Rattle.rd_base.specs.declared.journal.Key.{Key}
use Rattle.rd_irp.specs.declared.op.Op.{Op}
use Rattle.rd_irp.specs.declared.op.Op.TheVariants as op
use Rattle.rd_irp.specs.declared.op.Range.{Range}
use Rattle.rd_irp.specs.declared.completion.Reply.{Reply}
use Rattle.rd_irp.specs.declared.completion.Kind.{Kind}
use Rattle.rd_irp.specs.declared.completion.Kind.TheVariants as kind
use Rattle.rd_irp.specs.declared.completion.Body.TheVariants as body
use Rattle.rd_irp.specs.Fits.{kind_of, max_buffer, IsOfKind}
use Rattle.rd_contents.specs.Contents.{part}
use Rattle.rd_dirinfo.specs.Naming.{Name}
use Rattle.rd_dirinfo.specs.Patterns.{pattern_of}
use Rattle.rd_dirinfo.specs.Entry.{entry_bytes}
use Rattle.rd_fileinfo.specs.FileInfo.{file_info_bytes}
use Rattle.rd_fileinfo.specs.VolumeInfo.{volume_info_bytes}
use Rattle.rd_fileinfo.specs.declared.set_info.SetInfo.{SetInfo}
use Rattle.rd_fileinfo.specs.declared.set_info.SetInfo.TheVariants as set
use Rattle.rd_dirinfo.specs.Paths.{Names, parsed_path, is_within_limits}
use Rattle.rd_drive.specs.declared.asked.Asked.{Asked}
use Rattle.rd_drive.specs.DriveState.{DriveState, Handle, Lock, Node, Ranges, node_of_path, made_path, bytes_of}
use Rattle.rd_base.specs.declared.status.Status.{Status}
use Rattle.rd_drive.specs.Outcome.{News, checked, fault, no_news, one_of, refused, succeeded}
use Rattle.rd_drive.specs.Create.{create, open_or_make}
use Rattle.rd_drive.specs.Close.{close}
use Rattle.rd_drive.specs.ReadWrite.{read, write, max_read}
use Rattle.rd_drive.specs.SetFile.{set_file, checks_by_class, set_checks, set_info_of, set_outcome, set_end}
use Rattle.rd_drive.specs.SetVolume.{set_volume, label_of}
use Rattle.rd_drive.specs.Rename.{rename_to, relocate, without_target}
use Rattle.rd_drive.specs.Locking.{lock, conflicts, exclusive_lock, is_waiting_full, lock_count, locks_on, asked_locks, waits, with_locks, without_locks}
use Rattle.rd_drive.specs.Notify.{notify}
use Rattle.rd_drive.specs.Query.{query_file, query_volume, node_info, drive_info}
use Rattle.rd_drive.specs.QueryDir.{query_dir, lists, next_node, entry_of}
use Rattle.rd_drive.specs.DriveStep.{outcome_of}
use Rattle.rd_base.specs.Statuses as status
use Rattle.rd_locks.specs.Locks.{max_locks}
use Rattle.rd_drive.specs.Answered.{IsAnswered, IsFitting}
use Rattle.rd_drive.proofs.CheckLemmas.{check_applies, one_false, one_true}
use Rattle.rd_drive.proofs.AnswerLemmas.{Suits, SuitsAll, suits_fault, is_answered, is_done, after_checks, one_or_other, where_given, on_any_handle, lookup_has, found_has}
use Rattle.rd_drive.proofs.LengthLemmas.{can_count, file_info_length, volume_info_length, entry_length, last_length}

module _ (s : DriveState) (key : Key) where
  -- a refusal that isn't want of memory suits
  bad : (o : Op) (st : Status) → (st.0 == 0) ≡ false → (st.0 == (status.no_memory).0) ≡ false → Suits s key o (fault st)
  bad o st failed fed = suits_fault s key o st failed fed

  -- ---- Create

  pub create_answered : (access allocation attributes share disposition options : ℕ) (path : List ℕ) (moment : ℕ) (asked : Asked)
      → IsAnswered s key (op.Create access allocation attributes share disposition options path) (create s moment asked path)
  create_answered access allocation attributes share disposition options path moment asked =
      after_checks s key o _ (bad o status.invalid_parameter refl refl, tt) _
      (where_given s key o (parsed_path path) status.object_name_invalid _ (bad o status.object_name_invalid refl refl) (λ names e.
      after_checks s key o _ (bad o status.too_many_opened_files refl refl, (bad o status.object_path_not_found refl refl, tt)) _ (either names (node_of_path s names))))
    where
      o : Op
      o = op.Create access allocation attributes share disposition options path

      either : (names : Names) (found : Option Node) → IsAnswered s key o (open_or_make s asked moment names found)
      either names (Some node) =
          after_checks s key o _ (bad o status.object_name_collision refl refl, (bad o status.not_a_directory refl refl, (bad o status.file_is_a_directory refl refl, (bad o status.delete_pending refl refl, (bad o status.access_denied refl refl, (bad o status.access_denied refl refl, (bad o status.sharing_violation refl refl, tt))))))) _
          (one_or_other s key o _ _ _ (is_done s key o _ _ _ tt tt tt refl) (is_done s key o _ _ _ tt tt tt refl))
      either names None =
          after_checks s key o _ (bad o status.object_name_not_found refl refl, (bad o status.delete_pending refl refl, (bad o status.disk_full refl refl, tt))) _
          (is_done s key o _ _ _ tt tt tt refl)

  -- ---- Close

  pub close_answered : (file : ℕ) (handle : Handle) (node : Node) → IsAnswered s key op.Close (close s file handle node)
  close_answered file handle node =
      one_or_other s key op.Close _ _ _
      (one_or_other s key op.Close _ _ _ (is_done s key op.Close _ _ _ tt tt tt refl) (is_done s key op.Close _ _ _ tt tt tt refl))
      (is_done s key op.Close _ _ _ tt tt tt refl)

  -- ---- Write

  pub write_answered : (offset : ℕ) (bytes : List ℕ) (moment file : ℕ) (handle : Handle) (node : Node) → IsAnswered s key (op.Write offset bytes) (write s moment file offset bytes handle node)
  write_answered offset bytes moment file handle node =
      after_checks s key o _ (bad o status.invalid_device_request refl refl, (bad o status.access_denied refl refl, ((((tt, tt), tt), refl), (bad o status.file_lock_conflict refl refl, (bad o status.disk_full refl refl, tt))))) _
      (is_done s key o _ _ _ tt tt tt refl)
    where
      o : Op
      o = op.Write offset bytes

  -- ---- SetFile

  module _ (class : ℕ) (buffer : List ℕ) where
    abbrev pub o : Op
    o = op.SetFile class buffer

    checks_suit : (handle : Handle) (node : Node) (checks : List (Bool × Reply)) → set_checks handle node class ≡ Some checks → SuitsAll s key o checks
    checks_suit handle node checks e =
        let denied = bad o status.access_denied refl refl in
        let of_file = bad o status.invalid_device_request refl refl in
        lookup_has (SuitsAll s key o) (◌==◌ class) (checks_by_class handle node) checks e ((denied, tt), ((denied, tt), ((denied, tt), ((of_file, (denied, tt)), ((of_file, (denied, tt)), tt)))))

    rename_answered : (moment count : ℕ) (node : Node) (replace : Bool) (units : List ℕ) → IsAnswered s key o (rename_to s moment count node replace units)
    rename_answered moment count node replace units =
        where_given s key o (parsed_path units) status.object_name_invalid _ (bad o status.object_name_invalid refl refl) (λ path e.
        after_checks s key o _ (bad o status.access_denied refl refl, tt) _
        (one_or_other s key o _ _ _
        (one_or_other s key o _ _ _ (is_done s key o _ _ _ tt tt tt refl) (is_done s key o _ _ _ tt tt tt refl))
        (elsewhere path (node_of_path s path))))
      where
        elsewhere : (path : Names) (target : Option Node) → IsAnswered s key o (relocate s moment count node replace path (made_path s path) target)
        elsewhere path target =
            after_checks s key o _ (bad o status.invalid_parameter refl refl, (bad o status.object_path_not_found refl refl, (bad o status.object_name_invalid refl refl, (bad o status.object_name_collision refl refl, (bad o status.access_denied refl refl, tt))))) _
            (is_done s key o _ _ _ tt tt tt (kept target))
          where
            kept : (t : Option Node) → (without_target s t).waiting ≡ s.waiting
            kept None = refl
            kept (Some t) = refl

    end_answered : (moment count : ℕ) (node : Node) (asked end : ℕ) → IsAnswered s key o (set_end s moment count node asked end)
    end_answered moment count node asked end = after_checks s key o _ (bad o status.disk_full refl refl, tt) _ (is_done s key o _ _ _ tt tt tt refl)

    sets_answered : (moment count : ℕ) (node : Node) (info : SetInfo) → IsAnswered s key o (set_outcome s moment count node info)
    sets_answered moment count node (set.Basic moments attributes) = is_done s key o _ _ _ tt tt tt refl
    sets_answered moment count node (set.Rename replace units) = rename_answered moment count node replace units
    sets_answered moment count node (set.Disposition pending) =
        after_checks s key o _ (bad o status.access_denied refl refl, (bad o status.directory_not_empty refl refl, tt)) _ (is_done s key o _ _ _ tt tt tt refl)
    sets_answered moment count node (set.Allocation size) = end_answered moment count node size (min size (length (bytes_of node)))
    sets_answered moment count node (set.EndOfFile end) = end_answered moment count node end end

    pub set_file_answered : (moment : ℕ) (handle : Handle) (node : Node) → IsAnswered s key o (set_file s moment class buffer handle node)
    set_file_answered moment handle node =
        where_given s key o (set_checks handle node class) status.invalid_info_class _ (bad o status.invalid_info_class refl refl) (λ checks e.
        after_checks s key o checks (checks_suit handle node checks e) _
        (where_given s key o (set_info_of class buffer) status.invalid_parameter _ (bad o status.invalid_parameter refl refl) (λ info h. sets_answered moment (length buffer) node info)))

  -- ---- SetVolume

  pub set_volume_answered : (class : ℕ) (buffer : List ℕ) (handle : Handle) (node : Node) → IsAnswered s key (op.SetVolume class buffer) (set_volume s class buffer handle node)
  set_volume_answered class buffer handle node =
      after_checks s key o _ (suits_fault s key o status.invalid_info_class refl refl, tt) _
      (where_given s key o (label_of buffer) status.invalid_parameter _ (suits_fault s key o status.invalid_parameter refl refl) (λ label e. is_done s key o _ _ _ tt tt tt refl))
    where
      o : Op
      o = op.SetVolume class buffer

  -- ---- Lock, Notify

  pub lock_answered : (operation : ℕ) (wait : Bool) (ranges : List Range) (file : ℕ) (handle : Handle) (node : Node) → IsAnswered s key (op.Lock operation wait ranges) (lock s key file operation wait ranges handle node)
  lock_answered operation wait ranges file handle node =
      after_checks s key o _ (bad o status.invalid_device_request refl refl, (bad o status.access_denied refl refl, (bad o status.invalid_parameter refl refl, tt))) _
      (one_or_other s key o _ _ _
      (where_given s key o (without_locks file s.locks ranges) status.range_not_locked _ (bad o status.range_not_locked refl refl) (λ locks e. is_done s key o _ _ _ tt tt tt refl))
      (by wait refl (conflicts (locks_on s node.path) wanted) (conflicts [] wanted) (is_waiting_full s) (nat_lt max_locks (lock_count s + length ranges))))
    where
      o : Op
      o = op.Lock operation wait ranges

      wanted : List Lock
      wanted = asked_locks file (operation == exclusive_lock) ranges

      -- what is in the way of locks that don't wait refuses them
      by : (w : Bool) → wait ≡ w → (blocked own full past : Bool)
          → IsAnswered s key o (checked s ((blocked && (not w || own), fault status.lock_not_granted) ∷ (blocked && full, fault status.insufficient_resources) ∷ (past, fault status.insufficient_resources) ∷ [])
          (one_of blocked (waits s key file (Ranges (operation == exclusive_lock) ranges)) (succeeded (with_locks s wanted) body.Locked no_news)))
      by false is true own full past = subst (IsAnswered s key o) (sym (check_applies s _ _ _ refl)) (is_answered s key o _ (bad o status.lock_not_granted refl refl))
      by w is false own full past =
          after_checks s key o _ (bad o status.lock_not_granted refl refl, (bad o status.insufficient_resources refl refl, (bad o status.insufficient_resources refl refl, tt))) _
          (subst (IsAnswered s key o) (sym (one_false false _ _ refl)) (is_done s key o _ _ _ tt tt tt refl))
      by true is true own full past =
          after_checks s key o _ (bad o status.lock_not_granted refl refl, (bad o status.insufficient_resources refl refl, (bad o status.insufficient_resources refl refl, tt))) _
          (subst (IsAnswered s key o) (sym (one_true true _ _ refl)) (record { by = (_, refl, refl, is) }))

  pub notify_answered : (deep : Bool) (filter file : ℕ) (handle : Handle) (node : Node) → IsAnswered s key (op.Notify deep filter) (notify s key file deep filter handle node)
  notify_answered deep filter file handle node =
      after_checks s key o _ (suits_fault s key o status.invalid_parameter refl refl, (suits_fault s key o status.insufficient_resources refl refl, tt)) _ (record { by = (_, refl, refl, refl) })
    where
      o : Op
      o = op.Notify deep filter

  -- ---- Read, and what is told of files, the volume and folders

  -- a success with bytes that aren't too many
  told : (o : Op) → IsOfKind (kind_of o) (body.Buffer []) → (new : DriveState) (bytes : List ℕ) (news : News) → length bytes ≤ max_buffer → new.waiting ≡ s.waiting → IsAnswered s key o (succeeded new (body.Buffer bytes) news)
  told o buffered new bytes news few same = is_done s key o new (body.Buffer bytes) news (any_buffer (kind_of o) buffered) (can_count bytes few) few same
    where
      any_buffer : (k : Kind) → IsOfKind k (body.Buffer []) → IsOfKind k (body.Buffer bytes)
      any_buffer kind.Create b = b
      any_buffer kind.Close b = b
      any_buffer kind.Count b = b
      any_buffer kind.Buffer b = b
      any_buffer kind.Lock b = b

  empty_sends : length {A = ℕ} [] ≤ max_buffer
  empty_sends = omega arith

  pub read_answered : (offset count file : ℕ) (handle : Handle) (node : Node) → IsAnswered s key (op.Read offset count) (read s file offset count handle node)
  read_answered offset count file handle node =
      after_checks s key o _ (bad o status.invalid_device_request refl refl, (bad o status.access_denied refl refl, ((((tt, can_count [] empty_sends), empty_sends), refl), (bad o status.file_lock_conflict refl refl, (bad o status.end_of_file refl refl, tt))))) _
      (told o tt s (part (bytes_of node) offset (min count max_read)) no_news few refl)
    where
      o : Op
      o = op.Read offset count

      few : length (part (bytes_of node) offset (min count max_read)) ≤ max_buffer
      few =
          let size = length-take (min count max_read) (drop offset (bytes_of node)) in
          let first = min-le_left (min count max_read) (length (drop offset (bytes_of node))) in
          let second = min-le_right count max_read in
          omega (arith, size, first, second)

  pub query_file_answered : (class : ℕ) (handle : Handle) (node : Node) → IsAnswered s key (op.QueryFile class) (query_file s class handle node)
  query_file_answered class handle node =
      where_given s key o (node_info node class) status.invalid_info_class _ (suits_fault s key o status.invalid_info_class refl refl) (λ info e.
      told o tt s (file_info_bytes info) no_news (file_info_length node class info e) refl)
    where
      o : Op
      o = op.QueryFile class

  pub query_volume_answered : IsFitting s → (class : ℕ) (handle : Handle) (node : Node) → IsAnswered s key (op.QueryVolume class) (query_volume s class handle node)
  query_volume_answered fitting class handle node =
      where_given s key o (drive_info s class) status.invalid_info_class _ (suits_fault s key o status.invalid_info_class refl refl) (λ info e.
      told o tt s (volume_info_bytes info) no_news (volume_info_length s fitting class info e) refl)
    where
      o : Op
      o = op.QueryVolume class

  pub query_dir_answered : IsFitting s → (class : ℕ) (initial : Bool) (units : List ℕ) (file : ℕ) (handle : Handle) (node : Node)
      → IsAnswered s key (op.QueryDir class initial units) (query_dir s file class initial units handle node)
  query_dir_answered fitting class initial units file handle node =
      after_checks s key o _ (bad o status.invalid_parameter refl refl, (bad o status.invalid_info_class refl refl, (bad o status.object_name_invalid refl refl, tt))) _
      (listed (if initial then pattern_of units else handle.pattern) (if initial then None else handle.last) initial)
    where
      o : Op
      o = op.QueryDir class initial units

      of : (pattern : List ℕ) (last : Option Name) (anew : Bool) (found : Option Node) → next_node s node.path pattern last ≡ found → IsAnswered s key o (lists s file class anew handle pattern last found)
      of pattern last true None e = let suits = bad o status.no_such_file refl refl in record { by = (suits.0, suits.1, refl) }
      of pattern last false None e = let suits = bad o status.no_more_files refl refl in record { by = (suits.0, suits.1, refl) }
      of pattern last anew (Some found) e =
          told o tt _ (entry_bytes class (entry_of found)) no_news (entry_length class (entry_of found) (last_length found.path (found_has (λ (n : Node). is_within_limits n.path ≡ true) _ s.nodes found e fitting.paths))) refl

      listed : (pattern : List ℕ) (last : Option Name) (anew : Bool) → IsAnswered s key o (lists s file class anew handle pattern last (next_node s node.path pattern last))
      listed pattern last anew = of pattern last anew (next_node s node.path pattern last) refl

  -- ---- all of them

  refused_answered : (o : Op) (st : Status) → (st.0 == 0) ≡ false → (st.0 == (status.no_memory).0) ≡ false → IsAnswered s key o (refused s st)
  refused_answered o st failed fed = is_answered s key o (fault st) (suits_fault s key o st failed fed)

  pub outcome_answered : IsFitting s → (file : ℕ) (o : Op) (moment : ℕ) → IsAnswered s key o (outcome_of s key file o moment)
  outcome_answered fitting file (op.Malformed major minor wrong) moment = refused_answered (op.Malformed major minor wrong) status.invalid_parameter refl refl
  outcome_answered fitting file (op.Unknown major minor) moment = refused_answered (op.Unknown major minor) status.not_supported refl refl
  outcome_answered fitting file (op.Create access allocation attributes share disposition options path) moment =
      create_answered access allocation attributes share disposition options path moment (record { access = access; attributes = attributes; share = share; disposition = disposition; options = options })
  outcome_answered fitting file op.Close moment = on_any_handle s key op.Close file _ (λ handle node e. close_answered file handle node)
  outcome_answered fitting file (op.Read offset count) moment = on_any_handle s key (op.Read offset count) file _ (λ handle node e. read_answered offset count file handle node)
  outcome_answered fitting file (op.Write offset bytes) moment = on_any_handle s key (op.Write offset bytes) file _ (λ handle node e. write_answered offset bytes moment file handle node)
  outcome_answered fitting file (op.QueryFile class) moment = on_any_handle s key (op.QueryFile class) file _ (λ handle node e. query_file_answered class handle node)
  outcome_answered fitting file (op.SetFile class buffer) moment = on_any_handle s key (op.SetFile class buffer) file _ (λ handle node e. set_file_answered class buffer moment handle node)
  outcome_answered fitting file (op.QueryVolume class) moment = on_any_handle s key (op.QueryVolume class) file _ (λ handle node e. query_volume_answered fitting class handle node)
  outcome_answered fitting file (op.SetVolume class buffer) moment = on_any_handle s key (op.SetVolume class buffer) file _ (λ handle node e. set_volume_answered class buffer handle node)
  outcome_answered fitting file (op.QueryDir class initial path) moment = on_any_handle s key (op.QueryDir class initial path) file _ (λ handle node e. query_dir_answered fitting class initial path file handle node)
  outcome_answered fitting file (op.Notify deep filter) moment = on_any_handle s key (op.Notify deep filter) file _ (λ handle node e. notify_answered deep filter file handle node)
  outcome_answered fitting file (op.Control output code bytes) moment =
      on_any_handle s key (op.Control output code bytes) file _ (λ handle node e. refused_answered (op.Control output code bytes) status.not_supported refl refl)
  outcome_answered fitting file (op.Lock operation wait ranges) moment = on_any_handle s key (op.Lock operation wait ranges) file _ (λ handle node e. lock_answered operation wait ranges file handle node)
