-- Locks and unlocks of what a file id has open, check by check, over any nodes.
use Rattle.std.proofs.Common.{◌≡◌, ◌∙◌, refl, sym, ap, ℕ, ◌+◌, ◌==◌, ◌<◌, ◌≤◌, Bool, true, false, not, ◌&&◌, ◌||◌, List, [], ◌∷◌, ◌++◌, map, length, sum_by, Option, Some, None, Ok, Err}
use Rattle.std.specs.Prelude.{nat_lt, nat_le}
use Rattle.std.specs.List.{list_any, AllByRecursion}
use Rattle.std.specs.Option.{option_map, unwrap_or, is_some, IsSome}
use Rattle.std.proofs.lemmas.List.{length-map}
use Rattle.std.proofs.lemmas.List.Sums.{sum_by-cons}
use Rattle.std.proofs.lemmas.Bool.{lt-ltb, le-ltb, le-leb, lt-leb}
use Rattle.rd_base.specs.declared.journal.Key.{Key}
use Rattle.rd_irp.specs.declared.op.Range.{Range}
use Rattle.rd_irp.specs.declared.completion.Body.TheVariants.{Locked}
use Rattle.rd_irp.specs.declared.completion.Reply.{Reply}
use Rattle.rd_dirinfo.specs.Paths.{Names}
use Rattle.rd_locks.specs.declared.held.Held.{Held}
use Rattle.rd_locks.specs.Locks as held
use Rattle.rd_locks.specs.Locks.{conflict, unlocked}
use Rattle.rd_drive.specs.declared.waiting.Wish.{Wish}
use Rattle.rd_drive.specs.declared.waiting.Wish.TheVariants as kept_wish
use Rattle.rd_drive.specs.declared.waiting.Waiting as kept_waiting
use Rattle.rd_drive.specs.DriveState as drive
use Rattle.rd_drive.specs.DriveState.{DriveState, Node, is_at_path, is_folder_node}
use Rattle.rd_drive.specs.Access.{reads, writes}
use Rattle.rd_drive.specs.Outcome.{Outcome, checked, given, one_of, refused, succeeded, no_news, fault, on_handle}
use Rattle.rd_drive.specs.Locking.{conflicts, exclusive_lock, is_lock_operation, is_past_end, is_unlock, is_waiting_full, lock, lock_count, lock_ranges, locks_on, range_count, unlocking, unlock_ranges, asked_locks, with_locks, waits, without_locks}
use Rattle.rd_base.specs.Statuses.{invalid_device_request, access_denied, invalid_parameter, lock_not_granted, insufficient_resources, range_not_locked}
use Rattle.rd_drive.specs.Store.{lock_of, waiting_of, wish_of, wish_ranges}
use Rattle.rd_drive.proofs.AllLemmas.{all_append}
use Rattle.rd_drive.proofs.CheckLemmas.{check_applies, check_passed, checks_done, given_some, given_none, one_true, one_false}
use Rattle.rd_drive.proofs.ConflictLemmas.{IsItsOwn, conflicts_seen, left_of, unlocked_seen}
use Rattle.rd_folder_drive.specs.declared.handle.Handle as kept
use Rattle.rd_folder_drive.specs.declared.open.Open.{Open}
use Rattle.rd_folder_drive.specs.declared.table.Table.{Table}
use Rattle.rd_folder_drive.specs.Table.{HasNodes, IsSound, IsSoundBut, drive_of, handle_of, kept_handle, marked, open_at, path_at}
use Rattle.rd_folder_drive.proofs.LockLemmas.{IsHome, any_on}
use Rattle.rd_folder_drive.proofs.TableLemmas as opened
use Rattle.rd_folder_drive.proofs.TableLemmas.{on_open, path_is}

-- ---- locks that stand have their handles

-- a file id has open what has this number
abbrev pub Opens : Table → ℕ → ℕ → Type 0
Opens t n file = option_map (λ (h : kept.Handle). h.node) (kept_handle t file) ≡ Some n

wanted_homes : (t : Table) (n file : ℕ) (exclusive : Bool) (ranges : List Range) → Opens t n file → AllByRecursion (IsHome t) (held.wanted_locks n file exclusive ranges)
wanted_homes t n file exclusive [] opens = tt
wanted_homes t n file exclusive (range ∷ ranges) opens = (opens, wanted_homes t n file exclusive ranges opens)

pub more_homes : (t : Table) (n file : ℕ) (exclusive : Bool) (ranges : List Range) → Opens t n file
    → (locks : List Held) → AllByRecursion (IsHome t) locks → AllByRecursion (IsHome t) (locks ++ held.wanted_locks n file exclusive ranges)
more_homes t n file exclusive ranges opens locks homes = all_append (IsHome t) locks (held.wanted_locks n file exclusive ranges) homes (wanted_homes t n file exclusive ranges opens)

-- each lock of a file id that is open is on what it has open
all_own : (t : Table) (n file : ℕ) → Opens t n file → (l : List Held) → AllByRecursion (IsHome t) l → AllByRecursion (IsItsOwn n file) l
all_own t n file opens [] homes = tt
all_own t n file opens (lock ∷ l) homes = (own, all_own t n file opens l homes.1)
  where
    own : lock.file ≡ file → lock.node ≡ n
    own e = ap (λ (o : Option ℕ). unwrap_or o 0) (sym homes.0 ∙ ap (λ (f : ℕ). option_map (λ (h : kept.Handle). h.node) (kept_handle t f)) e ∙ opens)

-- an open file id has a handle
pub opens_some : (t : Table) (n file : ℕ) → Opens t n file → IsSome (kept_handle t file)
opens_some t n file opens = by (kept_handle t file) opens
  where
    by : (o : Option kept.Handle) → option_map (λ (h : kept.Handle). h.node) o ≡ Some n → IsSome o
    by None h = absurd (cc)
    by (Some handle) h = refl

-- ---- how many there are

wish_count : (w : Wish) → range_count (wish_of w) ≡ wish_ranges w
wish_count (kept_wish.Ranges exclusive ranges) = refl
wish_count (kept_wish.Change deep filter room) = refl

waiting_count : (ws : List kept_waiting.Waiting) → sum_by (λ (w : drive.Waiting). range_count w.wish) (map waiting_of ws) ≡ sum_by (λ (w : kept_waiting.Waiting). wish_ranges w.wish) ws
waiting_count [] = refl
waiting_count (w ∷ ws) =
    sum_by-cons (λ (o : drive.Waiting). range_count o.wish) (waiting_of w) (map waiting_of ws)
    ∙ (λ i. wish_count w.wish i + waiting_count ws i)
    ∙ sym (sum_by-cons (λ (o : kept_waiting.Waiting). wish_ranges o.wish) w ws)

count_seen : {closed : Option ℕ} (t : Table) → IsSoundBut closed t → (nodes : List Node) → lock_count (drive_of t nodes) ≡ length t.locks.locks + t.locks.reserved
count_seen t sound nodes = λ i. length-map t.locks.locks lock_of i + (waiting_count t.waiting.items ∙ sym sound.reserved) i

-- ---- unlocking

module _ (t : Table) (nodes : List Node) (n file : ℕ) (opens : Opens t n file) (homes : AllByRecursion (IsHome t) t.locks.locks) (path : Names) (ranges : List Range) where
  left : without_locks file (map lock_of t.locks.locks) ranges ≡ left_of (unlocked n file t.locks.locks ranges)
  left = unlocked_seen n file ranges t.locks.locks (all_own t n file opens t.locks.locks homes)

  pub unlock_done : (locks : List Held) → unlocked n file t.locks.locks ranges ≡ Ok locks
      → unlock_ranges (drive_of t nodes) file path ranges ≡ succeeded (record (drive_of t nodes) { locks = map lock_of locks }) Locked (unlocking path)
  unlock_done locks e =
      ap (λ o. given (drive_of t nodes) o range_not_locked (λ ls. succeeded (record (drive_of t nodes) { locks = ls }) Locked (unlocking path))) (left ∙ ap left_of e)
      ∙ given_some (drive_of t nodes) (map lock_of locks) range_not_locked (λ ls. succeeded (record (drive_of t nodes) { locks = ls }) Locked (unlocking path))

  pub unlock_missing : (range : Range) → unlocked n file t.locks.locks ranges ≡ Err range → unlock_ranges (drive_of t nodes) file path ranges ≡ refused (drive_of t nodes) range_not_locked
  unlock_missing range e =
      ap (λ o. given (drive_of t nodes) o range_not_locked (λ ls. succeeded (record (drive_of t nodes) { locks = ls }) Locked (unlocking path))) (left ∙ ap left_of e)
      ∙ given_none (drive_of t nodes) range_not_locked (λ ls. succeeded (record (drive_of t nodes) { locks = ls }) Locked (unlocking path))

-- ---- locking ranges

-- whether a lock on the file is in the way of those that are wanted
pub blocked_seen : {closed : Option ℕ} (t : Table) → IsSoundBut closed t → (nodes : List Node) (n : ℕ) → IsSome (open_at t n) → (file : ℕ) (exclusive : Bool) (ranges : List Range)
    → conflicts (locks_on (drive_of t nodes) (path_at t n)) (asked_locks file exclusive ranges) ≡ is_some (conflict t.locks.locks (held.wanted_locks n file exclusive ranges))
blocked_seen t sound nodes n on file exclusive ranges =
    conflicts_seen n file exclusive ranges (locks_on (drive_of t nodes) (path_at t n)) t.locks.locks (λ q. any_on t sound nodes n on q t.locks.locks sound.locked)

module _ (t : Table) (sound : IsSound t) (n : ℕ) (on : IsSome (open_at t n)) (key : Key) (file : ℕ) (exclusive wait : Bool) (ranges : List Range) (nodes : List Node) where
  abbrev in_way : Option Held
  in_way = conflict t.locks.locks (held.wanted_locks n file exclusive ranges)

  abbrev s : DriveState
  s = drive_of t nodes

  abbrev ranges_come : Outcome
  ranges_come = lock_ranges s key file (path_at t n) exclusive wait ranges

  abbrev wanted : List drive.Lock
  wanted = asked_locks file exclusive ranges

  blocked : conflicts (locks_on s (path_at t n)) wanted ≡ is_some in_way
  blocked = blocked_seen t sound nodes n on file exclusive ranges

  among_themselves : conflicts [] wanted ≡ is_some (conflict [] (held.wanted_locks n file exclusive ranges))
  among_themselves = conflicts_seen n file exclusive ranges [] [] (λ q. refl)

  counted : lock_count s + length ranges ≡ length t.locks.locks + t.locks.reserved + length ranges
  counted = ap (λ k. k + length ranges) (count_seen t sound nodes)

  module _ (free : is_some in_way ≡ false) where
    free_seen : conflicts (locks_on s (path_at t n)) wanted ≡ false
    free_seen = blocked ∙ free

    pub lock_granted : length t.locks.locks + t.locks.reserved + length ranges ≤ 65536 → ranges_come ≡ succeeded (with_locks s wanted) Locked no_news
    lock_granted few =
        check_passed s _ _ _ (ap (λ b. b && (not wait || conflicts [] wanted)) free_seen)
        ∙ check_passed s _ _ _ (ap (λ b. b && is_waiting_full s) free_seen)
        ∙ check_passed s _ _ _ (ap (λ k. nat_lt 65536 k) counted ∙ le-ltb 65536 (length t.locks.locks + t.locks.reserved + length ranges) few)
        ∙ checks_done s _ ∙ one_false _ _ _ free_seen

    pub lock_full : 65536 < length t.locks.locks + t.locks.reserved + length ranges → ranges_come ≡ refused s insufficient_resources
    lock_full many =
        check_passed s _ _ _ (ap (λ b. b && (not wait || conflicts [] wanted)) free_seen)
        ∙ check_passed s _ _ _ (ap (λ b. b && is_waiting_full s) free_seen)
        ∙ check_applies s _ _ _ (ap (λ k. nat_lt 65536 k) counted ∙ lt-ltb 65536 (length t.locks.locks + t.locks.reserved + length ranges) many)

  module _ (way : is_some in_way ≡ true) where
    way_seen : conflicts (locks_on s (path_at t n)) wanted ≡ true
    way_seen = blocked ∙ way

    pub lock_denied : (not wait || is_some (conflict [] (held.wanted_locks n file exclusive ranges))) ≡ true → ranges_come ≡ refused s lock_not_granted
    lock_denied never = check_applies s _ _ _ ((λ i. way_seen i && (not wait || among_themselves i)) ∙ never)

    module _ (may : (not wait || is_some (conflict [] (held.wanted_locks n file exclusive ranges))) ≡ false) where
      pub wait_refused : 64 ≤ length t.waiting.items → ranges_come ≡ refused s insufficient_resources
      wait_refused many =
          check_passed s _ _ _ ((λ i. way_seen i && (not wait || among_themselves i)) ∙ may)
          ∙ check_applies s _ _ _ ((λ i. way_seen i && nat_le 64 (length-map t.waiting.items waiting_of i)) ∙ le-leb 64 (length t.waiting.items) many)

      -- too many locks there would be, whether or not too many requests wait already
      pub wait_full : 65536 < length t.locks.locks + t.locks.reserved + length ranges → ranges_come ≡ refused s insufficient_resources
      wait_full many =
          check_passed s _ _ _ ((λ i. way_seen i && (not wait || among_themselves i)) ∙ may)
          ∙ by (is_waiting_full s) refl
        where
          third : (b : Bool) → b ≡ nat_lt 65536 (lock_count s + length ranges) → b ≡ true
          third b e = e ∙ ap (λ k. nat_lt 65536 k) counted ∙ lt-ltb 65536 (length t.locks.locks + t.locks.reserved + length ranges) many

          rest : List (Bool × Reply)
          rest = (nat_lt 65536 (lock_count s + length ranges), fault insufficient_resources) ∷ []

          last : Outcome
          last = one_of (conflicts (locks_on s (path_at t n)) wanted) (waits s key file (drive.Ranges exclusive ranges)) (succeeded (with_locks s wanted) Locked no_news)

          by : (b : Bool) → is_waiting_full s ≡ b → checked s ((conflicts (locks_on s (path_at t n)) wanted && is_waiting_full s, fault insufficient_resources) ∷ rest) last ≡ refused s insufficient_resources
          by true e = check_applies s _ _ _ (λ i. way_seen i && e i)
          by false e = check_passed s _ _ _ (λ i. way_seen i && e i) ∙ check_applies s _ _ _ (third _ refl)

      pub lock_waits : length t.waiting.items < 64 → length t.locks.locks + t.locks.reserved + length ranges ≤ 65536 → ranges_come ≡ waits s key file (drive.Ranges exclusive ranges)
      lock_waits few room =
          check_passed s _ _ _ ((λ i. way_seen i && (not wait || among_themselves i)) ∙ may)
          ∙ check_passed s _ _ _ ((λ i. way_seen i && nat_le 64 (length-map t.waiting.items waiting_of i)) ∙ lt-leb 64 (length t.waiting.items) few)
          ∙ check_passed s _ _ _ (ap (λ k. nat_lt 65536 k) counted ∙ le-ltb 65536 (length t.locks.locks + t.locks.reserved + length ranges) room)
          ∙ checks_done s _ ∙ one_true _ _ _ way_seen

-- ---- the whole operation

module _ (t : Table) (sound : IsSound t) (file : ℕ) (h : kept.Handle) (o : Open) (is : kept_handle t file ≡ Some h) (on : open_at t h.node ≡ Some o) (key : Key) (operation : ℕ) (wait : Bool) (ranges : List Range) (nodes : List Node) (holds : HasNodes t nodes) where
  abbrev over : DriveState
  over = drive_of t nodes

  abbrev node : Node
  node = marked t.opens.entries (opened.node t sound nodes holds file h o is on)

  own_here : node.path ≡ path_at t h.node
  own_here = opened.node_at t sound nodes holds file h o is on

  abbrev comes : Outcome
  comes = on_handle over file (lock over key file operation wait ranges)

  goes : comes ≡ lock over key file operation wait ranges (handle_of t h) node
  goes = on_open t sound nodes holds file h o is on (lock over key file operation wait ranges)

  kind : is_folder_node node ≡ o.folder
  kind = opened.kind t sound nodes holds file h o is on

  pub lock_folder : o.folder ≡ true → comes ≡ refused over invalid_device_request
  lock_folder folder = goes ∙ check_applies over _ _ _ (kind ∙ folder)

  module _ (file_is : o.folder ≡ false) where
    pub lock_closed : (reads h.access || writes h.access) ≡ false → comes ≡ refused over access_denied
    lock_closed denied = goes ∙ check_passed over _ _ _ (kind ∙ file_is) ∙ check_applies over _ _ _ (ap not denied)

    module _ (allowed : (reads h.access || writes h.access) ≡ true) where
      pub lock_invalid : (not (is_lock_operation operation) || list_any is_past_end ranges) ≡ true → comes ≡ refused over invalid_parameter
      lock_invalid bad = goes ∙ check_passed over _ _ _ (kind ∙ file_is) ∙ check_passed over _ _ _ (ap not allowed) ∙ check_applies over _ _ _ bad

      module _ (valid : (not (is_lock_operation operation) || list_any is_past_end ranges) ≡ false) where
        pub lock_unlocks : is_unlock operation ≡ true → comes ≡ unlock_ranges over file (path_at t h.node) ranges
        lock_unlocks e =
            goes ∙ check_passed over _ _ _ (kind ∙ file_is) ∙ check_passed over _ _ _ (ap not allowed) ∙ check_passed over _ _ _ valid ∙ checks_done over _ ∙ one_true _ _ _ e
            ∙ ap (λ (p : Names). unlock_ranges over file p ranges) own_here

        pub lock_locks : is_unlock operation ≡ false → comes ≡ lock_ranges over key file (path_at t h.node) (operation == exclusive_lock) wait ranges
        lock_locks e =
            goes ∙ check_passed over _ _ _ (kind ∙ file_is) ∙ check_passed over _ _ _ (ap not allowed) ∙ check_passed over _ _ _ valid ∙ checks_done over _ ∙ one_false _ _ _ e
            ∙ ap (λ (p : Names). lock_ranges over key file p (operation == exclusive_lock) wait ranges) own_here
