-- Locks and unlocks of what a file id has open, check by check.
use Rattle.std.proofs.Common.{◌≡◌, ◌∙◌, refl, sym, ap, subst, inl, ℕ, ◌+◌, ◌==◌, ◌<◌, ◌≤◌, Bool, true, false, not, ◌&&◌, ◌||◌, List, [], ◌∷◌, ◌++◌, map, length, Option, Some, None, Ok, Err, arith}
use Rattle.std.specs.Prelude.{nat_lt, nat_le}
use Rattle.std.specs.List.{list_any, AllByRecursion}
use Rattle.std.specs.Option.{option_and_then, option_map, unwrap_or, is_some, IsSome}
use Rattle.std.proofs.lemmas.List.{length-map}
use Rattle.std.proofs.lemmas.Bool.{lt-ltb, le-ltb, le-leb, lt-leb}
use Rattle.rd_base.specs.declared.journal.Key.{Key}
use Rattle.rd_base.specs.declared.status.Status.{Status}
use Rattle.rd_irp.specs.declared.op.Range.{Range}
use Rattle.rd_irp.specs.declared.completion.Body.TheVariants.{Locked}
use Rattle.rd_irp.specs.declared.completion.Reply.{Reply}
use Rattle.rd_dirinfo.specs.Paths.{Names}
use Rattle.rd_locks.specs.declared.held.Held.{Held}
use Rattle.rd_locks.specs.Locks as held
use Rattle.rd_locks.specs.Locks.{LockList, conflict, unlocked}
use Rattle.rd_tree.specs.Places.{Place, place, own_path, bytes_at, IsLive}
use Rattle.rd_drive.specs.declared.handle.Handle as kept
use Rattle.rd_drive.specs.declared.store.Store.{Store}
use Rattle.rd_drive.specs.DriveState as drive
use Rattle.rd_drive.specs.DriveState.{Node, is_folder_node}
use Rattle.rd_drive.specs.Access.{reads, writes}
use Rattle.rd_drive.specs.Outcome.{Outcome, checked, given, one_of, refused, succeeded, no_news, fault, on_handle}
use Rattle.rd_drive.specs.Locking.{conflicts, exclusive_lock, is_lock_operation, is_past_end, is_unlock, is_waiting_full, lock, lock_count, lock_ranges, locks_on, unlocking, unlock_ranges, asked_locks, with_locks, waits, without_locks}
use Rattle.rd_base.specs.Statuses.{invalid_device_request, access_denied, invalid_parameter, lock_not_granted, insufficient_resources, range_not_locked}
use Rattle.rd_drive.specs.Store.{state_of, node_with, handle_of, drive_of, kept_handle, lock_of, waiting_of, IsSound, IsSoundBut, Serves}
use Rattle.rd_drive.proofs.AllLemmas.{all_append}
use Rattle.rd_drive.proofs.CheckLemmas.{check_applies, check_passed, checks_done, given_some, given_none, one_true, one_false}
use Rattle.rd_drive.proofs.HandleLemmas.{on_open}
use Rattle.rd_drive.proofs.LockLemmas.{any_on}
use Rattle.rd_drive.proofs.ConflictLemmas.{IsHome, all_own, conflicts_seen, count_seen, left_of, unlocked_seen}

pub not_more : (a b : ℕ) → (a < b → ⊥) → b ≤ a
not_more a b h = omega arith

pub none_found : (o : Option Held) → ((lock : Held) → o ≡ Some lock → ⊥) → o ≡ None
none_found None f = refl
none_found (Some lock) f = absurd (f lock refl)

-- what is in the way of what is wanted where nothing is locked
pub alone_is : (locks : LockList) (found : Option Held) (wanted : List Held) → locks ≡ record { locks = []; reserved = 0 } → found ≡ conflict locks.locks wanted → conflict [] wanted ≡ found
alone_is locks found wanted none is = sym (is ∙ ap (λ (ls : LockList). conflict ls.locks wanted) none)

-- ---- locks that stand have their handles

wanted_homes : (s : Store) (n file : ℕ) (exclusive : Bool) (ranges : List Range) → option_map (λ (h : kept.Handle). h.node.0) (kept_handle s file) ≡ Some n → AllByRecursion (IsHome s) (held.wanted_locks n file exclusive ranges)
wanted_homes s n file exclusive [] opened = tt
wanted_homes s n file exclusive (range ∷ ranges) opened = (opened, wanted_homes s n file exclusive ranges opened)

pub more_homes : (s : Store) (n file : ℕ) (exclusive : Bool) (ranges : List Range) → option_map (λ (h : kept.Handle). h.node.0) (kept_handle s file) ≡ Some n
    → (locks : List Held) → AllByRecursion (IsHome s) locks → AllByRecursion (IsHome s) (locks ++ held.wanted_locks n file exclusive ranges)
more_homes s n file exclusive ranges opened locks homes = all_append (IsHome s) locks (held.wanted_locks n file exclusive ranges) homes (wanted_homes s n file exclusive ranges opened)

-- other locks, and as many places reserved
pub sound_with : {closed : Option ℕ} (s : Store) → IsSoundBut closed s → (locks : LockList) → locks.reserved ≡ s.locks.reserved → AllByRecursion (IsHome s) locks.locks → IsSoundBut closed (record s { locks = locks })
sound_with s sound locks same homes = record {
  whole = sound.whole;
  naming = sound.naming;
  label = sound.label;
  states = sound.states;
  root = sound.root;
  fitting = sound.fitting;
  opened = sound.opened;
  uses = sound.uses;
  locked = homes;
  waits = sound.waits;
  reserved = same ∙ sound.reserved;
  few = sound.few;
  ids = sound.ids;
}

-- a call that left the locks as they were is refused
pub serves_refused : (s : Store) → IsSound s → (locks : LockList) → locks ≡ s.locks → (comes : Outcome) (status : Status) → comes ≡ refused (drive_of s) status → Serves s (record s { locks = locks }) comes (Err status)
serves_refused s sound locks same comes status e = subst (λ (ls : LockList). Serves s (record s { locks = ls }) comes (Err status)) (sym same) (sound, inl e)

-- the node that an open file id has is live
pub opened_live : {closed : Option ℕ} (s : Store) → IsSoundBut closed s → (n file : ℕ) → option_map (λ (h : kept.Handle). h.node.0) (kept_handle s file) ≡ Some n → IsLive s.tree n
opened_live s sound n file opened = by (kept_handle s file) refl opened
  where
    by : (o : Option kept.Handle) → kept_handle s file ≡ o → option_map (λ (h : kept.Handle). h.node.0) o ≡ Some n → IsLive s.tree n
    by None e h = absurd (cc)
    by (Some handle) e h = subst (λ (m : ℕ). IsLive s.tree m) (ap (λ (o : Option ℕ). unwrap_or o 0) h) (sound.opened file handle e).0

-- an open file id has a handle
pub opened_some : (s : Store) (n file : ℕ) → option_map (λ (h : kept.Handle). h.node.0) (kept_handle s file) ≡ Some n → IsSome (kept_handle s file)
opened_some s n file opened = by (kept_handle s file) opened
  where
    by : (o : Option kept.Handle) → option_map (λ (h : kept.Handle). h.node.0) o ≡ Some n → IsSome o
    by None h = absurd (cc)
    by (Some handle) h = refl

-- ---- unlocking

module _ (s : Store) (n file : ℕ) (opened : option_map (λ (h : kept.Handle). h.node.0) (kept_handle s file) ≡ Some n) (homes : AllByRecursion (IsHome s) s.locks.locks) (path : Names) (ranges : List Range) where
  left : without_locks file (map lock_of s.locks.locks) ranges ≡ left_of (unlocked n file s.locks.locks ranges)
  left = unlocked_seen n file ranges s.locks.locks (all_own s n file opened s.locks.locks homes)

  pub unlock_done : (locks : List Held) → unlocked n file s.locks.locks ranges ≡ Ok locks → unlock_ranges (drive_of s) file path ranges ≡ succeeded (record (drive_of s) { locks = map lock_of locks }) Locked (unlocking path)
  unlock_done locks e =
      ap (λ o. given (drive_of s) o range_not_locked (λ ls. succeeded (record (drive_of s) { locks = ls }) Locked (unlocking path))) (left ∙ ap left_of e)
      ∙ given_some (drive_of s) (map lock_of locks) range_not_locked (λ ls. succeeded (record (drive_of s) { locks = ls }) Locked (unlocking path))

  pub unlock_missing : (range : Range) → unlocked n file s.locks.locks ranges ≡ Err range → unlock_ranges (drive_of s) file path ranges ≡ refused (drive_of s) range_not_locked
  unlock_missing range e =
      ap (λ o. given (drive_of s) o range_not_locked (λ ls. succeeded (record (drive_of s) { locks = ls }) Locked (unlocking path))) (left ∙ ap left_of e)
      ∙ given_none (drive_of s) range_not_locked (λ ls. succeeded (record (drive_of s) { locks = ls }) Locked (unlocking path))

-- ---- locking ranges

-- whether a lock on the file is in the way of those that are wanted
pub blocked_seen : {closed : Option ℕ} (s : Store) → IsSoundBut closed s → (n : ℕ) → IsLive s.tree n → (file : ℕ) (exclusive : Bool) (ranges : List Range)
    → conflicts (locks_on (drive_of s) (own_path s.tree n)) (asked_locks file exclusive ranges) ≡ is_some (conflict s.locks.locks (held.wanted_locks n file exclusive ranges))
blocked_seen s sound n live file exclusive ranges =
    conflicts_seen n file exclusive ranges (locks_on (drive_of s) (own_path s.tree n)) s.locks.locks (λ q. any_on s sound n live q s.locks.locks sound.locked)

module _ (s : Store) (sound : IsSound s) (n : ℕ) (live : IsLive s.tree n) (key : Key) (file : ℕ) (exclusive wait : Bool) (ranges : List Range) where
  abbrev in_way : Option Held
  in_way = conflict s.locks.locks (held.wanted_locks n file exclusive ranges)

  abbrev ranges_come : Outcome
  ranges_come = lock_ranges (drive_of s) key file (own_path s.tree n) exclusive wait ranges

  abbrev wanted : List drive.Lock
  wanted = asked_locks file exclusive ranges

  blocked : conflicts (locks_on (drive_of s) (own_path s.tree n)) wanted ≡ is_some in_way
  blocked = blocked_seen s sound n live file exclusive ranges

  among_themselves : conflicts [] wanted ≡ is_some (conflict [] (held.wanted_locks n file exclusive ranges))
  among_themselves = conflicts_seen n file exclusive ranges [] [] (λ q. refl)

  counted : lock_count (drive_of s) + length ranges ≡ length s.locks.locks + s.locks.reserved + length ranges
  counted = ap (λ k. k + length ranges) (count_seen s sound)

  module _ (free : is_some in_way ≡ false) where
    free_seen : conflicts (locks_on (drive_of s) (own_path s.tree n)) wanted ≡ false
    free_seen = blocked ∙ free

    pub lock_granted : length s.locks.locks + s.locks.reserved + length ranges ≤ 65536 → ranges_come ≡ succeeded (with_locks (drive_of s) wanted) Locked no_news
    lock_granted few =
        check_passed (drive_of s) _ _ _ (ap (λ b. b && (not wait || conflicts [] wanted)) free_seen)
        ∙ check_passed (drive_of s) _ _ _ (ap (λ b. b && is_waiting_full (drive_of s)) free_seen)
        ∙ check_passed (drive_of s) _ _ _ (ap (λ k. nat_lt 65536 k) counted ∙ le-ltb 65536 (length s.locks.locks + s.locks.reserved + length ranges) few)
        ∙ checks_done (drive_of s) _ ∙ one_false _ _ _ free_seen

    pub lock_full : 65536 < length s.locks.locks + s.locks.reserved + length ranges → ranges_come ≡ refused (drive_of s) insufficient_resources
    lock_full many =
        check_passed (drive_of s) _ _ _ (ap (λ b. b && (not wait || conflicts [] wanted)) free_seen)
        ∙ check_passed (drive_of s) _ _ _ (ap (λ b. b && is_waiting_full (drive_of s)) free_seen)
        ∙ check_applies (drive_of s) _ _ _ (ap (λ k. nat_lt 65536 k) counted ∙ lt-ltb 65536 (length s.locks.locks + s.locks.reserved + length ranges) many)

  module _ (way : is_some in_way ≡ true) where
    way_seen : conflicts (locks_on (drive_of s) (own_path s.tree n)) wanted ≡ true
    way_seen = blocked ∙ way

    pub lock_denied : (not wait || is_some (conflict [] (held.wanted_locks n file exclusive ranges))) ≡ true → ranges_come ≡ refused (drive_of s) lock_not_granted
    lock_denied never = check_applies (drive_of s) _ _ _ ((λ i. way_seen i && (not wait || among_themselves i)) ∙ never)

    module _ (may : (not wait || is_some (conflict [] (held.wanted_locks n file exclusive ranges))) ≡ false) where
      pub wait_refused : 64 ≤ length s.waiting.items → ranges_come ≡ refused (drive_of s) insufficient_resources
      wait_refused many =
          check_passed (drive_of s) _ _ _ ((λ i. way_seen i && (not wait || among_themselves i)) ∙ may)
          ∙ check_applies (drive_of s) _ _ _ ((λ i. way_seen i && nat_le 64 (length-map s.waiting.items waiting_of i)) ∙ le-leb 64 (length s.waiting.items) many)

      -- too many locks there would be, whether or not too many requests wait already
      pub wait_full : 65536 < length s.locks.locks + s.locks.reserved + length ranges → ranges_come ≡ refused (drive_of s) insufficient_resources
      wait_full many =
          check_passed (drive_of s) _ _ _ ((λ i. way_seen i && (not wait || among_themselves i)) ∙ may)
          ∙ by (is_waiting_full (drive_of s)) refl
        where
          third : (b : Bool) → b ≡ nat_lt 65536 (lock_count (drive_of s) + length ranges) → b ≡ true
          third b e = e ∙ ap (λ k. nat_lt 65536 k) counted ∙ lt-ltb 65536 (length s.locks.locks + s.locks.reserved + length ranges) many

          rest : List (Bool × Reply)
          rest = (nat_lt 65536 (lock_count (drive_of s) + length ranges), fault insufficient_resources) ∷ []

          last : Outcome
          last = one_of (conflicts (locks_on (drive_of s) (own_path s.tree n)) wanted) (waits (drive_of s) key file (drive.Ranges exclusive ranges)) (succeeded (with_locks (drive_of s) wanted) Locked no_news)

          by : (b : Bool) → is_waiting_full (drive_of s) ≡ b → checked (drive_of s) ((conflicts (locks_on (drive_of s) (own_path s.tree n)) wanted && is_waiting_full (drive_of s), fault insufficient_resources) ∷ rest) last ≡ refused (drive_of s) insufficient_resources
          by true e = check_applies (drive_of s) _ _ _ (λ i. way_seen i && e i)
          by false e = check_passed (drive_of s) _ _ _ (λ i. way_seen i && e i) ∙ check_applies (drive_of s) _ _ _ (third _ refl)

      pub lock_waits : length s.waiting.items < 64 → length s.locks.locks + s.locks.reserved + length ranges ≤ 65536 → ranges_come ≡ waits (drive_of s) key file (drive.Ranges exclusive ranges)
      lock_waits few room =
          check_passed (drive_of s) _ _ _ ((λ i. way_seen i && (not wait || among_themselves i)) ∙ may)
          ∙ check_passed (drive_of s) _ _ _ ((λ i. way_seen i && nat_le 64 (length-map s.waiting.items waiting_of i)) ∙ lt-leb 64 (length s.waiting.items) few)
          ∙ check_passed (drive_of s) _ _ _ (ap (λ k. nat_lt 65536 k) counted ∙ le-ltb 65536 (length s.locks.locks + s.locks.reserved + length ranges) room)
          ∙ checks_done (drive_of s) _ ∙ one_true _ _ _ way_seen

-- ---- the whole operation

module _ (s : Store) (sound : IsSound s) (file : ℕ) (h : kept.Handle) (is : kept_handle s file ≡ Some h) (x : Place) (here : place s.tree h.node.0 ≡ Some x) (key : Key) (operation : ℕ) (wait : Bool) (ranges : List Range) where
  abbrev node : Node
  node = node_with (state_of s.states h.node.0) x

  bytes_here : bytes_at s.tree h.node.0 ≡ x.bytes
  bytes_here = ap (option_and_then (λ (p : Place). p.bytes)) here

  own_here : own_path s.tree h.node.0 ≡ x.path
  own_here = ap (λ (o : Option Place). unwrap_or (option_map (λ (p : Place). p.path) o) []) here

  abbrev comes : Outcome
  comes = on_handle (drive_of s) file (lock (drive_of s) key file operation wait ranges)

  goes : comes ≡ lock (drive_of s) key file operation wait ranges (handle_of s.tree h) node
  goes = on_open s sound file h is x here (lock (drive_of s) key file operation wait ranges)

  pub lock_folder : bytes_at s.tree h.node.0 ≡ None → comes ≡ refused (drive_of s) invalid_device_request
  lock_folder none = goes ∙ check_applies (drive_of s) _ _ _ (ap (λ (o : Option (List ℕ)). not (is_some o)) (sym bytes_here ∙ none))

  module _ (bytes : List ℕ) (some : bytes_at s.tree h.node.0 ≡ Some bytes) where
    no_folder : is_folder_node node ≡ false
    no_folder = ap (λ (o : Option (List ℕ)). not (is_some o)) (sym bytes_here ∙ some)

    pub lock_closed : (reads h.access || writes h.access) ≡ false → comes ≡ refused (drive_of s) access_denied
    lock_closed denied = goes ∙ check_passed (drive_of s) _ _ _ no_folder ∙ check_applies (drive_of s) _ _ _ (ap not denied)

    module _ (allowed : (reads h.access || writes h.access) ≡ true) where
      pub lock_invalid : (not (is_lock_operation operation) || list_any is_past_end ranges) ≡ true → comes ≡ refused (drive_of s) invalid_parameter
      lock_invalid bad = goes ∙ check_passed (drive_of s) _ _ _ no_folder ∙ check_passed (drive_of s) _ _ _ (ap not allowed) ∙ check_applies (drive_of s) _ _ _ bad

      module _ (valid : (not (is_lock_operation operation) || list_any is_past_end ranges) ≡ false) where
        pub lock_unlocks : is_unlock operation ≡ true → comes ≡ unlock_ranges (drive_of s) file (own_path s.tree h.node.0) ranges
        lock_unlocks e =
            goes ∙ check_passed (drive_of s) _ _ _ no_folder ∙ check_passed (drive_of s) _ _ _ (ap not allowed) ∙ check_passed (drive_of s) _ _ _ valid ∙ checks_done (drive_of s) _ ∙ one_true _ _ _ e
            ∙ ap (λ (p : Names). unlock_ranges (drive_of s) file p ranges) (sym own_here)

        pub lock_locks : is_unlock operation ≡ false → comes ≡ lock_ranges (drive_of s) key file (own_path s.tree h.node.0) (operation == exclusive_lock) wait ranges
        lock_locks e =
            goes ∙ check_passed (drive_of s) _ _ _ no_folder ∙ check_passed (drive_of s) _ _ _ (ap not allowed) ∙ check_passed (drive_of s) _ _ _ valid ∙ checks_done (drive_of s) _ ∙ one_false _ _ _ e
            ∙ ap (λ (p : Names). lock_ranges (drive_of s) key file p (operation == exclusive_lock) wait ranges) (sym own_here)
