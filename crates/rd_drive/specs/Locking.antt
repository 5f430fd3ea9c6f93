-- Locks on ranges of a file, and requests that wait for them (MS-RDPEFS 2.2.3.3.12, 2.2.1.6).
use Rattle.std.specs.Prelude.{ℕ, ◌+◌, ◌^◌, ◌==◌, ◌&&◌, ◌||◌, Bool, false, not, nat_le, nat_lt, if◌then◌else◌, List, [], ◌∷◌, ◌++◌, length, map, sum_by, filter, Option, Some, None}
use Rattle.std.specs.List.{list_any}
use Rattle.std.specs.Option.{option_map_or}
use Rattle.rd_base.specs.declared.journal.Key.{Key}
use Rattle.rd_irp.specs.declared.op.Range.{Range}
use Rattle.rd_irp.specs.declared.completion.Body.TheVariants.{Locked}
use Rattle.rd_dirinfo.specs.Paths.{Names, is_same_path}
use Rattle.rd_locks.specs.Locks.{max_locks, overlaps}
use Rattle.rd_drive.specs.declared.step.Step.TheVariants as step
use Rattle.rd_drive.specs.DriveState.{DriveState, Handle, Node, Lock, Wish, Ranges, Notice, Waiting, open_path, is_folder_node, max_waiting}
use Rattle.rd_drive.specs.Access.{reads, writes}
use Rattle.rd_drive.specs.Outcome.{Outcome, News, no_news, fault, one_of, checked, given, succeeded}
use Rattle.rd_base.specs.Statuses.{invalid_device_request, access_denied, invalid_parameter, lock_not_granted, insufficient_resources, range_not_locked}

-- RDP_LOWIO_OP_SHAREDLOCK
abbrev pub shared_lock : ℕ
shared_lock = 2

-- RDP_LOWIO_OP_EXCLUSIVELOCK
abbrev pub exclusive_lock : ℕ
exclusive_lock = 3

-- RDP_LOWIO_OP_UNLOCK, RDP_LOWIO_OP_UNLOCK_MULTIPLE
abbrev pub is_unlock : ℕ → Bool
is_unlock operation = operation == 4 || operation == 5

abbrev pub is_lock_operation : ℕ → Bool
is_lock_operation operation = operation == shared_lock || operation == exclusive_lock || is_unlock operation

-- whether a lock is on the file at a path, which its handle has open
abbrev pub is_on : DriveState → Names → Lock → Bool
is_on s path lock = option_map_or (λ (own : Names). is_same_path s.naming own path) (open_path s lock.file) false

-- the locks on the file at a path
abbrev pub locks_on : DriveState → Names → List Lock
locks_on s path = filter (is_on s path) s.locks

-- A lock is in the way of one that is wanted: of an exclusive one each that overlaps, of a shared one another handle's exclusive one that
-- overlaps.
abbrev pub is_lock_in_way : Lock → Lock → Bool
is_lock_in_way wanted lock = overlaps wanted.range lock.range && (wanted.exclusive || (lock.exclusive && not (lock.file == wanted.file)))

-- whether one is in the way of those that are wanted, each tested against the locks that stand and those wanted before it
abbrev pub conflicts : List Lock → List Lock → Bool
conflicts locks [] = false
conflicts locks (wanted ∷ others) = list_any (is_lock_in_way wanted) locks || conflicts (locks ++ wanted ∷ []) others

-- the locks that a request for ranges wants
abbrev pub asked_locks : ℕ → Bool → List Range → List Lock
asked_locks file exclusive ranges = map (λ (range : Range). record { file = file; exclusive = exclusive; range = range }) ranges

-- with all of them taken
abbrev pub with_locks : DriveState → List Lock → DriveState
with_locks s wanted = record s { locks = s.locks ++ wanted }

-- ---- requests that wait

-- how many ranges a request waits for
abbrev pub range_count : Wish → ℕ
range_count (Ranges exclusive ranges) = length ranges
range_count (Notice deep filter) = 0

-- the locks that stand, and the ranges that requests wait for
abbrev pub lock_count : DriveState → ℕ
lock_count s = length s.locks + sum_by (λ (w : Waiting). range_count w.wish) s.waiting

-- whether no further request can wait
abbrev pub is_waiting_full : DriveState → Bool
is_waiting_full s = nat_le max_waiting (length s.waiting)

-- the request waits, after those that wait already
abbrev pub waits : DriveState → Key → ℕ → Wish → Outcome
waits s key file wish = record {
  state = record s { waiting = s.waiting ++ record { key = key; file = file; wish = wish } ∷ [] };
  answer = step.Parked;
  news = no_news;
}

-- ---- locking

-- All ranges are locked, or the request waits, or it is refused. It never waits where its own ranges are in each other's way.
abbrev pub lock_ranges : DriveState → Key → ℕ → Names → Bool → Bool → List Range → Outcome
lock_ranges s key file path exclusive wait ranges =
    let wanted = asked_locks file exclusive ranges in
    let is_blocked = conflicts (locks_on s path) wanted in
    checked s
    ((is_blocked && (not wait || conflicts [] wanted), fault lock_not_granted)
    ∷ (is_blocked && is_waiting_full s, fault insufficient_resources)
    ∷ (nat_lt max_locks (lock_count s + length ranges), fault insufficient_resources)
    ∷ [])
    (one_of is_blocked (waits s key file (Ranges exclusive ranges)) (succeeded (with_locks s wanted) Locked no_news))

-- ---- unlocking

-- whether a lock is the handle's, of exactly this range
abbrev pub is_own_lock : ℕ → Range → Lock → Bool
is_own_lock file range lock = lock.file == file && (lock.range).offset == range.offset && (lock.range).length == range.length

-- without the first such lock
abbrev pub without_lock : ℕ → Range → List Lock → List Lock
without_lock file range [] = []
without_lock file range (lock ∷ locks) = if is_own_lock file range lock then locks else lock ∷ without_lock file range locks

-- without the first such lock of each range in turn, if all are there
abbrev pub without_locks : ℕ → List Lock → List Range → Option (List Lock)
without_locks file locks [] = Some locks
without_locks file locks (range ∷ ranges) =
    if list_any (is_own_lock file range) locks then without_locks file (without_lock file range locks) ranges else None

-- the news that a file may have fewer locks
abbrev pub unlocking : Names → News
unlocking path = record { closed = None; unlocked = Some path; changes = [] }

-- All ranges are unlocked, or none.
abbrev pub unlock_ranges : DriveState → ℕ → Names → List Range → Outcome
unlock_ranges s file path ranges =
    given s (without_locks file s.locks ranges) range_not_locked (λ locks. succeeded (record s { locks = locks }) Locked (unlocking path))

-- whether a range goes past 2^64
abbrev pub is_past_end : Range → Bool
is_past_end range = nat_lt (2 ^ 64) (range.offset + range.length)

-- Lock
abbrev pub lock : DriveState → Key → ℕ → ℕ → Bool → List Range → Handle → Node → Outcome
lock s key file operation wait ranges handle node =
    checked s
    ((is_folder_node node, fault invalid_device_request)
    ∷ (not (reads handle.access || writes handle.access), fault access_denied)
    ∷ (not (is_lock_operation operation) || list_any is_past_end ranges, fault invalid_parameter)
    ∷ [])
    (one_of (is_unlock operation)
    (unlock_ranges s file node.path ranges)
    (lock_ranges s key file node.path (operation == exclusive_lock) wait ranges))
