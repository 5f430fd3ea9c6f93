-- Locks on ranges of files. A node is a file of the drive, and a file is one of its handles (MS-RDPEFS 2.2.3.3.12, 2.2.1.6).
use Rattle.std.specs.Prelude.{ℕ, ◌+◌, ◌==◌, ◌&&◌, ◌||◌, Bool, not, nat_lt, if◌then◌else◌, List, [], ◌∷◌, ◌++◌, map, filter, find, Option, None, Result, Ok, Err}
use Rattle.std.specs.List.{list_any}
use Rattle.std.specs.Option.{option_or}
use Rattle.rd_irp.specs.declared.op.Range.{Range}
use Rattle.rd_locks.specs.declared.held.Held.{Held}

-- the most locks that stand or have their places reserved
abbrev pub max_locks : ℕ
max_locks = 65536

-- what callers see: the locks that stand, in the order in which they were taken, and the places that are reserved
pub record LockList : Type 0 where
  pub locks : List Held
  pub reserved : ℕ

-- a byte lies in both ranges; no byte lies in an empty one
abbrev pub overlaps : Range → Range → Bool
overlaps r q = nat_lt 0 r.length && nat_lt 0 q.length && nat_lt r.offset (q.offset + q.length) && nat_lt q.offset (r.offset + r.length)

-- both are on one node, and a byte lies in both
abbrev pub meets : Held → Held → Bool
meets wanted lock = lock.node == wanted.node && overlaps wanted.range lock.range

-- A lock is in the way of one that is wanted: of an exclusive one each that meets it, of a shared one another handle's
-- exclusive one that meets it.
abbrev pub is_in_way : Held → Held → Bool
is_in_way wanted lock = meets wanted lock && (wanted.exclusive || (lock.exclusive && not (lock.file == wanted.file)))

-- the locks that a request for ranges wants
abbrev pub wanted_locks : ℕ → ℕ → Bool → List Range → List Held
wanted_locks node file exclusive ranges = map (λ range. record { node = node; file = file; exclusive = exclusive; range = range }) ranges

-- the first lock in the way of one that is wanted, each tested against the locks that stand and those wanted before it
abbrev pub conflict : List Held → List Held → Option Held
conflict locks [] = None
conflict locks (wanted ∷ others) = option_or (find (is_in_way wanted) locks) (conflict (locks ++ wanted ∷ []) others)

-- no other handle's exclusive lock on the node overlaps the range
abbrev pub may_read : List Held → ℕ → ℕ → Range → Bool
may_read locks node file range =
    not (list_any (λ lock. lock.node == node && overlaps range lock.range && (lock.exclusive && not (lock.file == file))) locks)

-- no other handle's exclusive lock on the node overlaps the range, nor does any shared one
abbrev pub may_write : List Held → ℕ → ℕ → Range → Bool
may_write locks node file range =
    not (list_any (λ lock. lock.node == node && overlaps range lock.range && not (lock.exclusive && lock.file == file)) locks)

-- the handle's lock of exactly this range of the node
abbrev pub is_lock_of : ℕ → ℕ → Range → Held → Bool
is_lock_of node file range lock = lock.node == node && lock.file == file && (lock.range).offset == range.offset && (lock.range).length == range.length

-- without the first that passes
abbrev pub without_first : (Held → Bool) → List Held → List Held
without_first test [] = []
without_first test (lock ∷ locks) = if test lock then locks else (lock ∷ without_first test locks)

-- the locks without the first of each range in turn, or the first range that has none left
abbrev pub unlocked : ℕ → ℕ → List Held → List Range → Result (List Held) Range
unlocked node file locks [] = Ok locks
unlocked node file locks (range ∷ ranges) =
    let left = unlocked node file (without_first (is_lock_of node file range) locks) ranges in
    if list_any (is_lock_of node file range) locks then left else Err range

-- the locks without those of a handle
abbrev pub released : ℕ → List Held → List Held
released file locks = filter (λ lock. not (lock.file == file)) locks
