-- The slots in which locks are kept, in the order in which they were taken. Slots of one node are chained, each to one
-- before it; a chain may pass over slots that no lock is linked in.
use Rattle.std.specs.Prelude.{◌≡◌, ℕ, ◌+◌, ◌-◌, ◌^◌, ◌<◌, ◌≤◌, min, ◌==◌, ◌&&◌, not, if◌then◌else◌, Bool, true, false, List, [], ◌∷◌, length, slice_index_or}
use Rattle.rd_irp.specs.declared.op.Range.{Range}
use Rattle.rd_locks.specs.declared.held.Held.{Held}
use Rattle.rd_locks.specs.declared.slots.Slot.{Slot}
use Rattle.rd_locks.specs.declared.leap.Leap.{Leap}
use Rattle.rd_locks.specs.declared.slots.Aim.{Aim}
use Rattle.rd_locks.specs.Locks.{meets, is_in_way, is_lock_of}

-- no slot: what a place past the last reads as
abbrev pub no_slot : Slot
no_slot = record {
  lock = record { node = 0; file = 0; exclusive = false; range = record { offset = 0; length = 0 } };
  stands = false;
  linked = false;
  below = 0;
  leap = record { to = 0; low = 0; high = 0; steps = 0 };
}

abbrev pub slot_at : List Slot → ℕ → Slot
slot_at slots i = slice_index_or slots i no_slot

-- the locks that stand
abbrev pub standing : List Slot → List Held
standing [] = []
standing (slot ∷ slots) = if slot.stands then (slot.lock ∷ standing slots) else standing slots

-- what a lock is looked for: whether it is in the way of a wanted one or of writing, or is the wanted one itself
abbrev pub is_sought : Aim → Held → Held → Bool
is_sought Aim.Take wanted lock = is_in_way wanted lock
is_sought Aim.Write wanted lock = meets wanted lock && not (lock.exclusive && lock.file == wanted.file)
is_sought Aim.Match wanted lock = is_lock_of wanted.node wanted.file wanted.range lock

-- a lock stands in the slot and is sought
abbrev pub shows : Aim → Held → Slot → Bool
shows aim wanted slot = slot.stands && is_sought aim wanted slot.lock

-- From place i downward, the next slot of the node's chain is the one below place b (none where b is 0): it is the node's,
-- and none from b on to i is both the node's and linked.
pub record Leads (slots : List Slot) (node i b : ℕ) : Type 0 where
  pub within : b ≤ i
  pub same : 0 < b → (slot_at slots (b - 1)).lock.node ≡ node
  pub passed : (j : ℕ) → b ≤ j → j < i → (slot_at slots j).lock.node ≡ node → (slot_at slots j).linked ≡ false

-- where a range ends, at most the largest place that is a number of the program
abbrev pub end_of_range : Range → ℕ
end_of_range range = min (range.offset + range.length) (2 ^ 64 - 1)

-- the range lies between the ends of what a leap passes
abbrev pub IsSpanned : Leap → Range → Type 0
IsSpanned leap range = (leap.low ≤ range.offset) × (end_of_range range ≤ leap.high)

-- From slot i a leap leads down the node's chain, and each linked slot of the node that it passes, i among them, has a range
-- between the leap's ends.
pub record Leaps (slots : List Slot) (node i : ℕ) (leap : Leap) : Type 0 where
  pub within : leap.to ≤ i
  pub same : 0 < leap.to → (slot_at slots (leap.to - 1)).lock.node ≡ node
  pub spans : (j : ℕ) → leap.to ≤ j → j ≤ i → (slot_at slots j).lock.node ≡ node → (slot_at slots j).linked ≡ true → IsSpanned leap (slot_at slots j).lock.range

-- each slot leads and leaps down its node's chain, and no lock stands in one that isn't linked
pub record IsChained (slots : List Slot) : Type 0 where
  pub links : (i : ℕ) → i < length slots → Leads slots (slot_at slots i).lock.node i (slot_at slots i).below
  pub leaps : (i : ℕ) → i < length slots → Leaps slots (slot_at slots i).lock.node i (slot_at slots i).leap
  pub kept : (i : ℕ) → (slot_at slots i).linked ≡ false → (slot_at slots i).stands ≡ false

-- the slots hold the same locks, and no further one is linked
pub record Follows (old new : List Slot) : Type 0 where
  pub long : length new ≡ length old
  pub lock : (i : ℕ) → (slot_at new i).lock ≡ (slot_at old i).lock
  pub leap : (i : ℕ) → (slot_at new i).leap ≡ (slot_at old i).leap
  pub linked : (i : ℕ) → (slot_at old i).linked ≡ false → (slot_at new i).linked ≡ false

-- the slots hold the same locks and lead on in the same way, whichever of the locks stand
pub record StaysLinked (old new : List Slot) : Type 0 where
  pub long : length new ≡ length old
  pub lock : (i : ℕ) → (slot_at new i).lock ≡ (slot_at old i).lock
  pub leap : (i : ℕ) → (slot_at new i).leap ≡ (slot_at old i).leap
  pub linked : (i : ℕ) → (slot_at new i).linked ≡ (slot_at old i).linked
  pub below : (i : ℕ) → (slot_at new i).below ≡ (slot_at old i).below
  pub kept : (i : ℕ) → (slot_at new i).linked ≡ false → (slot_at new i).stands ≡ false

-- only locks that stand are linked on the node
abbrev pub IsSwept : List Slot → ℕ → Type 0
IsSwept slots node = (i : ℕ) → (slot_at slots i).lock.node ≡ node → (slot_at slots i).stands ≡ false → (slot_at slots i).linked ≡ false

-- only locks that stand are linked
abbrev pub IsSettled : List Slot → Type 0
IsSettled slots = (i : ℕ) → (slot_at slots i).stands ≡ false → (slot_at slots i).linked ≡ false
