-- Where a node's chain of slots ends, and on which node a file has its locks.
use Rattle.std.specs.Prelude.{◌≡◌, ℕ, ◌+◌, ◌≤◌, true, List, length, unwrap_or, Option, Some, None, ⊤, nat_eq}
use Rattle.std.specs.HashMap.{HashMap, get, spare}
use Rattle.std.specs.declared.hash.FoldHasher.{FoldHasher}
use Rattle.std.specs.declared.hash.BuildHasherDefault.{BuildHasherDefault}
use Rattle.rd_locks.specs.declared.index.Home.{Home}
use Rattle.rd_locks.specs.declared.index.Home.TheVariants.{One, Many}
use Rattle.rd_locks.specs.declared.slots.Slot.{Slot}
use Rattle.rd_locks.specs.Locks.{max_locks}
use Rattle.rd_locks.specs.Slots.{slot_at, standing, Leads, IsChained, IsSettled}

abbrev pub NodeEnds : Type 0
NodeEnds = HashMap ℕ ℕ (BuildHasherDefault FoldHasher)

abbrev pub Homes : Type 0
Homes = HashMap ℕ Home (BuildHasherDefault FoldHasher)

-- the end of a node's chain, 0 where it has none
abbrev pub end_of : NodeEnds → ℕ → ℕ
end_of ends node = unwrap_or (get nat_eq ends node) 0

-- a file's locks may be on the node
abbrev pub IsHome : Option Home → ℕ → Type 0
IsHome None node = ⊥
IsHome (Some (One home)) node = home ≡ node
IsHome (Some Many) node = ⊤

-- What holds between calls: each node's chain has just the locks that stand on it, a file's locks are at its home, and there
-- is room for every lock whose place is reserved.
pub record IsSoundIndex (slots : List Slot) (ends : NodeEnds) (homes : Homes) (count reserved capacity : ℕ) : Type 0 where
  pub chained : IsChained slots
  pub reached : (node : ℕ) → Leads slots node (length slots) (end_of ends node)
  pub settled : IsSettled slots
  pub housed : (i : ℕ) → (slot_at slots i).stands ≡ true → IsHome (get nat_eq homes (slot_at slots i).lock.file) (slot_at slots i).lock.node
  pub counted : count ≡ length (standing slots)
  pub few : count + reserved ≤ max_locks
  pub room : length slots + reserved ≤ capacity
  pub ends_room : reserved ≤ spare ends
  pub homes_room : reserved ≤ spare homes
