-- One node of what a drive keeps, by its number, and what it is to change that one alone.
use Rattle.std.specs.Prelude.{◌≡◌, ℕ, ◌==◌, ◌⊎◌, if◌then◌else◌, List, Option, Some, None, nat_eq}
use Rattle.std.specs.HashMap.{get}
use Rattle.rd_tree.specs.Places.{Place, Places, own_path, bytes_at, with_place}
use Rattle.rd_base.specs.declared.status.Status.{Status}
use Rattle.rd_drive.specs.declared.node.NodeState.{NodeState}
use Rattle.rd_drive.specs.declared.store.Store.{Store}
use Rattle.rd_drive.specs.DriveState.{DriveState, Handle, Node}
use Rattle.rd_drive.specs.Outcome.{Outcome, checked, given, refused}
use Rattle.rd_drive.specs.SetFile.{set_checks}
use Rattle.rd_base.specs.Statuses.{invalid_info_class, no_memory}
use Rattle.rd_drive.specs.Store.{States, state_of, node_with}

-- the place of a live number, with these bytes
abbrev pub place_with : Places → ℕ → Option (List ℕ) → Place
place_with tree n bytes = record { path = own_path tree n; bytes = bytes }

-- the node of a live number
abbrev pub own_node : Store → ℕ → Node
own_node s n = node_with (state_of s.states n) (place_with s.tree n (bytes_at s.tree n))

-- the same tree, but for the bytes at a live number
abbrev pub with_bytes_at : Places → ℕ → Option (List ℕ) → Places
with_bytes_at tree n bytes = with_place tree n (place_with tree n bytes)

-- The new states are the old ones, but that this is kept of one node.
abbrev pub IsKept : States → States → ℕ → NodeState → Type 0
IsKept old new n state = (m : ℕ) → get nat_eq new m ≡ (if n == m then Some state else get nat_eq old m)

-- what is kept of a file whose bytes were set at a moment
abbrev pub written_at : NodeState → ℕ → NodeState
written_at state moment = record state { moments = record state.moments { write = moment; change = moment } }

-- Why nothing is told: there is nothing of the class, or no memory was found.
abbrev pub IsNoInfo : {X : Type 0} → Option X → Status → Type 0
IsNoInfo info status = ((info ≡ None) × (status ≡ invalid_info_class)) ⊎ (status ≡ no_memory)

-- what comes of a class that is set, if this comes of what is set
abbrev pub set_gate : DriveState → Handle → Node → ℕ → Outcome → Outcome
set_gate s handle node class outcome = given s (set_checks handle node class) invalid_info_class (λ checks. checked s checks outcome)

-- The call has the class, and no check applies.
abbrev pub MaySet : DriveState → Handle → Node → ℕ → Type 0
MaySet s handle node class = (outcome : Outcome) → set_gate s handle node class outcome ≡ outcome

-- The class is refused, whatever is set.
abbrev pub MayNotSet : DriveState → Handle → Node → ℕ → Status → Type 0
MayNotSet s handle node class status = (outcome : Outcome) → set_gate s handle node class outcome ≡ refused s status
