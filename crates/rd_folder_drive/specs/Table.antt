-- What a drive keeps beside its folder, what that and the folder's nodes mean, and what holds of it between calls.
use Rattle.std.specs.Prelude.{◌≡◌, ℕ, ◌≤◌, ◌<◌, ◌^◌, ◌==◌, ◌&&◌, if◌then◌else◌, false, true, List, [], ◌∷◌, map, length, sum_by, Option, Some, None, Bool, vec_capacity}
use Rattle.std.specs.Option.{IsSome, option_map, option_map_or}
use Rattle.std.specs.List.{AllByRecursion, list_any}
use Rattle.std.specs.Ordering.{nat_cmp}
use Rattle.std.specs.Map.{lookup}
use Rattle.std.specs.BTreeMap.{is_at, IsOrdered}
use Rattle.rd_locks.specs.declared.held.Held.{Held}
use Rattle.rd_dirinfo.specs.declared.naming.Naming.TheVariants.{Exact}
use Rattle.rd_dirinfo.specs.Paths.{Names, is_path, is_same_path}
use Rattle.rd_drive.specs.declared.access.Use.{Use}
use Rattle.rd_drive.specs.declared.waiting.Waiting as kept_waiting
use Rattle.rd_drive.specs.Access.{use_of}
use Rattle.rd_drive.specs.DriveState as drive
use Rattle.rd_drive.specs.DriveState.{DriveState, Node, is_folder_node}
use Rattle.rd_drive.specs.Store.{HasRoom, lock_of, waiting_of, wish_ranges}
use Rattle.rd_drive.specs.Uses.{uses_of}
use Rattle.rd_folder.specs.FolderCalls.{node_there}
use Rattle.rd_folder.specs.Told.{IsFolderMap}
use Rattle.rd_folder_drive.specs.declared.handle.Handle as kept
use Rattle.rd_folder_drive.specs.declared.open.Open.{Open}
use Rattle.rd_folder_drive.specs.declared.table.Table.{Table}

-- ---- what is kept

-- the handle of a file id, if it has one
abbrev pub kept_handle : Table → ℕ → Option kept.Handle
kept_handle t file = lookup (is_at (nat_cmp file)) t.handles.entries

-- what is open by a number, if something is
abbrev pub open_at : Table → ℕ → Option Open
open_at t n = lookup (is_at (nat_cmp n)) t.opens.entries

-- the path of what is open by a number
abbrev pub path_at : Table → ℕ → Names
path_at t n = option_map_or (λ (o : Open). o.path) (open_at t n) []

-- ---- what it means

abbrev pub handle_of : Table → kept.Handle → drive.Handle
handle_of t h = record {
  path = path_at t h.node;
  access = h.access;
  share = h.share;
  delete_on_close = h.delete_on_close;
  pattern = h.pattern;
  last = h.last;
}

abbrev pub handles_of : Table → List (ℕ × drive.Handle)
handles_of t = map (λ (e : ℕ × kept.Handle). (e.0, handle_of t e.1)) t.handles.entries

-- what is open is at a path, and goes with its last handle
abbrev pub is_pending_open : Names → ℕ × Open → Bool
is_pending_open path entry = (entry.1).pending && is_same_path Exact (entry.1).path path

-- a folder's node as a drive has it: pending where something pending is open at its path
abbrev pub marked : List (ℕ × Open) → Node → Node
marked opens node = record node { pending = list_any (is_pending_open node.path) opens }

-- the drive over a folder with these nodes
abbrev pub drive_of : Table → List Node → DriveState
drive_of t nodes = record {
  naming = Exact;
  label = t.label;
  limited = false;
  nodes = map (marked t.opens.entries) nodes;
  handles = handles_of t;
  locks = map lock_of t.locks.locks;
  waiting = map waiting_of t.waiting.items;
  next = t.next;
}

-- ---- what holds between calls

-- the uses of the handles on what is open by a number
abbrev pub uses_on : ℕ → List (ℕ × kept.Handle) → List Use
uses_on n [] = []
uses_on n (e ∷ es) = if (e.1).node == n then use_of (e.1).access (e.1).share ∷ uses_on n es else uses_on n es

-- What is open by a number: it has a path, the root is never pending, and its uses, one at least, are counted.
pub record IsOpened (t : Table) (n : ℕ) (o : Open) : Type 0 where
  pub path : is_path o.path ≡ true
  pub root : o.path ≡ [] → o.pending ≡ false
  pub used : 0 < length (uses_on n t.handles.entries)
  pub uses : o.uses ≡ uses_of (uses_on n t.handles.entries)
  pub before : n < t.next

-- a handle is on something that is open, has a file id that was given, and doesn't delete the root
pub record IsHandle (t : Table) (file : ℕ) (h : kept.Handle) : Type 0 where
  pub on : IsSome (open_at t h.node)
  pub before : file < t.next
  pub root : path_at t h.node ≡ [] → h.delete_on_close ≡ false

-- What holds between calls, but that a file id may just have been closed, for which requests wait still. The label isn't past its limit; numbers and file ids rise; each handle is on
-- something that is open, and what is open has a handle; no two that are open have one path; each lock and each request that waits has its handle; and there is
-- room for every end.
pub record IsSoundBut (closed : Option ℕ) (t : Table) : Type 0 where
  pub label : length t.label ≤ 32
  pub rising : IsOrdered nat_cmp t.opens × IsOrdered nat_cmp t.handles
  pub handles : (file : ℕ) (h : kept.Handle) → kept_handle t file ≡ Some h → IsHandle t file h
  pub opened : (n : ℕ) (o : Open) → open_at t n ≡ Some o → IsOpened t n o
  pub apart : (n m : ℕ) (o p : Open) → open_at t n ≡ Some o → open_at t m ≡ Some p → o.path ≡ p.path → n ≡ m
  pub locked : AllByRecursion (λ (held : Held). option_map (λ (h : kept.Handle). h.node) (kept_handle t held.file) ≡ Some held.node) t.locks.locks
  pub waits : AllByRecursion (λ (w : kept_waiting.Waiting). (option_map_or (◌==◌ w.file) closed false ≡ false → IsSome (kept_handle t w.file)) × HasRoom w.wish) t.waiting.items
  pub reserved : t.locks.reserved ≡ sum_by (λ (w : kept_waiting.Waiting). wish_ranges w.wish) t.waiting.items
  pub few : (length t.handles.entries ≤ 4096) × (length t.waiting.items ≤ 64) × (64 ≤ vec_capacity t.waiting)
  pub ids : (1 ≤ t.next) × (t.next ≤ 2 ^ 32)

-- what holds between calls
abbrev pub IsSound : Table → Type 0
IsSound t = IsSoundBut None t

-- a node is what is open: of the same kind
abbrev pub IsNodeOf : Open → Node → Type 0
IsNodeOf o node = is_folder_node node ≡ o.folder

-- The nodes that a folder tells are a map, and what is open is among them.
pub record HasNodes (t : Table) (nodes : List Node) : Type 0 where
  pub map : IsFolderMap nodes
  pub there : (n : ℕ) (o : Open) → open_at t n ≡ Some o → (node : Node) × (node_there nodes o.path ≡ Some node) × IsNodeOf o node
