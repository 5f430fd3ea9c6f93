-- What a drive is: its nodes, its open handles, its locks, and the requests that wait.
use Rattle.std.specs.Prelude.{ℕ, ◌+◌, Bool, true, false, not, if◌then◌else◌, List, [], ◌∷◌, ◌++◌, fold, filter, find, map, Option, Some, None, is_some}
use Rattle.std.specs.List.{list_any}
use Rattle.std.specs.Option.{option_map, option_map_or, unwrap_or}
use Rattle.std.specs.Ordering.{nat_cmp, is_lt}
use Rattle.std.specs.Map.{lookup, remove_entry, set_value}
use Rattle.std.specs.BTreeMap.{insert_entry, is_at}
use Rattle.rd_base.specs.declared.journal.Key.{Key}
use Rattle.rd_base.specs.declared.moments.Moments.{Moments}
use Rattle.rd_irp.specs.declared.op.Range.{Range}
use Rattle.rd_dirinfo.specs.declared.naming.Naming.{Naming}
use Rattle.rd_dirinfo.specs.Naming.{Name}
use Rattle.rd_dirinfo.specs.Paths.{Names, path_cmp, is_same_path, is_parent, parent, last_name}

-- What stands at a path: a folder, or a file, which has bytes. The attributes are as they are stored, which isn't as they are shown. A
-- pending node goes with its last handle, unless it is a folder in which something stands.
pub record Node : Type 0 where
  pub path : Names
  pub bytes : Option (List ℕ)
  pub attributes : ℕ
  pub moments : Moments
  pub pending : Bool

-- What a file id has open: the path of its node, what it may do and lets others do, whether closing it makes the node pending, and for listings
-- the pattern and the name that was listed last.
pub record Handle : Type 0 where
  pub path : Names
  pub access : ℕ
  pub share : ℕ
  pub delete_on_close : Bool
  pub pattern : List ℕ
  pub last : Option Name

-- a range of a file that a handle has locked
pub record Lock : Type 0 where
  pub file : ℕ
  pub exclusive : Bool
  pub range : Range

-- what a request waits for
pub data Wish : Type 0 where
  -- all of these ranges, locked exclusively or shared
  Ranges : (exclusive : Bool) → List Range → Wish
  -- a change that shares a bit with the filter, in the folder or with `deep` anywhere below it
  Notice : (deep : Bool) → (filter : ℕ) → Wish

-- a request that waits, and the file id that it names
pub record Waiting : Type 0 where
  pub key : Key
  pub file : ℕ
  pub wish : Wish

-- A drive. No two nodes have paths that are the same, and they stand in the order of their paths: a folder comes before what is in it,
-- and the root first. The handles are a map from file ids, as its entries in their order. Locks and waiting requests stand in the order
-- in which they came.
pub record DriveState : Type 0 where
  pub naming : Naming
  -- the volume label (MS-FSCC 2.5.9)
  pub label : List ℕ
  -- whether its nodes are limited: there are at most `max_nodes`, and no path is past the limits. A folder's nodes are as they are.
  pub limited : Bool
  pub nodes : List Node
  pub handles : List (ℕ × Handle)
  pub locks : List Lock
  pub waiting : List Waiting
  -- the file id that is given next
  pub next : ℕ

-- the most handles of a drive
abbrev pub max_handles : ℕ
max_handles = 4096

-- the most requests that wait at a drive
abbrev pub max_waiting : ℕ
max_waiting = 64

-- what every file id is below
abbrev pub file_id_limit : ℕ
file_id_limit = 0x1_0000_0000

-- ---- nodes

-- a node among others that stand in order
abbrev pub add_node : Naming → Node → List Node → List Node
add_node naming node [] = node ∷ []
add_node naming node (other ∷ others) =
    if is_lt (path_cmp naming other.path node.path) then other ∷ add_node naming node others else node ∷ other ∷ others

-- nodes in the order of their paths
abbrev pub in_order : Naming → List Node → List Node
in_order naming [] = []
in_order naming (node ∷ nodes) = add_node naming node (in_order naming nodes)

-- whether a node stands at this path
abbrev pub is_at_path : Naming → Names → Node → Bool
is_at_path naming path node = is_same_path naming node.path path

-- the node at a path, if there is one
abbrev pub node_of_path : DriveState → Names → Option Node
node_of_path s path = find (is_at_path s.naming path) s.nodes

-- a path as the drive has it; a path where no node stands stays as it is
abbrev pub node_path : DriveState → Names → Names
node_path s path = option_map_or (λ (node : Node). node.path) (node_of_path s path) path

-- the path that a node gets: its folder's as the drive has it, and the last name as asked
abbrev pub made_path : DriveState → Names → Names
made_path s path = node_path s (parent path) ++ last_name path ∷ []

-- with another node in the place of the one at its path
abbrev pub with_node : DriveState → Node → DriveState
with_node s node = record s { nodes = map (λ (other : Node). if is_at_path s.naming node.path other then node else other) s.nodes }

-- with a node at a path where there was none
abbrev pub with_new_node : DriveState → Node → DriveState
with_new_node s node = record s { nodes = add_node s.naming node s.nodes }

-- without the node at a path
abbrev pub without_node : DriveState → Names → DriveState
without_node s path = record s { nodes = filter (λ (node : Node). not (is_at_path s.naming path node)) s.nodes }

-- whether a node is a folder
abbrev pub is_folder_node : Node → Bool
is_folder_node node = not (is_some node.bytes)

-- the bytes of a file; a folder has none
abbrev pub bytes_of : Node → List ℕ
bytes_of node = unwrap_or node.bytes []

-- whether a folder stands at a path
abbrev pub has_folder : DriveState → Names → Bool
has_folder s path = option_map_or is_folder_node (node_of_path s path) false

-- whether something stands in the folder at a path
abbrev pub has_children : DriveState → Names → Bool
has_children s path = list_any (λ (node : Node). is_parent s.naming path node.path) s.nodes

-- a node that is made at a moment
abbrev pub new_node : Names → Option (List ℕ) → ℕ → ℕ → Node
new_node path bytes attributes moment = record {
  path = path;
  bytes = bytes;
  attributes = attributes;
  moments = record { creation = moment; access = moment; write = moment; change = moment };
  pending = false;
}

-- ---- handles

-- the handle that a file id has, if there is one
abbrev pub handle_at : DriveState → ℕ → Option Handle
handle_at s file = lookup (is_at (nat_cmp file)) s.handles

-- with the handle of a file id changed
abbrev pub with_handle : DriveState → ℕ → Handle → DriveState
with_handle s file handle = record s { handles = set_value (is_at (nat_cmp file)) s.handles handle }

-- with a handle that has the next file id
abbrev pub with_new_handle : DriveState → Handle → DriveState
with_new_handle s handle = record s { handles = insert_entry nat_cmp s.handles s.next handle; next = s.next + 1 }

-- without the handle of a file id
abbrev pub without_handle : DriveState → ℕ → DriveState
without_handle s file = record s { handles = remove_entry (is_at (nat_cmp file)) s.handles }

-- whether a file id has open what stands at a path
abbrev pub has_open : DriveState → Names → ℕ × Handle → Bool
has_open s path entry = is_same_path s.naming (entry.1).path path

-- whether some file id does
abbrev pub is_open : DriveState → Names → Bool
is_open s path = list_any (has_open s path) s.handles

-- the path that a file id has open, if it is open
abbrev pub open_path : DriveState → ℕ → Option Names
open_path s file = option_map (λ (handle : Handle). handle.path) (handle_at s file)

-- ---- what a drive begins with

-- the root alone, and no request yet
abbrev pub empty_drive : Naming → List ℕ → DriveState
empty_drive naming label = record {
  naming = naming;
  label = label;
  limited = true;
  nodes = new_node [] None 0 0 ∷ [];
  handles = [];
  locks = [];
  waiting = [];
  next = 1;
}

-- the stored attributes of what a drive begins with: ARCHIVE for a file
abbrev pub opening_attributes : Option (List ℕ) → ℕ
opening_attributes None = 0
opening_attributes (Some bytes) = 0x20

-- the same drive with a folder, or a file with bytes, at a path where nothing stands
abbrev pub holding : DriveState → Names × Option (List ℕ) → DriveState
holding s first = with_new_node s (new_node (made_path s first.0) first.1 (opening_attributes first.1) 0)

-- what a drive begins with: its naming, its label, and folders and files, each after its folder, and no path twice
abbrev pub opening : Naming → List ℕ → List (Names × Option (List ℕ)) → DriveState
opening naming label nodes = fold holding (empty_drive naming label) nodes
