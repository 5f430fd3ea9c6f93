-- What the lines read so far say that later ones depend on.
use Rattle.std.specs.Prelude.{ℕ, ◌&&◌, ◌||◌, ◌==◌, not, nat_le, nat_lt, Bool, true, false, if◌then◌else◌, List, [], ◌∷◌, ◌++◌, length, find, Option, Some, None, is_some}
use Rattle.std.specs.Option.{option_and_then, option_map_or, unwrap_or}
use Rattle.std.specs.Ordering.{nat_cmp}
use Rattle.std.specs.Cmp.Lexicographic.{slice_cmp}
use Rattle.std.specs.declared.cmp.Ordering.{Ordering}
use Rattle.std.specs.Map.{lookup}
use Rattle.std.specs.BTreeMap.{insert_entry, is_at}
use Rattle.rd_base.specs.Limits.{max_nodes}
use Rattle.rd_dirinfo.specs.declared.naming.Naming.{Naming}
use Rattle.rd_dirinfo.specs.declared.naming.Naming.TheVariants as naming
use Rattle.rd_dirinfo.specs.Paths.{Names, seen_path, parent}
use Rattle.rd_script.specs.declared.keyword.Mode.{Mode}
use Rattle.rd_script.specs.declared.known.DeviceKind.{DeviceKind}
use Rattle.rd_script.specs.declared.known.DeviceKind.TheVariants as kind
use Rattle.rd_script.specs.declared.line.Line.{Line}
use Rattle.rd_script.specs.declared.line.Line.TheVariants as line
use Rattle.rd_script.specs.Keywords.{in_host}

-- the nodes of a drive: what its naming sees of each path, and whether a folder is there; by the order of paths
abbrev pub Nodes : Type 0
Nodes = List (Names × Bool)

-- the order of paths as they are seen
abbrev pub names_cmp : Names → Names → Ordering
names_cmp = slice_cmp (slice_cmp nat_cmp)

-- whether a folder is at a path, if anything is
abbrev pub said_node : Nodes → Names → Option Bool
said_node nodes key = lookup (is_at (names_cmp key)) nodes

-- a device that a line declared
pub record SaidDevice : Type 0 where
  pub id : ℕ
  pub kind : DeviceKind
  pub nodes : Nodes

-- what the lines so far say: the devices, and the channel and the count of requests of the last `at` line
pub record Said : Type 0 where
  pub mode : Mode
  pub devices : List SaidDevice
  pub channel : ℕ
  pub requests : ℕ

-- no line yet
abbrev pub nothing_said : Mode → Said
nothing_said m = record { mode = m; devices = []; channel = 0; requests = 0 }

-- the root alone
abbrev pub root_node : Nodes
root_node = ([], true) ∷ []

-- the most devices of a script
abbrev pub max_script_devices : ℕ
max_script_devices = 32

-- ---- what a line may name

-- the device with an id
abbrev pub device_at : Said → ℕ → Option SaidDevice
device_at said id = find (λ (d : SaidDevice). d.id == id) said.devices

-- a line before declared it
abbrev pub is_declared : Said → ℕ → Bool
is_declared said id = is_some (device_at said id)

-- A line may name it. To a host none is unknown.
abbrev pub is_known : Said → ℕ → Bool
is_known said id = in_host said.mode || is_declared said id

-- how a device in memory tells the names of its nodes apart; no other device has nodes
abbrev pub naming_of : DeviceKind → Option Naming
naming_of (kind.Drive n) = Some n
naming_of kind.Real = None
naming_of kind.Printer = None

-- the same of the device with an id
abbrev pub naming_at : Said → ℕ → Option Naming
naming_at said id = option_and_then (λ (d : SaidDevice). naming_of d.kind) (device_at said id)

-- nothing is at a path that is seen so, and a folder is where its parent is
abbrev pub is_free_key : Nodes → Names → Bool
is_free_key nodes [] = false
is_free_key nodes (name ∷ names) =
    unwrap_or (said_node nodes (parent (name ∷ names))) false && not (is_some (said_node nodes (name ∷ names)))

-- a node can be made at a path of a device
abbrev pub is_free_in : Names → SaidDevice → Bool
is_free_in path d = option_map_or (λ n. is_free_key d.nodes (seen_path n path)) (naming_of d.kind) false

abbrev pub is_free : Said → ℕ → Names → Bool
is_free said id path = option_map_or (is_free_in path) (device_at said id) false

-- the device has room for one more node
abbrev pub has_room : Said → ℕ → Bool
has_room said id = option_map_or (λ (d : SaidDevice). nat_lt (length d.nodes) max_nodes) (device_at said id) false

-- no `at` line before is of a later channel, or of a later request of the same
abbrev pub is_in_order : Said → ℕ → ℕ → Bool
is_in_order said channel requests = nat_lt said.channel channel || said.channel == channel && nat_le said.requests requests

-- ---- what a line adds

-- with one more device
abbrev pub with_said_device : Said → ℕ → DeviceKind → Said
with_said_device said id k = record said { devices = said.devices ++ record { id = id; kind = k; nodes = root_node } ∷ [] }

-- with one more node, which is a folder or not
abbrev pub with_said_node : Names → Bool → SaidDevice → SaidDevice
with_said_node path folder d =
    option_map_or (λ n. record d { nodes = insert_entry names_cmp d.nodes (seen_path n path) folder }) (naming_of d.kind) d

-- with the first device of an id changed
abbrev pub with_device_changed : ℕ → (SaidDevice → SaidDevice) → List SaidDevice → List SaidDevice
with_device_changed id change [] = []
with_device_changed id change (d ∷ ds) = if d.id == id then change d ∷ ds else d ∷ with_device_changed id change ds

abbrev pub with_node_at : Said → ℕ → Names → Bool → Said
with_node_at said id path folder = record said { devices = with_device_changed id (with_said_node path folder) said.devices }

-- with one more `at` line
abbrev pub with_moment : Said → ℕ → ℕ → Said
with_moment said channel requests = record said { channel = channel; requests = requests }

-- what is said with one more line
abbrev pub with_line : Said → Line → Said
with_line said (line.Drive device name) = with_said_device said device (kind.Drive naming.Exact)
with_line said (line.DriveFold device name) = with_said_device said device (kind.Drive naming.Folded)
with_line said (line.Real device name place) = with_said_device said device kind.Real
with_line said (line.Printer device name driver printer) = with_said_device said device kind.Printer
with_line said (line.Folder device path) = with_node_at said device path true
with_line said (line.File device path bytes) = with_node_at said device path false
with_line said (line.Fill device path len byte) = with_node_at said device path false
with_line said (line.AtRemove channel requests device) = with_moment said channel requests
with_line said (line.AtAdd channel requests device) = with_moment said channel requests
with_line said (line.AtDrop channel requests) = with_moment said channel requests
with_line said _ = said
