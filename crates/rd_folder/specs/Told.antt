-- What a folder tells: its nodes, as a drive has them.
use Rattle.std.specs.Prelude.{◌≡◌, ◌==◌, ◌||◌, Bool, true, false, List, [], ◌∷◌, length, None}
use Rattle.std.specs.List.{list_all, AllByRecursion}
use Rattle.std.specs.Ordering.{is_lt}
use Rattle.rd_dirinfo.specs.declared.naming.Naming.TheVariants.{Exact}
use Rattle.rd_dirinfo.specs.Paths.{is_name, parent, path_cmp}
use Rattle.rd_drive.specs.DriveState.{DriveState, Node, has_folder}

-- The drive that has these nodes, and in which nothing is open. A folder tells names apart by their units.
abbrev pub drive_over : List Node → DriveState
drive_over nodes = record {
  naming = Exact;
  label = [];
  limited = false;
  nodes = nodes;
  handles = [];
  locks = [];
  waiting = [];
  next = 1;
}

-- the first node comes before the second
abbrev pub ComesBefore : Node → Node → Type 0
ComesBefore node other = is_lt (path_cmp Exact node.path other.path) ≡ true

-- The nodes stand in the order of their paths, and no two are at one path.
abbrev pub Rises : List Node → Type 0
Rises [] = Unit {0}
Rises (node ∷ nodes) = AllByRecursion (ComesBefore node) nodes × Rises nodes

-- a node is the root, or stands in a folder that is there
abbrev pub is_held : List Node → Node → Bool
is_held nodes node = length node.path == 0 || has_folder (drive_over nodes) (parent node.path)

-- The nodes of a folder and of all that is below it: they stand in order, and no two are at one path; the folder itself is the root, and comes
-- first; each other node stands in a folder that is there; and the names of their paths are names.
pub record IsFolderMap (nodes : List Node) : Type 0 where
  pub rises : Rises nodes
  pub root : (first : Node) × (others : List Node) × (nodes ≡ first ∷ others) × (first.path ≡ []) × (first.bytes ≡ None)
  pub held : AllByRecursion (λ (node : Node). is_held nodes node ≡ true) nodes
  pub named : AllByRecursion (λ (node : Node). list_all is_name node.path ≡ true) nodes
