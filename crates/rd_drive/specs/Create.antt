-- Create: opening what is there, or making it (MS-RDPEFS 2.2.1.4.1).
use Rattle.std.specs.Prelude.{ℕ, ◌==◌, ◌&&◌, ◌||◌, Bool, not, nat_le, nat_lt, if◌then◌else◌, List, [], ◌∷◌, length, map, Option, Some, None, false}
use Rattle.std.specs.List.{list_any, list_all}
use Rattle.std.specs.Option.{option_map_or}
use Rattle.rd_dirinfo.specs.Paths.{Names, parsed_path, parent}
use Rattle.rd_dirinfo.specs.Patterns.{any_name}
use Rattle.rd_irp.specs.declared.completion.Body.TheVariants.{Created}
use Rattle.rd_drive.specs.DriveState.{DriveState, Node, Handle, node_of_path, made_path, with_node, with_new_node, with_new_handle, has_open, is_folder_node, has_folder, new_node, max_handles, file_id_limit}
use Rattle.rd_drive.specs.declared.access.Use.{Use}
use Rattle.rd_drive.specs.declared.asked.Asked.{Asked}
use Rattle.rd_drive.specs.Access.{use_of, clash, has_any, writes, is_readonly, new_file_attributes, new_folder_attributes}
use Rattle.rd_drive.specs.Outcome.{Outcome, Change, changed, fault, one_of, checked, given, succeeded}
use Rattle.rd_drive.specs.Changes.{added, modified}
use Rattle.rd_base.specs.Statuses.{invalid_parameter, object_name_invalid, too_many_opened_files, object_path_not_found, object_name_collision, not_a_directory, file_is_a_directory, delete_pending, access_denied, sharing_violation, object_name_not_found, disk_full}
use Rattle.rd_base.specs.Limits.{max_nodes}

-- FILE_DIRECTORY_FILE
abbrev pub wants_folder : Asked → Bool
wants_folder asked = has_any 0x1 asked.options

-- FILE_NON_DIRECTORY_FILE
abbrev pub wants_file : Asked → Bool
wants_file asked = has_any 0x40 asked.options

-- FILE_DELETE_ON_CLOSE
abbrev pub deletes_on_close : Asked → Bool
deletes_on_close asked = has_any 0x1000 asked.options

-- FILE_SUPERSEDE
abbrev pub supersede : ℕ
supersede = 0

-- FILE_OPEN
abbrev pub open_existing : ℕ
open_existing = 1

-- FILE_CREATE
abbrev pub create_new : ℕ
create_new = 2

-- FILE_OVERWRITE
abbrev pub overwrite : ℕ
overwrite = 4

-- FILE_OVERWRITE_IF, the last of the dispositions
abbrev pub overwrite_if : ℕ
overwrite_if = 5

-- whether a file that is there is replaced
abbrev pub replaces : Asked → Bool
replaces asked = asked.disposition == supersede || asked.disposition == overwrite || asked.disposition == overwrite_if

-- what can't be asked: a disposition that there isn't, a folder that is to be no folder, or one that is to be replaced
abbrev pub is_contradictory : Asked → Bool
is_contradictory asked =
    nat_lt overwrite_if asked.disposition || (wants_folder asked && wants_file asked) || (wants_folder asked && replaces asked)

-- whether no further handle can be made: there are too many, or no file id is left
abbrev pub is_full : DriveState → Bool
is_full s = nat_le max_handles (length s.handles) || nat_le file_id_limit s.next

-- a handle on the node at a path
abbrev pub new_handle : Asked → Names → Handle
new_handle asked path = record {
  path = path;
  access = asked.access;
  share = asked.share;
  delete_on_close = deletes_on_close asked;
  pattern = any_name;
  last = None;
}

-- What stands at a path is opened: the handle has the next file id.
abbrev pub opened : DriveState → Asked → Names → ℕ → List Change → Outcome
opened s asked path information changes =
    succeeded (with_new_handle s (new_handle asked path)) (Created s.next information) (changed changes)

-- ---- a node is there

-- the use of the new handle as far as sharing goes, where replacing counts as writing
abbrev pub asked_use : Asked → Use
asked_use asked =
    let own = use_of asked.access asked.share in
    record own { is_writing = own.is_writing || replaces asked }

-- whether a handle on the node clashes with it
abbrev pub is_in_use : DriveState → Asked → Names → Bool
is_in_use s asked path =
    list_any (λ entry. has_open s path entry && clash (asked_use asked) (use_of (entry.1).access (entry.1).share)) s.handles

-- the file without its bytes, with the attributes of a new one, written at this moment
abbrev pub replaced : Asked → ℕ → Node → Node
replaced asked moment node = record node {
  bytes = Some [];
  attributes = new_file_attributes asked.attributes;
  moments = record node.moments { write = moment; change = moment };
}

-- FILE_SUPERSEDED (0), FILE_OVERWRITTEN (3) or FILE_OPENED (1); a new node has the first
abbrev pub found_information : Asked → ℕ
found_information asked = if asked.disposition == supersede then 0 else (if replaces asked then 3 else 1)

abbrev pub open_node : DriveState → Asked → ℕ → Node → Outcome
open_node s asked moment node =
    checked s
    ((asked.disposition == create_new, fault object_name_collision)
    ∷ (wants_folder asked && not (is_folder_node node), fault not_a_directory)
    ∷ (is_folder_node node && (wants_file asked || replaces asked), fault file_is_a_directory)
    ∷ (node.pending, fault delete_pending)
    ∷ (deletes_on_close asked && length node.path == 0, fault access_denied)
    ∷ (is_readonly node && (writes asked.access || replaces asked), fault access_denied)
    ∷ (is_in_use s asked node.path, fault sharing_violation)
    ∷ [])
    (one_of (replaces asked)
    (opened (with_node s (replaced asked moment node)) asked node.path (found_information asked) (modified node.path ∷ []))
    (opened s asked node.path (found_information asked) []))

-- ---- no node is there

-- what a new node stores
abbrev pub made_attributes : Asked → ℕ
made_attributes asked = if wants_folder asked then new_folder_attributes asked.attributes else new_file_attributes asked.attributes

-- a folder, or an empty file
abbrev pub made_node : Asked → Names → ℕ → Node
made_node asked path moment = new_node path (if wants_folder asked then None else Some []) (made_attributes asked) moment

-- whether the node at a path goes with its last handle
abbrev pub is_pending_at : DriveState → Names → Bool
is_pending_at s path = option_map_or (λ (node : Node). node.pending) (node_of_path s path) false

abbrev pub make_node : DriveState → Asked → ℕ → Names → Outcome
make_node s asked moment path =
    let node = made_node asked (made_path s path) moment in
    checked s
    ((asked.disposition == open_existing || asked.disposition == overwrite, fault object_name_not_found)
    ∷ (is_pending_at s (parent path), fault delete_pending)
    ∷ (s.limited && nat_le max_nodes (length s.nodes), fault disk_full)
    ∷ [])
    (opened (with_new_node s node) asked node.path 0 (added node ∷ []))

-- ---- both

-- the paths of the folders that a path leads through, from the root on
abbrev pub folders_above : Names → List Names
folders_above [] = []
folders_above (name ∷ names) = [] ∷ map (◌∷◌ name) (folders_above names)

abbrev pub open_or_make : DriveState → Asked → ℕ → Names → Option Node → Outcome
open_or_make s asked moment path (Some node) = open_node s asked moment node
open_or_make s asked moment path None = make_node s asked moment path

-- Create
abbrev pub create : DriveState → ℕ → Asked → List ℕ → Outcome
create s moment asked units =
    checked s
    ((is_contradictory asked, fault invalid_parameter)
    ∷ [])
    (given s (parsed_path units) object_name_invalid (λ path.
    checked s
    ((is_full s, fault too_many_opened_files)
    ∷ (not (list_all (has_folder s) (folders_above path)), fault object_path_not_found)
    ∷ [])
    (open_or_make s asked moment path (node_of_path s path))))
