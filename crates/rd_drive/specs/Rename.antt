-- Renaming (MS-FSCC 2.4.37, in the form of MS-RDPEFS 2.2.3.3.9.1).
use Rattle.std.specs.Prelude.{ℕ, ◌==◌, ◌&&◌, ◌||◌, Bool, false, not, if◌then◌else◌, List, [], ◌∷◌, ◌++◌, length, drop, map, bytes_eq, Option, Some, None, is_some}
use Rattle.std.specs.List.{list_any}
use Rattle.std.specs.Option.{option_map_or}
use Rattle.rd_irp.specs.declared.completion.Body.TheVariants.{Count}
use Rattle.rd_dirinfo.specs.Paths.{Names, parsed_path, is_same_path, is_prefix, is_below, is_within_limits, moved_path, parent, last_name}
use Rattle.rd_drive.specs.DriveState.{DriveState, Handle, Node, in_order, node_of_path, made_path, with_node, without_node, is_folder_node, has_folder, is_open}
use Rattle.rd_drive.specs.Access.{is_readonly}
use Rattle.rd_drive.specs.Outcome.{Outcome, Change, changed, no_news, fault, one_of, checked, given, succeeded}
use Rattle.rd_drive.specs.Changes.{removed, renamed_from, renamed_to}
use Rattle.rd_base.specs.Statuses.{access_denied, invalid_parameter, object_name_invalid, object_path_not_found, object_name_collision}

-- ---- moving

-- the drive with the node at one path, and all that is below it, moved to another: in nodes and handles
abbrev pub with_moved : DriveState → Names → Names → DriveState
with_moved s from to = record s {
  nodes = in_order s.naming (map (λ (node : Node). record node { path = moved_path s.naming from to node.path }) s.nodes);
  handles = map (λ (entry : ℕ × Handle). (entry.0, record entry.1 { path = moved_path s.naming from to (entry.1).path })) s.handles;
}

-- the same, and the moment of the node's change
abbrev pub renamed : DriveState → ℕ → Node → Names → DriveState
renamed s moment node to =
    with_node (with_moved s node.path to) (record node { path = to; moments = record node.moments { change = moment } })

-- whether the path of some node that moves would be past the limits
abbrev pub nodes_go_too_deep : DriveState → Names → Names → Bool
nodes_go_too_deep s from path =
    list_any (λ (node : Node). is_prefix s.naming from node.path && not (is_within_limits (path ++ drop (length from) node.path))) s.nodes

-- whether the path of some open handle that moves would be
abbrev pub handles_go_too_deep : DriveState → Names → Names → Bool
handles_go_too_deep s from path =
    list_any (λ (entry : ℕ × Handle). is_prefix s.naming from (entry.1).path && not (is_within_limits (path ++ drop (length from) (entry.1).path))) s.handles

-- Whether a moved path would be past the limits, of those that are tested: where the nodes are limited, those of all nodes that move; in a folder
-- the new path itself, and those of the open handles that move.
abbrev pub goes_too_deep : DriveState → Names → Names → Bool
goes_too_deep s from path =
    if s.limited then nodes_go_too_deep s from path else not (is_within_limits path) || handles_go_too_deep s from path

-- ---- what stands at the target

-- without it
abbrev pub without_target : DriveState → Option Node → DriveState
without_target s None = s
without_target s (Some target) = without_node s target.path

-- the change that it went
abbrev pub target_removed : Option Node → List Change
target_removed None = []
target_removed (Some target) = removed target ∷ []

-- whether it can't be replaced: a folder, a file that is read-only, or one that is open
abbrev pub is_protected : DriveState → Node → Bool
is_protected s target = is_folder_node target || is_readonly target || is_open s target.path

-- ---- the operation

-- To its own path: the name is kept as it is asked now, where it has other units.
abbrev pub respell : DriveState → ℕ → ℕ → Node → Names → Outcome
respell s moment count node to =
    one_of (bytes_eq (last_name node.path) (last_name to))
    (succeeded s (Count count) no_news)
    (succeeded (renamed s moment node to) (Count count) (changed (renamed_from node.path node ∷ renamed_to to node ∷ [])))

-- To another path.
abbrev pub relocate : DriveState → ℕ → ℕ → Node → Bool → Names → Names → Option Node → Outcome
relocate s moment count node replace path to target =
    checked s
    ((is_below s.naming node.path path, fault invalid_parameter)
    ∷ (not (has_folder s (parent path)), fault object_path_not_found)
    ∷ (goes_too_deep s node.path path, fault object_name_invalid)
    ∷ (is_some target && not replace, fault object_name_collision)
    ∷ (option_map_or (is_protected s) target false, fault access_denied)
    ∷ [])
    (succeeded (renamed (without_target s target) moment node to) (Count count)
    (changed (target_removed target ++ renamed_from node.path node ∷ renamed_to to node ∷ [])))

-- A node that isn't the root gets the path that these units spell: its folder's as the drive has it, and the last name as asked.
abbrev pub rename_to : DriveState → ℕ → ℕ → Node → Bool → List ℕ → Outcome
rename_to s moment count node replace units =
    given s (parsed_path units) object_name_invalid (λ path.
    checked s
    ((length path == 0, fault access_denied)
    ∷ [])
    (one_of (is_same_path s.naming path node.path)
    (respell s moment count node (made_path s path))
    (relocate s moment count node replace path (made_path s path) (node_of_path s path))))
