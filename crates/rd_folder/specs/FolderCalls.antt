-- What each call on a folder makes of its nodes, and answers: none where there is no such change or answer.
use Rattle.std.specs.Prelude.{ℕ, ◌+◌, ◌==◌, ◌&&◌, Bool, not, nat_lt, if◌then◌else◌, List, [], ◌∷◌, length, Option, Some, None}
use Rattle.std.specs.Option.{option_map, option_and_then, is_some}
use Rattle.rd_base.specs.declared.moments.Moments.{Moments}
use Rattle.rd_contents.specs.Contents.{part, resized, written, max_len}
use Rattle.rd_dirinfo.specs.declared.naming.Naming.TheVariants.{Exact}
use Rattle.rd_dirinfo.specs.Naming.{Name}
use Rattle.rd_dirinfo.specs.Paths.{Names, is_below, is_same_path, last_name, parent}
use Rattle.rd_drive.specs.DriveState.{Node, bytes_of, has_children, has_folder, is_folder_node, made_path, new_node, node_of_path, with_new_node, with_node, without_node}
use Rattle.rd_drive.specs.Query.{node_end}
use Rattle.rd_drive.specs.QueryDir.{next_node}
use Rattle.rd_drive.specs.ReadWrite.{node_with_bytes}
use Rattle.rd_drive.specs.Rename.{renamed, without_target}
use Rattle.rd_folder.specs.declared.look.Listed.{Listed}
use Rattle.rd_folder.specs.declared.look.Look.{Look}
use Rattle.rd_folder.specs.Told.{drive_over}

-- ---- parts

-- the node at a path, if one is there
abbrev pub node_there : List Node → Names → Option Node
node_there nodes path = node_of_path (drive_over nodes) path

-- something only where a test holds
abbrev pub only_if : {X : Type 0} → Bool → Option X → Option X
only_if test some = if test then some else None

-- of a file alone
abbrev pub of_file : {X : Type 0} → Node → Option X → Option X
of_file node some = only_if (not (is_folder_node node)) some

-- something is answered, and nothing changes
abbrev pub answering : {X : Type 0} → List Node → X → Option (X × List Node)
answering nodes answer = Some (answer, nodes)

-- a change, which has no answer but that it is done
abbrev pub leaving : List Node → Option (Unit {0} × List Node)
leaving nodes = Some (tt, nodes)

-- with another node in the place of the one at its path
abbrev pub with_put : List Node → Node → List Node
with_put nodes node = (with_node (drive_over nodes) node).nodes

-- the node at a path is changed, where it can be changed so
abbrev pub changing : (Node → Option Node) → Names → List Node → Option (Unit {0} × List Node)
changing change path nodes = option_and_then (λ (node : Node). option_and_then (λ (after : Node). leaving (with_put nodes after)) (change node)) (node_there nodes path)

-- ---- what is asked

-- what is told of a node
abbrev pub look_of : Node → Look
look_of node = record { folder = is_folder_node node; end = node_end node; attributes = node.attributes; moments = node.moments }

-- what stands at a path, if anything does
abbrev pub folder_look : Names → List Node → Option (Option Look × List Node)
folder_look path nodes = answering nodes (option_map look_of (node_there nodes path))

-- a node's last name, and what is told of the node
abbrev pub listed_of : Node → Listed
listed_of node = record { name = last_name node.path; look = look_of node }

-- the first name in the folder at a path that matches a pattern and comes after another one, if one is given, with what is told of its node
abbrev pub folder_next : Names → Option Name → List ℕ → List Node → Option (Option Listed × List Node)
folder_next path after pattern nodes =
    only_if (has_folder (drive_over nodes) path) (answering nodes (option_map listed_of (next_node (drive_over nodes) path pattern after)))

-- the bytes of a file from an offset up to its end, at most so many
abbrev pub folder_read : Names → ℕ → ℕ → List Node → Option (List ℕ × List Node)
folder_read path offset count nodes = option_and_then (λ (node : Node). of_file node (answering nodes (part (bytes_of node) offset count))) (node_there nodes path)

-- ---- what changes a node

-- a file loses its bytes, and gets these attributes
abbrev pub emptied : ℕ → ℕ → Node → Option Node
emptied attributes moment node = of_file node (Some (record (node_with_bytes node moment []) { attributes = attributes }))

-- bytes are written into a file, which ends at 2^40 at the latest; no bytes change nothing
abbrev pub overwritten : ℕ → List ℕ → ℕ → Node → Option Node
overwritten offset [] moment node = of_file node (Some node)
overwritten offset (b ∷ bs) moment node =
    of_file node (only_if (not (nat_lt max_len (offset + length (b ∷ bs)))) (Some (node_with_bytes node moment (written (bytes_of node) offset (b ∷ bs)))))

-- a file is cut at an end, which is 2^40 at most, or extended to it by zeros
abbrev pub ended_at : ℕ → ℕ → Node → Option Node
ended_at end moment node = of_file node (only_if (not (nat_lt max_len end)) (Some (node_with_bytes node moment (resized (bytes_of node) end))))

-- a node gets these attributes and moments
abbrev pub marked_so : ℕ → Moments → Node → Option Node
marked_so attributes moments node = Some (record node { attributes = attributes; moments = moments })

abbrev pub folder_replace : Names → ℕ → ℕ → List Node → Option (Unit {0} × List Node)
folder_replace path attributes moment = changing (emptied attributes moment) path

abbrev pub folder_write : Names → ℕ → List ℕ → ℕ → List Node → Option (Unit {0} × List Node)
folder_write path offset bytes moment = changing (overwritten offset bytes moment) path

abbrev pub folder_resize : Names → ℕ → ℕ → List Node → Option (Unit {0} × List Node)
folder_resize path end moment = changing (ended_at end moment) path

abbrev pub folder_mark : Names → ℕ → Moments → List Node → Option (Unit {0} × List Node)
folder_mark path attributes moments = changing (marked_so attributes moments) path

-- ---- what changes which nodes there are

-- whether a node may be made at a path: it isn't the root's, a folder is at its parent, and nothing is there
abbrev pub may_make : List Node → Names → Bool
may_make nodes path = not (length path == 0) && (has_folder (drive_over nodes) (parent path) && not (is_some (node_there nodes path)))

-- a node is made at a path, with these bytes or none
abbrev pub making : Names → Option (List ℕ) → ℕ → ℕ → List Node → Option (Unit {0} × List Node)
making path bytes attributes moment nodes =
    only_if (may_make nodes path) (leaving (with_new_node (drive_over nodes) (new_node (made_path (drive_over nodes) path) bytes attributes moment)).nodes)

-- a folder or an empty file is made at a path
abbrev pub folder_make : Names → Bool → ℕ → ℕ → List Node → Option (Unit {0} × List Node)
folder_make path folder attributes moment = making path (if folder then None else Some []) attributes moment

-- whether a node that isn't the root may get another path: it isn't the root's or one below the node, a folder is at its parent, and no folder is there
abbrev pub may_move : List Node → Names → Names → Bool
may_move nodes from to =
    not (length to == 0) && (not (is_below Exact from to) && (has_folder (drive_over nodes) (parent to) && not (has_folder (drive_over nodes) to)))

-- The nodes when one that isn't the root, with all that is below it, gets another path, and takes the place of a file that is there. To its own path
-- nothing changes.
abbrev pub moving : Names → Names → ℕ → List Node → Node → Option (Unit {0} × List Node)
moving from to moment nodes node =
    if is_same_path Exact from to then leaving nodes
    else only_if (may_move nodes from to) (leaving (renamed (without_target (drive_over nodes) (node_there nodes to)) moment node (made_path (drive_over nodes) to)).nodes)

abbrev pub folder_rename : Names → Names → ℕ → List Node → Option (Unit {0} × List Node)
folder_rename from to moment nodes = only_if (not (length from == 0)) (option_and_then (moving from to moment nodes) (node_there nodes from))

-- a file, or a folder in which nothing stands, goes; the root stays
abbrev pub folder_remove : Names → List Node → Option (Unit {0} × List Node)
folder_remove path nodes =
    only_if (not (length path == 0) && (is_some (node_there nodes path) && not (has_children (drive_over nodes) path))) (leaving (without_node (drive_over nodes) path).nodes)
