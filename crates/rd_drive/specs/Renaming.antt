-- The parts of renaming: why a path isn't given, what is kept and told of a node that has another one, and of one that went.
use Rattle.std.specs.Prelude.{◌≡◌, ℕ, ◌==◌, Bool, true, not, if◌then◌else◌, List, [], ◌∷◌, length, Option, Some, None, is_some}
use Rattle.rd_base.specs.declared.status.Status.{Status}
use Rattle.rd_dirinfo.specs.Naming.{Name}
use Rattle.rd_dirinfo.specs.Paths.{Names, is_same_path, last_name, parent}
use Rattle.rd_tree.specs.declared.node.NodeId.{NodeId}
use Rattle.rd_tree.specs.declared.refusal.MoveNo.{MoveNo}
use Rattle.rd_tree.specs.declared.refusal.MoveNo.TheVariants as move
use Rattle.rd_tree.specs.Places.{Places, IsLive, bytes_at, is_folder, own_path}
use Rattle.rd_drive.specs.declared.node.NodeState.{NodeState}
use Rattle.rd_drive.specs.declared.news.Named.TheVariants as named
use Rattle.rd_drive.specs.declared.news.Change as told
use Rattle.rd_drive.specs.declared.news.News as told_news
use Rattle.rd_drive.specs.DriveState.{DriveState, Node, made_path, node_of_path}
use Rattle.rd_drive.specs.Outcome.{Outcome, checked, fault, one_of}
use Rattle.rd_drive.specs.Rename.{relocate, respell}
use Rattle.rd_base.specs.Statuses.{access_denied, invalid_parameter, no_memory, object_name_collision, object_name_invalid, object_path_not_found}

-- A node that isn't the root gets a path.
abbrev pub rename_path : DriveState → ℕ → ℕ → Node → Bool → Names → Outcome
rename_path s moment count node replace path =
    checked s
    ((length path == 0, fault access_denied)
    ∷ [])
    (one_of (is_same_path s.naming path node.path)
    (respell s moment count node (made_path s path))
    (relocate s moment count node replace path (made_path s path) (node_of_path s path)))

-- the refusal, by that of the tree: a node that is in the way can't be replaced, or isn't to be
abbrev pub move_status : MoveNo → Bool → Status
move_status move.Inside replace = invalid_parameter
move_status move.PathNotFound replace = object_path_not_found
move_status move.TooDeep replace = object_name_invalid
move_status move.Collision replace = if replace then access_denied else object_name_collision
move_status move.Memory replace = no_memory

-- what is kept of a node that changed at a moment
abbrev pub changed_at : NodeState → ℕ → NodeState
changed_at state moment = record state { moments = record state.moments { change = moment } }

-- FILE_NOTIFY_CHANGE_FILE_NAME for a file, FILE_NOTIFY_CHANGE_DIR_NAME for a folder
abbrev pub kind_bit : Option (List ℕ) → ℕ
kind_bit bytes = if not (is_some bytes) then 2 else 1

-- what is told: that one went, if one did, and that another one, which a folder had by a name, has another path
abbrev pub renaming : Option told.Change → NodeId → Name → NodeId → ℕ → told_news.News
renaming gone folder name node bits = record {
  closed = None;
  unlocked = None;
  changes = gone ∷ Some (record { action = 4; named = named.Gone folder name; bits = bits }) ∷ Some (record { action = 5; named = named.Node node; bits = bits }) ∷ [];
}

-- the change that a node goes, by its folder and its name
abbrev pub going : Places → ℕ → NodeId → told.Change
going tree n folder = record { action = 2; named = named.Gone folder (last_name (own_path tree n)); bits = kind_bit (bytes_at tree n) }

-- a folder is the one in which a node stands
pub record IsAbove (tree : Places) (n : ℕ) (folder : NodeId) : Type 0 where
  pub path : own_path tree folder.0 ≡ parent (own_path tree n)
  pub live : IsLive tree folder.0
  pub folds : is_folder tree folder.0 ≡ Some true

-- a change is that a node goes
abbrev pub IsGoing : Places → ℕ → told.Change → Type 0
IsGoing tree n change = (folder : NodeId) × IsAbove tree n folder × (change ≡ going tree n folder)
