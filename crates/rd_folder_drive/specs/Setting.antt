-- What is set of what a file id has open.
use Rattle.std.specs.Prelude.{◌≡◌, ◌⊎◌, ℕ, ◌==◌, ◌&&◌, Bool, true, false, List, length, Some}
use Rattle.std.specs.BTreeMap.{is_at}
use Rattle.std.specs.Map.{set_value}
use Rattle.std.specs.Ordering.{nat_cmp}
use Rattle.rd_base.specs.Statuses.{access_denied, directory_not_empty}
use Rattle.rd_base.specs.declared.status.Status.{Status}
use Rattle.rd_dirinfo.specs.Paths.{Names}
use Rattle.rd_fileinfo.specs.declared.set_info.SetInfo.{SetInfo}
use Rattle.rd_drive.specs.Access.{is_readonly}
use Rattle.rd_drive.specs.DriveState.{DriveState, Node, has_children, is_folder_node}
use Rattle.rd_drive.specs.Kept.{MayNotSet, MaySet}
use Rattle.rd_drive.specs.Outcome.{Outcome, on_handle}
use Rattle.rd_drive.specs.Renaming.{rename_path}
use Rattle.rd_drive.specs.SetFile.{set_end, set_outcome}
use Rattle.rd_folder_drive.specs.declared.handle.Handle as kept
use Rattle.rd_folder_drive.specs.declared.open.Open.{Open}
use Rattle.rd_folder_drive.specs.declared.table.Table.{Table}
use Rattle.rd_folder.specs.FolderCalls.{node_there}
use Rattle.rd_folder.specs.Told.{drive_over}
use Rattle.rd_folder_drive.specs.Served.{IsOwnStatus, IsRefusedBy, Seen}
use Rattle.rd_folder_drive.specs.Table.{IsNodeOf, handle_of, kept_handle, open_at}

-- The class may be set by a handle of what is open.
abbrev pub MaySetOpen : kept.Handle → Open → ℕ → Type 0
MaySetOpen h o class = (t : Table) (s : DriveState) (node : Node) → node.path ≡ o.path → IsNodeOf o node → MaySet s (handle_of t h) node class

-- It is refused with this status.
abbrev pub MayNotSetOpen : kept.Handle → Open → ℕ → Status → Type 0
MayNotSetOpen h o class status = (t : Table) (s : DriveState) (node : Node) → node.path ≡ o.path → IsNodeOf o node → MayNotSet s (handle_of t h) node class status

-- what a file id has open is so
abbrev pub OfOpen : Table → ℕ → (Open → Type 0) → Type 0
OfOpen t file P = (h : kept.Handle) (o : Open) → kept_handle t file ≡ Some h → open_at t h.node ≡ Some o → P o

-- it is a file
abbrev pub IsOpenFile : Open → Type 0
IsOpenFile o = o.folder ≡ false

-- it isn't the root
abbrev pub IsBelowRoot : Open → Type 0
IsBelowRoot o = (length o.path == 0) ≡ false

-- what comes of a value that is set
abbrev pub sets_of : ℕ → ℕ → ℕ → SetInfo → DriveState → Outcome
sets_of file moment count info s = on_handle s file (λ handle node. set_outcome s moment count node info)

-- what comes of an end that is set, where so much was asked
abbrev pub ends : ℕ → ℕ → ℕ → ℕ → ℕ → DriveState → Outcome
ends file moment count asked end s = on_handle s file (λ handle node. set_end s moment count node asked end)

-- ---- the mark

-- a node of its kind stands at the path of what is open
abbrev pub HasNodeThere : Seen → Open → Type 0
HasNodeThere folder o = (nodes : List Node) → folder.told ≡ Some nodes → (node : Node) × (node_there nodes o.path ≡ Some node) × IsNodeOf o node

-- a folder in which something stands
abbrev pub is_filled_folder : List Node → Node → Bool
is_filled_folder nodes node = is_folder_node node && has_children (drive_over nodes) node.path

-- What is open may go with its last handle.
abbrev pub MayBePending : Seen → Open → Type 0
MayBePending folder o = (nodes : List Node) → folder.told ≡ Some nodes → (node : Node) → node_there nodes o.path ≡ Some node → (is_readonly node ≡ false) × (is_filled_folder nodes node ≡ false)

-- why a node may not go
abbrev pub IsKeptFor : List Node → Node → Status → Type 0
IsKeptFor nodes node status = ((status ≡ access_denied) × (is_readonly node ≡ true)) ⊎ ((status ≡ directory_not_empty) × (is_readonly node ≡ false) × (is_filled_folder nodes node ≡ true))

-- It may not go, or the folder refused to tell.
abbrev pub MayNotGo : Seen → Seen → Open → Status → Type 0
MayNotGo before after o status =
    ((after ≡ before) × IsOwnStatus status × ((nodes : List Node) → before.told ≡ Some nodes → (node : Node) → node_there nodes o.path ≡ Some node → IsKeptFor nodes node status))
    ⊎ ((after.told ≡ before.told) × IsRefusedBy before after status)

-- what is open by a number is pending from now on, or is no more, and nothing else changes
pub record SetsPending (old : Table) (n : ℕ) (o : Open) (pending : Bool) (new : Table) : Type 0 where
  pub rest : new ≡ record old { opens = new.opens }
  pub opens : new.opens.entries ≡ set_value (is_at (nat_cmp n)) old.opens.entries (record o { pending = pending })

-- ---- another path

-- what comes of a path that is given to what a file id has open
abbrev pub renames : ℕ → ℕ → ℕ → Bool → Names → DriveState → Outcome
renames file moment count replace path s = on_handle s file (λ handle node. rename_path s moment count node replace path)
