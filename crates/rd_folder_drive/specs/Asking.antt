-- What a drive asks its folder before it changes something.
use Rattle.std.specs.Prelude.{◌≡◌, Bool, true, List, Option, Some}
use Rattle.std.specs.Option.{option_map}
use Rattle.rd_dirinfo.specs.Paths.{Names}
use Rattle.rd_drive.specs.DriveState.{Node, has_children, has_folder}
use Rattle.rd_folder.specs.declared.look.Look.{Look}
use Rattle.rd_folder.specs.FolderCalls.{look_of, node_there}
use Rattle.rd_folder.specs.Told.{drive_over}
use Rattle.rd_folder_drive.specs.Served.{Seen}

-- This stands at a path, or nothing does, where the folder tells its nodes.
abbrev pub IsLookAt : Seen → Names → Option Look → Type 0
IsLookAt folder path found = (nodes : List Node) → folder.told ≡ Some nodes → option_map look_of (node_there nodes path) ≡ found

-- whether a folder stands at a path
abbrev pub TellsFolder : Seen → Names → Bool → Type 0
TellsFolder folder path is = (nodes : List Node) → folder.told ≡ Some nodes → has_folder (drive_over nodes) path ≡ is

-- a folder stands at a path
abbrev pub IsFolderAt : Seen → Names → Type 0
IsFolderAt folder path = (nodes : List Node) → folder.told ≡ Some nodes → has_folder (drive_over nodes) path ≡ true

-- whether something stands in the folder at a path
abbrev pub HasNames : Seen → Names → Bool → Type 0
HasNames folder path some = (nodes : List Node) → folder.told ≡ Some nodes → has_children (drive_over nodes) path ≡ some
