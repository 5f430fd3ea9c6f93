-- A drive that is cut off, file by file.
use Rattle.std.specs.Prelude.{◌≡◌, ℕ, List, ◌∷◌, [], Some}
use Rattle.std.specs.Map.{keys_of}
use Rattle.rd_drive.specs.DriveState.{DriveState, Node}
use Rattle.rd_folder.specs.FolderLaws.{FolderFaults}
use Rattle.rd_folder_drive.specs.declared.table.Table.{Table}
use Rattle.rd_folder_drive.specs.FolderDrive.{Closes, ClosesAll}
use Rattle.rd_folder_drive.specs.Served.{Seen}
use Rattle.rd_folder_drive.specs.Table.{drive_of}

-- A folder tells its nodes still if it told them, and what holds of the drives over them is so.
abbrev pub OverTold : Table → Seen → Table → Seen → (DriveState → DriveState → Type 0) → Type 0
OverTold old before new after P = (nodes : List Node) → before.told ≡ Some nodes → (left : List Node) × (after.told ≡ Some left) × P (drive_of old nodes) (drive_of new left)

-- The first file id is closed, and the others are open still.
pub record ClosesFirst (old : Table) (before : Seen) (new : Table) (after : Seen) : Type 0 where
  pub file : ℕ
  pub keys : keys_of old.handles.entries ≡ file ∷ keys_of (new.handles).entries
  pub closes : OverTold old before new after (λ s left. Closes s file left before.faults after.faults)

-- What comes of the files that are open yet comes of all.
abbrev pub IsOnTheWay : Table → Seen → Table → Seen → Type 0
IsOnTheWay old before now midway = OverTold old before now midway (λ s mid. (left : DriveState) (faults : FolderFaults)
    → ClosesAll mid (keys_of now.handles.entries) left midway.faults faults → ClosesAll s (keys_of old.handles.entries) left before.faults faults)

-- every file is closed, in the order of the file ids
abbrev pub ClosesEach : Table → Seen → Table → Seen → Type 0
ClosesEach old before new after = OverTold old before new after (λ s left. ClosesAll s (keys_of old.handles.entries) left before.faults after.faults)

-- no request waits any more, and every file is closed
abbrev pub Cuts : Table → Seen → Table → Seen → Type 0
Cuts old before new after = OverTold old before new after (λ s left. ClosesAll (record s { waiting = [] }) (keys_of s.handles) left before.faults after.faults)
