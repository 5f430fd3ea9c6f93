-- The devices that a client opens: those that its script makes up, and its drives over folders.
use Rattle.std.specs.Prelude.{◌≡◌, ℕ, ◌-◌, ◌<◌, ◌^◌, List, [], ◌∷◌, map, Option, IfSome}
use Rattle.std.specs.BTreeMap.{insert_entry}
use Rattle.std.specs.List.{AllByRecursion}
use Rattle.std.specs.Ordering.{nat_cmp}
use Rattle.rd_client.specs.Events.{AreWritable}
use Rattle.rd_devices.specs.declared.list.Announce.{Announce}
use Rattle.rd_drive.specs.DriveState.{Node}
use Rattle.rd_folder.specs.FolderLaws.{no_faults}
use Rattle.rd_folder.specs.FolderOpens.{OpensFolder}
use Rattle.rd_folder.specs.Told.{IsFolderMap}
use Rattle.rd_folder_drive.specs.FolderDrive.{FolderDriveState, opened_over}
use Rattle.rd_script.specs.declared.line.Line.{Line}
use Rattle.rd_station.specs.Station.{StationState, new_station}
use Rattle.rd_served_devices.specs.ServedDevices as served
use Rattle.rd_served_devices.specs.ServedDevices.{ServedDeviceState, served_parked}
use Rattle.rd_declared.specs.Devices.{Declared, PrinterNames}
use Rattle.rd_declared.specs.Declaring.{AreOpenable, declared_devices}
use Rattle.rd_world.specs.Opening.{Opens}
use Rattle.rd_world.specs.Run.{station_of}
use Rattle.rd_sharing.specs.FolderLines.{folder_devices}

-- ---- which devices there are

-- A device: as it is announced, and as it begins. A drive over a folder is announced as a drive in memory.
pub record ServedDeclared : Type 0 where
  pub shown : Declared
  pub state : ServedDeviceState

-- one that lines make up
abbrev pub as_made : ℕ × Declared → ℕ × ServedDeclared
as_made e = (e.0, record { shown = e.1; state = served.made (e.1).state })

abbrev pub shown_of : ℕ × ServedDeclared → ℕ × Declared
shown_of e = (e.0, (e.1).shown)

-- the nodes that each folder had as it was opened, in order, where that is told
abbrev pub FoldersTold : Type 0
FoldersTold = Option (List (List Node))

-- A folder is opened, and a drive is made over it with this volume label.
pub record OpensOne (label : List ℕ) (before : FoldersTold) (drive : FolderDriveState) (after : FoldersTold) : Type 0 where
  pub nodes : Option (List Node)
  pub opens : OpensFolder before after nodes
  pub whole : IfSome nodes IsFolderMap
  pub over : drive ≡ opened_over (record { told = nodes; faults = no_faults }) label

-- The folders of drives are opened in their order.
abbrev pub OpenInTurn : List (ℕ × Declared) → (before : FoldersTold) → List FolderDriveState → (after : FoldersTold) → Type 0
OpenInTurn [] before [] after = after ≡ before
OpenInTurn [] before (s ∷ ss) after = ⊥
OpenInTurn (f ∷ fs) before [] after = ⊥
OpenInTurn (f ∷ fs) before (s ∷ ss) after = (mid : FoldersTold) × OpensOne (f.1).name before s mid × OpenInTurn fs mid ss after

-- with these drives over folders, each at its id
abbrev pub with_folders : List (ℕ × ServedDeclared) → List (ℕ × Declared) → List FolderDriveState → List (ℕ × ServedDeclared)
with_folders devices [] ss = devices
with_folders devices (f ∷ fs) [] = devices
with_folders devices (f ∷ fs) (s ∷ ss) = with_folders (insert_entry nat_cmp devices f.0 (record { shown = f.1; state = served.over s })) fs ss

-- The devices of lines: those that these make up, and their drives over the folders that are opened.
pub record AreServedDevices (lines : List Line) (before after : FoldersTold) (devices : List (ℕ × ServedDeclared)) : Type 0 where
  pub folders : List FolderDriveState
  pub opens : OpenInTurn (folder_devices lines) before folders after
  pub are : devices ≡ with_folders (map as_made (declared_devices lines)) (folder_devices lines) folders

-- ---- what is opened for them

abbrev pub served_station : ℕ × ServedDeclared → ℕ × StationState ServedDeviceState
served_station e = (e.0, new_station (e.1).state)

-- The stations, the announcements and the printers of devices, in the order of their ids. Nothing is done in a station yet, and nothing waits in a device.
pub record OpensServed (devices : List (ℕ × ServedDeclared)) (stations : List (ℕ × StationState ServedDeviceState)) (announced : List Announce) (printers : List (ℕ × PrinterNames)) : Type 0 where
  pub stations_are : stations ≡ map served_station devices
  pub quiet : AllByRecursion (λ (e : ℕ × ServedDeclared). served_parked (e.1).state ≡ []) devices
  pub shown : Opens (map shown_of devices) (map station_of (map shown_of devices)) announced printers
  pub openable : AreOpenable (map shown_of devices)
  pub writable : AreWritable announced

-- ---- what is told of folders

-- The folders that were opened, and the counts of openings that failed and of faults of closed folders.
pub record ToldFolders : Type 0 where
  pub opened : FoldersTold
  pub failures : ℕ
  pub trouble : ℕ

abbrev pub folders_told : FoldersTold → (failures trouble : ℕ) → ToldFolders
folders_told opened failures trouble = record { opened = opened; failures = failures; trouble = trouble }

-- No folder that was closed had a fault.
abbrev pub HadNoTrouble : (before after : ToldFolders) → Type 0
HadNoTrouble before after = (after.trouble ≡ before.trouble) × (before.trouble < 2 ^ 64 - 1)
