-- Devices as they are opened one after the other.
use Rattle.std.specs.Prelude.{◌≡◌, ℕ, ◌<◌, ◌≤◌, List, [], length, map, All}
use Rattle.std.specs.List.{AllByRecursion, insert, zip}
use Rattle.std.specs.List.Sorted.{IsNonDecreasingBy, IsPartitionPoint, IsStrictlySortedBy}
use Rattle.std.specs.Map.{keys_of}
use Rattle.std.specs.Ordering.{nat_cmp, ordering_index}
use Rattle.std.specs.declared.cmp.Ordering.TheVariants.{Less, Greater}
use Rattle.rd_client.specs.Events.{IsWritableDevice}
use Rattle.rd_devices.specs.declared.list.Announce.{Announce}
use Rattle.rd_folder_drive.specs.FolderDrive.{FolderDriveState}
use Rattle.rd_station.specs.Station.{StationState, new_station}
use Rattle.rd_served_devices.specs.ServedDevices as served
use Rattle.rd_served_devices.specs.ServedDevices.{ServedDeviceState, served_parked}
use Rattle.rd_declared.specs.Devices.{Declared, PrinterNames, announce_of, device_parked}
use Rattle.rd_declared.specs.Declaring.{IsOpenable, max_session_devices}
use Rattle.rd_world.specs.Run.{printers_of}
use Rattle.rd_declared.specs.declared.device.SessionDevice.{SessionDevice}
use Rattle.rd_sharing.specs.declared.devices.Devices.{Devices}
use Rattle.rd_sharing.specs.ServedOpening.{FoldersTold, OpenInTurn, ServedDeclared, shown_of, with_folders}

-- nothing waits in the device of a station
abbrev pub IsQuietStation : StationState SessionDevice → Type 0
IsQuietStation s = device_parked s.device ≡ []

-- a station anew, over the same device
abbrev pub anew : StationState SessionDevice → StationState ServedDeviceState
anew s = new_station (served.made s.device)

-- there are as many stations and announcements as ids
pub record AreSideBySide {F : Type 0} (kept : Devices F) : Type 0 where
  pub stations : length kept.stations.items ≡ length kept.ids.items
  pub announced : length kept.announced.items ≡ length kept.ids.items

-- The devices of stations are kept, each in a station anew, and are announced so.
pub record KeepsMade {F : Type 0} (stations : List (ℕ × StationState SessionDevice)) (announced : List Announce) (kept : Devices F) : Type 0 where
  pub list : List (StationState SessionDevice)
  pub same : length list ≡ length kept.ids.items
  pub seen : zip kept.ids.items list ≡ stations
  pub stations_are : kept.stations.items ≡ map anew list
  pub announced_are : kept.announced.items ≡ announced
  pub writable : All IsWritableDevice announced

-- These devices are kept, with printers among them. They can be announced, and nothing waits in them.
pub record KeepsDevices {F : Type 0} (devices : List (ℕ × ServedDeclared)) (printers : List (ℕ × PrinterNames)) (kept : Devices F) : Type 0 where
  pub ids_are : kept.ids.items ≡ keys_of devices
  pub stations_are : kept.stations.items ≡ map (λ (e : ℕ × ServedDeclared). new_station (e.1).state) devices
  pub announced_are : kept.announced.items ≡ map (λ (e : ℕ × ServedDeclared). announce_of [] (e.1).shown) devices
  pub printers_are : printers ≡ printers_of (map shown_of devices)
  pub rise : IsStrictlySortedBy nat_cmp (keys_of devices)
  pub few : length devices ≤ max_session_devices
  pub openable : AllByRecursion (λ (e : ℕ × ServedDeclared). IsOpenable (shown_of e)) devices
  pub quiet : AllByRecursion (λ (e : ℕ × ServedDeclared). served_parked (e.1).state ≡ []) devices
  pub writable : AllByRecursion IsWritableDevice kept.announced.items

-- A device more is kept at the place of its id, which none had.
pub record AddsDevice {F : Type 0} (id : ℕ) (device : ServedDeviceState) (announce : Announce) (old new : Devices F) : Type 0 where
  pub place : ℕ
  pub within : place ≤ length old.ids.items
  pub found : IsNonDecreasingBy (λ (k : ℕ). ordering_index (nat_cmp k id)) old.ids.items → IsPartitionPoint (λ (k : ℕ). nat_cmp k id ≡ Less) (λ (k : ℕ). nat_cmp k id ≡ Greater) old.ids.items place
  pub few : length old.ids.items < max_session_devices
  pub ids_are : new.ids.items ≡ insert old.ids.items place id
  pub stations_are : new.stations.items ≡ insert old.stations.items place (new_station device)
  pub announced_are : new.announced.items ≡ insert old.announced.items place announce
  pub writable : IsWritableDevice announce

-- The folders of these drives are opened, and the drives are kept besides, whatever devices were kept before.
pub record OpensFolders {F : Type 0} (drives : List (ℕ × Declared)) (before after : FoldersTold) (old new : Devices F) : Type 0 where
  pub folders : List FolderDriveState
  pub opens : OpenInTurn drives before folders after
  pub keeps : (devices : List (ℕ × ServedDeclared)) (printers : List (ℕ × PrinterNames)) → KeepsDevices devices printers old → KeepsDevices (with_folders devices drives folders) printers new
