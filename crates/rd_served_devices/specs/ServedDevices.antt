-- The devices that a client serves: what each does with a job, what waits in it, and what it is after a cut.
use Rattle.std.specs.Prelude.{ℕ, List, Option, Some, None}
use Rattle.rd_drive.specs.declared.step.End.{End}
use Rattle.rd_drive.specs.declared.step.Step.{Step}
use Rattle.rd_drive.specs.Device.{Parked}
use Rattle.rd_drive.specs.Planned.{Planned}
use Rattle.rd_folder.specs.FolderLaws.{FolderFaults}
use Rattle.rd_folder_drive.specs.FolderDrive.{FolderCuts, FolderDriveState, FolderRuns}
use Rattle.rd_station.specs.Station.{StationState}
use Rattle.rd_station.specs.Tied.{IsReached}
use Rattle.rd_declared.specs.Devices.{device_cuts, device_parked, device_runs}
use Rattle.rd_declared.specs.declared.device.SessionDevice.{SessionDevice}
use Rattle.rd_served_devices.specs.declared.served.Which.{Which}
use Rattle.rd_served_devices.specs.declared.served.Which.TheVariants as which

-- A device: one that a script makes up, or a drive over a folder. What the folder itself is doesn't show.
pub data ServedDeviceState : Type 0 where
  made : SessionDevice → ServedDeviceState
  over : FolderDriveState → ServedDeviceState

-- A device runs a job as the one does that it is. It stays of its kind.
abbrev pub served_runs : ServedDeviceState → Planned → ℕ → Step → List End → ServedDeviceState → Type 0
served_runs (made old) planned moment answer ends (made new) = device_runs old planned moment answer ends new
served_runs (made old) planned moment answer ends (over new) = ⊥
served_runs (over old) planned moment answer ends (made new) = ⊥
served_runs (over old) planned moment answer ends (over new) = FolderRuns old planned moment answer ends new

-- the requests that wait in it, in the order in which they began to wait
abbrev pub served_parked : ServedDeviceState → List Parked
served_parked (made device) = device_parked device
served_parked (over drive) = drive.parked

-- the same of a cut
abbrev pub served_cuts : ServedDeviceState → ServedDeviceState → Type 0
served_cuts (made old) (made new) = device_cuts old new
served_cuts (made old) (over new) = ⊥
served_cuts (over old) (made new) = ⊥
served_cuts (over old) (over new) = FolderCuts old new

-- a station of such a device came to be by its calls
abbrev pub IsServedReached : StationState ServedDeviceState → Type 0
IsServedReached s = IsReached served_runs served_parked served_cuts s

-- what contracts see of a device
abbrev pub served_state : {F : Type 0} → Which F → ServedDeviceState
served_state (which.Made device) = made device
served_state (which.Over drive) = over drive

-- the faults of its folder, where it is a drive over one
abbrev pub faults_of : ServedDeviceState → Option FolderFaults
faults_of (made device) = None
faults_of (over drive) = Some drive.faults
