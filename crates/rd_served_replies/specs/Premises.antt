-- What is taken of a client's front: with which devices it begins, and that each pass of a desk gives back its own jobs.
use Rattle.std.specs.Prelude.{◌≡◌, ℕ, List, slice_get, Some, IfSome}
use Rattle.std.specs.List.{AllByRecursion}
use Rattle.std.specs.Map.{lookup}
use Rattle.std.specs.Ordering.{nat_cmp}
use Rattle.std.specs.BTreeMap.{is_at}
use Rattle.rd_base.specs.declared.journal.Key.{Key}
use Rattle.rd_desk.specs.Own.{GivesOwnBack}
use Rattle.rd_desk.specs.declared.calls.DeskCall.{DeskCall}
use Rattle.rd_desk.specs.declared.calls.DeskReply.{DeskReply}
use Rattle.rd_drive.specs.Answered.{drive_parked}
use Rattle.rd_drive.specs.DriveState.{DriveState}
use Rattle.rd_front.specs.State.{DeviceDeskState}
use Rattle.rd_irp.specs.declared.request.Request.{Request}
use Rattle.rd_served.specs.ServedDevices.{ServedDeviceState, made, over}
use Rattle.rd_station.specs.Station.{new_station}
use Rattle.rd_turn.specs.History.{calls_of}
use Rattle.rd_turn.specs.declared.object.Entry.{Entry}

-- What waits in a drive over a folder that tells its nodes is what waits in the drive with these.
abbrev pub IsFitServed : ServedDeviceState → Type 0
IsFitServed (made device) = Unit {0}
IsFitServed (over drive) = IfSome drive.drive (λ (s : DriveState). drive.parked ≡ drive_parked s)

-- The desks are of fit devices among these: the station of each begins as a new one of its device.
pub record AreOpened (devices : List (ℕ × ServedDeviceState)) (desks : List DeviceDeskState) : Type 0 where
  pub fit : AllByRecursion (λ (e : ℕ × ServedDeviceState). IsFitServed e.1) devices
  pub each : (place : ℕ) (d : DeviceDeskState) → slice_get desks place ≡ Some d → (x : ServedDeviceState) × (lookup (is_at (nat_cmp d.id)) devices ≡ Some x) × ((d.turn).opening ≡ new_station x)

-- Of the calls of a desk, those of each pass give back jobs that earlier ones of the same pass were given.
abbrev pub GivesOwn : List (Entry DeskCall DeskReply) → Type 0
GivesOwn seen = (number : ℕ) → GivesOwnBack (calls_of number seen)

-- So do the calls that the front's pass of each desk has seen.
abbrev pub GiveOwn : List DeviceDeskState → Type 0
GiveOwn desks = (place : ℕ) (d : DeviceDeskState) → slice_get desks place ≡ Some d → GivesOwn (d.pass).seen

-- both name a request with the same file and the same operation
abbrev pub NamesAlike : (Key → Request) → (Key → Request) → Key → Type 0
NamesAlike f g key = ((f key).file ≡ (g key).file) × ((f key).op ≡ (g key).op)
