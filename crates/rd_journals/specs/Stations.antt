-- What holds of the station of a device, whatever happened.
use Rattle.std.specs.Prelude.{◌≡◌, ◌⊎◌, ℕ, ◌<◌, List, [], Some}
use Rattle.std.specs.List.{AllByRecursion}
use Rattle.rd_base.specs.declared.journal.Key.{Key}
use Rattle.rd_drive.specs.Bounded.{IsBounded}
use Rattle.rd_station.specs.Sound.{IsSound}
use Rattle.rd_station.specs.Station.{StationState}
use Rattle.rd_station.specs.declared.memory.Memory.{Memory}
use Rattle.rd_declared.specs.Devices.{Declared, device_cuts, device_parked, device_runs}
use Rattle.rd_declared.specs.declared.device.SessionDevice.{SessionDevice}
use Rattle.rd_declared.specs.declared.device.SessionDevice.TheVariants as session

-- a drive is within its bounds; a printer has none
abbrev pub IsFit : SessionDevice → Type 0
IsFit (session.Drive s) = IsBounded s
IsFit (session.Printer s) = Unit {0}

-- nothing is held
abbrev pub IsIdle : StationState SessionDevice → Type 0
IsIdle s = (s.waiting ≡ []) × (s.taken ≡ []) × (s.parked ≡ []) × (s.ready ≡ [])

-- A station over a fit device that came to be by its calls. What it holds came on this channel, and what it forgot on an earlier one.
pub record IsOn (c : ℕ) (s : StationState SessionDevice) : Type 0 where
  pub fit : IsFit s.device
  pub keys : List (ℕ × Key)
  pub spare : ℕ
  pub memory : Memory
  pub sound : IsSound device_runs device_parked device_cuts s keys spare memory
  pub last : (key : Key) → memory.last ≡ Some key → (key.channel ≡ c) ⊎ IsIdle s
  pub forgotten : (f : ℕ) → memory.forgotten ≡ Some f → f < c

-- Devices as lines declare them are fit, and no request waits in one.
abbrev pub AreFit : List (ℕ × Declared) → Type 0
AreFit devices = AllByRecursion (λ (e : ℕ × Declared). IsFit (e.1).state × (device_parked (e.1).state ≡ [])) devices
