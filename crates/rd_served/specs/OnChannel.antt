-- What holds of a station while a channel goes on, whatever its device.
use Rattle.std.specs.Prelude.{◌≡◌, ◌⊎◌, ℕ, ◌<◌, List, [], Some}
use Rattle.rd_base.specs.declared.journal.Key.{Key}
use Rattle.rd_drive.specs.declared.step.End.{End}
use Rattle.rd_drive.specs.declared.step.Step.{Step}
use Rattle.rd_drive.specs.Device.{Parked}
use Rattle.rd_drive.specs.Planned.{Planned}
use Rattle.rd_front.specs.State.{SessionStation}
use Rattle.rd_station.specs.Sound.{IsSound}
use Rattle.rd_station.specs.Station.{StationState}
use Rattle.rd_station.specs.declared.memory.Memory.{Memory}
use Rattle.rd_served_devices.specs.ServedDevices.{served_cuts, served_parked, served_runs}

-- nothing is held
abbrev pub HoldsNone : {S : Type 0} → StationState S → Type 0
HoldsNone s = (s.waiting ≡ []) × (s.taken ≡ []) × (s.parked ≡ []) × (s.ready ≡ [])

-- A station that came to be by its calls. What it holds came on this channel, and what it forgot on an earlier one.
pub record IsKeptOn {S : Type 0} (Runs : S → Planned → ℕ → Step → List End → S → Type 0) (parked_in : S → List Parked) (Cuts : S → S → Type 0) (c : ℕ) (s : StationState S) : Type 0 where
  pub keys : List (ℕ × Key)
  pub spare : ℕ
  pub memory : Memory
  pub sound : IsSound Runs parked_in Cuts s keys spare memory
  pub last : (key : Key) → memory.last ≡ Some key → (key.channel ≡ c) ⊎ HoldsNone s
  pub forgotten : (f : ℕ) → memory.forgotten ≡ Some f → f < c

-- so is the station of a client's device
abbrev pub IsServedOn : ℕ → SessionStation → Type 0
IsServedOn c s = IsKeptOn served_runs served_parked served_cuts c s
