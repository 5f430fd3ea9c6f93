-- When the stations of a front are open as the host was told: a device that the host was told of is live at its desk, or its journal is worn; and no other is live.
use Rattle.std.specs.Prelude.{◌≡◌, ◌⊎◌, ℕ, true, false, slice_get, Some}
use Rattle.rd_front.specs.Front.{is_told_there}
use Rattle.rd_front.specs.State.{DeviceDeskState, SessionStation}
use Rattle.rd_served_order.specs.ServedServed.{Served}
use Rattle.rd_served_causes.specs.Worn.{IsWorn}

-- a desk with its station
abbrev pub IsDeskAt : Served → ℕ → DeviceDeskState → SessionStation → Type 0
IsDeskAt p place d s = (slice_get (p.front).desks place ≡ Some d) × (slice_get p.stations place ≡ Some s)

-- So it is but for devices that are still to be announced to their desks, and those that are still to be cut off there.
pub record IsOpenBut (Due Cut : ℕ → Type 0) (p : Served) : Type 0 where
  pub told : (place : ℕ) (d : DeviceDeskState) (s : SessionStation) → IsDeskAt p place d s → (p.front).on ≡ true → is_told_there p.front d.id ≡ true → ((s.live ≡ true) ⊎ IsWorn s) ⊎ Due d.id
  pub live : (place : ℕ) (d : DeviceDeskState) (s : SessionStation) → IsDeskAt p place d s → s.live ≡ true → ((p.front).on ≡ true) × ((is_told_there p.front d.id ≡ true) ⊎ Cut d.id)

-- none is
abbrev pub Never : ℕ → Type 0
Never device = ⊥

abbrev pub IsOpen : Served → Type 0
IsOpen p = IsOpenBut Never Never p

-- no station is live while no channel is on
abbrev pub AreOff : Served → Type 0
AreOff p = (p.front).on ≡ false → (place : ℕ) (d : DeviceDeskState) (s : SessionStation) → IsDeskAt p place d s → s.live ≡ false
