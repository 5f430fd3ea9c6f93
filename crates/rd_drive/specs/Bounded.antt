-- A drive as requests leave it.
use Rattle.std.specs.Prelude.{◌≤◌, length}
use Rattle.rd_drive.specs.DriveState.{DriveState, max_waiting}
use Rattle.rd_drive.specs.Answered.{IsFitting}

-- a drive in memory within its bounds: neither its label nor a path is past its limit, and no more requests wait than may
pub record IsBounded (s : DriveState) : Type 0 where
  pub fitting : IsFitting s
  pub few : length s.waiting ≤ max_waiting
