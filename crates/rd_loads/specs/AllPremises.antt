-- What every run takes of its lines.
use Rattle.std.specs.Prelude.{ℕ, ◌≤◌, List, length, map}
use Rattle.rd_answered.specs.Refusing.{DeclareInRoom}
use Rattle.rd_orders.specs.ControlsControls.{AreOrderedLines}
use Rattle.rd_orders.specs.Orders.{DeclaresWritable}
use Rattle.rd_orders.specs.RangesRanges.{AreFreshDevices}
use Rattle.rd_answered.specs.RunsPremises.{RunPremises}
use Rattle.rd_script.specs.declared.line.NumberedLine.{NumberedLine}
use Rattle.rd_world.specs.Applications.{AreNumbered}
use Rattle.rd_declared.specs.Devices.{Declared}
use Rattle.rd_declared.specs.Declaring.{bare_lines, declared_devices}

-- What lines ask for, declare and tell of printers is within the limits of a script; they are few, their numbers rise, and their devices can be announced and begin
-- within their bounds, with nothing that waits in them.
pub record MeetPremises (lines : List NumberedLine) : Type 0 where
  pub run : RunPremises lines
  pub few : length lines ≤ 1000000
  pub declared : DeclareInRoom lines
  pub writable : DeclaresWritable lines
  pub numbered : AreNumbered lines
  pub ordered : AreOrderedLines (map (λ (d : ℕ × Declared). d.0) (declared_devices (bare_lines lines))) lines
  pub fresh : AreFreshDevices (declared_devices (bare_lines lines))
