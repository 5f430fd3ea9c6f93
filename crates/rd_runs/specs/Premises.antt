-- What statements about runs take of lines, and what they give of handles.
use Rattle.std.specs.Prelude.{◌≡◌, ℕ, ◌^◌, ◌<◌, List, Some, IfSome}
use Rattle.std.specs.List.{AllByRecursion}
use Rattle.rd_drive.specs.Bounded.{IsBounded}
use Rattle.rd_irp.specs.Fits.{Fits}
use Rattle.rd_irp.specs.Written.{IsOpInRange}
use Rattle.rd_pending.specs.declared.calls.Handle.{Handle}
use Rattle.rd_script.specs.declared.line.NumberedLine.{NumberedLine}
use Rattle.rd_declared.specs.declared.device.SessionDevice.{SessionDevice}
use Rattle.rd_declared.specs.declared.device.SessionDevice.TheVariants as session
use Rattle.rd_declared.specs.Devices.{Declared}
use Rattle.rd_declared.specs.Declaring.{AreDeclared, AreNotable, bare_lines, declared_devices}
use Rattle.rd_world.specs.Run.{asked_by}
use Rattle.rd_deeds.specs.Talk.{Has}
use Rattle.rd_world.specs.World.{Asked}

-- What a line asks for fits a request, whose fields have room for its numbers.
pub record IsSubmittable (asked : Asked) : Type 0 where
  pub fits : Fits asked.op
  pub range : IsOpInRange asked.op
  pub device : IfSome asked.device (λ device. device < 2 ^ 32)

-- the same of each of these lines
abbrev pub AreSubmittable : List NumberedLine → Type 0
AreSubmittable lines = (l : NumberedLine) (a : ℕ) (asked : Asked) → Has l lines → asked_by l.line ≡ Some (a, asked) → IsSubmittable asked

-- a request has room for the numbers of a handle
abbrev pub IsHandleInRange : Handle → Type 0
IsHandleInRange h = (h.device < 2 ^ 32) × (h.file < 2 ^ 32)

-- a drive is within its bounds; a printer has none
abbrev pub DeviceFits : SessionDevice → Type 0
DeviceFits (session.Drive s) = IsBounded s
DeviceFits (session.Printer s) = Unit {0}

-- the same of each device that lines declare, with what is on it
abbrev pub AreBounded : List NumberedLine → Type 0
AreBounded lines = AllByRecursion (λ (e : ℕ × Declared). DeviceFits (e.1).state) (declared_devices (bare_lines lines))

-- Of lines: what they ask for fits, what they declare is within the limits of a script, the devices are within their bounds, and what they tell of printers is short.
pub record RunPremises (lines : List NumberedLine) : Type 0 where
  pub fitting : AreSubmittable lines
  pub declared : AreDeclared lines
  pub bounded : AreBounded lines
  pub notable : AreNotable lines
