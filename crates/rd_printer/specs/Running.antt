-- A printer as a device.
use Rattle.std.specs.Prelude.{◌≡◌, ℕ, Bool, if◌then◌else◌, List, []}
use Rattle.rd_drive.specs.declared.plan.Job.{Job}
use Rattle.rd_drive.specs.declared.step.End.{End}
use Rattle.rd_drive.specs.declared.step.Step.{Step}
use Rattle.rd_drive.specs.Device.{Parked, is_starved}
use Rattle.rd_drive.specs.Planned.{Planned}
use Rattle.rd_drive.specs.Stepped.{Stepped, ran_step, starved_step}
use Rattle.rd_printer.specs.Printer.{PrinterState, printer_cut, printer_step}

-- what a job comes to at a moment, or nothing where no memory was found
abbrev pub printer_ran : PrinterState → Job → ℕ → Bool → Stepped PrinterState
printer_ran s job moment starved = ran_step printer_step s job.key job.file job.op moment starved

-- A printer runs a job: its state after it, the answer, and the ends are what the job comes to, or nothing came of it where it says that no memory was
-- found.
abbrev pub printer_runs : PrinterState → Planned → ℕ → Step → List End → PrinterState → Type 0
printer_runs old planned moment answer ends new =
    printer_ran old planned.job moment (is_starved answer) ≡ record { state = new; answer = answer; ends = ends }

-- An operation is answered so and leaves this state: it comes to that, or nothing came of it where the answer says that no memory was found.
abbrev pub ComesTo : Stepped PrinterState → PrinterState → Step → PrinterState → Type 0
ComesTo came old answer new = (if is_starved answer then starved_step old else came) ≡ record { state = new; answer = answer; ends = [] }

-- no request waits in a printer
abbrev pub printer_parked : PrinterState → List Parked
printer_parked s = []

-- a printer is cut off
abbrev pub printer_cuts : PrinterState → PrinterState → Type 0
printer_cuts old new = (printer_cut old).state ≡ new

-- Every state of a printer is fit.
abbrev pub IsAnyPrinter : PrinterState → Type 0
IsAnyPrinter s = Unit {0}
