-- A printer in use, for worked cases.
use Rattle.std.specs.Prelude.{ℕ, List, [], replicate, fold}
use Rattle.rd_base.specs.declared.journal.Key.{Key}
use Rattle.rd_base.specs.declared.status.Status.{Status}
use Rattle.rd_irp.specs.declared.op.Op.{Op}
use Rattle.rd_irp.specs.declared.op.Op.TheVariants as op
use Rattle.rd_irp.specs.declared.completion.Body.{Body}
use Rattle.rd_drive.specs.declared.step.Step.{Step}
use Rattle.rd_drive.specs.declared.step.Step.TheVariants as step
use Rattle.rd_drive.specs.Outcome as outcome
use Rattle.rd_printer.specs.declared.notice.Notice.{Notice}
use Rattle.rd_printer.specs.declared.notice.Notice.TheVariants.{Add}
use Rattle.rd_printer.specs.Printer.{PrinterState, new_printer, printer_step}

-- the key of the request at a place
abbrev pub key : ℕ → Key
key n = record { channel = 1; index = n }

abbrev pub opening_op : Op
opening_op = op.Create 0 0 0 0 0 0 []

-- a request by its file id and operation
abbrev pub opening_at : ℕ → ℕ × Op
opening_at file = (file, opening_op)

abbrev pub writing : ℕ → List ℕ → ℕ × Op
writing file bytes = (file, op.Write 0 bytes)

-- the printer after requests
abbrev pub printer_after : List (ℕ × Op) → PrinterState
printer_after asks = fold (λ s (ask : ℕ × Op). (printer_step s (key 0) ask.0 ask.1 0).state) new_printer asks

abbrev pub done_step : Body → Step
done_step body = step.Reply (outcome.done body)

abbrev pub refusal_step : Status → Step
refusal_step status = step.Reply (outcome.fault status)

-- a notice that a printer was added
abbrev pub addition_of : List ℕ → List ℕ → Notice
addition_of name config = Add (replicate 8 0) [] [] name config
