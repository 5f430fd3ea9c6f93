-- What a printer does with a request (this project's choice), and what is left when it is cut off.
use Rattle.std.specs.Prelude.{ℕ, ◌+◌, ◌^◌, ◌-◌, ◌||◌, nat_le, nat_lt, if◌then◌else◌, List, [], ◌∷◌, ◌++◌, length}
use Rattle.std.specs.Option.{option_map_or}
use Rattle.std.specs.Map.{lookup, remove_entry}
use Rattle.std.specs.Ordering.{nat_cmp}
use Rattle.std.specs.BTreeMap.{insert_entry, is_at}
use Rattle.rd_base.specs.declared.journal.Key.{Key}
use Rattle.rd_base.specs.declared.status.Status.{Status}
use Rattle.rd_irp.specs.declared.op.Op.{Op}
use Rattle.rd_irp.specs.declared.op.Op.TheVariants as op
use Rattle.rd_irp.specs.declared.completion.Body.{Body}
use Rattle.rd_irp.specs.declared.completion.Body.TheVariants as body
use Rattle.rd_irp.specs.declared.completion.Reply.{Reply}
use Rattle.rd_drive.specs.declared.step.Step.TheVariants as step
use Rattle.rd_drive.specs.Outcome.{done, fault}
use Rattle.rd_drive.specs.Stepped.{Settled, Stepped}
use Rattle.rd_drive.specs.DriveState.{file_id_limit}
use Rattle.rd_base.specs.Statuses as status

-- the bytes of an open document by its file id, the finished documents in order, and the file id that is given next
pub record PrinterState : Type 0 where
  pub documents : List (ℕ × List ℕ)
  pub finished : List (List ℕ)
  pub next : ℕ

-- a printer to which nothing was printed
abbrev pub new_printer : PrinterState
new_printer = record { documents = []; finished = []; next = 1 }

-- the most open documents, and what every file id is below
abbrev pub max_open : ℕ
max_open = 4096

-- the most bytes of a document
abbrev pub max_document : ℕ
max_document = 2 ^ 32 - 1

-- the request is answered, and nothing that waited ends: none waits at a printer
abbrev pub stepped_with_reply : PrinterState → Reply → Stepped PrinterState
stepped_with_reply s reply = record { state = s; answer = step.Reply reply; ends = [] }

abbrev pub printer_refused : PrinterState → Status → Stepped PrinterState
printer_refused s cause = stepped_with_reply s (fault cause)

abbrev pub printer_succeeded : PrinterState → Body → Stepped PrinterState
printer_succeeded s b = stepped_with_reply s (done b)

-- an operation on an open document
abbrev pub on_document : PrinterState → ℕ → (List ℕ → Stepped PrinterState) → Stepped PrinterState
on_document s file outcome = option_map_or outcome (lookup (is_at (nat_cmp file)) s.documents) (printer_refused s status.invalid_handle)

-- Create, whatever it asks for: a new document, if there is room for one
abbrev pub open_document : PrinterState → Stepped PrinterState
open_document s =
    if nat_le max_open (length s.documents) || nat_le file_id_limit s.next then printer_refused s status.too_many_opened_files
    else printer_succeeded (record s { documents = insert_entry nat_cmp s.documents s.next []; next = s.next + 1 }) (body.Created s.next 0)

-- Write: the bytes are appended, wherever they are meant to stand
abbrev pub print : PrinterState → ℕ → List ℕ → List ℕ → Stepped PrinterState
print s file bytes printed =
    if nat_lt max_document (length printed + length bytes) then printer_refused s status.disk_full
    else printer_succeeded (record s { documents = insert_entry nat_cmp s.documents file (printed ++ bytes) }) (body.Count (length bytes))

-- the document is open no more
abbrev pub without_document : PrinterState → ℕ → PrinterState
without_document s file = record s { documents = remove_entry (is_at (nat_cmp file)) s.documents }

-- Close: the document is finished
abbrev pub finish : PrinterState → ℕ → List ℕ → Stepped PrinterState
finish s file printed = printer_succeeded (record (without_document s file) { finished = s.finished ++ printed ∷ [] }) body.Closed

-- what a request does
abbrev pub printer_step : PrinterState → Key → ℕ → Op → ℕ → Stepped PrinterState
printer_step s key file (op.Malformed major minor bad) moment = printer_refused s status.invalid_parameter
printer_step s key file (op.Create access allocation attributes share disposition options path) moment = open_document s
printer_step s key file (op.Write offset bytes) moment = on_document s file (print s file bytes)
printer_step s key file op.Close moment = on_document s file (finish s file)
printer_step s key file _ moment = printer_refused s status.invalid_device_request

-- Open documents are dropped.
abbrev pub printer_cut : PrinterState → Settled PrinterState
printer_cut s = record { state = record s { documents = [] }; ends = [] }
