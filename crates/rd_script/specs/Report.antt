-- The text of a report.
use Rattle.std.specs.Prelude.{ℕ, ◌+◌, ◌-◌, ◌==◌, Bool, true, false, if◌then◌else◌, List, [], ◌∷◌, ◌++◌, codes, decimal, count_by, Vec, Option, Some, None, slice_get}
use Rattle.std.specs.List.{AllByRecursion, flat_map, list_any}
use Rattle.std.specs.Option.{unwrap_or}
use Rattle.std.specs.Int.{w32, to_be_bytes}
use Rattle.hex.specs.Hex.{encode_lower}
use Rattle.rd_base.specs.declared.journal.Cause.{Cause}
use Rattle.rd_base.specs.declared.journal.Cause.TheVariants as cause
use Rattle.rd_base.specs.declared.journal.Item.{Item}
use Rattle.rd_base.specs.declared.journal.Item.TheVariants as entry
use Rattle.rd_base.specs.declared.status.Status.{Status}
use Rattle.rd_base.specs.History.{History}
use Rattle.rd_irp.specs.declared.completion.Kind.{Kind}
use Rattle.rd_irp.specs.declared.completion.Kind.TheVariants as kind
use Rattle.rd_irp.specs.Fits.{IsCountableBody}
use Rattle.rd_irp.specs.Written.{body_bytes}
use Rattle.rd_script.specs.declared.line.NumberedLine.{NumberedLine}
use Rattle.rd_script.specs.declared.outcome.Outcome.{Outcome}
use Rattle.rd_script.specs.declared.outcome.Outcome.TheVariants as outcome
use Rattle.rd_script.specs.declared.outcome.Outcomes.{Outcomes}
use Rattle.rd_script.specs.declared.outcome.Refusal.{Refusal}
use Rattle.rd_script.specs.declared.outcome.Refusal.TheVariants as refusal
use Rattle.rd_script.specs.declared.script.Script.{Script}
use Rattle.rd_script.specs.ReportLines.{kinds_of, devices_of}

-- a status as eight lower-case digits, the highest first
abbrev pub status_digits : Status → List ℕ
status_digits status = encode_lower (to_be_bytes w32 status.0)

-- bytes as lower-case digits, two each, or a dash for none
abbrev pub hex_text : List ℕ → List ℕ
hex_text [] = codes "-"
hex_text (byte ∷ bytes) = encode_lower (byte ∷ bytes)

-- why a line was refused
abbrev pub refusal_word : Refusal → List ℕ
refusal_word refusal.NoChannel = codes "nochannel"
refusal_word refusal.NoDevice = codes "nodevice"
refusal_word refusal.StaleHandle = codes "stalehandle"
refusal_word refusal.Full = codes "full"
refusal_word refusal.Worn = codes "worn"
refusal_word refusal.NoHandle = codes "nohandle"

-- why a request was lost
abbrev pub cause_word : Cause → List ℕ
cause_word cause.Removed = codes "removed"
cause_word cause.Dropped = codes "dropped"

-- the outcome of a line whose completion has this layout
abbrev pub outcome_text : Kind → Outcome → List ℕ
outcome_text k (outcome.Done reply) = codes " done " ++ status_digits reply.status ++ codes " " ++ encode_lower (body_bytes k reply.body)
outcome_text k (outcome.Lost why) = codes " lost " ++ cause_word why
outcome_text k (outcome.Refused why) = codes " refused " ++ refusal_word why

-- the layout of the completion of an application's line, counted from 1 in that application
abbrev pub kind_of_line : List NumberedLine → ℕ × ℕ → Option Kind
kind_of_line lines id = slice_get (kinds_of id.0 lines) (id.1 - 1)

-- the outcomes of an application, each under its number, from a number on
abbrev pub numbered_from : ℕ → ℕ → List Outcome → List ((ℕ × ℕ) × Outcome)
numbered_from a number [] = []
numbered_from a number (o ∷ os) = ((a, number), o) ∷ numbered_from a (number + 1) os

-- the line of an outcome
abbrev pub outcome_line : List NumberedLine → (ℕ × ℕ) × Outcome → List ℕ
outcome_line lines e =
    decimal e.0.0 ++ codes "." ++ decimal e.0.1 ++ outcome_text (unwrap_or (kind_of_line lines e.0) kind.Buffer) e.1 ++ codes "\n"

-- the line of a control line that did nothing
abbrev pub idle_line : ℕ → List ℕ
idle_line number = codes "line " ++ decimal number ++ codes " idle\n"

-- whether an entry of a journal says that a request ran
abbrev pub is_run : Item → Bool
is_run (entry.Ran key moment starved parked) = true
is_run _ = false

-- the line of a device: how many requests it ran
abbrev pub device_line : ℕ × History → List ℕ
device_line d = codes "device " ++ decimal d.0 ++ codes " ran " ++ decimal (count_by is_run d.1.items) ++ codes "\n"

-- whether a device is among some
abbrev pub is_of_devices : List ℕ → ℕ × History → Bool
is_of_devices devices d = list_any (λ id. id == d.0) devices

-- the line of a device, if it is among some
abbrev pub listed_line : List ℕ → ℕ × History → List ℕ
listed_line devices d = if is_of_devices devices d then device_line d else []

-- the lines of a script's devices
abbrev pub device_lines : List NumberedLine → List (ℕ × History) → List ℕ
device_lines lines books = flat_map (listed_line (devices_of lines)) books

-- the lines of a device's documents, counted from a number on
abbrev pub documents_from : ℕ → ℕ → List (List ℕ) → List ℕ
documents_from device number [] = []
documents_from device number (bytes ∷ others) =
    codes "document " ++ decimal device ++ codes "." ++ decimal number ++ codes " " ++ hex_text bytes ++ codes "\n" ++ documents_from device (number + 1) others

-- the lines of all documents of a device
abbrev pub document_lines : ℕ × List (List ℕ) → List ℕ
document_lines d = documents_from d.0 1 d.1

-- the line of what a client keeps for a printer
abbrev pub cached_line : {A : Type 0} → Vec ℕ A × List ℕ → List ℕ
cached_line e = codes "cache " ++ hex_text e.0.items ++ codes " " ++ hex_text e.1 ++ codes "\n"

-- The report: the outcomes by application and line, the lines that did nothing, the devices, the documents, and what is kept for printers.
abbrev pub report_of : Script → Outcomes → List (ℕ × History) → List ℕ
report_of script outcomes books =
    flat_map (outcome_line script.lines) outcomes.lines.entries
    ++ flat_map idle_line outcomes.idle.items
    ++ device_lines script.lines books
    ++ flat_map document_lines outcomes.documents.entries
    ++ flat_map cached_line outcomes.cache.entries

-- ---- what a report can be made of

-- the buffer of a done reply is short enough for its length
abbrev pub IsCountableOutcome : Outcome → Type 0
IsCountableOutcome (outcome.Done reply) = IsCountableBody reply.body
IsCountableOutcome (outcome.Lost why) = Unit {0}
IsCountableOutcome (outcome.Refused why) = Unit {0}

-- each outcome's is
abbrev pub AreCountable : List ((ℕ × ℕ) × Outcome) → Type 0
AreCountable entries = AllByRecursion (λ (e : (ℕ × ℕ) × Outcome). IsCountableOutcome e.1) entries
