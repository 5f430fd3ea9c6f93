-- The label that a volume is given (MS-FSCC 2.5.5).
use Rattle.std.specs.Prelude.{ℕ, ◌==◌, List, [], ◌∷◌, length, not, Option, Some, None, Result, Ok, Err}
use Rattle.rd_base.specs.declared.bad.Bad.{Bad}
use Rattle.rd_base.specs.Position.{Position}
use Rattle.rd_base.specs.Layout.{met}
use Rattle.rd_irp.specs.declared.completion.Body.TheVariants.{Count}
use Rattle.rd_fileinfo.specs.Label.{label_set}
use Rattle.rd_drive.specs.DriveState.{DriveState, Handle, Node}
use Rattle.rd_drive.specs.Outcome.{Outcome, no_news, fault, checked, given, succeeded}
use Rattle.rd_base.specs.Statuses.{invalid_info_class, invalid_parameter}

-- FileFsLabelInformation, the one class that is set
abbrev pub label_class : ℕ
label_class = 2

-- the label that was read
abbrev pub label_read : Result (List ℕ × Position) Bad → Option (List ℕ)
label_read (Ok x) = Some x.0
label_read (Err bad) = None

-- the label that a buffer spells, if it spells one; what comes after it is ignored
abbrev pub label_of : List ℕ → Option (List ℕ)
label_of buffer = label_read (met label_set (record { at = 0; left = buffer }))

-- SetVolume
abbrev pub set_volume : DriveState → ℕ → List ℕ → Handle → Node → Outcome
set_volume s class buffer handle node =
    checked s
    ((not (class == label_class), fault invalid_info_class)
    ∷ [])
    (given s (label_of buffer) invalid_parameter (λ units. succeeded (record s { label = units }) (Count (length buffer)) no_news))
