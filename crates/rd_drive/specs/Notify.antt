-- Waiting for a change in a folder (MS-RDPEFS 2.2.3.3.11).
use Rattle.std.specs.Prelude.{ℕ, Bool, not, [], ◌∷◌}
use Rattle.rd_base.specs.declared.journal.Key.{Key}
use Rattle.rd_drive.specs.DriveState.{DriveState, Handle, Node, Notice, is_folder_node}
use Rattle.rd_drive.specs.Outcome.{Outcome, fault, checked}
use Rattle.rd_drive.specs.Locking.{is_waiting_full, waits}
use Rattle.rd_base.specs.Statuses.{invalid_parameter, insufficient_resources}

-- Notify
abbrev pub notify : DriveState → Key → ℕ → Bool → ℕ → Handle → Node → Outcome
notify s key file deep filter handle node =
    checked s
    ((not (is_folder_node node), fault invalid_parameter)
    ∷ (is_waiting_full s, fault insufficient_resources)
    ∷ [])
    (waits s key file (Notice deep filter))
