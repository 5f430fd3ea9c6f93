-- What a drive does with a request (MS-RDPEFS 2.2.1.4, 2.2.1.5, 2.2.3.3, 2.2.3.4; the statuses and the order of the checks are this project's
-- choice), and what is left when it is cut off.
use Rattle.std.specs.Prelude.{ℕ, [], map, fold}
use Rattle.std.specs.Map.{keys_of}
use Rattle.rd_base.specs.declared.journal.Key.{Key}
use Rattle.rd_irp.specs.declared.op.Op.{Op}
use Rattle.rd_irp.specs.declared.op.Op.TheVariants as op
use Rattle.rd_drive.specs.declared.step.End.{End}
use Rattle.rd_drive.specs.DriveState.{DriveState, Waiting}
use Rattle.rd_drive.specs.Outcome.{Outcome, fault, refused, on_handle}
use Rattle.rd_drive.specs.Create.{create}
use Rattle.rd_drive.specs.Close.{close}
use Rattle.rd_drive.specs.ReadWrite.{read, write}
use Rattle.rd_drive.specs.Query.{query_file, query_volume}
use Rattle.rd_drive.specs.SetFile.{set_file}
use Rattle.rd_drive.specs.SetVolume.{set_volume}
use Rattle.rd_drive.specs.QueryDir.{query_dir}
use Rattle.rd_drive.specs.Locking.{lock}
use Rattle.rd_drive.specs.Notify.{notify}
use Rattle.rd_drive.specs.Stepped.{Stepped, Settled}
use Rattle.rd_drive.specs.Waiting.{settled}
use Rattle.rd_base.specs.Statuses.{invalid_parameter, not_supported, cancelled}

-- what an operation with a key and a file id comes to at a moment
abbrev pub outcome_of : DriveState → Key → ℕ → Op → ℕ → Outcome
outcome_of s key file (op.Malformed major minor bad) moment = refused s invalid_parameter
outcome_of s key file (op.Unknown major minor) moment = refused s not_supported
outcome_of s key file (op.Create access allocation attributes share disposition options path) moment =
    create s moment (record { access = access; attributes = attributes; share = share; disposition = disposition; options = options }) path
outcome_of s key file op.Close moment = on_handle s file (close s file)
outcome_of s key file (op.Read offset count) moment = on_handle s file (read s file offset count)
outcome_of s key file (op.Write offset bytes) moment = on_handle s file (write s moment file offset bytes)
outcome_of s key file (op.QueryFile class) moment = on_handle s file (query_file s class)
outcome_of s key file (op.SetFile class buffer) moment = on_handle s file (set_file s moment class buffer)
outcome_of s key file (op.QueryVolume class) moment = on_handle s file (query_volume s class)
outcome_of s key file (op.SetVolume class buffer) moment = on_handle s file (set_volume s class buffer)
outcome_of s key file (op.QueryDir class initial path) moment = on_handle s file (query_dir s file class initial path)
outcome_of s key file (op.Notify deep filter) moment = on_handle s file (notify s key file deep filter)
outcome_of s key file (op.Control output code bytes) moment = on_handle s file (λ handle node. refused s not_supported)
outcome_of s key file (op.Lock operation wait ranges) moment = on_handle s file (lock s key file operation wait ranges)

-- the outcome, and what its news does to the requests that wait
abbrev pub step_of : Outcome → Stepped DriveState
step_of outcome =
    let left = settled outcome.state outcome.news in
    record { state = left.state; answer = outcome.answer; ends = left.ends }

-- what a request does
abbrev pub drive_step : DriveState → Key → ℕ → Op → ℕ → Stepped DriveState
drive_step s key file op moment = step_of (outcome_of s key file op moment)

-- ---- the cut

-- the end of a request that waited when its drive was cut off
abbrev pub cancelled_end : Waiting → End
cancelled_end w = record { key = w.key; reply = fault cancelled }

-- a file is closed, and no request waits
abbrev pub with_closed : DriveState → ℕ → DriveState
with_closed s file = (on_handle s file (close s file)).state

-- The requests that wait are cancelled, in their order, and then every file is closed, in the order of the file ids.
abbrev pub drive_cut : DriveState → Settled DriveState
drive_cut s = record { state = fold with_closed (record s { waiting = [] }) (keys_of s.handles); ends = map cancelled_end s.waiting }
