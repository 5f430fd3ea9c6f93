-- A drive over a folder, as contracts see it, and what it does with a job and where it is cut off.
use Rattle.std.specs.Prelude.{◌≡◌, ℕ, ◌⊎◌, ◌<◌, ◌==◌, ◌++◌, Bool, List, [], ◌∷◌, map, true, false, Option, Some, None}
use Rattle.std.specs.List.{AllByRecursion}
use Rattle.std.specs.Map.{keys_of}
use Rattle.std.specs.Option.{option_map}
use Rattle.rd_irp.specs.declared.completion.Body.TheVariants.{Closed, Created}
use Rattle.rd_irp.specs.declared.op.Op.{Op}
use Rattle.rd_irp.specs.declared.op.Op.TheVariants as op
use Rattle.rd_irp.specs.declared.op.Op.TheVariants.{Close}
use Rattle.rd_drive.specs.declared.step.End.{End}
use Rattle.rd_drive.specs.declared.step.Step.{Step}
use Rattle.rd_drive.specs.declared.step.Step.TheVariants as step
use Rattle.rd_drive.specs.Answered.{drive_parked, drive_ran, parked_of}
use Rattle.rd_drive.specs.Device.{Parked, is_starved}
use Rattle.rd_drive.specs.DriveState.{DriveState, Handle, Node, handle_at, new_node, node_of_path}
use Rattle.rd_drive.specs.DriveStep.{step_of, with_closed}
use Rattle.rd_drive.specs.Outcome as outcome
use Rattle.rd_drive.specs.Planned.{Planned}
use Rattle.rd_drive.specs.Store.{waiting_of}
use Rattle.rd_folder.specs.declared.folder.FolderNo.{FolderNo}
use Rattle.rd_folder.specs.declared.folder.FolderNo.TheVariants as folder
use Rattle.rd_folder.specs.FolderLaws.{FolderFaults, one_fault}
use Rattle.rd_folder.specs.Told.{drive_over}
use Rattle.rd_folder_drive.specs.declared.table.Table.{Table}
use Rattle.rd_folder_drive.specs.Files.{files_but}
use Rattle.rd_folder_drive.specs.Served.{Seen, folder_status, io_device_error, keeping_node, takes_out}
use Rattle.rd_folder_drive.specs.Table.{drive_of, handles_of}

-- A drive in whose nodes nothing is open, and none is to go.
abbrev pub new_drive : List ℕ → List Node → DriveState
new_drive label nodes = record (drive_over (map (λ (node : Node). record node { pending = false }) nodes)) { label = label }

-- A drive over a folder: the drive, where the folder tells its nodes; what is kept beside the folder, whatever it tells; the folder's faults; the file
-- ids that are open; and the requests that wait.
pub record FolderDriveState : Type 0 where
  pub drive : Option DriveState
  pub own : DriveState
  pub faults : FolderFaults
  pub files : List ℕ
  pub parked : List Parked

-- when nothing is open yet
abbrev pub opened_over : Seen → List ℕ → FolderDriveState
opened_over over label = record { drive = option_map (new_drive label) over.told; own = new_drive label []; faults = over.faults; files = []; parked = [] }

-- an empty file at the path of each handle
abbrev pub nodes_open : List (ℕ × Handle) → List Node
nodes_open handles = map (λ (entry : ℕ × Handle). new_node (entry.1).path (Some []) 0 0) handles

-- What a table keeps beside its folder: the drive over no other nodes than what is open, of which nothing is told but the paths, and which of them are pending.
abbrev pub own_drive : Table → DriveState
own_drive t = drive_of t (nodes_open (handles_of t))

-- what a table over a folder is
abbrev pub state_over : Table → Seen → FolderDriveState
state_over t over = record {
  drive = option_map (drive_of t) over.told;
  own = own_drive t;
  faults = over.faults;
  files = keys_of t.handles.entries;
  parked = map parked_of (map waiting_of t.waiting.items);
}

-- ---- a job

-- A job comes to what the definition of a drive says, or to nothing where no memory was found. No fault is counted.
pub record IsDriveStep (old : DriveState) (planned : Planned) (moment : ℕ) (answer : Step) (ends : List End) (new : DriveState) (before after : FolderFaults) : Type 0 where
  pub comes : drive_ran old planned.job moment (is_starved answer) ≡ record { state = new; answer = answer; ends = ends }
  pub calm : after ≡ before

-- The folder refused so, which is one fault more, and nothing came of the job. A folder that tells its nodes counts no fault by `Missing`.
pub record IsFolderRefusal (old : DriveState) (answer : Step) (ends : List End) (new : DriveState) (before after : FolderFaults) : Type 0 where
  pub no : FolderNo
  pub some : no ≡ folder.Memory → ⊥
  pub found : no ≡ folder.Missing → ⊥
  pub answered : answer ≡ step.Reply (outcome.fault (folder_status no))
  pub none : ends ≡ []
  pub same : new ≡ old
  pub counted : after ≡ one_fault no before

-- The folder kept the node that the Close of a file takes out, which is one fault more: the file is closed all the same, and the node isn't pending any
-- more. These are the state and the ends.
pub record Keeps (old : DriveState) (file : ℕ) (answer : Step) (ends : List End) (new : DriveState) (before after : FolderFaults) : Type 0 where
  pub no : FolderNo
  pub some : no ≡ folder.Memory → ⊥
  pub found : no ≡ folder.Missing → ⊥
  pub handle : Handle
  pub node : Node
  pub opened : handle_at old file ≡ Some handle
  pub there : node_of_path old handle.path ≡ Some node
  pub takes : takes_out old file handle node ≡ true
  pub comes : step_of (keeping_node old file (folder_status no) handle node) ≡ record { state = new; answer = answer; ends = ends }
  pub counted : after ≡ one_fault no before

-- What a drive over a folder that tells its nodes does with a job. A Close is never refused so: the handle goes.
abbrev pub DoesJob : DriveState → Planned → ℕ → Step → List End → DriveState → (before after : FolderFaults) → Type 0
DoesJob old planned moment answer ends new before after =
    IsDriveStep old planned moment answer ends new before after
    ⊎ (((planned.job.op ≡ Close) → ⊥) × IsFolderRefusal old answer ends new before after)
    ⊎ ((planned.job.op ≡ Close) × Keeps old planned.job.file answer ends new before after)

-- No fault is counted: the folder isn't said to have failed, and where no memory was found nothing comes of the job.
pub record IsUnblamed (old : FolderDriveState) (answer : Step) (ends : List End) (new : FolderDriveState) : Type 0 where
  pub calm : new.faults ≡ old.faults
  pub blameless : answer ≡ step.Reply (outcome.fault io_device_error) → ⊥
  pub starved : is_starved answer ≡ true → (ends ≡ []) × (new.own ≡ old.own)

-- One fault more is counted, by a refusal that the answer says; and but for a Close nothing comes of the job. It isn't `Missing` where the folder tells its nodes.
pub record IsAtFault (old : FolderDriveState) (planned : Planned) (answer : Step) (ends : List End) (new : FolderDriveState) : Type 0 where
  pub no : FolderNo
  pub some : no ≡ folder.Memory → ⊥
  pub found : no ≡ folder.Missing → old.drive ≡ None
  pub answered : answer ≡ step.Reply (outcome.fault (folder_status no))
  pub counted : new.faults ≡ one_fault no old.faults
  pub same : (planned.job.op ≡ Close → ⊥) → (ends ≡ []) × (new.own ≡ old.own)

-- A Close is done, and one fault more is counted: a folder that tells nothing said `Missing` where a folder was to be taken out, as it does where something
-- stands in it.
abbrev pub IsCloseOfFilled : FolderDriveState → Planned → Step → FolderDriveState → Type 0
IsCloseOfFilled old planned answer new =
    (planned.job.op ≡ Close) × (answer ≡ step.Reply (outcome.done Closed)) × (old.drive ≡ None) × (new.faults ≡ one_fault folder.Missing old.faults)

-- Whatever the folder tells, its faults and the answer account for each other: no fault is counted, or one is that the answer says, or that of a Close that is
-- done all the same. So IO_DEVICE_ERROR is answered only where one fault more is counted, and by a refusal of which this is the status.
abbrev pub IsAccounted : FolderDriveState → Planned → Step → List End → FolderDriveState → Type 0
IsAccounted old planned answer ends new = IsUnblamed old answer ends new ⊎ IsAtFault old planned answer ends new ⊎ IsCloseOfFilled old planned answer new

-- no end says that the folder failed
abbrev pub AreBlameless : List End → Type 0
AreBlameless ends = AllByRecursion (λ (end : End). (((end.reply).status).0 == io_device_error.0) ≡ false) ends

-- whether an answer says that the operation is done
abbrev pub is_success : Step → Bool
is_success step.Parked = false
is_success (step.Reply reply) = reply.status.0 == 0

-- A Create that is done opens the file id that was to be given next, which it answers, after all others, and these are below it; one that isn't done opens none.
abbrev pub IsOpenedBy : FolderDriveState → Step → FolderDriveState → Type 0
IsOpenedBy old answer new =
    ((information : ℕ) × (answer ≡ step.Reply (outcome.done (Created (old.own).next information))) × (new.files ≡ old.files ++ (old.own).next ∷ []) × AllByRecursion (λ (file : ℕ). file < (old.own).next) old.files)
    ⊎ ((is_success answer ≡ false) × (new.files ≡ old.files))

-- What becomes of the file ids that are open, by an operation: a Create may open one, a Close takes its own away and no other, and nothing else changes them.
abbrev pub ChangesFiles : FolderDriveState → Op → ℕ → Step → FolderDriveState → Type 0
ChangesFiles old (op.Create access allocation attributes share disposition options path) file answer new = IsOpenedBy old answer new
ChangesFiles old op.Close file answer new = new.files ≡ files_but file old.files
ChangesFiles old _ file answer new = new.files ≡ old.files

-- A drive over a folder runs a job. Where the folder tells its nodes this is what the definition says, or the folder refused. Whatever it tells, the faults
-- account for the answer, no end says that the folder failed, and it is said which files are open then.
abbrev pub FolderRuns : FolderDriveState → Planned → ℕ → Step → List End → FolderDriveState → Type 0
FolderRuns old planned moment answer ends new =
    ((s : DriveState) → old.drive ≡ Some s → (left : DriveState) × (new.drive ≡ Some left) × (new.files ≡ keys_of left.handles) × (new.parked ≡ drive_parked left) × DoesJob s planned moment answer ends left old.faults new.faults)
    × (old.drive ≡ None → new.drive ≡ None)
    × IsAccounted old planned answer ends new × AreBlameless ends × ChangesFiles old planned.job.op planned.job.file answer new

-- ---- a cut

-- A file is closed where no request waits: by the definition, or the folder keeps the node that is to be taken out.
abbrev pub Closes : DriveState → ℕ → DriveState → (before after : FolderFaults) → Type 0
Closes old file new before after =
    ((with_closed old file ≡ new) × (after ≡ before))
    ⊎ ((answer : Step) × Keeps old file answer [] new before after)

-- files are closed one after the other
abbrev pub ClosesAll : DriveState → List ℕ → DriveState → (before after : FolderFaults) → Type 0
ClosesAll old [] new before after = (new ≡ old) × (after ≡ before)
ClosesAll old (file ∷ files) new before after =
    (mid : DriveState) × (midway : FolderFaults) × Closes old file mid before midway × ClosesAll mid files new midway after

-- A drive over a folder is cut off: no request waits any more, and every file is closed, in the order of the file ids.
abbrev pub FolderCuts : FolderDriveState → FolderDriveState → Type 0
FolderCuts old new =
    ((s : DriveState) → old.drive ≡ Some s → (left : DriveState) × (new.drive ≡ Some left) × ClosesAll (record s { waiting = [] }) (keys_of s.handles) left old.faults new.faults)
    × (old.drive ≡ None → new.drive ≡ None) × (new.files ≡ []) × (new.parked ≡ [])
