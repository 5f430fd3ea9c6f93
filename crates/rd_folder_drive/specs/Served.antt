-- What a call that serves an operation leaves and answers, by what a folder tells and by its faults.
use Rattle.std.specs.Prelude.{◌≡◌, ℕ, ◌⊎◌, ◌==◌, ◌&&◌, ◌||◌, Bool, not, false, List, [], ◌∷◌, true, Option, Some, None, Result, Ok, Err}
use Rattle.std.specs.Option.{IsSome, IfSome, option_map}
use Rattle.std.specs.List.{AllByRecursion}
use Rattle.rd_base.specs.declared.status.Status.{Status}
use Rattle.rd_base.specs.Statuses.{disk_full, access_denied, no_memory}
use Rattle.rd_dirinfo.specs.Paths.{Names, is_path}
use Rattle.rd_irp.specs.declared.op.Op.{Op}
use Rattle.rd_irp.specs.declared.completion.Body.{Body}
use Rattle.rd_irp.specs.declared.completion.Body.TheVariants.{Closed}
use Rattle.rd_irp.specs.Fits.{IsReplyTo}
use Rattle.rd_drive.specs.declared.step.Step.TheVariants as step
use Rattle.rd_drive.specs.Close.{close, closing, without_file}
use Rattle.rd_drive.specs.DriveState.{DriveState, Handle, Node, handle_at, is_open, node_of_path, with_node}
use Rattle.rd_drive.specs.Outcome as outcome
use Rattle.rd_drive.specs.Outcome.{on_handle}
use Rattle.rd_folder.specs.declared.folder.FolderNo.{FolderNo}
use Rattle.rd_folder.specs.declared.folder.FolderNo.TheVariants as folder
use Rattle.rd_folder.specs.FolderLaws.{FolderFaults, one_fault}
use Rattle.rd_folder_drive.specs.declared.news.Named.{Named}
use Rattle.rd_folder_drive.specs.declared.news.Named.TheVariants as named
use Rattle.rd_folder_drive.specs.declared.news.Change as told
use Rattle.rd_folder_drive.specs.declared.news.News as told_news
use Rattle.rd_folder_drive.specs.declared.open.Open.{Open}
use Rattle.rd_folder_drive.specs.declared.table.Table.{Table}
use Rattle.rd_folder_drive.specs.declared.table.Done.{Done}
use Rattle.rd_folder_drive.specs.declared.table.Done.TheVariants as done
use Rattle.rd_folder_drive.specs.Table.{HasNodes, IsSound, IsSoundBut, drive_of, open_at, path_at}

-- ---- the news

-- the path of a node that is told of
abbrev pub named_path : Table → Named → Names
named_path t (named.Node n) = path_at t n
named_path t (named.Gone path) = path

-- A change is about something that is open, or has a path.
abbrev pub IsTold : Table → Named → Type 0
IsTold t (named.Node n) = IsSome (open_at t n)
IsTold t (named.Gone path) = is_path path ≡ true

-- A file that may have fewer locks is open, or nothing is open at its path.
abbrev pub IsTried : Table → Named → Type 0
IsTried t (named.Node n) = IsSome (open_at t n)
IsTried t (named.Gone path) = (m : ℕ) (o : Open) → open_at t m ≡ Some o → o.path ≡ path → ⊥

-- what the news speaks of is there
abbrev pub IsHeard : Table → told_news.News → Type 0
IsHeard t news =
    IfSome news.unlocked (IsTried t)
    × AllByRecursion (λ (change : Option told.Change). IfSome change (λ (c : told.Change). IsTold t c.named)) news.changes

abbrev pub change_of : Table → told.Change → outcome.Change
change_of t change = record { action = change.action; path = named_path t change.named; bits = change.bits }

-- the changes that there are
abbrev pub changes_of : Table → List (Option told.Change) → List outcome.Change
changes_of t [] = []
changes_of t (None ∷ changes) = changes_of t changes
changes_of t (Some change ∷ changes) = change_of t change ∷ changes_of t changes

-- what the news means
abbrev pub news_of : Table → told_news.News → outcome.News
news_of t news = record {
  closed = news.closed;
  unlocked = option_map (named_path t) news.unlocked;
  changes = changes_of t news.changes;
}

-- nothing to tell
abbrev pub nothing : told_news.News
nothing = record { closed = None; unlocked = None; changes = None ∷ None ∷ None ∷ [] }

-- one change
abbrev pub about : told.Change → told_news.News
about change = record { closed = None; unlocked = None; changes = Some change ∷ None ∷ None ∷ [] }

-- a file may have fewer locks
abbrev pub about_locks : ℕ → told_news.News
about_locks n = record { closed = None; unlocked = Some (named.Node n); changes = None ∷ None ∷ None ∷ [] }

-- whether it is what is open by a number
abbrev pub is_of_number : ℕ → Named → Bool
is_of_number n (named.Node other) = other == n
is_of_number n (named.Gone path) = false

-- ---- what a folder shows

-- the nodes that a folder tells, if it tells them, and its faults
pub record Seen : Type 0 where
  pub told : Option (List Node)
  pub faults : FolderFaults

abbrev pub seen : {F : Type 0} → (F → Option (List Node)) → (F → FolderFaults) → F → Seen
seen nodes faults folder = record { told = nodes folder; faults = faults folder }

-- what is open is among the nodes that a folder tells, if it tells them
abbrev pub IsOver : Table → Seen → Type 0
IsOver t folder = IfSome folder.told (HasNodes t)

-- Afterwards the folder tells its nodes still if it told them, what is open is among them, and the drive over them is so.
abbrev pub Leaves : Table → Seen → Table → Seen → (DriveState → DriveState → Type 0) → Type 0
Leaves old before new after P = IsOver new after × (before.told ≡ None → after.told ≡ None)
    × ((nodes : List Node) → before.told ≡ Some nodes → (left : List Node) × (after.told ≡ Some left) × P (drive_of old nodes) (drive_of new left))

-- ---- refusals

-- a request's folder failed (MS-ERREF 2.3)
abbrev pub io_device_error : Status
io_device_error = record { 0 = 0xc000_0185 }

-- the status of a folder's refusal
abbrev pub folder_status : FolderNo → Status
folder_status folder.Failed = io_device_error
folder_status folder.Full = disk_full
folder_status folder.Denied = access_denied
folder_status folder.Missing = io_device_error
folder_status folder.Memory = no_memory

-- A status that says how the folder refused, which is one fault more. It isn't `Missing` where the folder tells its nodes.
abbrev pub IsFaultBy : Seen → Seen → Status → Type 0
IsFaultBy before after status =
    (no : FolderNo) × (status ≡ folder_status no) × ((no ≡ folder.Memory) → ⊥) × ((no ≡ folder.Missing) → before.told ≡ None) × (after.faults ≡ one_fault no before.faults)

-- A status that says how the folder refused, which is one fault more, or that no memory was found, which is none.
abbrev pub IsRefusedBy : Seen → Seen → Status → Type 0
IsRefusedBy before after status = ((status ≡ no_memory) × (after.faults ≡ before.faults)) ⊎ IsFaultBy before after status

-- a status that is a failure, and says neither that the folder failed nor that no memory was found
abbrev pub IsOwnStatus : Status → Type 0
IsOwnStatus status = ((status.0 == 0) ≡ false) × ((status.0 == io_device_error.0 || status.0 == no_memory.0) ≡ false)

-- ---- what is served

-- a reply with this body has an operation's layout, and can be sent
abbrev pub FitsBody : Op → Body → Type 0
FitsBody op body = IsReplyTo op (outcome.done body)

-- the body of a reply, if there is one, is so
abbrev pub IfReplied : Result Done Status → (Body → Type 0) → Type 0
IfReplied (Ok (done.Replied body news)) P = P body
IfReplied (Ok came) P = Unit {0}
IfReplied (Err status) P = Unit {0}

-- no fault is counted
abbrev pub IsCalm : Seen → Seen → Type 0
IsCalm before after = after.faults ≡ before.faults

-- what a drive keeps beside its folder is as it was: over any nodes it is the same drive
abbrev pub IsUnchanged : Table → Table → Type 0
IsUnchanged old new = (nodes : List Node) → drive_of new nodes ≡ drive_of old nodes

-- A call that serves an operation leaves a sound table and returns what the operation comes to; or the folder refused, or no memory was found, and then
-- nothing changed, whatever the folder tells. After a Close the requests that waited for its file id are still there: its news ends them.
abbrev pub Serves : Table → Seen → Table → Seen → (DriveState → outcome.Outcome) → Result Done Status → Type 0
Serves old before new after comes (Ok (done.Replied body news)) =
    IsSoundBut news.closed new × IsHeard new news × IsCalm before after
    × Leaves old before new after (λ s left. comes s ≡ record { state = left; answer = step.Reply (outcome.done body); news = news_of new news })
Serves old before new after comes (Ok done.Parked) =
    IsSound new × IsCalm before after
    × Leaves old before new after (λ s left. comes s ≡ record { state = left; answer = step.Parked; news = outcome.no_news })
Serves old before new after comes (Ok (done.Kept status news)) = ⊥
Serves old before new after comes (Err status) =
    IsSound new
    × ((IsOwnStatus status × IsCalm before after × Leaves old before new after (λ s left. comes s ≡ outcome.refused left status))
    ⊎ (IsRefusedBy before after status × IsUnchanged old new × Leaves old before new after (λ s left. left ≡ s)))

-- ---- a Close

-- Whether a Close is to take a node out: it is pending, and the handle is its last. Whether something stands in it the folder sees, if it doesn't fail before.
abbrev pub takes_out : DriveState → ℕ → Handle → Node → Bool
takes_out s file handle node = (node.pending || handle.delete_on_close) && not (is_open (without_file s file) node.path)

-- A Close that takes a node out which the folder keeps: the file is closed all the same, and the node isn't pending any more.
abbrev pub keeping_node : DriveState → ℕ → Status → Handle → Node → outcome.Outcome
keeping_node s file status handle node = record {
  state = with_node (without_file s file) (record node { pending = false });
  answer = step.Reply (outcome.fault status);
  news = closing file node.path;
}

-- No fault is counted, or the one `Missing` of a folder that tells nothing: something stands in the folder that was to be taken out.
abbrev pub IsCalmClose : Seen → Seen → Type 0
IsCalmClose before after = IsCalm before after ⊎ ((before.told ≡ None) × (after.faults ≡ one_fault folder.Missing before.faults))

-- A Close comes to what the definition says, with a reply of its own layout, and is refused only so; or the folder keeps the node.
abbrev pub ServesClose : Table → Seen → Table → Seen → ℕ → Result Done Status → Type 0
ServesClose old before new after file (Ok (done.Kept status news)) =
    IsSoundBut (Some file) new × (news.closed ≡ Some file) × IsHeard new news × IsFaultBy before after status
    × Leaves old before new after (λ s left. (handle : Handle) × (node : Node) × (handle_at s file ≡ Some handle) × (node_of_path s handle.path ≡ Some node) × (takes_out s file handle node ≡ true)
    × (keeping_node s file status handle node ≡ record { state = left; answer = step.Reply (outcome.fault status); news = news_of new news }))
ServesClose old before new after file (Ok (done.Replied body news)) =
    IsSoundBut news.closed new × IsHeard new news × IsCalmClose before after
    × Leaves old before new after (λ s left. on_handle s file (close s file) ≡ record { state = left; answer = step.Reply (outcome.done body); news = news_of new news })
    × (body ≡ Closed)
ServesClose old before new after file (Err status) =
    IsSound new × IsOwnStatus status × IsCalm before after
    × Leaves old before new after (λ s left. on_handle s file (close s file) ≡ outcome.refused left status)
ServesClose old before new after file result = Serves old before new after (λ s. on_handle s file (close s file)) result
