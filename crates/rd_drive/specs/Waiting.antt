-- Which of the requests that wait an operation ends (MS-SMB2 2.2.35, MS-FSCC 2.7.1).
use Rattle.std.specs.Prelude.{ℕ, ◌==◌, ◌&&◌, ◌||◌, Bool, false, not, if◌then◌else◌, List, [], ◌∷◌, ◌++◌, length, drop, fold, find}
use Rattle.std.specs.Option.{option_map_or, unwrap_or}
use Rattle.rd_base.specs.Fields.{bytes32, text_bytes}
use Rattle.rd_irp.specs.declared.op.Range.{Range}
use Rattle.rd_irp.specs.declared.completion.Reply.{Reply}
use Rattle.rd_irp.specs.declared.completion.Body.TheVariants.{Buffer, Locked}
use Rattle.rd_dirinfo.specs.Paths.{Names, is_same_path, is_parent, is_below, joined}
use Rattle.rd_drive.specs.Stepped.{Settled}
use Rattle.rd_drive.specs.DriveState.{DriveState, Waiting, Wish, Ranges, Notice, open_path}
use Rattle.rd_drive.specs.Access.{has_any}
use Rattle.rd_drive.specs.Outcome.{Change, News, done, fault}
use Rattle.rd_drive.specs.Locking.{locks_on, asked_locks, conflicts, with_locks}
use Rattle.rd_base.specs.Statuses.{notify_cleanup, lock_not_granted}

-- What is told of a change to who watches a folder, as one FILE_NOTIFY_INFORMATION: NextEntryOffset, Action, FileNameLength, and the names
-- below the folder.
abbrev pub change_bytes : Names → Change → List ℕ
change_bytes folder change =
    let name = text_bytes (joined (drop (length folder) change.path)) in
    bytes32 0 ++ bytes32 change.action ++ bytes32 (length name) ++ name

-- whether who watches a folder, or with `deep` all that is below it, is told of a change
abbrev pub is_told : DriveState → Names → Bool → ℕ → Change → Bool
is_told s folder deep filter change =
    has_any filter change.bits && (is_parent s.naming folder change.path || (deep && is_below s.naming folder change.path))

-- whether the file at a path is the one that may have fewer locks
abbrev pub is_tried : DriveState → News → Names → Bool
is_tried s news path = option_map_or (λ unlocked. is_same_path s.naming unlocked path) news.unlocked false

-- whether the handle of a request that waits was closed
abbrev pub is_closed : News → Waiting → Bool
is_closed news w = option_map_or (λ file. w.file == file) news.closed false

-- what a request that waits is answered where its handle is closed
abbrev pub closing_reply : Wish → Reply
closing_reply (Ranges exclusive ranges) = fault lock_not_granted
closing_reply (Notice deep filter) = fault notify_cleanup

-- the request ends with a reply, and this state
abbrev pub ends_with : Settled DriveState → DriveState → Waiting → Reply → Settled DriveState
ends_with old s w reply = record { state = s; ends = old.ends ++ record { key = w.key; reply = reply } ∷ [] }

-- the request waits on
abbrev pub waits_on : Settled DriveState → Waiting → Settled DriveState
waits_on old w =
    let s = old.state in
    record { state = record s { waiting = s.waiting ++ w ∷ [] }; ends = old.ends }

-- A request for locks on the file at a path: it gets them where the file may have fewer, and none is in the way any more.
abbrev pub settles_ranges : News → Settled DriveState → Waiting → Names → Bool → List Range → Settled DriveState
settles_ranges news old w path exclusive ranges =
    let s = old.state in
    let wanted = asked_locks w.file exclusive ranges in
    if is_tried s news path && not (conflicts (locks_on s path) wanted) then ends_with old (with_locks s wanted) w (done Locked)
    else waits_on old w

-- A request for a change in the folder at a path: it ends at the first that it is told.
abbrev pub settles_change : News → Settled DriveState → Waiting → Names → Bool → ℕ → Settled DriveState
settles_change news old w path deep filter =
    let s = old.state in
    option_map_or (λ change. ends_with old s w (done (Buffer (change_bytes path change)))) (find (is_told s path deep filter) news.changes) (waits_on old w)

-- a request whose handle is open still
abbrev pub settles_open : News → Settled DriveState → Waiting → Names → Wish → Settled DriveState
settles_open news old w path (Ranges exclusive ranges) = settles_ranges news old w path exclusive ranges
settles_open news old w path (Notice deep filter) = settles_change news old w path deep filter

-- what the news does to one request that waits
abbrev pub settles : News → Settled DriveState → Waiting → Settled DriveState
settles news old w =
    let s = old.state in
    if is_closed news w then ends_with old s w (closing_reply w.wish)
    else settles_open news old w (unwrap_or (open_path s w.file) []) w.wish

-- What the news does to all of them, in the order in which they began to wait. The drive is as the operation leaves it.
abbrev pub settled : DriveState → News → Settled DriveState
settled s news = fold (settles news) (record { state = record s { waiting = [] }; ends = [] }) s.waiting
