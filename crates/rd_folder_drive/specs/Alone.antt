-- What a call that serves an operation leaves and answers where it asks nothing of the folder: over all nodes of which it holds.
use Rattle.std.specs.Prelude.{◌≡◌, ◌⊎◌, List, Result, Ok, Err}
use Rattle.rd_base.specs.declared.status.Status.{Status}
use Rattle.rd_base.specs.Statuses.{no_memory}
use Rattle.rd_drive.specs.declared.step.Step.TheVariants as step
use Rattle.rd_drive.specs.DriveState.{DriveState, Node}
use Rattle.rd_drive.specs.Outcome as outcome
use Rattle.rd_folder_drive.specs.declared.table.Table.{Table}
use Rattle.rd_folder_drive.specs.declared.table.Done.{Done}
use Rattle.rd_folder_drive.specs.declared.table.Done.TheVariants as done
use Rattle.rd_folder_drive.specs.Served.{IsHeard, IsOwnStatus, IsUnchanged, news_of}
use Rattle.rd_folder_drive.specs.Table.{HasNodes, IsSound, IsSoundBut, drive_of}

-- What is open is among all nodes among which it was, and the drives over them are so.
abbrev pub LeavesAlone : Table → Table → (DriveState → DriveState → Type 0) → Type 0
LeavesAlone old new P = (nodes : List Node) → HasNodes old nodes → HasNodes new nodes × P (drive_of old nodes) (drive_of new nodes)

-- A call that serves an operation leaves a sound table and returns what the operation comes to; or no memory was found, and then nothing changed.
abbrev pub ServesAlone : Table → Table → (DriveState → outcome.Outcome) → Result Done Status → Type 0
ServesAlone old new comes (Ok (done.Replied body news)) =
    IsSoundBut news.closed new × IsHeard new news
    × LeavesAlone old new (λ s left. comes s ≡ record { state = left; answer = step.Reply (outcome.done body); news = news_of new news })
ServesAlone old new comes (Ok done.Parked) = IsSound new × LeavesAlone old new (λ s left. comes s ≡ record { state = left; answer = step.Parked; news = outcome.no_news })
ServesAlone old new comes (Ok (done.Kept status news)) = ⊥
ServesAlone old new comes (Err status) =
    IsSound new
    × ((IsOwnStatus status × LeavesAlone old new (λ s left. comes s ≡ outcome.refused left status))
    ⊎ ((status ≡ no_memory) × IsUnchanged old new × LeavesAlone old new (λ s left. left ≡ s)))
