-- The requests that wait, gone through one after the other.
use Rattle.std.specs.Prelude.{◌≡◌, ℕ, ◌+◌, false, List, [], ◌∷◌, ◌++◌, length, map, take, drop, fold, Option, Some, None}
use Rattle.std.specs.List.{AllByRecursion}
use Rattle.rd_drive.specs.declared.waiting.Waiting as kept_waiting
use Rattle.rd_drive.specs.declared.step.End.{End}
use Rattle.rd_drive.specs.DriveState.{DriveState, Node}
use Rattle.rd_drive.specs.Settling.{is_closed_file}
use Rattle.rd_drive.specs.Store.{waiting_of}
use Rattle.rd_drive.specs.Stepped.{Settled}
use Rattle.rd_drive.specs.Waiting.{settles}
use Rattle.rd_folder_drive.specs.declared.news.News as told_news
use Rattle.rd_folder_drive.specs.declared.table.Table.{Table}
use Rattle.rd_folder_drive.specs.Served.{IsHeard, news_of}
use Rattle.rd_folder_drive.specs.Table.{IsSoundBut, drive_of}

-- the drive over some nodes as it stands where the requests before a place wait on and these have ended
abbrev pub settled_to : Table → List Node → ℕ → List End → Settled DriveState
settled_to t nodes at ends = record { state = record (drive_of t nodes) { waiting = map waiting_of (take at t.waiting.items) }; ends = ends }

-- what comes of it when the news has done what it does to the others too
abbrev pub settled_from : Table → told_news.News → List Node → ℕ → List End → Settled DriveState
settled_from t news nodes at ends = fold (settles (news_of t news)) (settled_to t nodes at ends) (map waiting_of (drop at t.waiting.items))

-- The requests before a place are gone through: none of them names the file id that was closed.
pub record IsHalfway (t : Table) (news : told_news.News) (at : ℕ) : Type 0 where
  pub sound : IsSoundBut news.closed t
  pub heard : IsHeard t news
  pub opened : AllByRecursion (λ (w : kept_waiting.Waiting). is_closed_file news.closed w.file ≡ false) (take at t.waiting.items)

-- all but the locks and the requests that wait stayed
abbrev pub IsBeside : Table → Table → Type 0
IsBeside old new = new ≡ record old { locks = new.locks; waiting = new.waiting }

-- The request at a place was gone through: it waits on, or it has ended, and the news does to the others what it did before.
abbrev pub SettlesAt : Table → Table → told_news.News → ℕ → Option End → Type 0
SettlesAt old new news at None =
    (new ≡ old) × IsHalfway new news (at + 1) × ((nodes : List Node) (ends : List End) → settled_from new news nodes (at + 1) ends ≡ settled_from old news nodes at ends)
SettlesAt old new news at (Some end) =
    IsBeside old new × IsHalfway new news at × (length (new.waiting).items + 1 ≡ length (old.waiting).items)
    × ((nodes : List Node) (ends : List End) → settled_from new news nodes at (ends ++ end ∷ []) ≡ settled_from old news nodes at ends)
