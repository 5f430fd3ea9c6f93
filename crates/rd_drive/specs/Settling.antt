-- The requests that wait, gone through one after the other.
use Rattle.std.specs.Prelude.{◌≡◌, ℕ, ◌+◌, ◌==◌, Bool, false, List, [], ◌∷◌, ◌++◌, length, map, take, drop, fold, Option, Some, None}
use Rattle.std.specs.List.{AllByRecursion}
use Rattle.std.specs.Option.{option_map_or}
use Rattle.rd_drive.specs.declared.waiting.Waiting as kept_waiting
use Rattle.rd_drive.specs.declared.store.Store.{Store}
use Rattle.rd_drive.specs.declared.news.News as told_news
use Rattle.rd_drive.specs.declared.step.End.{End}
use Rattle.rd_drive.specs.DriveState.{DriveState}
use Rattle.rd_drive.specs.Store.{drive_of, news_of, waiting_of, IsHeard, IsSoundBut}
use Rattle.rd_drive.specs.Stepped.{Settled}
use Rattle.rd_drive.specs.Waiting.{settles}

-- the drive as it stands where the requests before a place wait on and these have ended
abbrev pub settled_to : Store → ℕ → List End → Settled DriveState
settled_to s at ends = record { state = record (drive_of s) { waiting = map waiting_of (take at s.waiting.items) }; ends = ends }

-- what comes of it when the news has done what it does to the others too
abbrev pub settled_from : Store → told_news.News → ℕ → List End → Settled DriveState
settled_from s news at ends = fold (settles (news_of s.tree news)) (settled_to s at ends) (map waiting_of (drop at s.waiting.items))

-- whether a file id is the one that was closed
abbrev pub is_closed_file : Option ℕ → ℕ → Bool
is_closed_file closed file = option_map_or (◌==◌ file) closed false

-- The requests before a place are gone through: none of them names the file id that was closed.
pub record IsHalfway (s : Store) (news : told_news.News) (at : ℕ) : Type 0 where
  pub sound : IsSoundBut news.closed s
  pub heard : IsHeard s.tree news
  pub opened : AllByRecursion (λ (w : kept_waiting.Waiting). is_closed_file news.closed w.file ≡ false) (take at s.waiting.items)

-- The request at a place was gone through: it waits on, or it has ended, and the news does to the others what it did before.
abbrev pub SettlesAt : Store → Store → told_news.News → ℕ → Option End → Type 0
SettlesAt old new news at None =
    (new ≡ old) × IsHalfway new news (at + 1) × ((ends : List End) → settled_from new news (at + 1) ends ≡ settled_from old news at ends)
SettlesAt old new news at (Some end) =
    IsHalfway new news at × (length (new.waiting).items + 1 ≡ length (old.waiting).items) × ((ends : List End) → settled_from new news at (ends ++ end ∷ []) ≡ settled_from old news at ends)
