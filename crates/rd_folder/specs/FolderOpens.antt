-- What opening a folder does to what tells the folders that were opened, and to the count of failures.
use Rattle.std.specs.Prelude.{◌≡◌, ⊤, ℕ, List, [], ◌∷◌, ◌++◌, Option, Some, None, Result, Ok, Err}
use Rattle.rd_base.specs.Faults.{one_more}
use Rattle.rd_drive.specs.DriveState.{Node}
use Rattle.rd_folder.specs.declared.folder.FolderNo.{FolderNo}
use Rattle.rd_folder.specs.declared.folder.FolderNo.TheVariants as no

-- A folder is opened that tells these nodes. Where the folders that were opened are told, it tells its nodes, and they come after all others.
abbrev pub OpensFolder : (old new : Option (List (List Node))) → Option (List Node) → Type 0
OpensFolder None new nodes = ⊤
OpensFolder (Some old) new nodes = (given : List Node) × (nodes ≡ Some given) × (new ≡ Some (old ++ given ∷ []))

-- An opening fails, which is counted, or finds no memory, which isn't.
abbrev pub CountsOpening : {X : Type 0} → Result X FolderNo → ℕ → ℕ → Type 0
CountsOpening (Ok folder) old new = new ≡ old
CountsOpening (Err no.Failed) old new = new ≡ one_more old
CountsOpening (Err no.Memory) old new = new ≡ old
CountsOpening (Err why) old new = ⊥
