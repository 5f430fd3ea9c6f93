-- Why devices aren't opened, and what that says of folders.
use Rattle.std.specs.Prelude.{◌≡◌, ℕ, List, ◌∷◌, ◌++◌}
use Rattle.rd_base.specs.Faults.{one_more}
use Rattle.rd_folder_drive.specs.FolderDrive.{FolderDriveState}
use Rattle.rd_sharing.specs.ServedOpening.{OpenInTurn, ToldFolders}
use Rattle.rd_sharing.specs.declared.opening_no.OpeningNo.{OpeningNo}
use Rattle.rd_sharing.specs.declared.opening_no.OpeningNo.TheVariants as no
use Rattle.rd_declared.specs.Devices.{Declared}

-- The folder of the device with this id wasn't opened, which is one failure more; or no memory was found, which is none.
abbrev pub IsFolderNo : (id : ℕ) (before after : ℕ) → OpeningNo → Type 0
IsFolderNo id before after (no.Folder device) = (device ≡ id) × (after ≡ one_more before)
IsFolderNo id before after no.Memory = after ≡ before

-- what is said where the folder of a device couldn't be opened
abbrev pub OnFolderNo : OpeningNo → Type 0 → Type 0
OnFolderNo (no.Folder device) P = P
OnFolderNo no.Memory P = Unit {0}

-- Of the folders of these drives those before this device's were opened, in their order, and no others, as far as it is told which were. Its own wasn't, which is one failure more.
pub record StopsAtFolder (drives : List (ℕ × Declared)) (device : ℕ) (before after : ToldFolders) : Type 0 where
  pub earlier : List (ℕ × Declared)
  pub drive : Declared
  pub later : List (ℕ × Declared)
  pub parts : drives ≡ earlier ++ (device, drive) ∷ later
  pub folders : List FolderDriveState
  pub opens : OpenInTurn earlier before.opened folders after.opened
  pub counted : after.failures ≡ one_more before.failures

-- Why the folders of drives weren't all opened: one of them wasn't, or no memory was found, which is no failure.
abbrev pub StopsOpening : (drives : List (ℕ × Declared)) (before after : ToldFolders) → OpeningNo → Type 0
StopsOpening drives before after (no.Folder device) = StopsAtFolder drives device before after
StopsOpening drives before after no.Memory = after.failures ≡ before.failures
