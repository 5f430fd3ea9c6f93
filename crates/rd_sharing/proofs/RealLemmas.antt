-- A drive over a folder as a line declares it, and as it is opened.
use Rattle.std.proofs.Common.{◌≡◌, ◌∙◌, refl, sym, ap, subst, ℕ, ◌≤◌, List, length, length-append, Option, arith}
use Rattle.std.specs.Prelude.{IfSome}
use Rattle.std.proofs.lemmas.List.{length-replicate}
use Rattle.rd_dirinfo.specs.declared.naming.Naming.TheVariants as naming
use Rattle.rd_drive.specs.DriveState.{Node}
use Rattle.rd_folder.specs.FolderLaws.{FolderFaults, no_faults}
use Rattle.rd_folder.specs.FolderOpens.{OpensFolder}
use Rattle.rd_folder.specs.Told.{IsFolderMap}
use Rattle.rd_folder_drive.specs.FolderDrive.{FolderDriveState, opened_over}
use Rattle.rd_folder_drive.specs.Served.{seen}
use Rattle.rd_declared.specs.Devices.{Declared, declared_drive, dos_name}
use Rattle.rd_declared.specs.Declaring.{max_device_name}
use Rattle.rd_sharing.specs.FolderLines.{IsFolderDevice}
use Rattle.rd_sharing.specs.ServedOpening.{FoldersTold, OpensOne}

-- A name that isn't too long is filled to eight bytes.
pub dos_length : (name : List ℕ) → length name ≤ max_device_name → length (dos_name name) ≡ 8
dos_length name short = simp (length-append, length-replicate) (omega (arith, short))

-- It can be announced, and isn't a printer.
pub real_device : (id : ℕ) (name : List ℕ) (d : Declared) → d ≡ declared_drive id naming.Exact name → length name ≤ max_device_name → IsFolderDevice (id, d)
real_device id name d is short =
    subst (λ (x : Declared). IsFolderDevice (id, x)) (sym is) (record { openable = record { same = refl; name = short; quiet = refl; names = tt }; plain = refl })

-- A drive is made over a folder that is opened.
pub one_opened : {F : Type 0} (nodes : F → Option (List Node)) (faults : F → FolderFaults) (folder : F) (label name : List ℕ) (drive : FolderDriveState) (before after : FoldersTold)
    → drive ≡ opened_over (seen nodes faults folder) label → label ≡ name → faults folder ≡ no_faults → OpensFolder before after (nodes folder) → IfSome (nodes folder) IsFolderMap → OpensOne name before drive after
one_opened nodes faults folder label name drive before after is same none opens whole = record {
  nodes = nodes folder;
  opens = opens;
  whole = whole;
  over = is ∙ ap (λ (l : List ℕ). opened_over (seen nodes faults folder) l) same ∙ ap (λ (f : FolderFaults). opened_over (record { told = nodes folder; faults = f }) name) none;
}
