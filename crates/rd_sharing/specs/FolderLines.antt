-- What a script's lines declare of drives over folders.
use Rattle.std.specs.Prelude.{◌≡◌, ℕ, fold, List, [], None}
use Rattle.std.specs.BTreeMap.{insert_entry}
use Rattle.std.specs.Ordering.{nat_cmp}
use Rattle.rd_dirinfo.specs.declared.naming.Naming.TheVariants as naming
use Rattle.rd_script.specs.declared.line.Line.{Line}
use Rattle.rd_script.specs.declared.line.Line.TheVariants as line
use Rattle.rd_declared.specs.Devices.{Declared, declared_drive}
use Rattle.rd_declared.specs.Declaring.{IsOpenable}

-- With the drive over a folder that a line declares. It is announced as a drive in memory of that name is.
unfoldable pub declaring_folder : List (ℕ × Declared) → Line → List (ℕ × Declared)
declaring_folder devices (line.Real device name place) = insert_entry nat_cmp devices device (declared_drive device naming.Exact name)
declaring_folder devices _ = devices

-- the drives over folders that lines declare, as they are announced, by their ids
abbrev pub folder_devices : List Line → List (ℕ × Declared)
folder_devices lines = fold declaring_folder [] lines

-- A drive over a folder can be announced, and isn't a printer.
pub record IsFolderDevice (e : ℕ × Declared) : Type 0 where
  pub openable : IsOpenable e
  pub plain : (e.1).printer ≡ None
