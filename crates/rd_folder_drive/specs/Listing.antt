-- What a listing gives next, and a handle that lists on.
use Rattle.std.specs.Prelude.{◌≡◌, ℕ, List, Option, Some, None}
use Rattle.std.specs.Ordering.{nat_cmp}
use Rattle.std.specs.Map.{set_value}
use Rattle.std.specs.BTreeMap.{IsOrdered, is_at}
use Rattle.rd_dirinfo.specs.Entry.{entry_bytes}
use Rattle.rd_dirinfo.specs.Naming.{Name}
use Rattle.rd_dirinfo.specs.Paths.{Names, last_name}
use Rattle.rd_drive.specs.DriveState.{Node}
use Rattle.rd_drive.specs.QueryDir.{entry_of, next_node}
use Rattle.rd_folder.specs.Told.{drive_over}
use Rattle.rd_folder_drive.specs.declared.handle.Handle as kept
use Rattle.rd_folder_drive.specs.declared.query_dir.Entered.{Entered}
use Rattle.rd_folder_drive.specs.declared.table.Table.{Table}

-- Of a folder's nodes a listing gives next: nothing, or the name of the node that is listed next, and the bytes of its entry.
abbrev pub FindsNext : List Node → Names → List ℕ → Option Name → ℕ → Option Entered → Type 0
FindsNext nodes path pattern last class None = next_node (drive_over nodes) path pattern last ≡ None
FindsNext nodes path pattern last class (Some found) =
    (node : Node) × (next_node (drive_over nodes) path pattern last ≡ Some node) × (found.name ≡ last_name node.path) × (found.bytes ≡ entry_bytes class (entry_of node))

-- with a pattern, and the name that was listed last
abbrev pub relisted : kept.Handle → List ℕ → Option Name → kept.Handle
relisted h pattern last = record h { pattern = pattern; last = last }

-- The handle of a file id lists on so, and nothing else changes.
pub record Relists (old : Table) (file : ℕ) (h : kept.Handle) (pattern : List ℕ) (last : Option Name) (new : Table) : Type 0 where
  pub rest : new ≡ record old { handles = new.handles }
  pub rising : IsOrdered nat_cmp new.handles
  pub handles : new.handles.entries ≡ set_value (is_at (nat_cmp file)) old.handles.entries (relisted h pattern last)
