-- A handle that lists on.
use Rattle.std.specs.Prelude.{◌≡◌, ℕ, List, Option, Some, None}
use Rattle.std.specs.Ordering.{nat_cmp}
use Rattle.std.specs.Map.{set_value}
use Rattle.std.specs.BTreeMap.{is_at}
use Rattle.rd_dirinfo.specs.Naming.{Name}
use Rattle.rd_drive.specs.declared.handle.Handle as kept
use Rattle.rd_drive.specs.declared.store.Store.{Store}
use Rattle.rd_dirinfo.specs.Entry.{entry_bytes}
use Rattle.rd_dirinfo.specs.Paths.{Names, last_name}
use Rattle.rd_drive.specs.declared.query_dir.Listed.{Listed}
use Rattle.rd_drive.specs.DriveState.{DriveState, Node}
use Rattle.rd_drive.specs.QueryDir.{entry_of, next_node}

-- with a pattern, and the name that was listed last
abbrev pub relisted : kept.Handle → List ℕ → Option Name → kept.Handle
relisted h pattern last = record h { pattern = pattern; last = last }

-- The handle of a file id lists on so, and nothing else changes.
pub record Relists (old : Store) (file : ℕ) (h : kept.Handle) (pattern : List ℕ) (last : Option Name) (new : Store) : Type 0 where
  pub rest : new ≡ record old { handles = new.handles }
  pub handles : new.handles.entries ≡ set_value (is_at (nat_cmp file)) old.handles.entries (relisted h pattern last)

-- What a listing gives next: nothing, or the name of the node that is listed next, and the bytes of its entry.
abbrev pub Finds : DriveState → Names → List ℕ → Option Name → ℕ → Option Listed → Type 0
Finds s path pattern last class None = next_node s path pattern last ≡ None
Finds s path pattern last class (Some found) =
    (node : Node) × (next_node s path pattern last ≡ Some node) × (found.name ≡ last_name node.path) × (found.bytes ≡ entry_bytes class (entry_of node))
