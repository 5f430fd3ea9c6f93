-- What is told of a change to who watches a folder.
use Rattle.std.specs.Prelude.{ℕ, List, ◌++◌, length, drop, Option, Some, None, if◌then◌else◌}
use Rattle.rd_base.specs.Fields.{bytes32, text_bytes}
use Rattle.rd_dirinfo.specs.declared.naming.Naming.TheVariants.{Exact}
use Rattle.rd_dirinfo.specs.Paths.{Names, is_prefix, joined}

-- the names that a path has below another one, if it is at or below it
abbrev pub rest_below : Names → Names → Option Names
rest_below folder path = if is_prefix Exact folder path then Some (drop (length folder) path) else None

-- a change of what has these names below the folder, as one FILE_NOTIFY_INFORMATION: NextEntryOffset, Action, FileNameLength, and the names
abbrev pub told_bytes : ℕ → Names → List ℕ
told_bytes action names =
    let name = text_bytes (joined names) in
    bytes32 0 ++ bytes32 action ++ bytes32 (length name) ++ name
