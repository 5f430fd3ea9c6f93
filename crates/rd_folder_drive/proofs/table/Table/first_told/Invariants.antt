use Rattle.std.proofs.Common.{◌≡◌, drop, find}
use Rattle.rd_dirinfo.specs.declared.naming.Naming.TheVariants.{Exact}
use Rattle.rd_drive.specs.Telling.{tells}
use Rattle.rd_folder_drive.specs.Served.{changes_of}
use Rattle.rd_folder_drive.specs.Table.{path_at}
use Rattle.rd_folder_drive.proofs.table.Table.first_told.Given as goal

abbrev pub invariant-loop-change : goal.invariant-loop-change
invariant-loop-change l =
    find (tells Exact (path_at l.self l.node) l.deep l.filter) (changes_of l.self (drop l.change-index l.changes))
    ≡ find (tells Exact (path_at l.self l.node) l.deep l.filter) (changes_of l.self l.changes)
