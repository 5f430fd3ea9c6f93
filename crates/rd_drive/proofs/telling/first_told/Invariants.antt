use Rattle.std.proofs.Common.{◌≡◌, drop, find}
use Rattle.rd_tree.specs.Places.{own_path}
use Rattle.rd_drive.specs.Store.{changes_of}
use Rattle.rd_drive.specs.Telling.{tells}
use Rattle.rd_drive.proofs.telling.first_told.Given as goal

abbrev pub invariant-loop-change : goal.invariant-loop-change
invariant-loop-change l =
    find (tells l.tree.naming (own_path l.tree l.folder.0) l.deep l.filter) (changes_of l.tree (drop l.change-index l.changes))
    ≡ find (tells l.tree.naming (own_path l.tree l.folder.0) l.deep l.filter) (changes_of l.tree l.changes)
