-- The file ids that are open, and what becomes of them.
use Rattle.std.specs.Prelude.{◌≡◌, ℕ, ◌==◌, ◌++◌, not, filter, List, [], ◌∷◌, Result, Ok, Err}
use Rattle.std.specs.Ordering.{nat_cmp}
use Rattle.std.specs.Map.{keys_of, remove_entry}
use Rattle.std.specs.BTreeMap.{is_at}
use Rattle.rd_base.specs.declared.status.Status.{Status}
use Rattle.rd_irp.specs.declared.op.Op.{Op}
use Rattle.rd_irp.specs.declared.op.Op.TheVariants as op
use Rattle.rd_irp.specs.declared.completion.Body.TheVariants.{Created}
use Rattle.rd_folder_drive.specs.declared.table.Table.{Table}
use Rattle.rd_folder_drive.specs.declared.table.Done.{Done}
use Rattle.rd_folder_drive.specs.declared.table.Done.TheVariants as done

-- the file ids that are open, in order
abbrev pub files_in : Table → List ℕ
files_in t = keys_of t.handles.entries

-- all file ids but one
abbrev pub files_but : ℕ → List ℕ → List ℕ
files_but file files = filter (λ (other : ℕ). not (other == file)) files

-- A Create that is done opens the file id that was to be given next, after all others; where it isn't done, those are open that were.
abbrev pub OpensNext : Table → Table → Result Done Status → Type 0
OpensNext old new (Ok (done.Replied body news)) = (information : ℕ) × (body ≡ Created old.next information) × (files_in new ≡ files_in old ++ old.next ∷ [])
OpensNext old new (Ok done.Parked) = ⊥
OpensNext old new (Ok (done.Kept status news)) = ⊥
OpensNext old new (Err status) = files_in new ≡ files_in old

-- What becomes of the file ids by an operation: a Create may open one, a Close takes its own away, and no other changes them.
abbrev pub FilesBy : Table → Table → Op → ℕ → Result Done Status → Type 0
FilesBy old new (op.Create access allocation attributes share disposition options path) file result = OpensNext old new result
FilesBy old new op.Close file result = new.handles.entries ≡ remove_entry (is_at (nat_cmp file)) old.handles.entries
FilesBy old new _ file result = files_in new ≡ files_in old
