-- A Close, step by step: a handle is taken off what it has open, with its locks.
use Rattle.std.specs.Prelude.{◌≡◌, ℕ, ◌<◌, ◌==◌, ◌||◌, List, if◌then◌else◌, Bool, true, false, length, Option, Some, None, Result, Ok, Err}
use Rattle.std.specs.Ordering.{nat_cmp}
use Rattle.std.specs.Map.{remove_entry}
use Rattle.std.specs.BTreeMap.{is_at, IsOrdered}
use Rattle.rd_base.specs.declared.status.Status.{Status}
use Rattle.rd_base.specs.Statuses.{no_memory}
use Rattle.rd_locks.specs.Locks.{released}
use Rattle.rd_drive.specs.declared.access.Use.{Use}
use Rattle.rd_drive.specs.declared.uses.Uses.{Uses}
use Rattle.rd_drive.specs.UseCounts.{more}
use Rattle.rd_drive.specs.Uses.{uses_of}
use Rattle.rd_irp.specs.declared.completion.Body.TheVariants.{Closed}
use Rattle.rd_folder.specs.declared.folder.FolderNo.{FolderNo}
use Rattle.rd_folder.specs.declared.folder.FolderNo.TheVariants as folder
use Rattle.rd_folder_drive.specs.declared.handle.Handle as kept
use Rattle.rd_folder_drive.specs.declared.news.News as told_news
use Rattle.rd_folder_drive.specs.declared.open.Open.{Open}
use Rattle.rd_folder_drive.specs.declared.table.Done.{Done}
use Rattle.rd_folder_drive.specs.declared.table.Done.TheVariants as done
use Rattle.rd_folder_drive.specs.declared.table.Table.{Table}
use Rattle.rd_folder_drive.specs.Served.{folder_status}
use Rattle.rd_folder_drive.specs.Table.{kept_handle, open_at, uses_on}

-- what is no want of memory
abbrev pub IsFed : Result Done Status → Type 0
IsFed (Ok (done.Kept status news)) = (status.0 == no_memory.0) ≡ false
IsFed (Ok came) = Unit {0}
IsFed (Err status) = (status.0 == no_memory.0) ≡ false

-- What a Close comes to whose node the folder doesn't take out, by the refusal and by whether it is a folder: a folder stays where something stands in it.
abbrev pub kept_done : FolderNo → Bool → told_news.News → Done
kept_done folder.Missing true news = done.Replied Closed news
kept_done why is_folder news = done.Kept (folder_status why) news

-- what is open, with these uses, and pending if it was or is to be
abbrev pub with_uses_left : Open → Uses → Bool → Open
with_uses_left o uses pending = record o { uses = uses; pending = o.pending || pending }

-- What is open by a number loses one use, and is pending if it was or is to be.
abbrev pub LosesUse : Table → ℕ → Use → Bool → Table → Type 0
LosesUse old n usage pending new = (o : Open) (uses : Uses) → open_at old n ≡ Some o → o.uses ≡ more usage uses
    → (k : ℕ) → open_at new k ≡ (if is_at (nat_cmp n) k then Some (with_uses_left o uses pending) else open_at old k)

-- the handles of a table but one
abbrev pub other_handles : Table → ℕ → List (ℕ × kept.Handle)
other_handles t file = remove_entry (is_at (nat_cmp file)) t.handles.entries

-- what is open then, which the other handles use
abbrev pub used_once_less : Table → ℕ → kept.Handle → Open → Open
used_once_less t file h o = with_uses_left o (uses_of (uses_on h.node (other_handles t file))) h.delete_on_close

-- what stays open by its number where this comes back
abbrev pub stays_open : Open → Option Open → Option Open
stays_open left None = Some left
stays_open left (Some taken) = None

-- What comes back is what was open by one handle alone.
abbrev pub IsTakenOff : ℕ → Open → Option Open → Type 0
IsTakenOff count left None = 0 < count
IsTakenOff count left (Some taken) = (taken ≡ left) × (count ≡ 0)

-- A file id is closed: its handle is gone, and its locks. What it had open is used once less, or where nothing else uses it comes back.
pub record IsOff (old : Table) (file : ℕ) (h : kept.Handle) (o : Open) (back : Option Open) (new : Table) : Type 0 where
  pub others : new ≡ record old { opens = new.opens; handles = new.handles; locks = new.locks }
  pub handles : (new.handles).entries ≡ other_handles old file
  pub looked : (k : ℕ) → kept_handle new k ≡ (if is_at (nat_cmp file) k then None else kept_handle old k)
  pub locks : new.locks ≡ record old.locks { locks = released file old.locks.locks }
  pub rising : IsOrdered nat_cmp new.opens × IsOrdered nat_cmp new.handles
  pub opens : (k : ℕ) → open_at new k ≡ (if is_at (nat_cmp h.node) k then stays_open (used_once_less old file h o) back else open_at old k)
  pub taken : IsTakenOff (length (uses_on h.node (other_handles old file))) (used_once_less old file h o) back
