-- A Create, step by step: the next file id gets a handle.
use Rattle.std.specs.Prelude.{◌≡◌, ℕ, ◌+◌, ◌<◌, ◌^◌, Bool, not, if◌then◌else◌, false, true, List, [], ◌∷◌, length, Option, None, Some, Result}
use Rattle.std.specs.Ordering.{nat_cmp}
use Rattle.std.specs.BTreeMap.{insert_entry, is_at, IsOrdered}
use Rattle.rd_base.specs.declared.status.Status.{Status}
use Rattle.rd_dirinfo.specs.declared.naming.Naming.TheVariants.{Exact}
use Rattle.rd_dirinfo.specs.Paths.{Names, is_path, is_same_path, parent}
use Rattle.rd_dirinfo.specs.Patterns.{any_name}
use Rattle.rd_irp.specs.declared.op.Op.TheVariants as op
use Rattle.rd_drive.specs.declared.access.Use.{Use}
use Rattle.rd_drive.specs.declared.asked.Asked.{Asked}
use Rattle.rd_drive.specs.declared.node.NodeState.{NodeState}
use Rattle.rd_drive.specs.Access.{use_of}
use Rattle.rd_drive.specs.Changes.{added, modified}
use Rattle.rd_drive.specs.Create.{deletes_on_close, found_information, made_node, opened, replaced}
use Rattle.rd_drive.specs.DriveState.{Node, has_folder, is_folder_node, with_new_node, with_node}
use Rattle.rd_drive.specs.Made.{create_at}
use Rattle.rd_drive.specs.UseCounts.{more}
use Rattle.rd_drive.specs.Uses.{uses_of}
use Rattle.rd_folder.specs.declared.look.Look.{Look}
use Rattle.rd_folder.specs.FolderCalls.{node_there}
use Rattle.rd_folder.specs.Told.{drive_over}
use Rattle.rd_folder_drive.specs.declared.handle.Handle as kept
use Rattle.rd_folder_drive.specs.declared.open.Open.{Open}
use Rattle.rd_folder_drive.specs.declared.table.Done.{Done}
use Rattle.rd_folder_drive.specs.declared.table.Table.{Table}
use Rattle.rd_folder_drive.specs.Served.{FitsBody, IfReplied, Seen}
use Rattle.rd_folder_drive.specs.Table.{IsSound, drive_of, kept_handle, marked, open_at, uses_on}

-- the handle that is asked for, on what is open by a number
abbrev pub made_handle : Asked → ℕ → kept.Handle
made_handle asked n = record {
  node = n;
  access = asked.access;
  share = asked.share;
  delete_on_close = deletes_on_close asked;
  pattern = any_name;
  last = None;
}

-- What may be open by a number then: it has a path at which nothing else is open, isn't pending, and is used once more than it was; and if it was open before, it
-- was so at that path, and not pending. Closing the handle doesn't delete the root.
pub record MayOpen (t : Table) (asked : Asked) (n : ℕ) (o : Open) : Type 0 where
  pub path : is_path o.path ≡ true
  pub rests : o.pending ≡ false
  pub root : o.path ≡ [] → deletes_on_close asked ≡ false
  pub uses : o.uses ≡ more (use_of asked.access asked.share) (uses_of (uses_on n t.handles.entries))
  pub before : n < t.next + 1
  pub apart : (m : ℕ) (p : Open) → open_at t m ≡ Some p → p.path ≡ o.path → m ≡ n
  pub was : (p : Open) → open_at t n ≡ Some p → (p.path ≡ o.path) × (p.pending ≡ false)

-- The next file id has a handle on what is open by a number, and this is open by it.
pub record IsOpening (old : Table) (asked : Asked) (n : ℕ) (o : Open) (new : Table) : Type 0 where
  pub others : new ≡ record old { opens = new.opens; handles = new.handles; next = old.next + 1 }
  pub entries : (new.handles).entries ≡ insert_entry nat_cmp old.handles.entries old.next (made_handle asked n)
  pub looked : (k : ℕ) → kept_handle new k ≡ (if is_at (nat_cmp old.next) k then Some (made_handle asked n) else kept_handle old k)
  pub opens : (k : ℕ) → open_at new k ≡ (if is_at (nat_cmp n) k then Some o else open_at old k)
  pub rising : IsOrdered nat_cmp new.opens × IsOrdered nat_cmp new.handles

-- ---- what is open at a path

-- the first number by which something is open at a path
abbrev pub number_at : Names → List (ℕ × Open) → Option ℕ
number_at path [] = None
number_at path (e ∷ es) = if is_same_path Exact (e.1).path path then Some e.0 else number_at path es

-- What is open by a number is so at this path; or where there is no number nothing is.
abbrev pub IsAtPath : Table → Names → Option ℕ → Type 0
IsAtPath t path None = (n : ℕ) (o : Open) → open_at t n ≡ Some o → o.path ≡ path → ⊥
IsAtPath t path (Some n) = (o : Open) × (open_at t n ≡ Some o) × (o.path ≡ path)

-- whether what is open, if something is, is a folder or a file as is said
abbrev pub is_of_kind : Bool → Option Open → Bool
is_of_kind folder None = true
is_of_kind folder (Some o) = if folder then o.folder else not o.folder

-- what a drive keeps of a node, by what its folder tells of it and by what is open
abbrev pub told_state : Look → Option Open → NodeState
told_state look None = record { attributes = look.attributes; moments = look.moments; pending = false; uses = uses_of [] }
told_state look (Some o) = record { attributes = look.attributes; moments = look.moments; pending = o.pending; uses = o.uses }

-- ---- the next handle

-- A handle can be made: there are few, and a file id is left.
abbrev pub IsFree : Table → Type 0
IsFree t = (length t.handles.entries < 4096) × (t.next < 2 ^ 32)

-- The file id that is given next has the handle that is asked for. Nothing counts it yet.
pub record GivesHandle (old : Table) (asked : Asked) (n : ℕ) (new : Table) : Type 0 where
  pub others : new ≡ record old { handles = new.handles }
  pub entries : (new.handles).entries ≡ insert_entry nat_cmp old.handles.entries old.next (made_handle asked n)
  pub looked : (k : ℕ) → kept_handle new k ≡ (if is_at (nat_cmp old.next) k then Some (made_handle asked n) else kept_handle old k)
  pub rising : IsOrdered nat_cmp new.handles

-- What is open by a number is used once more.
abbrev pub GainsUse : Table → ℕ → Use → Table → Type 0
GainsUse old n usage new = (o : Open) → open_at old n ≡ Some o → (k : ℕ) → open_at new k ≡ (if is_at (nat_cmp n) k then Some (record o { uses = more usage o.uses }) else open_at old k)

-- what is open, used once more
abbrev pub used_more : Asked → Open → Open
used_more asked o = record o { uses = more (use_of asked.access asked.share) o.uses }

-- what is open for the first time, at a path
abbrev pub first_open : Asked → Names → Bool → Open
first_open asked path folder = record { path = path; folder = folder; pending = false; uses = more (use_of asked.access asked.share) (uses_of []) }

-- What is open by a number with the new handle: what was open by it, or for the first time, by the next file id, what is at the path.
abbrev pub Becomes : Table → Asked → Names → Bool → Option ℕ → ℕ → Open → Type 0
Becomes t asked path folder None n o = (n ≡ t.next) × (o ≡ first_open asked path folder)
Becomes t asked path folder (Some m) n o = (p : Open) × (open_at t m ≡ Some p) × (n ≡ m) × (o ≡ used_more asked p)

-- the next file id has the handle that is asked for, on what was open by a number or on what is open now for the first time
pub record IsHolding (old : Table) (asked : Asked) (path : Names) (folder : Bool) (found : Option ℕ) (n : ℕ) (new : Table) : Type 0 where
  pub o : Open
  pub becomes : Becomes old asked path folder found n o
  pub opening : IsOpening old asked n o new

-- it may have it
abbrev pub MayHold : Table → Asked → Names → Bool → Option ℕ → Type 0
MayHold t asked path folder found = (n : ℕ) (o : Open) → Becomes t asked path folder found n o → MayOpen t asked n o

-- ---- taken back

-- The same table, in which the entries may lie elsewhere.
pub record IsAsBefore (old new : Table) : Type 0 where
  pub others : new ≡ record old { opens = new.opens; handles = new.handles }
  pub entries : (new.handles).entries ≡ old.handles.entries
  pub opens : (k : ℕ) → open_at new k ≡ open_at old k
  pub rising : IsOrdered nat_cmp new.opens × IsOrdered nat_cmp new.handles

-- From this table the file id got its handle, on what is open by a number.
pub record IsHeldFrom (t : Table) (asked : Asked) (file n : ℕ) (now : Table) : Type 0 where
  pub sound : IsSound t
  pub given : file ≡ t.next
  pub path : Names
  pub folder : Bool
  pub found : Option ℕ
  pub holds : IsHolding t asked path folder found n now

-- ---- what a Create comes to

-- It comes to this: a file stands at the path, and is opened without its bytes.
abbrev pub IsReplacing : Table → Seen → Asked → ℕ → Names → Type 0
IsReplacing t before asked moment path = (nodes : List Node) → before.told ≡ Some nodes
    → (node : Node) × (node_there nodes path ≡ Some node) × (is_folder_node node ≡ false)
    × (create_at (drive_of t nodes) moment asked path ≡ opened (with_node (drive_of t nodes) (replaced asked moment (marked t.opens.entries node))) asked path (found_information asked) (modified path ∷ []))

-- It comes to this: nothing stands at the path, which isn't the root's, and a node is made in the folder that is there.
abbrev pub IsMaking : Table → Seen → Asked → ℕ → Names → Type 0
IsMaking t before asked moment path = (nodes : List Node) → before.told ≡ Some nodes
    → (path ≡ [] → ⊥) × (node_there nodes path ≡ None) × (has_folder (drive_over nodes) (parent path) ≡ true)
    × (create_at (drive_of t nodes) moment asked path ≡ opened (with_new_node (drive_of t nodes) (made_node asked path moment)) asked path 0 (added (made_node asked path moment) ∷ []))

-- the body of a reply, if there is one, is a Create's, whatever its path
abbrev pub FitsCreate : Asked → Result Done Status → Type 0
FitsCreate asked result = (allocation : ℕ) (units : List ℕ) → IfReplied result (FitsBody (op.Create asked.access allocation asked.attributes asked.share asked.disposition asked.options units))
