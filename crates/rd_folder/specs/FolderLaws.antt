-- What a call on a folder does: to the nodes that the folder tells, and to its count of faults.
use Rattle.std.specs.Prelude.{◌≡◌, ℕ, true, List, Option, Some, None, Result, Ok, Err}
use Rattle.std.specs.List.{list_all}
use Rattle.rd_base.specs.Faults.{one_more}
use Rattle.rd_dirinfo.specs.Paths.{Names, is_name}
use Rattle.rd_drive.specs.DriveState.{Node}
use Rattle.rd_folder.specs.declared.folder.FolderNo.{FolderNo}
use Rattle.rd_folder.specs.declared.folder.FolderNo.TheVariants as no

-- A call on a folder that tells its nodes makes of them, and answers, what the definition says. It answers `Missing` only where there is no such
-- change or answer, and where it is refused nothing changes. A folder that tells nothing goes on telling nothing.
abbrev pub DoesCall : {X : Type 0} → (old new : Option (List Node)) → (List Node → Option (X × List Node)) → Result X FolderNo → Type 0
DoesCall None new comes result = new ≡ None
DoesCall (Some nodes) new comes (Ok answer) = (after : List Node) × (comes nodes ≡ Some (answer, after)) × (new ≡ Some after)
DoesCall (Some nodes) new comes (Err no.Missing) = (comes nodes ≡ None) × (new ≡ Some nodes)
DoesCall (Some nodes) new comes (Err why) = new ≡ Some nodes

-- How many faults a folder had, and which refusal was the last of them.
pub record FolderFaults : Type 0 where
  pub count : ℕ
  pub last : Option FolderNo

abbrev pub no_faults : FolderFaults
no_faults = record { count = 0; last = None }

-- one fault more, by this refusal
abbrev pub one_fault : FolderNo → FolderFaults → FolderFaults
one_fault why faults = record { count = one_more faults.count; last = Some why }

-- A refusal counts one fault, but for want of memory, and for `Missing` where the nodes are told.
abbrev pub CountsNo : Option (List Node) → FolderNo → FolderFaults → FolderFaults → Type 0
CountsNo told no.Memory old new = new ≡ old
CountsNo (Some nodes) no.Missing old new = new ≡ old
CountsNo told why old new = new ≡ one_fault why old

-- A call that is done counts none.
abbrev pub CountsRefusal : {X : Type 0} → Option (List Node) → Result X FolderNo → FolderFaults → FolderFaults → Type 0
CountsRefusal told (Ok answer) old new = new ≡ old
CountsRefusal told (Err why) old new = CountsNo told why old new

-- A path that a folder is asked by: all its names are names. It may be longer than a request can carry.
abbrev pub AreNames : Names → Type 0
AreNames path = list_all is_name path ≡ true
