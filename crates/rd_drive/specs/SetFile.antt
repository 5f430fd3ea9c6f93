-- What is set of a file or folder (MS-RDPEFS 2.2.3.3.9, MS-FSCC 2.4).
use Rattle.std.specs.Prelude.{ℕ, ◌-◌, ◌^◌, ◌==◌, ◌&&◌, ◌||◌, Bool, not, nat_lt, min, if◌then◌else◌, List, [], ◌∷◌, length, Option, Some, None, Result, Ok, Err}
use Rattle.std.specs.Map.{lookup}
use Rattle.rd_base.specs.declared.moments.Moments.{Moments}
use Rattle.rd_base.specs.declared.bad.InfoNo.{InfoNo}
use Rattle.rd_base.specs.Classes.{choice, met_choice}
use Rattle.rd_base.specs.Position.{Position}
use Rattle.rd_irp.specs.declared.completion.Body.TheVariants.{Count}
use Rattle.rd_irp.specs.declared.completion.Reply.{Reply}
use Rattle.rd_contents.specs.Contents.{resized, max_len}
use Rattle.rd_fileinfo.specs.declared.set_info.SetInfo.{SetInfo}
use Rattle.rd_fileinfo.specs.declared.set_info.SetInfo.TheVariants as set
use Rattle.rd_fileinfo.specs.FileInfo.{basic}
use Rattle.rd_fileinfo.specs.SetInfo.{set_classes, rename, disposition, allocation, end_of_file}
use Rattle.rd_drive.specs.DriveState.{DriveState, Handle, Node, with_node, is_folder_node, bytes_of, has_children}
use Rattle.rd_drive.specs.Access.{marks, writes, deletes, is_readonly, set_attributes}
use Rattle.rd_drive.specs.Outcome.{Outcome, changed, no_news, fault, checked, given, succeeded}
use Rattle.rd_drive.specs.Changes.{marked, modified}
use Rattle.rd_drive.specs.ReadWrite.{node_with_bytes}
use Rattle.rd_drive.specs.Rename.{rename_to}
use Rattle.rd_base.specs.Statuses.{invalid_info_class, access_denied, invalid_parameter, invalid_device_request, disk_full, directory_not_empty}

-- what the handle and the node have to be, by class: the checks that come before the buffer is read
abbrev pub checks_by_class : Handle → Node → List (ℕ × List (Bool × Reply))
checks_by_class handle node =
    let may_delete = (not (deletes handle.access) || length node.path == 0, fault access_denied) ∷ [] in
    let may_write = (is_folder_node node, fault invalid_device_request) ∷ (not (writes handle.access), fault access_denied) ∷ [] in
    (basic, (not (marks handle.access), fault access_denied) ∷ [])
    ∷ (rename, may_delete)
    ∷ (disposition, may_delete)
    ∷ (allocation, may_write)
    ∷ (end_of_file, may_write)
    ∷ []

-- the checks of a class that can be set
abbrev pub set_checks : Handle → Node → ℕ → Option (List (Bool × Reply))
set_checks handle node class = lookup (◌==◌ class) (checks_by_class handle node)

-- the value that was read
abbrev pub value_read : Result (SetInfo × Position) InfoNo → Option SetInfo
value_read (Ok x) = Some x.0
value_read (Err refusal) = None

-- the value that a buffer of a class spells, if it spells one; what comes after its fields is ignored
abbrev pub set_info_of : ℕ → List ℕ → Option SetInfo
set_info_of class buffer = value_read (met_choice (choice set_classes class) class (record { at = 0; left = buffer }))

-- whether a moment says that what is there is left
abbrev pub is_left : ℕ → Bool
is_left moment = moment == 0 || moment == 2 ^ 64 - 1

-- the moment that is set, or else another
abbrev pub set_or : ℕ → ℕ → ℕ
set_or asked other = if is_left asked then other else asked

-- The moments as they are set. A change that is left is the moment of this request.
abbrev pub set_moments : Moments → Moments → ℕ → Moments
set_moments old asked moment = record {
  creation = set_or asked.creation old.creation;
  access = set_or asked.access old.access;
  write = set_or asked.write old.write;
  change = set_or asked.change moment;
}

-- the node with its moments and attributes as they are set; attributes of 0 are left
abbrev pub with_basic : Node → Moments → ℕ → ℕ → Node
with_basic node moments attributes moment = record node {
  attributes = if attributes == 0 then node.attributes else set_attributes node attributes;
  moments = set_moments node.moments moments moment;
}

-- the node becomes pending, or is pending no more
abbrev pub set_pending : DriveState → ℕ → Node → Bool → Outcome
set_pending s count node pending =
    checked s
    ((pending && is_readonly node, fault access_denied)
    ∷ (pending && is_folder_node node && has_children s node.path, fault directory_not_empty)
    ∷ [])
    (succeeded (with_node s (record node { pending = pending })) (Count count) no_news)

-- the file is cut at an end, or extended to it by zeros
abbrev pub set_end : DriveState → ℕ → ℕ → Node → ℕ → ℕ → Outcome
set_end s moment count node asked end =
    checked s
    ((nat_lt max_len asked, fault disk_full)
    ∷ [])
    (succeeded (with_node s (node_with_bytes node moment (resized (bytes_of node) end))) (Count count) (changed (modified node.path ∷ [])))

-- what a value sets: the end of a file cuts or extends it, its allocation only cuts
abbrev pub set_outcome : DriveState → ℕ → ℕ → Node → SetInfo → Outcome
set_outcome s moment count node (set.Basic moments attributes) =
    succeeded (with_node s (with_basic node moments attributes moment)) (Count count) (changed (marked node.path ∷ []))
set_outcome s moment count node (set.Rename replace units) = rename_to s moment count node replace units
set_outcome s moment count node (set.Disposition pending) = set_pending s count node pending
set_outcome s moment count node (set.Allocation size) = set_end s moment count node size (min size (length (bytes_of node)))
set_outcome s moment count node (set.EndOfFile end) = set_end s moment count node end end

-- SetFile
abbrev pub set_file : DriveState → ℕ → ℕ → List ℕ → Handle → Node → Outcome
set_file s moment class buffer handle node =
    given s (set_checks handle node class) invalid_info_class (λ checks.
    checked s checks (given s (set_info_of class buffer) invalid_parameter (set_outcome s moment (length buffer) node)))
