-- What the parts of a Create leave: a handle, a node, and a drive where nothing came of it.
use Rattle.std.specs.Prelude.{◌≡◌, ℕ, ◌==◌, ◌&&◌, ◌||◌, not, ◌∷◌, Bool, if◌then◌else◌, List, [], Option, Some, None, nat_eq, false}
use Rattle.std.specs.Ordering.{nat_cmp}
use Rattle.std.specs.BTreeMap.{insert_entry, is_at}
use Rattle.std.specs.HashMap.{get}
use Rattle.rd_dirinfo.specs.Paths.{Names}
use Rattle.rd_dirinfo.specs.Patterns.{any_name}
use Rattle.rd_tree.specs.declared.node.NodeId.{NodeId}
use Rattle.rd_tree.specs.Places.{Adds, IsLive, IsWhole}
use Rattle.rd_drive.specs.declared.asked.Asked.{Asked}
use Rattle.rd_drive.specs.declared.handle.Handle as kept
use Rattle.rd_drive.specs.declared.node.NodeState.{NodeState}
use Rattle.rd_drive.specs.declared.store.Store.{Store}
use Rattle.rd_drive.specs.Access.{has_any, new_file_attributes, use_of, writes}
use Rattle.rd_drive.specs.UseCounts.{is_clashing, more}
use Rattle.rd_drive.specs.Create.{asked_use, create_new, deletes_on_close, open_existing, overwrite, replaces, wants_file, wants_folder, found_information, folders_above, is_full, open_or_make, opened, replaced}
use Rattle.rd_base.specs.declared.status.Status.{Status}
use Rattle.rd_base.specs.Statuses.{access_denied, delete_pending, file_is_a_directory, not_a_directory, object_name_collision, object_path_not_found, sharing_violation, too_many_opened_files}
use Rattle.std.specs.List.{list_all}
use Rattle.rd_drive.specs.Changes.{modified}
use Rattle.rd_drive.specs.DriveState as drive
use Rattle.rd_drive.specs.DriveState.{DriveState, Node, has_folder, with_node}
use Rattle.rd_drive.specs.Outcome.{Outcome, checked, fault}
use Rattle.rd_drive.specs.Kept.{IsKept}
use Rattle.rd_drive.specs.Store.{kept_handle}
use Rattle.rd_drive.specs.Uses.{uses_of}

-- the handle that is asked for, on a node
abbrev pub made_handle : Asked → NodeId → kept.Handle
made_handle asked node = record {
  node = node;
  access = asked.access;
  share = asked.share;
  delete_on_close = deletes_on_close asked;
  pattern = any_name;
  last = None;
}

-- The file id that is given next has a handle. Nothing counts it yet.
pub record AddsHandle (old new : Store) (asked : Asked) (node : NodeId) : Type 0 where
  pub others : new ≡ record old { handles = new.handles }
  pub entries : new.handles.entries ≡ insert_entry nat_cmp old.handles.entries old.next (made_handle asked node)
  pub looked : (k : ℕ) → kept_handle new k ≡ (if is_at (nat_cmp old.next) k then Some (made_handle asked node) else kept_handle old k)

-- what is kept of a node with the use that is asked for counted
abbrev pub with_asked_use : NodeState → Asked → NodeState
with_asked_use state asked = record state { uses = more (use_of asked.access asked.share) state.uses }

-- what is kept of a node that is made at a moment
abbrev pub made_state : ℕ → ℕ → NodeState
made_state attributes moment = record {
  attributes = attributes;
  moments = record { creation = moment; access = moment; write = moment; change = moment };
  pending = false;
  uses = uses_of [];
}

-- what is kept of a file that is replaced at a moment
abbrev pub renewed : NodeState → Asked → ℕ → NodeState
renewed state asked moment = record state {
  attributes = new_file_attributes asked.attributes;
  moments = record state.moments { write = moment; change = moment };
}

-- A node is new, with its attributes, and it is made at a moment.
pub record AddsNode (old new : Store) (path : Names) (folder : Bool) (attributes moment : ℕ) (n : ℕ) : Type 0 where
  pub others : new ≡ record old { tree = new.tree; states = new.states }
  pub adds : Adds old.tree new.tree path folder n
  pub is_whole : IsWhole new.tree
  pub kept : IsKept old.states new.states n (made_state attributes moment)

-- The same drive, in which what is kept may lie elsewhere, and of a number that isn't live something else may be kept.
pub record IsAlike (old new : Store) : Type 0 where
  pub others : new ≡ record old { tree = new.tree; states = new.states; handles = new.handles }
  pub tree : new.tree ≡ old.tree
  pub states : (n : ℕ) → IsLive old.tree n → get nat_eq new.states n ≡ get nat_eq old.states n
  pub entries : new.handles.entries ≡ old.handles.entries

-- ---- what is there

-- why what is there isn't opened, in this order: of a folder or a file, which is the root or isn't, and of which this is kept
abbrev pub open_checks : Asked → Bool → Bool → NodeState → List (Bool × Status)
open_checks asked folder root state =
    (asked.disposition == create_new, object_name_collision)
    ∷ (wants_folder asked && not folder, not_a_directory)
    ∷ (folder && (wants_file asked || replaces asked), file_is_a_directory)
    ∷ (state.pending, delete_pending)
    ∷ (deletes_on_close asked && root, access_denied)
    ∷ ((not folder && has_any 1 state.attributes) && (writes asked.access || replaces asked), access_denied)
    ∷ (is_clashing (asked_use asked) state.uses, sharing_violation)
    ∷ []

-- the first that applies
abbrev pub first_no : List (Bool × Status) → Option Status
first_no [] = None
first_no (check ∷ checks) = if check.0 then Some check.1 else first_no checks

-- whether only a node that is there is asked for
abbrev pub needs_node : Asked → Bool
needs_node asked = asked.disposition == open_existing || asked.disposition == overwrite

-- ---- parts of a Create

-- a file that is there is opened without its bytes
abbrev pub replace : DriveState → Asked → ℕ → Node → Outcome
replace s asked moment node =
    opened (with_node s (replaced asked moment node)) asked node.path (found_information asked) (modified node.path ∷ [])

-- Create, of units that spell a path
abbrev pub create_at : DriveState → ℕ → Asked → Names → Outcome
create_at s moment asked path =
    checked s
    ((is_full s, fault too_many_opened_files)
    ∷ (not (list_all (has_folder s) (folders_above path)), fault object_path_not_found)
    ∷ [])
    (open_or_make s asked moment path (drive.node_of_path s path))
