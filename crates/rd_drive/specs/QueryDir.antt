-- Listing a folder, an entry a request (MS-RDPEFS 2.2.3.3.10, MS-FSCC 2.4).
use Rattle.std.specs.Prelude.{ℕ, ◌&&◌, Bool, not, if◌then◌else◌, List, [], ◌∷◌, find, Option, Some, None, is_some}
use Rattle.rd_base.specs.Classes.{choice, is_listed}
use Rattle.rd_irp.specs.declared.completion.Body.TheVariants.{Buffer}
use Rattle.rd_dirinfo.specs.declared.entry.Entry.{Entry}
use Rattle.rd_dirinfo.specs.Entry.{entry_classes, entry_bytes}
use Rattle.rd_dirinfo.specs.Naming.{Name}
use Rattle.rd_dirinfo.specs.Paths.{Names, last_name, is_parent}
use Rattle.rd_dirinfo.specs.Patterns.{pattern_of, pattern_fault, is_wanted}
use Rattle.rd_drive.specs.declared.step.Step.TheVariants as step
use Rattle.rd_drive.specs.DriveState.{DriveState, Handle, Node, with_handle, is_folder_node}
use Rattle.rd_drive.specs.Access.{shown_attributes}
use Rattle.rd_drive.specs.Query.{node_end, allocation_of}
use Rattle.rd_drive.specs.Outcome.{Outcome, no_news, fault, checked, succeeded}
use Rattle.rd_base.specs.Statuses.{invalid_parameter, invalid_info_class, object_name_invalid, no_such_file, no_more_files}

-- what a listing says of a node
abbrev pub entry_of : Node → Entry
entry_of node = record {
  moments = node.moments;
  end = node_end node;
  allocation = allocation_of node;
  attributes = shown_attributes node;
  name = last_name node.path;
}

-- The node that is listed next: of those in the folder at a path, which stand in the order of their names, the first whose name matches the
-- pattern and comes after the last one.
abbrev pub next_node : DriveState → Names → List ℕ → Option Name → Option Node
next_node s path pattern last =
    find (λ (node : Node). is_parent s.naming path node.path && is_wanted s.naming last pattern (last_name node.path)) s.nodes

-- the drive whose handle has this pattern, and lists on after this name
abbrev pub with_listing : DriveState → ℕ → Handle → List ℕ → Option Name → DriveState
with_listing s file handle pattern last = with_handle s file (record handle { pattern = pattern; last = last })

-- The entry of the node that is listed next. Where there is none, the handle has the pattern all the same.
abbrev pub lists : DriveState → ℕ → ℕ → Bool → Handle → List ℕ → Option Name → Option Node → Outcome
lists s file class initial handle pattern last None = record {
  state = with_listing s file handle pattern last;
  answer = step.Reply (fault (if initial then no_such_file else no_more_files));
  news = no_news;
}
lists s file class initial handle pattern last (Some node) =
    succeeded (with_listing s file handle pattern (Some (last_name node.path))) (Buffer (entry_bytes class (entry_of node))) no_news

-- QueryDir. An initial query begins anew, with its own pattern.
abbrev pub query_dir : DriveState → ℕ → ℕ → Bool → List ℕ → Handle → Node → Outcome
query_dir s file class initial units handle node =
    let pattern = if initial then pattern_of units else handle.pattern in
    let last = if initial then None else handle.last in
    checked s
    ((not (is_folder_node node), fault invalid_parameter)
    ∷ (not (is_listed (choice entry_classes class)), fault invalid_info_class)
    ∷ (initial && is_some (pattern_fault units), fault object_name_invalid)
    ∷ [])
    (lists s file class initial handle pattern last (next_node s node.path pattern last))
