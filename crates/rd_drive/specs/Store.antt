-- What a drive keeps, what that means, and what holds of it between calls.
use Rattle.std.specs.Prelude.{◌≡◌, ℕ, ◌≤◌, ◌<◌, ◌^◌, ◌==◌, if◌then◌else◌, ◌⊎◌, true, false, List, [], ◌∷◌, ◌++◌, map, filter, length, sum_by, Option, Some, None, Result, Ok, Err, nat_eq, vec_capacity}
use Rattle.std.specs.Option.{IsSome, IfSome, option_map, option_map_or, unwrap_or}
use Rattle.std.specs.Ordering.{nat_cmp}
use Rattle.std.specs.Map.{lookup}
use Rattle.std.specs.BTreeMap.{BTreeMap, is_at}
use Rattle.std.specs.HashMap.{HashMap, get}
use Rattle.std.specs.List.{AllByRecursion}
use Rattle.std.specs.declared.hash.FoldHasher.{FoldHasher}
use Rattle.std.specs.declared.hash.BuildHasherDefault.{BuildHasherDefault}
use Rattle.rd_base.specs.declared.status.Status.{Status}
use Rattle.rd_locks.specs.declared.held.Held.{Held}
use Rattle.rd_dirinfo.specs.Paths.{Names, is_within_limits}
use Rattle.rd_tree.specs.declared.node.NodeId.{NodeId}
use Rattle.rd_tree.specs.Places.{Place, Places, IsLive, IsWhole, is_folder, own_path}
use Rattle.rd_drive.specs.declared.access.Use.{Use}
use Rattle.rd_drive.specs.declared.node.NodeState.{NodeState}
use Rattle.rd_drive.specs.declared.handle.Handle as kept
use Rattle.rd_drive.specs.declared.waiting.Wish.{Wish}
use Rattle.rd_drive.specs.declared.waiting.Wish.TheVariants as kept_wish
use Rattle.rd_drive.specs.declared.waiting.Waiting as kept_waiting
use Rattle.rd_drive.specs.declared.store.Store.{Store}
use Rattle.rd_drive.specs.declared.store.Done.{Done}
use Rattle.rd_drive.specs.declared.store.Done.TheVariants as done
use Rattle.rd_drive.specs.declared.news.Named.{Named}
use Rattle.rd_drive.specs.declared.news.Named.TheVariants as named
use Rattle.rd_drive.specs.declared.news.Change as told
use Rattle.rd_drive.specs.declared.news.News as told_news
use Rattle.rd_drive.specs.declared.step.Step.TheVariants as step
use Rattle.rd_drive.specs.Outcome as outcome
use Rattle.rd_base.specs.Statuses.{no_memory}
use Rattle.rd_drive.specs.Uses.{uses_of}
use Rattle.rd_drive.specs.DriveState as drive
use Rattle.rd_drive.specs.DriveState.{DriveState, Node, in_order}
use Rattle.rd_drive.specs.Access.{use_of}

-- what is kept of each node, by its number
abbrev pub States : Type 0
States = HashMap ℕ NodeState (BuildHasherDefault FoldHasher)

abbrev pub Handles : Type 0
Handles = BTreeMap ℕ kept.Handle

-- what would be kept of a node of which nothing is
abbrev pub blank : NodeState
blank = record {
  attributes = 0;
  moments = record { creation = 0; access = 0; write = 0; change = 0 };
  pending = false;
  uses = record { handles = 0; reading = 0; writing = 0; deleting = 0; unshared_reading = 0; unshared_writing = 0; unshared_deleting = 0 };
}

abbrev pub state_of : States → ℕ → NodeState
state_of states n = unwrap_or (get nat_eq states n) blank

-- ---- what is kept means

-- a node, by its place and what is kept of it
abbrev pub node_with : NodeState → Place → Node
node_with state place = record {
  path = place.path;
  bytes = place.bytes;
  attributes = state.attributes;
  moments = state.moments;
  pending = state.pending;
}

abbrev pub node_of : States → ℕ × Place → Node
node_of states e = node_with (state_of states e.0) e.1

abbrev pub nodes_of : Places → States → List Node
nodes_of tree states = in_order tree.naming (map (node_of states) tree.list)

abbrev pub handle_of : Places → kept.Handle → drive.Handle
handle_of tree h = record {
  path = own_path tree h.node.0;
  access = h.access;
  share = h.share;
  delete_on_close = h.delete_on_close;
  pattern = h.pattern;
  last = h.last;
}

abbrev pub handles_of : Places → Handles → List (ℕ × drive.Handle)
handles_of tree handles = map (λ (e : ℕ × kept.Handle). (e.0, handle_of tree e.1)) handles.entries

abbrev pub lock_of : Held → drive.Lock
lock_of held = record { file = held.file; exclusive = held.exclusive; range = held.range }

abbrev pub wish_of : Wish → drive.Wish
wish_of (kept_wish.Ranges exclusive ranges) = drive.Ranges exclusive ranges
wish_of (kept_wish.Change deep filter room) = drive.Notice deep filter

abbrev pub waiting_of : kept_waiting.Waiting → drive.Waiting
waiting_of w = record { key = w.key; file = w.file; wish = wish_of w.wish }

-- the drive
abbrev pub drive_of : Store → DriveState
drive_of s = record {
  naming = s.naming;
  label = s.label;
  limited = true;
  nodes = nodes_of s.tree s.states;
  handles = handles_of s.tree s.handles;
  locks = map lock_of s.locks.locks;
  waiting = map waiting_of s.waiting.items;
  next = s.next;
}

-- ---- what holds between calls

-- the uses of the handles on a node
abbrev pub uses_on : ℕ → List (ℕ × kept.Handle) → List Use
uses_on n [] = []
uses_on n (e ∷ es) = if (e.1).node.0 == n then use_of (e.1).access (e.1).share ∷ uses_on n es else uses_on n es

-- the handle of a file id, if it has one
abbrev pub kept_handle : Store → ℕ → Option kept.Handle
kept_handle s file = lookup (is_at (nat_cmp file)) s.handles.entries

-- how many ranges a request waits for
abbrev pub wish_ranges : Wish → ℕ
wish_ranges (kept_wish.Ranges exclusive ranges) = length ranges
wish_ranges (kept_wish.Change deep filter room) = 0

-- the most bytes that are told of a change: its head and a path
abbrev pub change_room : ℕ
change_room = 8204

-- A request that waits for a change has room for what is told of one: the head and a path.
abbrev pub HasRoom : Wish → Type 0
HasRoom (kept_wish.Ranges exclusive ranges) = Unit {0}
HasRoom (kept_wish.Change deep filter room) = (room.items ≡ []) × (change_room ≤ vec_capacity room)

-- What holds between calls, but that a file id may just have been closed, for which requests wait still. The tree is whole; something is kept of each node, the
-- root is never pending, and neither the label nor a path is past its limit; each handle is on a node, and each lock and each request that waits has its handle;
-- the uses of each node are counted; and there is room for every end.
pub record IsSoundBut (closed : Option ℕ) (s : Store) : Type 0 where
  pub whole : IsWhole s.tree
  pub naming : s.tree.naming ≡ s.naming
  pub label : length s.label ≤ 32
  pub states : (n : ℕ) → IsLive s.tree n → IsSome (get nat_eq s.states n)
  pub root : (state_of s.states 0).pending ≡ false
  pub fitting : (n : ℕ) → IsLive s.tree n → is_within_limits (own_path s.tree n) ≡ true
  pub opened : (file : ℕ) (h : kept.Handle) → kept_handle s file ≡ Some h → IsLive s.tree h.node.0 × (file < s.next) × (h.node.0 ≡ 0 → h.delete_on_close ≡ false)
  pub uses : (n : ℕ) → IsLive s.tree n → (state_of s.states n).uses ≡ uses_of (uses_on n s.handles.entries)
  pub locked : AllByRecursion (λ (held : Held). option_map (λ (h : kept.Handle). h.node.0) (kept_handle s held.file) ≡ Some held.node) s.locks.locks
  pub waits : AllByRecursion (λ (w : kept_waiting.Waiting). (option_map_or (◌==◌ w.file) closed false ≡ false → IsSome (kept_handle s w.file)) × HasRoom w.wish) s.waiting.items
  pub reserved : s.locks.reserved ≡ sum_by (λ (w : kept_waiting.Waiting). wish_ranges w.wish) s.waiting.items
  pub few : (length s.handles.entries ≤ 4096) × (length s.waiting.items ≤ 64) × (64 ≤ vec_capacity s.waiting)
  pub ids : (1 ≤ s.next) × (s.next ≤ 2 ^ 32)

-- what holds between calls
abbrev pub IsSound : Store → Type 0
IsSound s = IsSoundBut None s

-- ---- what a call leaves and returns

-- the path of the node that a change is about
abbrev pub named_path : Places → Named → Names
named_path tree (named.Node node) = own_path tree node.0
named_path tree (named.Gone folder name) = own_path tree folder.0 ++ name ∷ []

-- A change is about a node that is there, or about a name that a folder could have.
abbrev pub IsTold : Places → Named → Type 0
IsTold tree (named.Node node) = IsLive tree node.0
IsTold tree (named.Gone folder name) = (is_folder tree folder.0 ≡ Some true) × (is_within_limits (own_path tree folder.0 ++ name ∷ []) ≡ true)

-- what the news speaks of is there
abbrev pub IsHeard : Places → told_news.News → Type 0
IsHeard tree news =
    IfSome news.unlocked (λ (node : NodeId). IsLive tree node.0)
    × AllByRecursion (λ (change : Option told.Change). IfSome change (λ (c : told.Change). IsTold tree c.named)) news.changes

abbrev pub change_of : Places → told.Change → outcome.Change
change_of tree change = record { action = change.action; path = named_path tree change.named; bits = change.bits }

-- the changes that there are
abbrev pub changes_of : Places → List (Option told.Change) → List outcome.Change
changes_of tree [] = []
changes_of tree (None ∷ changes) = changes_of tree changes
changes_of tree (Some change ∷ changes) = change_of tree change ∷ changes_of tree changes

-- nothing to tell
abbrev pub nothing : told_news.News
nothing = record { closed = None; unlocked = None; changes = None ∷ None ∷ None ∷ [] }

-- one change
abbrev pub about : told.Change → told_news.News
about change = record { closed = None; unlocked = None; changes = Some change ∷ None ∷ None ∷ [] }

-- a file may have fewer locks
abbrev pub about_locks : NodeId → told_news.News
about_locks node = record { closed = None; unlocked = Some node; changes = None ∷ None ∷ None ∷ [] }

-- what the news means in a tree
abbrev pub news_of : Places → told_news.News → outcome.News
news_of tree news = record {
  closed = news.closed;
  unlocked = option_map (λ (node : NodeId). own_path tree node.0) news.unlocked;
  changes = changes_of tree news.changes;
}

-- A call that serves an operation leaves a sound drive and returns what the operation comes to, or NO_MEMORY, and then nothing changed. After
-- a Close the requests that waited for its file id are still there: its news ends them.
abbrev pub Serves : Store → Store → outcome.Outcome → Result Done Status → Type 0
Serves old new comes (Ok (done.Replied body news)) =
    IsSoundBut news.closed new × IsHeard new.tree news × (comes ≡ record { state = drive_of new; answer = step.Reply (outcome.done body); news = news_of new.tree news })
Serves old new comes (Ok done.Parked) = IsSound new × (comes ≡ record { state = drive_of new; answer = step.Parked; news = outcome.no_news })
Serves old new comes (Err status) =
    IsSound new × ((comes ≡ outcome.refused (drive_of new) status) ⊎ ((status ≡ no_memory) × (drive_of new ≡ drive_of old)))

-- what is no want of memory
abbrev pub IsFed : Result Done Status → Type 0
IsFed (Ok came) = Unit {0}
IsFed (Err status) = (status.0 == no_memory.0) ≡ false
