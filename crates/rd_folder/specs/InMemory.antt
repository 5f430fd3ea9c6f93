-- Folders in memory, as contracts see them.
use Rattle.std.specs.Prelude.{◌≡◌, ◌↔◌, ℕ, ◌+◌, ◌-◌, ◌^◌, Bool, not, min, List, [], ◌∷◌, get_or, set, map, position, remove, Vec, Option, Some, None, Result, Ok, Err, Contains}
use Rattle.rd_dirinfo.specs.Naming.{Name}
use Rattle.rd_dirinfo.specs.Paths.{Names, moved_path, path_cmp}
use Rattle.rd_dirinfo.specs.declared.naming.Naming.TheVariants.{Exact}
use Rattle.std.specs.Ordering.{is_lt}
use Rattle.rd_drive.specs.DriveState.{Node, in_order, is_at_path, is_folder_node, new_node}
use Rattle.rd_contents.specs.declared.contents.SizeNo.{SizeNo}
use Rattle.rd_contents.specs.declared.contents.SizeNo.TheVariants as size
use Rattle.rd_folder.specs.declared.folder.FolderNo.{FolderNo}
use Rattle.rd_folder.specs.declared.folder.FolderNo.TheVariants as no
use Rattle.rd_folder.specs.FolderLaws.{FolderFaults}

-- A folder: its nodes; the numbers that the next calls have, by method; the numbers of the calls that fail; and the faults of those that did, whose
-- count stands still at 2^64 - 1.
pub record FolderState : Type 0 where
  pub nodes : List Node
  pub numbers : List ℕ
  pub fails : List ℕ
  pub faults : FolderFaults

-- The numbers of the first calls, by method. The k-th call of the method m, counted from 1 and from 0, has the number 16 * k + m.
abbrev pub first_numbers : List ℕ
first_numbers = 16 ∷ 17 ∷ 18 ∷ 19 ∷ 20 ∷ 21 ∷ 22 ∷ 23 ∷ 24 ∷ 25 ∷ []

-- the number that the next call of a method has
abbrev pub number_ahead : FolderState → ℕ → ℕ
number_ahead s method = get_or s.numbers method 0

-- the number of the method's call after the one with this number; it stands still at 2^64 - 1
abbrev pub later_number : ℕ → ℕ
later_number number = min (number + 16) (2 ^ 64 - 1)

-- A call was tried on something old: it answers, and leaves, what the definition says, or is refused, where there is no such change or answer, or for
-- want of memory; a refusal changes nothing.
abbrev pub Tries : {S X : Type 0} → (old new : S) → Option (X × S) → Result X FolderNo → Type 0
Tries old new comes (Ok answer) = comes ≡ Some (answer, new)
Tries old new comes (Err no.Missing) = (comes ≡ None) × (new ≡ old)
Tries old new comes (Err no.Memory) = new ≡ old
Tries old new comes (Err why) = ⊥

-- The same of a change of one node, which answers nothing.
abbrev pub Alters : (old new : Node) → Option Node → Result (Unit {0}) FolderNo → Type 0
Alters old new comes (Ok done) = comes ≡ Some new
Alters old new comes (Err no.Missing) = (comes ≡ None) × (new ≡ old)
Alters old new comes (Err no.Memory) = new ≡ old
Alters old new comes (Err why) = ⊥

-- a changed node is at its path still, and of the same kind
abbrev pub IsSamePlace : (old new : Node) → Type 0
IsSamePlace old new = (new.path ≡ old.path) × (is_folder_node new ≡ is_folder_node old)

-- why a file's bytes aren't changed: a file of more than 2^40 bytes isn't there
abbrev pub size_refusal : SizeNo → FolderNo
size_refusal size.TooBig = no.Missing
size_refusal size.Memory = no.Memory

-- the paths that are kept in some lists of names
abbrev pub paths_of : {A : Type 0} → List (Vec Name A) → List Names
paths_of {A = A} paths = map (λ (path : Vec Name A). path.items) paths

-- whether a node doesn't come before a path
abbrev pub is_no_earlier : Names → Node → Bool
is_no_earlier path other = not (is_lt (path_cmp Exact other.path path))

-- nodes with other paths, of each in turn
abbrev pub carried : List Node → List Names → List Node
carried (node ∷ nodes) (path ∷ paths) = record node { path = path } ∷ carried nodes paths
carried nodes paths = []

-- some items without the one at a place, if one is given
abbrev pub left_out : {X : Type 0} → List X → Option ℕ → List X
left_out items None = items
left_out items (Some at) = remove items at

-- a node that changed at a moment
abbrev pub changed_node : Node → ℕ → Node
changed_node node moment = record node { moments = record node.moments { change = moment } }

-- a node whose path begins otherwise, if it is at or below one
abbrev pub relocating : Names → Names → Node → Node
relocating from to node = record node { path = moved_path Exact from to node.path }

-- nodes, of which the one at a place changed at a moment, and all at or below one path are at another, where none stands any more
abbrev pub relocated : List Node → ℕ → Names → Names → ℕ → List Node
relocated nodes at from to moment =
    in_order Exact (map (relocating from to) (left_out (set nodes at (changed_node (get_or nodes at (new_node [] None 0 0)) moment)) (position (is_at_path Exact to) nodes)))

-- A call of a method fails exactly where its number is one of those that fail. Else it is as on a folder that never fails.
pub record Runs {X : Type 0} (method : ℕ) (old new : FolderState) (comes : Option (X × List Node)) (result : Result X FolderNo) : Type 0 where
  pub fails : (result ≡ Err no.Failed) ↔ Contains old.fails (number_ahead old method)
  pub tries : (Contains old.fails (number_ahead old method) → ⊥) → Tries old.nodes new.nodes comes result
  pub others : (new.numbers ≡ set old.numbers method (later_number (number_ahead old method))) × (new.fails ≡ old.fails)

-- Folders to be opened: those to come; the nodes that each opened one had; how many are out; those that were closed; how many openings there were, the
-- numbers of those that fail, counted from 1, and how many did; and the faults of closed folders. The counts stand still at 2^64 - 1.
pub record FoldersState : Type 0 where
  pub ahead : List FolderState
  pub opened : List (List Node)
  pub out : ℕ
  pub closed : List FolderState
  pub calls : ℕ
  pub fails : List ℕ
  pub failures : ℕ
  pub trouble : ℕ
