-- What a tree is to its callers: of each live number, the path that its node stands at and, for a file, the bytes.
use Rattle.std.specs.Prelude.{◌≡◌, ℕ, nat_le, ◌&&◌, ◌||◌, Bool, false, not, if◌then◌else◌, List, [], ◌∷◌, ◌++◌, length, Option, Some, None, ◌==◌, true, drop, map, Result, Ok, Err, IsTrue}
use Rattle.std.specs.List.{list_any, filter}
use Rattle.std.specs.Option.{IsSome, is_some, option_map, option_map_or, option_and_then, unwrap_or}
use Rattle.std.specs.Ordering.{nat_cmp, eq_by_cmp, is_lt}
use Rattle.std.specs.FinMap.{find, put, is_sorted}
use Rattle.std.specs.FinMap.Entries.{where_key}
use Rattle.rd_base.specs.Limits.{max_nodes}
use Rattle.rd_tree.specs.declared.refusal.AddNo.{AddNo}
use Rattle.rd_tree.specs.declared.refusal.AddNo.TheVariants as add
use Rattle.rd_tree.specs.declared.refusal.MoveNo.{MoveNo}
use Rattle.rd_tree.specs.declared.refusal.MoveNo.TheVariants as move
use Rattle.rd_dirinfo.specs.declared.naming.Naming.{Naming}
use Rattle.rd_dirinfo.specs.Naming.{Name, name_cmp}
use Rattle.rd_dirinfo.specs.Paths.{Names, is_name, parent, last_name, is_below, is_parent, is_prefix, is_same_path, is_within_limits, moved_path}
use Rattle.rd_dirinfo.specs.Patterns.{is_wanted}

-- where a node stands, by the names that are kept, and the bytes of a file; a folder has none
pub record Place : Type 0 where
  pub path : Names
  pub bytes : Option (List ℕ)

-- how names are told apart, and the place of each live number, by rising number
pub record Places : Type 0 where
  pub naming : Naming
  pub list : List (ℕ × Place)

-- ---- from numbers

-- the place of a number, if it is live
abbrev pub place : Places → ℕ → Option Place
place tree n = find nat_cmp n tree.list

-- the path of a number
abbrev pub path_at : Places → ℕ → Option Names
path_at tree n = option_map (λ (p : Place). p.path) (place tree n)

-- the path of a live number
abbrev pub own_path : Places → ℕ → Names
own_path tree n = unwrap_or (path_at tree n) []

-- the bytes of a number that is a file's
abbrev pub bytes_at : Places → ℕ → Option (List ℕ)
bytes_at tree n = option_and_then (λ (p : Place). p.bytes) (place tree n)

-- the bytes of a file
abbrev pub file_at : Places → ℕ → List ℕ
file_at tree n = unwrap_or (bytes_at tree n) []

abbrev pub IsLive : Places → ℕ → Type 0
IsLive tree n = IsSome (place tree n)

abbrev pub IsFile : Places → ℕ → Type 0
IsFile tree n = IsSome (bytes_at tree n)

-- ---- from paths

-- the first of some numbers whose path is the same as this one
abbrev pub first_at : Naming → Names → List (ℕ × Place) → Option ℕ
first_at naming path [] = None
first_at naming path (e ∷ es) = if is_same_path naming e.1.path path then Some e.0 else first_at naming path es

-- the number of the node at a path: the one whose path is the same
abbrev pub node_at : Places → Names → Option ℕ
node_at tree path = first_at tree.naming path tree.list

-- whether a number is a folder's, if it is live
abbrev pub is_folder : Places → ℕ → Option Bool
is_folder tree n = option_map (λ (p : Place). not (is_some p.bytes)) (place tree n)

-- whether a folder is at a path
abbrev pub is_folder_at : Places → Names → Bool
is_folder_at tree path = unwrap_or (option_and_then (is_folder tree) (node_at tree path)) false

-- a path as the tree has it, and any other as it is
abbrev pub kept_path : Places → Names → Names
kept_path tree path = unwrap_or (option_and_then (path_at tree) (node_at tree path)) path

-- the path that a node gets: its folder's as the tree has it, and the last name as asked
abbrev pub asked_path : Places → Names → Names
asked_path tree path = kept_path tree (parent path) ++ last_name path ∷ []

-- the folder in which the last name of a path stands, if one is there
abbrev pub folder_of : Places → Names → Option ℕ
folder_of tree path = if is_folder_at tree (parent path) then node_at tree (parent path) else None

-- whether a number's node has children
abbrev pub has_child : Places → ℕ → Bool
has_child tree n = list_any (λ (e : ℕ × Place). is_parent tree.naming (own_path tree n) e.1.path) tree.list

-- ---- what calls make of a tree

-- the root alone, which has the number 0
abbrev pub root_alone : Naming → Places
root_alone naming = record { naming = naming; list = (0, record { path = []; bytes = None }) ∷ [] }

-- with this place at a number
abbrev pub with_place : Places → ℕ → Place → Places
with_place tree n p = record tree { list = put nat_cmp n p tree.list }

-- with the bytes of a file changed
abbrev pub with_bytes : Places → ℕ → (List ℕ → List ℕ) → Places
with_bytes tree n change =
    option_map_or (λ (p : Place). with_place tree n (record { path = p.path; bytes = option_map change p.bytes })) (place tree n) tree

-- without a number
abbrev pub without : Places → ℕ → Places
without tree n = record tree { list = where_key nat_cmp (λ k. not (eq_by_cmp nat_cmp n k)) tree.list }

-- ---- what every tree is

-- The numbers rise; the root is a folder at the number 0; no two live numbers have paths that are the same; and each other path ends in a
-- name and has a folder at its parent.
pub record IsWhole (tree : Places) : Type 0 where
  pub rising : IsTrue (is_sorted nat_cmp tree.list)
  pub root : place tree 0 ≡ Some (record { path = []; bytes = None })
  pub apart : (n m : ℕ) → IsLive tree n → IsLive tree m → is_same_path tree.naming (own_path tree n) (own_path tree m) ≡ true → n ≡ m
  pub parents : (n : ℕ) → IsLive tree n → (0 ≡ n → ⊥) → is_folder_at tree (parent (own_path tree n)) ≡ true
  pub named : (n : ℕ) → IsLive tree n → (0 ≡ n → ⊥) → is_name (last_name (own_path tree n)) ≡ true

-- ---- adding

-- why nothing can be added at a path: it is the root's; no folder is at its parent; a node is there; or there is no room for one more
abbrev pub add_refusal : Places → Names → Option AddNo
add_refusal tree [] = Some add.Collision
add_refusal tree (name ∷ names) =
    if not (is_folder_at tree (parent (name ∷ names))) then Some add.PathNotFound
    else (if is_some (node_at tree (name ∷ names)) then Some add.Collision
    else (if nat_le max_nodes (length tree.list) then Some add.Full
    else None))

-- a new folder, or an empty file
abbrev pub new_place : Places → Names → Bool → Place
new_place tree path folder = record { path = asked_path tree path; bytes = if folder then None else Some [] }

-- a node is new at a path where one may be added, at a number that wasn't live; all else is as before
pub record Adds (old new : Places) (path : Names) (folder : Bool) (n : ℕ) : Type 0 where
  pub allowed : add_refusal old path ≡ None
  pub fresh : place old n ≡ None
  pub made : new ≡ with_place old n (new_place old path folder)

-- ---- renaming

-- whether a target is the node's own path
abbrev pub is_own : Places → ℕ → Names → Bool
is_own tree n to = is_same_path tree.naming (own_path tree n) to

-- whether some path at or below a node's would pass the limits
abbrev pub is_too_deep : Places → ℕ → Names → Bool
is_too_deep tree n to =
    list_any (λ (e : ℕ × Place). is_prefix tree.naming (own_path tree n) e.1.path && not (is_within_limits (to ++ drop (length (own_path tree n)) e.1.path))) tree.list

-- whether a node at a target is in the way: it isn't to be replaced, or is a folder
abbrev pub is_taken : Places → Names → Bool → Bool
is_taken tree to replace = is_some (node_at tree to) && (not replace || is_folder_at tree to)

-- Why a node can't get a target as its path. Its own path is never refused. Any other is where it is below the node; where no folder
-- is at its parent; where some moved path would pass the limits; and where a node is in the way.
abbrev pub move_refusal : Places → ℕ → Names → Bool → Option MoveNo
move_refusal tree n to replace =
    if is_own tree n to then None
    else (if is_below tree.naming (own_path tree n) to then Some move.Inside
    else (if not (is_folder_at tree (parent to)) then Some move.PathNotFound
    else (if is_too_deep tree n to then Some move.TooDeep
    else (if is_taken tree to replace then Some move.Collision
    else None))))

-- without the node at a target, if it is another one than this
abbrev pub cleared : Places → ℕ → Names → Places
cleared tree n to = option_map_or (λ t. if t == n then tree else without tree t) (node_at tree to) tree

-- The node and all that is below it get the asked path as the beginning of theirs. A file that stood there is gone.
abbrev pub moved : Places → ℕ → Names → Places
moved tree n to =
    record tree {
      list = map (λ (e : ℕ × Place). (e.0, record { path = moved_path tree.naming (own_path tree n) (asked_path tree to) e.1.path; bytes = e.1.bytes })) (cleared tree n to).list;
    }

-- What a rename answers, and what it leaves. It fails by the table, and else only where there is no memory; a failure changes nothing.
abbrev pub Renames : Places → Places → ℕ → Names → Bool → Result (Unit {0}) MoveNo → Type 0
Renames old new n to replace (Ok done) = (move_refusal old n to replace ≡ None) × (new ≡ moved old n to)
Renames old new n to replace (Err why) = (why ≡ unwrap_or (move_refusal old n to replace) move.Memory) × (new ≡ old)

-- ---- listing

-- the names of a folder's children
abbrev pub child_names : Places → ℕ → List Name
child_names tree n = map (λ (e : ℕ × Place). last_name e.1.path) (filter (λ (e : ℕ × Place). is_parent tree.naming (own_path tree n) e.1.path) tree.list)

-- the first of two names in the order of a naming
abbrev pub first_name : Naming → Name → Name → Name
first_name naming x y = if is_lt (name_cmp naming y x) then y else x

-- the first of some names
abbrev pub least : Naming → List Name → Option Name
least naming [] = None
least naming (x ∷ xs) = Some (option_map_or (first_name naming x) (least naming xs) x)

-- the first name of a child that is wanted
abbrev pub next_name : Places → ℕ → Option Name → List ℕ → Option Name
next_name tree n after pattern = least tree.naming (filter (is_wanted tree.naming after pattern) (child_names tree n))
