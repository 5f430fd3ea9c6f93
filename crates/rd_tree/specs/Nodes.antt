-- How a tree keeps its nodes, what they mean, and what holds of them between calls.
use Prim.Native.Nat.{zero, suc}
use Rattle.std.specs.Prelude.{◌≡◌, ℕ, ◌<◌, ◌^◌, Bool, true, not, if◌then◌else◌, List, [], ◌∷◌, ◌++◌, map, Option, Some, None, Vec}
use Rattle.std.specs.Option.{option_map, option_and_then, is_some, IsSome, option_map_or}
use Rattle.std.specs.Ordering.{nat_cmp}
use Rattle.std.specs.Cmp.Lexicographic.{slice_cmp}
use Rattle.std.specs.BTreeMap.{is_at}
use Rattle.std.specs.Map.{lookup}
use Rattle.std.specs.declared.cmp.Ordering.{Ordering}
use Rattle.slab.specs.Slab.{Slab, get, entries}
use Rattle.rd_dirinfo.specs.declared.naming.Naming.{Naming}
use Rattle.rd_dirinfo.specs.Naming.{Name, seen}
use Rattle.rd_dirinfo.specs.Paths.{Names, is_name, parent, seen_path}
use Rattle.rd_tree.specs.declared.node.Node.{Node}
use Rattle.rd_tree.specs.Walk.{Key, Child, Up, IsTree, down, kind_at, path_of}
use Rattle.rd_tree.specs.Places.{Place, Places}

-- how a key compares to a kept one
abbrev pub to_kept : {A : Type 0} → Key → Vec ℕ A → Ordering
to_kept x kept = slice_cmp nat_cmp x kept.items

-- what the entries of a folder have at a key
abbrev pub get_key : {A X : Type 0} → List (Vec ℕ A × X) → Key → Option X
get_key entries x = lookup (is_at (to_kept x)) entries

unfoldable pub child_of : Slab Node → Child
child_of nodes n x = option_and_then (λ node. lookup (is_at (to_kept x)) node.children.entries) (get nodes n)

-- the folder that a node stands in, and the name that is kept
unfoldable pub link_of : Slab Node → Up
link_of nodes zero = None
link_of nodes (suc n) = option_map (λ node. (node.parent, node.name)) (get nodes (suc n))

-- the same with the name's key
unfoldable pub up_of : Naming → Slab Node → Up
up_of naming nodes n = option_map (λ p. (p.0, seen naming p.1)) (link_of nodes n)

-- the bytes of a node, if it is a file
abbrev pub node_bytes : Node → Option (List ℕ)
node_bytes node = if node.folder then None else Some node.contents

-- the bytes of a live number, if it is a file's
unfoldable pub file_of : Slab Node → ℕ → Option (Option (List ℕ))
file_of nodes n = option_map node_bytes (get nodes n)

-- whether a live number is a folder's
abbrev pub kind_of : Slab Node → ℕ → Option Bool
kind_of nodes n = option_map (λ bytes. not (is_some bytes)) (file_of nodes n)

-- the place of a node by its way and its bytes
abbrev pub placed : Up → ℕ → Option (List ℕ) → Place
placed links n bytes = record { path = path_of links n; bytes = bytes }

-- what callers see of the nodes
unfoldable pub places_of : Naming → Slab Node → Places
places_of naming nodes = record { naming = naming; list = map (λ e. (e.0, placed (link_of nodes) e.0 (node_bytes e.1))) (entries nodes) }

-- what holds between calls: the nodes are a tree by the keys of their names, the names are names, and the numbers fit 32 bits
pub record IsSoundTree (naming : Naming) (nodes : Slab Node) : Type 0 where
  pub tree : IsTree (child_of nodes) (up_of naming nodes) (kind_of nodes)
  pub names : (n a : ℕ) (x : Name) → link_of nodes n ≡ Some (a, x) → is_name x ≡ true
  pub small : (n : ℕ) → IsSome (kind_of nodes n) → n < 2 ^ 32

-- ---- steps

-- each edge, each link and each node's bytes are as before
pub record SameNodes (old new : Slab Node) : Type 0 where
  pub children : (n : ℕ) (x : Key) → child_of new n x ≡ child_of old n x
  pub links : (n : ℕ) → link_of new n ≡ link_of old n
  pub files : (n : ℕ) → file_of new n ≡ file_of old n

-- the last of some names, and the folder that the others lead to
pub record Locates (naming : Naming) (nodes : Slab Node) (names : Names) (folder : ℕ) (name : Name) : Type 0 where
  pub front : Names
  pub split : names ≡ front ++ name ∷ []
  pub at : down (child_of nodes) 0 (seen_path naming front) ≡ Some folder
  pub is_folder : kind_of nodes folder ≡ Some true
  pub named : is_name name ≡ true

-- all names but the last lead to no folder
abbrev pub LacksFolder : Naming → Slab Node → Names → Type 0
LacksFolder naming nodes names = kind_at (child_of nodes) (kind_of nodes) (seen_path naming (parent names)) ≡ Some true → ⊥

-- A node without children, at a number that wasn't live, is the child of a folder; all else is as before.
pub record Inserts (naming : Naming) (old new : Slab Node) (folder : ℕ) (name : Name) (bytes : Option (List ℕ)) (m : ℕ) : Type 0 where
  pub fresh : file_of old m ≡ None
  pub small : m < 2 ^ 32
  pub here : child_of new folder (seen naming name) ≡ Some m
  pub others : (n : ℕ) (x : Key) → ((n ≡ folder) × (x ≡ seen naming name) → ⊥) → child_of new n x ≡ child_of old n x
  pub bare : (x : Key) → child_of new m x ≡ None
  pub link : link_of new m ≡ Some (folder, name)
  pub links : (n : ℕ) → (n ≡ m → ⊥) → link_of new n ≡ link_of old n
  pub file : file_of new m ≡ Some bytes
  pub files : (n : ℕ) → (n ≡ m → ⊥) → file_of new n ≡ file_of old n

-- A child is gone from a folder, and its number isn't live; all else is as before.
pub record Removes (old new : Slab Node) (folder : ℕ) (key : Key) (m : ℕ) : Type 0 where
  pub gone : child_of new folder key ≡ None
  pub others : (n : ℕ) (x : Key) → ((n ≡ folder) × (x ≡ key) → ⊥) → (n ≡ m → ⊥) → child_of new n x ≡ child_of old n x
  pub bare : (x : Key) → child_of new m x ≡ None
  pub link : link_of new m ≡ None
  pub links : (n : ℕ) → (n ≡ m → ⊥) → link_of new n ≡ link_of old n
  pub file : file_of new m ≡ None
  pub files : (n : ℕ) → (n ≡ m → ⊥) → file_of new n ≡ file_of old n

-- A node has another link, and a number, if there is one, is no longer live. All other links and bytes are as before.
pub record Relinks (old new : Slab Node) (m folder : ℕ) (name : Name) (gone : Option ℕ) : Type 0 where
  pub link : link_of new m ≡ Some (folder, name)
  pub links : (n : ℕ) → (n ≡ m → ⊥) → (gone ≡ Some n → ⊥) → link_of new n ≡ link_of old n
  pub unlinked : (n : ℕ) → gone ≡ Some n → link_of new n ≡ None
  pub files : (n : ℕ) → (gone ≡ Some n → ⊥) → file_of new n ≡ file_of old n
  pub dead : (n : ℕ) → gone ≡ Some n → file_of new n ≡ None

-- A node has a new name for the same key.
pub record Retitles (old new : Slab Node) (m folder : ℕ) (name : Name) : Type 0 where
  pub children : (n : ℕ) (x : Key) → child_of new n x ≡ child_of old n x
  pub steps : Relinks old new m folder name None

-- A child is another folder's, in the place of a node that goes, if there is one.
pub record Shifts (naming : Naming) (old new : Slab Node) (m a : ℕ) (x : Name) (folder : ℕ) (name : Name) (gone : Option ℕ) : Type 0 where
  pub here : child_of new folder (seen naming name) ≡ Some m
  pub left : child_of new a (seen naming x) ≡ None
  pub others : (n : ℕ) (y : Key) → ((n ≡ a) × (y ≡ seen naming x) → ⊥) → ((n ≡ folder) × (y ≡ seen naming name) → ⊥) → (gone ≡ Some n → ⊥) → child_of new n y ≡ child_of old n y
  pub bare : (n : ℕ) (y : Key) → gone ≡ Some n → child_of new n y ≡ None
  pub steps : Relinks old new m folder name gone

-- a node has a child
abbrev pub HasChild : Slab Node → ℕ → Type 0
HasChild nodes n = (x : Key) × IsSome (child_of nodes n x)

-- ---- listing

-- the order of kept keys
abbrev pub key_cmp : {A : Type 0} → Vec ℕ A → Vec ℕ A → Ordering
key_cmp u v = slice_cmp nat_cmp u.items v.items

-- the name that is kept of a live number
abbrev pub name_of : Slab Node → ℕ → Option Name
name_of nodes n = option_map (λ node. node.name) (get nodes n)

-- the names of a folder's entries
abbrev pub names_in : {A : Type 0} → Slab Node → List (Vec ℕ A × ℕ) → List Name
names_in nodes [] = []
names_in nodes (e ∷ es) = option_map_or (λ name. name ∷ names_in nodes es) (name_of nodes e.1) (names_in nodes es)

-- the first name that passes a test
abbrev pub first_in : (Name → Bool) → List Name → Option Name
first_in test [] = None
first_in test (name ∷ names) = if test name then Some name else first_in test names
