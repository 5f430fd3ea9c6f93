-- Ways in a tree of numbered nodes, by the keys of names: a key is what the naming sees of a name.
use Prim.Native.Nat.{zero, suc}
use Rattle.std.specs.Prelude.{◌≡◌, ℕ, ◌+◌, ◌≤◌, ◌<◌, List, [], ◌∷◌, ◌++◌, length, Option, Some, None, Bool, true, false}
use mathlib.Core.Logic.{◌⊎◌}
use Rattle.std.specs.Option.{option_map_or, option_and_then, IsSome}

abbrev pub Key : Type 0
Key = List ℕ

abbrev pub Keys : Type 0
Keys = List Key

-- the child that a node has at a key
abbrev pub Child : Type 0
Child = ℕ → Key → Option ℕ

-- the folder that a node stands in, and its key there; the root stands in none
abbrev pub Up : Type 0
Up = ℕ → Option (ℕ × Key)

abbrev pub onward : Option ℕ → (ℕ → Option ℕ) → Option ℕ
onward None walk = None
onward (Some n) walk = walk n

-- where some keys lead from a node on
abbrev pub down : Child → ℕ → Keys → Option ℕ
down child n [] = Some n
down child n (x ∷ xs) = onward (child n x) (λ m. down child m xs)

-- what stands on the way from the root to a node, before some keys: at most so many
abbrev pub up_path : ℕ → Up → ℕ → Keys → Keys
up_path zero up n path = path
up_path (suc fuel) up n path = option_map_or (λ p. up_path fuel up p.0 (p.1 ∷ path)) (up n) path

-- the most keys of a way
abbrev pub most_keys : ℕ
most_keys = 64

-- the way to a node
abbrev pub path_of : Up → ℕ → Keys
path_of up n = up_path most_keys up n []

-- some keys begin with others
abbrev pub Starts : Keys → Keys → Type 0
Starts front path = (rest : Keys) × (path ≡ front ++ rest)

-- Each edge has its link back, and the root, 0, has none.
pub record LinksAgree (child : Child) (up : Up) : Type 0 where
  pub root : up 0 ≡ None
  pub links : (a : ℕ) (x : Key) (m : ℕ) → child a x ≡ Some m → up m ≡ Some (a, x)

-- Three functions are a tree: the edges down, the links back, and which numbers are live, a folder's or a file's.
pub record IsTree (child : Child) (up : Up) (kind : ℕ → Option Bool) : Type 0 where
  pub agrees : LinksAgree child up
  pub root : kind 0 ≡ Some true
  -- each link back has its edge, and is that of a live number
  pub back : (m a : ℕ) (x : Key) → up m ≡ Some (a, x) → child a x ≡ Some m
  pub lives : (m a : ℕ) (x : Key) → up m ≡ Some (a, x) → IsSome (kind m)
  -- the way to a live number leads there
  pub rooted : (m : ℕ) → IsSome (kind m) → down child 0 (path_of up m) ≡ Some m
  pub files : (m : ℕ) (x : Key) → kind m ≡ Some false → child m x ≡ None

-- what is where some keys lead: nothing, a file or a folder
abbrev pub kind_at : Child → (ℕ → Option Bool) → Keys → Option Bool
kind_at child kind path = option_and_then kind (down child 0 path)

-- some keys lead from a node to another one or through it
abbrev pub LeadsThrough : Child → ℕ → ℕ → Keys → Type 0
LeadsThrough child n m path = (front : Keys) × (rest : Keys) × (path ≡ front ++ rest) × (down child n front ≡ Some m)

-- how many units some keys add to a path before them: their own, and a backslash each
abbrev pub added_units : Keys → ℕ
added_units [] = 0
added_units (x ∷ path) = length x + 1 + added_units path

-- no way down from a node has more keys, or adds more units, than there is room for
abbrev pub FitsWithin : Child → ℕ → ℕ → ℕ → Type 0
FitsWithin child n names units = (q : Keys) (j : ℕ) → down child n q ≡ Some j → (length q ≤ names) × (added_units q ≤ units)

-- some way down does
abbrev pub IsDeep : Child → ℕ → ℕ → ℕ → Type 0
IsDeep child n names units = (q : Keys) × (j : ℕ) × (down child n q ≡ Some j) × ((names < length q) ⊎ (units < added_units q))
