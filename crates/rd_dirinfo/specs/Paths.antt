-- Paths: which units spell one, and how one path stands to another.
use Rattle.std.specs.Prelude.{◌≡◌, ℕ, ◌+◌, ◌-◌, ◌==◌, ◌&&◌, ◌||◌, Bool, not, nat_le, nat_lt, if◌then◌else◌, List, [], ◌∷◌, ◌++◌, length, take, drop, map, flat_map, sum_by, codes, bytes_eq, Option, Some, None}
use Rattle.std.specs.List.{list_all, list_any, last_or}
use Rattle.std.specs.Option.{unwrap_or}
use Rattle.std.specs.Ordering.{is_eq}
use Rattle.std.specs.Cmp.Lexicographic.{slice_cmp}
use Rattle.std.specs.declared.cmp.Ordering.{Ordering}
use Rattle.rd_dirinfo.specs.declared.naming.Naming.{Naming}
use Rattle.rd_dirinfo.specs.Naming.{Name, seen, name_cmp}

-- the names of a path from the root on; the root itself has none
abbrev pub Names : Type 0
Names = List Name

-- what stands between the names of a path
abbrev pub backslash : ℕ
backslash = 0x5c

-- the most names of a path
abbrev pub most_names : ℕ
most_names = 64

-- the most units of a name
abbrev pub most_name_units : ℕ
most_name_units = 255

-- the most units of a path
abbrev pub most_path_units : ℕ
most_path_units = 4096

-- ---- what a name is

-- the units that no name has, besides those below 32: / : * ? " < > |
abbrev pub forbidden_units : List ℕ
forbidden_units = 0x2f ∷ 0x3a ∷ 0x2a ∷ 0x3f ∷ 0x22 ∷ 0x3c ∷ 0x3e ∷ 0x7c ∷ []

-- a unit that a name may have
abbrev pub is_name_unit : ℕ → Bool
is_name_unit unit = nat_le 32 unit && not (list_any (λ forbidden. unit == forbidden) forbidden_units)

-- the two names that mean a folder itself and the folder above it
abbrev pub is_dots : Name → Bool
is_dots name = bytes_eq name (codes ".") || bytes_eq name (codes "..")

-- 1 to 255 such units, and none of these two names
abbrev pub is_name : Name → Bool
is_name name = nat_le 1 (length name) && nat_le (length name) most_name_units && list_all is_name_unit name && not (is_dots name)

-- ---- which units spell a path

-- the unit before the first part
abbrev pub to_first : ℕ → List Name → List Name
to_first unit [] = (unit ∷ []) ∷ []
to_first unit (part ∷ parts) = (unit ∷ part) ∷ parts

-- the parts between the backslashes: one more than there are backslashes
abbrev pub parts_of : List ℕ → List Name
parts_of [] = [] ∷ []
parts_of (unit ∷ units) =
    let parts = parts_of units in
    if unit == backslash then [] ∷ parts else to_first unit parts

-- a part of a path, and the place where it begins
pub record Part : Type 0 where
  pub at : ℕ
  pub name : Name

-- the parts with their places, of which the first is given
abbrev pub placed_parts : ℕ → List Name → List Part
placed_parts at [] = []
placed_parts at (part ∷ parts) = record { at = at; name = part } ∷ placed_parts (at + length part + 1) parts

-- without an empty first part
abbrev pub without_empty_first : List Part → List Part
without_empty_first [] = []
without_empty_first (part ∷ parts) = if length part.name == 0 then parts else part ∷ parts

-- without an empty part at the end
abbrev pub without_empty_end : List Part → List Part
without_empty_end [] = []
without_empty_end (part ∷ parts) =
    let others = part ∷ without_empty_end parts in
    if length parts == 0 && length part.name == 0 then [] else others

-- the parts of units that begin at a place, without an empty one at the end
abbrev pub rest_parts : ℕ → List ℕ → List Part
rest_parts at units = without_empty_end (placed_parts at (parts_of units))

-- the parts that are to be names
abbrev pub named_parts : List ℕ → List Part
named_parts units = without_empty_end (without_empty_first (placed_parts 0 (parts_of units)))

-- the place of the first part that is no name, or for which no place is left of so many
abbrev pub first_bad : ℕ → List Part → Option ℕ
first_bad room [] = None
first_bad room (part ∷ parts) =
    let later = first_bad (room - 1) parts in
    if nat_lt 0 room && is_name part.name then later else Some part.at

-- the place of a bad part if there is one, and else the most units of a path where there are more
abbrev pub or_too_long : List ℕ → Option ℕ → Option ℕ
or_too_long units (Some at) = Some at
or_too_long units None = if nat_le (length units) most_path_units then None else Some most_path_units

-- where units fail to be a path
abbrev pub path_fault : List ℕ → Option ℕ
path_fault units = or_too_long units (first_bad most_names (named_parts units))

-- the names that units spell
abbrev pub names_of : List ℕ → Names
names_of units = map (λ (part : Part). part.name) (named_parts units)

-- the path that units spell, if they do
abbrev pub parsed_path : List ℕ → Option Names
parsed_path units =
    elim (path_fault units) [
      | Some at ↦ None
      | None ↦ Some (names_of units)
    ]

-- ---- a path's parts

-- how many units a path has, with a backslash between each two names
abbrev pub path_len : Names → ℕ
path_len path = sum_by (λ (name : Name). length name) path + (length path - 1)

-- a path is within the limits
abbrev pub is_within_limits : Names → Bool
is_within_limits path = nat_le (length path) most_names && nat_le (path_len path) most_path_units

-- these are the names of a path
abbrev pub is_path : Names → Bool
is_path path = list_all is_name path && is_within_limits path

-- the path of the folder in which the last name stands
abbrev pub parent : Names → Names
parent path = take (length path - 1) path

-- the last name; the root has an empty one
abbrev pub last_name : Names → Name
last_name path = unwrap_or (last_or None path) []

-- the units of names, with a backslash between each two
abbrev pub joined : Names → List ℕ
joined [] = []
joined (name ∷ names) = name ++ flat_map (λ (other : Name). backslash ∷ other) names

-- ---- which paths are the same

-- what a naming sees of a path
abbrev pub seen_path : Naming → Names → Names
seen_path naming = map (seen naming)

-- as many names, and the same ones
abbrev pub IsSamePath : Naming → Names → Names → Type 0
IsSamePath naming p q = seen_path naming p ≡ seen_path naming q

-- The order of paths: by the first names that differ, and a folder before what is in it. So what is below a folder stands
-- next to it.
abbrev pub path_cmp : Naming → Names → Names → Ordering
path_cmp naming = slice_cmp (name_cmp naming)

abbrev pub is_same_path : Naming → Names → Names → Bool
is_same_path naming p q = is_eq (path_cmp naming p q)

-- the first path is the second, or that of a folder above it
abbrev pub is_prefix : Naming → Names → Names → Bool
is_prefix naming folder path = nat_le (length folder) (length path) && is_same_path naming folder (take (length folder) path)

-- the second path is below the first
abbrev pub is_below : Naming → Names → Names → Bool
is_below naming folder path = is_prefix naming folder path && not (length folder == length path)

-- the first path is that of the folder in which the last name of the second stands
abbrev pub is_parent : Naming → Names → Names → Bool
is_parent naming folder path = is_prefix naming folder path && length path == length folder + 1

-- A path at or below one gets another beginning. Any other path stays.
abbrev pub moved_path : Naming → Names → Names → Names → Names
moved_path naming from to path = if is_prefix naming from path then to ++ drop (length from) path else path
