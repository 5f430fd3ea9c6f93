-- The patterns of directory queries.
use Rattle.std.specs.Prelude.{◌≡◌, ℕ, ◌==◌, ◌&&◌, ◌||◌, ◌⊎◌, Bool, true, false, nat_le, min, if◌then◌else◌, List, [], ◌∷◌, ◌++◌, length, codes, bytes_eq, Option, Some, None}
use Rattle.std.specs.List.{list_any, last_or}
use Rattle.std.specs.Option.{unwrap_or}
use Rattle.rd_dirinfo.specs.declared.naming.Naming.{Naming}
use Rattle.std.specs.Ordering.{is_lt}
use Rattle.rd_dirinfo.specs.Naming.{Name, seen, name_cmp}
use Rattle.rd_dirinfo.specs.Paths.{Part, parts_of, placed_parts, most_name_units}

-- `*`
abbrev pub star : ℕ
star = 0x2a

-- `?`
abbrev pub question : ℕ
question = 0x3f

-- the pattern that every name matches
abbrev pub any_name : List ℕ
any_name = star ∷ []

-- an empty pattern is `*`
abbrev pub or_any : List ℕ → List ℕ
or_any part = if length part == 0 then any_name else part

-- how a pattern is read: an empty one, and `*.*`, as `*`
abbrev pub read_pattern : List ℕ → List ℕ
read_pattern part = if bytes_eq part (codes "*.*") then any_name else or_any part

-- the part after the last backslash, and its place
abbrev pub last_part : List ℕ → Part
last_part units = unwrap_or (last_or None (placed_parts 0 (parts_of units))) (record { at = 0; name = [] })

-- Where the last part of a path begins, if it is too long for a pattern. A place that 32 bits don't hold is the last that they hold.
abbrev pub pattern_fault : List ℕ → Option ℕ
pattern_fault units =
    let part = last_part units in
    if nat_le (length part.name) most_name_units then None else Some (min part.at 0xffff_ffff)

-- the pattern of a query
abbrev pub pattern_of : List ℕ → List ℕ
pattern_of units = read_pattern (last_part units).name

-- ---- what a pattern stands for

-- A unit of a pattern stands for a run of units: `*` for any run, `?` for any one unit, and each unit for itself.
abbrev pub UnitMatches : ℕ → List ℕ → Type 0
UnitMatches p run = (p ≡ star) ⊎ (((p ≡ question) × (length run ≡ 1)) ⊎ (run ≡ p ∷ []))

-- A name can be cut into as many runs as the pattern has units, each of which stands for its run.
abbrev pub IsCutBy : List ℕ → Name → Type 0
IsCutBy [] name = name ≡ []
IsCutBy (p ∷ ps) name = (run : List ℕ) × (rest : Name) × (name ≡ run ++ rest) × UnitMatches p run × IsCutBy ps rest

-- a name matches a pattern in a naming, by what it sees of them
abbrev pub Matches : Naming → List ℕ → Name → Type 0
Matches naming pattern name = IsCutBy (seen naming pattern) (seen naming name)

-- ---- the same, as a test that computes

-- a name, and what is left of it without its first unit, its first two, and so on
abbrev pub suffixes : Name → List Name
suffixes [] = [] ∷ []
suffixes (unit ∷ units) = (unit ∷ units) ∷ suffixes units

-- the first unit passes one test, and the others another
abbrev pub begins_so : (ℕ → Bool) → (Name → Bool) → Name → Bool
begins_so first others [] = false
begins_so first others (unit ∷ units) = first unit && others units

-- a unit of a pattern other than `*` stands for this unit
abbrev pub stands_for : ℕ → ℕ → Bool
stands_for p unit = p == question || p == unit

-- the name can be cut so
unfoldable pub is_cut_by : List ℕ → Name → Bool
is_cut_by [] name = length name == 0
is_cut_by (p ∷ ps) name =
    let run = list_any (is_cut_by ps) (suffixes name) in
    let unit = begins_so (stands_for p) (is_cut_by ps) name in
    if p == star then run else unit

-- the name matches the pattern in a naming
abbrev pub matches : Naming → List ℕ → Name → Bool
matches naming pattern name = is_cut_by (seen naming pattern) (seen naming name)

-- ---- listing

-- whether a name comes after another, if there is one
abbrev pub is_after : Naming → Option Name → Name → Bool
is_after naming None name = true
is_after naming (Some other) name = is_lt (name_cmp naming other name)

-- whether a name matches a pattern and comes after another name, if one is given
abbrev pub is_wanted : Naming → Option Name → List ℕ → Name → Bool
is_wanted naming after pattern name = is_after naming after name && matches naming pattern name
