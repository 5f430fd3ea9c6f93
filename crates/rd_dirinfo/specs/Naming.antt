-- Which names are the same, and which comes first.
use Rattle.std.specs.Prelude.{◌≡◌, ℕ, ◌&&◌, Bool, nat_le, nat_lt, if◌then◌else◌, List, map}
use Rattle.std.specs.Ordering.{nat_cmp}
use Rattle.std.specs.Cmp.Lexicographic.{slice_cmp}
use Rattle.std.specs.declared.cmp.Ordering.{Ordering}
use Rattle.std.specs.declared.cmp.Ordering.TheVariants.{Less}
use Rattle.unicode.specs.CaseFolding.{simple_fold}
use Rattle.rd_dirinfo.specs.declared.naming.Naming.{Naming}
use Rattle.rd_dirinfo.specs.declared.naming.Naming.TheVariants.{Exact, Folded}

-- a name, as UTF-16 code units
abbrev pub Name : Type 0
Name = List ℕ

-- one half of a surrogate pair
abbrev pub is_surrogate : ℕ → Bool
is_surrogate unit = nat_le 0xd800 unit && nat_le unit 0xdfff

-- the folding of a character, if that is one unit, else the character itself
abbrev pub fold_char : ℕ → ℕ
fold_char unit = let other = simple_fold unit in if nat_lt other 0x1_0000 then other else unit

-- The folding of a unit: that of its character. Half of a pair stays as it is.
abbrev pub fold_unit : ℕ → ℕ
fold_unit unit = if is_surrogate unit then unit else fold_char unit

-- the folding of a name, unit by unit
abbrev pub folding : Name → Name
folding = map fold_unit

-- what a naming sees of a unit
abbrev pub seen_unit : Naming → ℕ → ℕ
seen_unit Exact unit = unit
seen_unit Folded unit = fold_unit unit

-- what a naming sees of a name: its units, or its folding
abbrev pub seen : Naming → Name → Name
seen Exact name = name
seen Folded name = folding name

-- the order of names: by the first unit that is seen to differ, and a beginning of a name before the whole name
abbrev pub name_cmp : Naming → Name → Name → Ordering
name_cmp naming a b = slice_cmp nat_cmp (seen naming a) (seen naming b)

-- two names are the same in a naming, which sees no difference
abbrev pub IsSame : Naming → Name → Name → Type 0
IsSame naming a b = seen naming a ≡ seen naming b

-- the first name comes before the second
abbrev pub SortsBefore : Naming → Name → Name → Type 0
SortsBefore naming a b = name_cmp naming a b ≡ Less
