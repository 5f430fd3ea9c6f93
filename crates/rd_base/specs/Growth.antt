-- Lists that grow.
use Rattle.std.specs.Prelude.{ℕ, ◌+◌, ◌-◌, ◌/◌, ◌^◌, List, max, min, nat_le, if◌then◌else◌}

-- the elements in order, and how many there can be before the list is moved
pub record Grown (T : Type 0) : Type 0 where
  pub items : List T
  pub room : ℕ

-- The room of a list that is to hold so many elements: what it has where that is enough, else half as much again, or as much as is wanted
-- where that is more.
abbrev pub room_for : ℕ → ℕ → ℕ
room_for room wanted = if nat_le wanted room then room else max wanted (min (room + room / 2) (2 ^ 64 - 1))
