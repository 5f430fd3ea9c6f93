-- What a linker tells of its channels, and what connecting and settling do to it.
use Rattle.std.specs.Prelude.{◌≡◌, ℕ, ◌+◌, ◌-◌, ◌^◌, ◌==◌, if◌then◌else◌, min, List, [], ◌∷◌, ◌++◌, Option, None, Some, ⊤}
use Rattle.std.specs.Io.KnownBytes.{Consumes, Appends}

-- A settled channel: the bytes that were read from it, the bytes that were written to it, how many reads and writes failed, and how many
-- of these were writes. The counts stand still at 2^64 - 1.
pub record SettledChannel : Type 0 where
  pub read : List ℕ
  pub written : List ℕ
  pub faults : ℕ
  pub write_faults : ℕ

-- The settled channels in order, and the channels that are out, in the order in which they were given: of each the bytes that its input
-- half was given with.
pub record Links : Type 0 where
  pub settled : List SettledChannel
  pub lent : List (List ℕ)

-- a count and so many more faults: where there are none it stays, and it stands still at 2^64 - 1
abbrev pub more_faults : ℕ → ℕ → ℕ
more_faults count more = if more == 0 then count else min (count + more) (2 ^ 64 - 1)

-- A channel is given, whose halves tell these bytes: where the linker tells its channels they do, and the output half holds nothing yet.
abbrev pub Lends : (old new : Option Links) (left held : Option (List ℕ)) → Type 0
Lends None new left held = ⊤
Lends (Some old) new left held = (given : List ℕ) × (left ≡ Some given) × (held ≡ Some []) × (new ≡ Some (record { settled = old.settled; lent = old.lent ++ given ∷ [] }))

-- A channel is settled, whose halves tell these bytes and had so many faults. Where the linker tells its channels: whatever was read and
-- written since the channel that is out the longest was given, that is what the linker tells of it, after all others.
abbrev pub TakesBack : (old new : Option Links) (left held : Option (List ℕ)) (read_faults write_faults : ℕ) → Type 0
TakesBack None new left held read_faults write_faults = ⊤
TakesBack (Some old) new left held read_faults write_faults = (given read written : List ℕ) (others : List (List ℕ)) → old.lent ≡ given ∷ others → Consumes (Some given) left read → Appends (Some []) held written
    → new ≡ Some (record { settled = old.settled ++ record { read = read; written = written; faults = more_faults read_faults write_faults; write_faults = write_faults } ∷ []; lent = others })
