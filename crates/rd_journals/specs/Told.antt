-- In which order a client tells.
use Rattle.std.specs.Prelude.{◌≡◌, ℕ, List, filter}
use Rattle.rd_deeds.specs.Talk.{Deed, journal}
use Rattle.rd_deeds.specs.Told.{came, sent, told}

-- Of each device on each channel the completions of the keys that came are those that its journal sent, in its order.
abbrev pub InOrder : List Deed → Type 0
InOrder deeds = (c device : ℕ) → filter (came c (journal device deeds)) (told c device deeds) ≡ sent c (journal device deeds)
