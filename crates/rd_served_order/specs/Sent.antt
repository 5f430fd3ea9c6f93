-- In which order completions are written, by their heads.
use Rattle.std.specs.Prelude.{◌≡◌, ℕ, ◌<◌, ◌^◌, List, filter}
use Rattle.std.specs.List.{AllByRecursion}
use Rattle.rd_front.specs.State.{DeviceDeskState}
use Rattle.rd_deeds.specs.Talk.{Deed, journal}
use Rattle.rd_deeds.specs.Told.{came, sent, told}

-- the ids of the devices of desks have room in a completion
abbrev pub HaveRoom : List DeviceDeskState → Type 0
HaveRoom desks = AllByRecursion (λ (d : DeviceDeskState). d.id < 2 ^ 32) desks

-- Of each device on each channel the completions of the keys that came are those that its journal sent, in its order: `sent_in_order` of what a client tells.
abbrev pub AreSentInOrder : List Deed → Type 0
AreSentInOrder deeds = (c device : ℕ) → filter (came c (journal device deeds)) (told c device deeds) ≡ sent c (journal device deeds)
