-- What waits to be told.
use Rattle.std.specs.Prelude.{Bool, ℕ, List, filter, map, is_some}
use Rattle.rd_client.specs.Core.{Outgoing}
use Rattle.rd_world.specs.Acts.{is_telling}
use Rattle.rd_deeds.specs.Talk.{notice_in}

-- the lists and removals among what a client has to send
abbrev pub tellings_waiting : List Outgoing → List (List ℕ)
tellings_waiting os = filter is_telling (map (λ (o : Outgoing). o.message) os)

-- the notices among what a host has to send
abbrev pub is_noted : List ℕ → Bool
is_noted m = is_some (notice_in m)

abbrev pub notices_waiting : List (List ℕ) → List (List ℕ)
notices_waiting ms = filter is_noted ms
