-- What a linker tells of a channel that was given and settled while no other was out.
use Rattle.std.proofs.Common.{◌≡◌, ℕ, List, [], ◌∷◌, ◌++◌, Option, Some, refl, subst}
use Rattle.std.specs.Io.KnownBytes.{Consumes, Appends}
use Rattle.rd_link.specs.Links.{SettledChannel, Links, Lends, TakesBack, more_faults}

-- no channel is out
abbrev pub none_out : List SettledChannel → Option Links
none_out settled = Some (record { settled = settled; lent = [] })

-- one channel is out, which was given with these bytes
one_settled : (settled : List SettledChannel) (given : List ℕ) (new : Option Links) (left held : Option (List ℕ)) (read_faults write_faults : ℕ) (read written : List ℕ)
    → TakesBack (Some (record { settled = settled; lent = given ∷ [] })) new left held read_faults write_faults → Consumes (Some given) left read → Appends (Some []) held written
    → new ≡ none_out (settled ++ record { read = read; written = written; faults = more_faults read_faults write_faults; write_faults = write_faults } ∷ [])
one_settled settled given new left held read_faults write_faults read written settles consumes appends = settles given read written [] refl consumes appends

-- the same where it was given just before
given_and_settled : (settled : List SettledChannel) (middle new : Option Links) (left held left' held' : Option (List ℕ)) (read_faults write_faults : ℕ) (read written : List ℕ)
    → Lends (none_out settled) middle left held → Consumes left left' read → Appends held held' written → TakesBack middle new left' held' read_faults write_faults
    → new ≡ none_out (settled ++ record { read = read; written = written; faults = more_faults read_faults write_faults; write_faults = write_faults } ∷ [])
given_and_settled settled middle new left held left' held' read_faults write_faults read written lends consumes appends settles =
    one_settled settled lends.0 new left' held' read_faults write_faults read written
    (subst (λ (o : Option Links). TakesBack o new left' held' read_faults write_faults) lends.3 settles)
    (subst (λ (o : Option (List ℕ)). Consumes o left' read) lends.1 consumes)
    (subst (λ (o : Option (List ℕ)). Appends o held' written) lends.2 appends)

-- Where no channel was out when one was given, what was read and written since is told of it once it is settled.
pub lent_and_settled : (settled : List SettledChannel) (old middle new : Option Links) (left held left' held' : Option (List ℕ)) (read_faults write_faults : ℕ) (read written : List ℕ)
    → old ≡ none_out settled → Lends old middle left held → Consumes left left' read → Appends held held' written → TakesBack middle new left' held' read_faults write_faults
    → new ≡ none_out (settled ++ record { read = read; written = written; faults = more_faults read_faults write_faults; write_faults = write_faults } ∷ [])
lent_and_settled settled old middle new left held left' held' read_faults write_faults read written is lends consumes appends settles =
    given_and_settled settled middle new left held left' held' read_faults write_faults read written (subst (λ (o : Option Links). Lends o middle left held) is lends) consumes appends settles
