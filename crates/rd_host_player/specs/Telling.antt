-- What came of the lines of all applications.
use Rattle.std.specs.Prelude.{ℕ, List, [], fold}
use Rattle.std.specs.BTreeMap.{insert_entry}
use Rattle.std.specs.List.{flat_map}
use Rattle.std.specs.Ordering.{nat_cmp}
use Rattle.rd_issuer.specs.declared.issuer.Issuer.{Issuer}
use Rattle.rd_script.specs.declared.outcome.Outcome.{Outcome}
use Rattle.rd_world.specs.Report.{outcomes_under}
use Rattle.rd_world.specs.World.{ApplicationState}

-- applications by their numbers
abbrev pub with_issuer : List (ℕ × ApplicationState) → Issuer → List (ℕ × ApplicationState)
with_issuer applications i = insert_entry nat_cmp applications i.number i.application

abbrev pub by_number : List Issuer → List (ℕ × ApplicationState)
by_number issuers = fold with_issuer [] issuers

-- what came of the lines of applications, each under the application's number and its own
abbrev pub outcomes_told : List Issuer → List ((ℕ × ℕ) × Outcome)
outcomes_told issuers = flat_map outcomes_under (by_number issuers)
