-- What journals say of runs: which of them found no memory, and that entries only come to them.
use Rattle.std.specs.Prelude.{◌≡◌, ℕ, ◌++◌, Bool, List, All}
use Rattle.std.specs.List.{AllZip}
use Rattle.rd_base.specs.declared.journal.Item.{Item}
use Rattle.rd_base.specs.declared.journal.Item.TheVariants.{Ran}
use Rattle.rd_base.specs.declared.journal.Key.{Key}

-- where the entry is a run, it found no memory if this is said of its key, and only then
abbrev pub AgreesAt : (Key → Bool) → Item → Type 0
AgreesAt starves (Ran key moment starved parked) = starves key ≡ starved
AgreesAt starves _ = Unit {0}

-- each run of the journals found no memory if this is said of its key, and only then
abbrev pub MarksAgree : (Key → Bool) → List (ℕ × List Item) → Type 0
MarksAgree starves journals = All (λ (j : ℕ × List Item). All (AgreesAt starves) j.1) journals

-- the same devices in the same order, whose journals only became longer
abbrev pub AreLonger : List (ℕ × List Item) → List (ℕ × List Item) → Type 0
AreLonger old new = AllZip (λ (j : ℕ × List Item) (k : ℕ × List Item). (k.0 ≡ j.0) × ((more : List Item) × (k.1 ≡ j.1 ++ more))) old new
