-- What the journals are that a client stores.
use Rattle.std.specs.Prelude.{ℕ, List, All, IfSome, Option}
use Rattle.rd_base.specs.History.{History}
use Rattle.rd_base.specs.Lawful.{IsLawful, RunsAt}

-- each journal in the books is lawful
abbrev pub AreLawfulBooks : List (ℕ × History) → Type 0
AreLawfulBooks books = All (λ (b : ℕ × History). IsLawful (b.1).items) books

-- each run in them is at the moment that was told, where one was
abbrev pub RunAtTold : Option ℕ → List (ℕ × History) → Type 0
RunAtTold told books = IfSome told (λ moment. All (λ (b : ℕ × History). All (RunsAt moment) (b.1).items) books)
