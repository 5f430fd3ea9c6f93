-- The completions that are still to come.
use Rattle.std.specs.Prelude.{ℕ, ◌==◌, ◌&&◌, if◌then◌else◌, List, [], ◌∷◌, Option, Some, None}
use Rattle.rd_irp.specs.declared.completion.Kind.{Kind}

-- of each pair of a device and a completion id, what is kept of the requests whose completions are still to come, in their order
abbrev pub AwaitedOf : Type 0 → Type 0
AwaitedOf K = ℕ → ℕ → List K

-- the layouts of those completions
abbrev pub Awaited : Type 0
Awaited = AwaitedOf Kind

module _ {K : Type 0} where
  -- nothing is still to come
  abbrev pub none_awaited : AwaitedOf K
  none_awaited device completion = []

  -- with these still to come of a pair
  abbrev pub with_awaited : ℕ → ℕ → List K → AwaitedOf K → AwaitedOf K
  with_awaited device completion kept awaited d c = if device == d && completion == c then kept else awaited d c

  -- the first that is still to come
  abbrev pub first_awaited : List K → Option K
  first_awaited [] = None
  first_awaited (first ∷ others) = Some first

  -- those after it
  abbrev pub others_of : List K → List K
  others_of [] = []
  others_of (first ∷ others) = others
