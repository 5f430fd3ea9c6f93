use Rattle.std.proofs.Common.{◌≡◌, ◌++◌, ℕ, List, length}
use Rattle.std.specs.Option.{option_map}
use Rattle.rd_script.specs.Texts.{units_after}
use Rattle.rd_script.proofs.texts.units_of.Given as goal

-- the units that were read, and those that are left
abbrev pub invariant-loop-rest : goal.invariant-loop-rest
invariant-loop-rest l = option_map (λ (us : List ℕ). l.units.items ++ us) (units_after 0 l.rest) ≡ units_after 0 l.word

abbrev pub decreases-loop-rest : goal.decreases-loop-rest
decreases-loop-rest l = length l.rest
