use Rattle.std.proofs.Common.{◌≡◌, ◌++◌, ℕ, length, map}
use Rattle.rd_dirinfo.specs.Paths.{names_of, rest_parts, Part}
use Rattle.rd_dirinfo.proofs.path.names_of.Given as goal

abbrev pub invariant-loop-rest : goal.invariant-loop-rest
invariant-loop-rest l = (at : ℕ) × (names_of l.fn.units ≡ l.names.items ++ map (λ (part : Part). part.name) (rest_parts at l.rest))

abbrev pub decreases-loop-rest : goal.decreases-loop-rest
decreases-loop-rest l = length l.rest
