use Rattle.std.proofs.Common.{◌≡◌, ◌∷◌, ◌+◌, length}
use Rattle.rd_dirinfo.specs.Naming.{seen}
use Rattle.rd_dirinfo.specs.Patterns.{star, is_cut_by}
use Rattle.rd_dirinfo.proofs.matching.matches_after_star.Given as goal

abbrev pub invariant-loop-pattern : goal.invariant-loop-pattern
invariant-loop-pattern l =
    is_cut_by (star ∷ seen l.naming l.fn.pattern) (seen l.naming l.fn.name) ≡ is_cut_by (star ∷ seen l.naming l.pattern) (seen l.naming l.name)

abbrev pub decreases-loop-pattern : goal.decreases-loop-pattern
decreases-loop-pattern l = length l.pattern + length l.name
