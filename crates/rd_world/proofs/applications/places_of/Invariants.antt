use Rattle.rd_world.specs.Applications.{ArePlaced}
use Rattle.rd_world.proofs.applications.places_of.Given as goal

-- the lines so far were gone over
abbrev pub invariant-loop-place : goal.invariant-loop-place
invariant-loop-place l = ArePlaced l.fn.lines l.found.entries l.place
