use Rattle.std.proofs.Common.{◌∙◌, sym}
use Rattle.rd_world.proofs.PlacesLemmas.{found_more, found_skip}
use Rattle.rd_world.proofs.applications.places_of.Goals as goal
use Rattle.rd_world.proofs.applications.places_of.Goals.{in-Some+in_ok-find_place, in_default}

pub loop-place-preserved : goal.loop-place-preserved
loop-place-preserved c = elim c.match-application_of.branch [
  | in-Some+in_ok-find_place w ↦
      rw w.found-is (found_more _ _ _ _ _ c.index-lines-place.result c.loop-place.invariant c.loop-place-test.true (sym c.application_of.ensures ∙ w.in-Some.is) w.in_ok-find_place.ensures)
  | in_default w ↦ rw w.found-is (found_skip _ _ _ c.index-lines-place.result c.loop-place.invariant c.loop-place-test.true (sym c.application_of.ensures ∙ w.in_default.is))
]
