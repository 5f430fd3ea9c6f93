use Rattle.rd_pending.specs.Slots.{died}
use Rattle.rd_pending.proofs.PlaceLemmas.{place_more}
use Rattle.rd_pending.proofs.slots.kill_all.Goals as goal

pub loop-place-preserved : goal.loop-place-preserved
loop-place-preserved c =
    place_more (died c.args.device) c.args.places.now c.loop-place.places c.loop-place.place-index c.died.result c.loop-place-test.true c.loop-place.auto.places c.loop-place.invariant c.died.ensures
