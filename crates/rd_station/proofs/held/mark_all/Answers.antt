use Rattle.std.proofs.Common.{◌≡◌, false, sym, subst, List, ◌++◌, ◌+◌, map, take, drop, slice_index_or, slice_set, arith}
use Rattle.rd_station.specs.declared.held.InHand.{InHand}
use Rattle.rd_station.specs.Station.{marked_removed}
use Rattle.rd_station.proofs.Rising.{marked_step}
use Rattle.rd_station.proofs.held.mark_all.Goals as goal

pub loop-place-preserved : goal.loop-place-preserved
loop-place-preserved c =
    let i = c.loop-place.place in
    let d : InHand = record { key = record { channel = 0; index = 0 }; completion = 0; removed = false } in
    subst (λ (ts : List InHand). slice_set ts i (marked_removed (slice_index_or ts i d)) ≡ map marked_removed (take (i + 1) c.args.taken.now) ++ drop (i + 1) c.args.taken.now) (sym c.loop-place.invariant)
    (marked_step c.args.taken.now i (i + 1) d (omega arith) c.loop-place-test.true)
