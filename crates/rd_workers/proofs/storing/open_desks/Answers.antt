use Rattle.std.proofs.Common.{◌<◌, ℕ, arith, ap, subst, sym, length, slice_index_or}
use Rattle.std.specs.Prelude.{All}
use Rattle.rd_workers.proofs.StoringLemmas.{below_at, opened_more}
use Rattle.rd_workers.proofs.storing.open_desks.Goals as goal

pub add-requires-clause-above : goal.add-requires-clause-above
add-requires-clause-above g c =
    let count = c.loop-station.invariant.count in
    let more = ap length c.in-Some.ensures.steps.0 in
    let within : c.loop-station.place < length c.args.ids.now = omega (arith, count, more) in
    subst (All (λ (o : ℕ). o < slice_index_or c.args.ids.now c.loop-station.place 0)) (sym c.loop-station.invariant.ids_are) (below_at c.args.ids.now c.loop-station.place 0 c.requires.rise within)

pub loop-station-preserved : goal.loop-station-preserved
loop-station-preserved g c =
    let count = c.loop-station.invariant.count in
    let more = ap length c.in-Some.ensures.steps.0 in
    let within : c.loop-station.place < length c.args.ids.now = omega (arith, count, more) in
    opened_more c.args.ids.now c.args.list.items c.loop-station.place c.loop-station.station-iterator.rest.items c.next.new.self.rest.items c.in-Some.station c.loop-station.desks c.add.new.self c.loop-station.passes c.add.new.passes
    c.loop-station.invariant c.in-Some.ensures.steps.0 within c.in-Ok.ensures.added c.in-Ok.ensures.first
