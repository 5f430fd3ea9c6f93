use Rattle.std.proofs.Common.{◌<◌, ◌+◌, length, refl, ◌∙◌, rules}
use Rattle.std.proofs.lemmas.Option.{slice_get_read}
use Rattle.rd_audit.proofs.OpenLemmas.{open_found, open_next, told_number}
use Rattle.rd_audit.proofs.judging.first_lacking.Goals as goal

-- src/judging.rt:103:13
pub returns-then-lacks : goal.returns-then-lacks
returns-then-lacks c =
    let below : c.loop-place.place < length c.args.channels.now = search rules in
    let there = slice_get_read c.args.channels.now (length c.args.channels.now) c.loop-place.place c.index-channels-place.result refl below c.index-channels-place.is in
    open_found c.args.channels.now c.args.courses.now c.loop-place.place c.index-channels-place.result c.lacks.result c.unwrap_or-channel.result c.loop-place.invariant there c.lacks.ensures c.if-lacks.true
    (c.unwrap_or-channel.ensures ∙ told_number c.try_from.result (c.loop-place.place + 1) c.try_from.ensures)

-- src/judging.rt:100:5
pub loop-place-preserved : goal.loop-place-preserved
loop-place-preserved c =
    let below : c.loop-place.place < length c.args.channels.now = search rules in
    let there = slice_get_read c.args.channels.now (length c.args.channels.now) c.loop-place.place c.index-channels-place.result refl below c.index-channels-place.is in
    open_next c.args.channels.now c.args.courses.now c.loop-place.place c.index-channels-place.result c.lacks.result c.loop-place.invariant there c.lacks.ensures c.if-lacks.false
