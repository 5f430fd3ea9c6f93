use Rattle.std.proofs.Common.{◌≡◌, ◌<◌, List, Option, Some, false, length, option_and_then, refl, ap, subst, slice_get, ◌∙◌, rules}
use Rattle.std.specs.Option.{option_map_or}
use Rattle.std.proofs.lemmas.Option.{slice_get_read}
use Rattle.rd_recorded.specs.Channels.{HeardChannel, HeardRequest}
use Rattle.rd_audit.specs.declared.course.Course.{Course}
use Rattle.rd_audit.specs.Completions.{is_due}
use Rattle.rd_audit.proofs.OpenLemmas.{and_false, false_and, lacks_found, lacks_next}
use Rattle.rd_audit.proofs.judging.lacks.Goals as goal
use Rattle.rd_audit.proofs.judging.lacks.Goals.{else-is_due-via-then-is_due+else-is_none, else-is_due-via-else-is_due}

-- src/judging.rt:117:13
pub returns-then-is_none : goal.returns-then-is_none
returns-then-is_none c =
    let below : c.loop-index.index < length c.deref-asked-items.result.now = search rules in
    let there = subst (λ (xs : List HeardRequest). slice_get xs c.loop-index.index ≡ Some c.asked-item.result) (c.deref-asked-items.ensures.value ∙ ap (λ (h : HeardChannel). h.requests) c.channel.view_is)
    (slice_get_read c.deref-asked-items.result.now (length c.deref-asked-items.result.now) c.loop-index.index c.asked-item.result refl below c.asked-item.is) in
    let tested = c.is_due.ensures ∙ ap (λ (o : Option Course). option_map_or (is_due c.channel.inside.ended) o false) c.at.ensures
    ∙ ap (λ (h : HeardChannel). option_map_or (is_due h.ended) (option_and_then (λ (k : List Course). slice_get k c.loop-index.index) (slice_get c.args.courses.now c.args.place)) false) c.channel.view_is in
    lacks_found c.args.channel.now c.args.place c.args.courses.now c.loop-index.index c.asked-item.result c.is_due.result c.is_none.result c.loop-index.invariant there tested (search rules) c.if-is_due.true c.if-is_none.true

-- src/judging.rt:115:5
pub loop-index-preserved : goal.loop-index-preserved
loop-index-preserved c =
    let below : c.loop-index.index < length c.deref-asked-items.result.now = search rules in
    let there = subst (λ (xs : List HeardRequest). slice_get xs c.loop-index.index ≡ Some c.asked-item.result) (c.deref-asked-items.ensures.value ∙ ap (λ (h : HeardChannel). h.requests) c.channel.view_is)
    (slice_get_read c.deref-asked-items.result.now (length c.deref-asked-items.result.now) c.loop-index.index c.asked-item.result refl below c.asked-item.is) in
    let tested = c.is_due.ensures ∙ ap (λ (o : Option Course). option_map_or (is_due c.channel.inside.ended) o false) c.at.ensures
    ∙ ap (λ (h : HeardChannel). option_map_or (is_due h.ended) (option_and_then (λ (k : List Course). slice_get k c.loop-index.index) (slice_get c.args.courses.now c.args.place)) false) c.channel.view_is in
    lacks_next c.args.channel.now c.args.place c.args.courses.now c.loop-index.index c.asked-item.result c.is_due.result c.loop-index.invariant there tested
    (elim c.else-is_due.branch [
      | else-is_due-via-then-is_due+else-is_none w ↦ and_false c.is_due.result _ w.if-is_due.true (search rules)
      | else-is_due-via-else-is_due w ↦ false_and c.is_due.result _ w.if-is_due.false
    ])
