use Rattle.std.proofs.Common.{◌≡◌, ◌≢◌, ◌<◌, ◌∙◌, sym, subst, get_or, length, arith, get_or-set_other}
use Rattle.std.proofs.lemmas.List.{length-set}
use Rattle.rd_desk.specs.declared.calls.DeskCall.{DeskCall}
use Rattle.rd_front.specs.Front.{EndsBy, end_call}
use Rattle.rd_front.specs.State.{DeviceDeskState, IsCalled}
use Rattle.rd_front.proofs.TellingLemmas.{told_more}
use Rattle.rd_front.proofs.ending.end_desks.Goals as goal

pub loop-place-preserved : goal.loop-place-preserved
loop-place-preserved g c =
    let kept = c.loop-place.invariant in
    let within : c.loop-place.place < length c.loop-place.desks = omega (arith, kept.same, c.loop-place-test.true) in
    let before : DeviceDeskState = get_or c.loop-place.desks c.loop-place.place c.index-desks-place.result in
    let told = subst (λ (k : DeskCall). IsCalled before k c.call.result c.call.new.self) c.end_call.ensures c.call.ensures in
    let one : EndsBy (end_call c.args.over) c.index-desks-place.result c.call.new.self =
    subst (λ (d : DeviceDeskState). EndsBy (end_call c.args.over) d c.call.new.self) (sym c.index-desks-place.is) (c.call.result, told) in
    record {
      told = told_more (EndsBy (end_call c.args.over)) _ _ _ c.index-desks-place.result _ kept.told kept.others kept.same within c.index-desks-place.is one;
      others = λ j d le.
          let apart : j ≢ c.loop-place.place = λ (e : j ≡ c.loop-place.place). omega arith in
          get_or-set_other c.loop-place.desks c.loop-place.place j c.call.new.self d apart ∙ kept.others j d (omega arith);
      same = length-set c.loop-place.desks c.loop-place.place c.call.new.self ∙ kept.same;
    }
