use Rattle.std.proofs.Common.{◌≡◌, ◌∙◌, Bool, Some, refl, ap, sym, subst}
use Rattle.std.specs.Prelude.{IfOk}
use Rattle.rd_base.specs.declared.journal.Item.TheVariants as entry
use Rattle.rd_base.specs.Reading.{WithTail}
use Rattle.rd_irp.specs.Request.{SpellsRequest}
use Rattle.std.proofs.Common.{List, ℕ}
use Rattle.rd_recorded.specs.Channels.{HeardRequest}
use Rattle.rd_audit.specs.Kept.{TakesItem}
use Rattle.rd_audit.specs.Replayed.{named_by}
use Rattle.rd_audit.proofs.ReplayLemmas.{named_is}
use Rattle.rd_audit.proofs.replay.Replay.run.Goals as goal

pub returns-then-starved-clause-taken : goal.returns-then-starved-clause-taken
returns-then-starved-clause-taken c d stands =
    let same = c.as_slice.ensures ∙ ap (λ (a : HeardRequest). a.message) c.asked.view_is in
    let named : named_by c.args.channels.now c.args.key ≡ Some c.in-Ok.request = named_is c.args.channels.now c.args.key c.in-Some.asked.now c.in-Ok.request c.in-Ok.field-0-1 (sym c.in-Some.ensures)
    (subst (λ (m : List ℕ). WithTail c.in-Ok.field-0-1 (λ tail. SpellsRequest c.in-Ok.request tail m)) same c.in-Ok.ensures.spelled) in
    subst (λ (starved : Bool). IfOk c.starve.result (TakesItem c.args.channels.now d (entry.Ran c.args.key c.args.moment starved c.args.parked) c.args.self.now c.args.courses.now c.starve.new.courses)) (sym c.if-starved.true)
    (c.starve.ensures.taken d c.in-Ok.request c.args.moment stands named refl)

pub returns-clause-taken : goal.returns-clause-taken
returns-clause-taken c d stands =
    let same = c.as_slice.ensures ∙ ap (λ (a : HeardRequest). a.message) c.asked.view_is in
    let named : named_by c.args.channels.now c.args.key ≡ Some c.in-Ok.request = named_is c.args.channels.now c.args.key c.in-Some.asked.now c.in-Ok.request c.in-Ok.field-0-1 (sym c.in-Some.ensures)
    (subst (λ (m : List ℕ). WithTail c.in-Ok.field-0-1 (λ tail. SpellsRequest c.in-Ok.request tail m)) same c.in-Ok.ensures.spelled) in
    subst (λ (starved : Bool). IfOk c.apply.result (TakesItem c.args.channels.now d (entry.Ran c.args.key c.args.moment starved c.args.parked) c.apply.new.self c.args.courses.now c.apply.new.courses)) (sym c.if-starved.false)
    (c.apply.ensures.taken d stands named)
