use Rattle.std.proofs.Common.{◌∙◌, Bool, true, false, [], ◌∷◌, refl, ap, sym, subst}
use Rattle.rd_base.specs.declared.journal.Item.TheVariants as entry
use Rattle.rd_drive.specs.declared.step.Step.TheVariants as step
use Rattle.rd_audit.specs.Kept.{TakesItem}
use Rattle.rd_audit.specs.declared.replay.Replay.{Replay}
use Rattle.rd_audit.proofs.ReplayLemmas.{gives_none, none_more, refuses_mark, takes_applied, times, times_append}
use Rattle.rd_audit.proofs.replay.Replay.apply.Goals as goal

pub returns-then-parked-clause-taken : goal.returns-then-parked-clause-taken
returns-then-parked-clause-taken c d stands named =
    let after : Replay = record c.args.self.now { device = c.apply.new.self; ends = c.apply.new.ends } in
    subst (λ (parked : Bool). TakesItem c.args.channels.now d (entry.Ran c.args.key c.args.moment false parked) after c.args.courses.now c.args.courses.now false) (sym c.if-parked.true)
    (refuses_mark c.args.channels.now d c.args.key c.args.moment true c.args.request c.prepare-plan.result (step.Reply c.in-Reply.reply) c.apply.new.ends c.args.self.now after after c.args.courses.now c.args.courses.now
    stands named c.prepare-plan.ensures.job c.in-Reply.ensures (sym c.lacked_memory.ensures ∙ c.if-lacked_memory.false) refl)

pub returns-in_ok-end-in-Parked-clause-taken : goal.returns-in_ok-end-in-Parked-clause-taken
returns-in_ok-end-in-Parked-clause-taken c d stands named =
    let mid : Replay = record c.args.self.now { device = c.apply.new.self; waiting = c.push.new.self; ends = c.apply.new.ends } in
    subst (λ (parked : Bool). TakesItem c.args.channels.now d (entry.Ran c.args.key c.args.moment false parked) c.end.new.self c.args.courses.now c.end.new.courses true) (sym c.if-not-parked.false)
    (takes_applied c.args.channels.now d c.args.key c.args.moment c.args.request c.prepare-plan.result step.Parked c.args.self.now mid c.end.new.self c.args.courses.now c.args.courses.now c.end.new.courses
    stands named c.prepare-plan.ensures.job c.in-Parked.ensures refl refl refl refl
    (λ k. ap (times k) c.in_ok-push-in-Parked.ensures.items ∙ times_append k c.args.self.now.waiting.items (c.args.key ∷ []))
    (gives_none c.args.channels.now c.args.self.now.count false c.args.courses.now) c.in_ok-end-in-Parked.ensures.gives c.in_ok-end-in-Parked.ensures.waiting c.in_ok-end-in-Parked.ensures.others)

pub returns-in_ok-end-in-Reply-clause-taken : goal.returns-in_ok-end-in-Reply-clause-taken
returns-in_ok-end-in-Reply-clause-taken c d stands named =
    let mid : Replay = record c.args.self.now { device = c.apply.new.self; ends = c.apply.new.ends } in
    subst (λ (parked : Bool). TakesItem c.args.channels.now d (entry.Ran c.args.key c.args.moment false parked) c.end-in-Reply.new.self c.args.courses.now c.end-in-Reply.new.courses true) (sym c.if-parked.false)
    (takes_applied c.args.channels.now d c.args.key c.args.moment c.args.request c.prepare-plan.result (step.Reply c.in-Reply.reply) c.args.self.now mid c.end-in-Reply.new.self c.args.courses.now c.give.new.courses c.end-in-Reply.new.courses
    stands named c.prepare-plan.ensures.job c.in-Reply.ensures (sym c.lacked_memory.ensures ∙ c.if-lacked_memory.false) refl refl refl
    (λ k. none_more k c.args.self.now.waiting.items)
    c.in_ok-give-in-Reply.ensures c.in_ok-end-in-Reply.ensures.gives c.in_ok-end-in-Reply.ensures.waiting c.in_ok-end-in-Reply.ensures.others)
