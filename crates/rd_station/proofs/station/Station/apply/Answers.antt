use Rattle.std.proofs.Common.{◌≡◌, ◌∙◌, sym, ap, subst, [], ◌∷◌, ◌++◌}
use Rattle.std.specs.Prelude.{Some, find}
use Rattle.rd_base.specs.declared.journal.Key.{Key}
use Rattle.rd_irp.specs.declared.completion.Kind.{Kind}
use Rattle.rd_irp.specs.Fits.{kind_of}
use Rattle.rd_drive.specs.declared.plan.Job.{Job}
use Rattle.rd_drive.specs.Replies.{cancellation}
use Rattle.rd_station.specs.declared.answers.Completion.{Completion}
use Rattle.rd_station.specs.declared.held.InHand.{InHand}
use Rattle.rd_station.specs.Station.{completion_of, is_key}
use Rattle.rd_station.proofs.Parts.{back_few, back_settles, cancel_parts, run_parts, run_step}
use Rattle.rd_station.proofs.Soundness.{hands_rise}
use Rattle.rd_station.proofs.station.Station.apply.Goals as goal

pub take_back-requires : goal.take_back-requires
take_back-requires g c = hands_rise _ _ _ _ _ _ _ c.self.invariant.0

pub make_ready-requires : goal.make_ready-requires
make_ready-requires g c =
    let found = subst (λ (k : Key). find (λ (u : InHand). is_key u.key k) c.self.inside.held.taken ≡ Some c.in-Some.hand) c.key.ensures (sym c.take_back.ensures.found ∙ c.in-Some.is) in
    back_few _ _ _ _ _ _ _ _ _ _ c.self.invariant.0 c.args.plan c.args.moment c.in-Some.hand found c.take_back.new.self c.in-Some.ensures.some

pub invariant_of-self-then-hand : goal.invariant_of-self-then-hand
invariant_of-self-then-hand g c =
    let found = subst (λ (k : Key). find (λ (u : InHand). is_key u.key k) c.self.inside.held.taken ≡ Some c.in-Some.hand) c.key.ensures (sym c.take_back.ensures.found ∙ c.in-Some.is) in
    let kind = c.kind_of-kind.ensures ∙ ap (λ (job : Job). kind_of job.op) c.job.ensures in
    let completion = c.cancelled.ensures ∙ ap (λ (k : Kind). completion_of c.in-Some.hand.key c.in-Some.hand.completion k cancellation) kind in
    let ready = c.make_ready.ensures ∙ ap (λ (x : Completion). record c.take_back.new.self { ready = c.take_back.new.self.ready ++ x ∷ [] }) completion in
    (cancel_parts _ _ _ _ _ _ _ _ _ _ c.self.invariant.0 c.args.plan c.args.moment c.in-Some.hand found c.take_back.new.self c.in-Some.ensures.some c.make_ready.new.self c.add.new.self.items c.add.new.self.spare c.if-hand.true ready c.add.ensures.items c.add.ensures.spare, c.self.invariant.1)

pub returns-then-hand-clause-reached : goal.returns-then-hand-clause-reached
returns-then-hand-clause-reached g c = (invariant_of-self-then-hand g c).0.reached

pub run-requires-clause-few : goal.run-requires-clause-few
run-requires-clause-few g c =
    let found = subst (λ (k : Key). find (λ (u : InHand). is_key u.key k) c.self.inside.held.taken ≡ Some c.in-Some.hand) c.key.ensures (sym c.take_back.ensures.found ∙ c.in-Some.is) in
    back_few _ _ _ _ _ _ _ _ _ _ c.self.invariant.0 c.args.plan c.args.moment c.in-Some.hand found c.take_back.new.self c.in-Some.ensures.some

pub run-requires-clause-settles : goal.run-requires-clause-settles
run-requires-clause-settles g c =
    let found = subst (λ (k : Key). find (λ (u : InHand). is_key u.key k) c.self.inside.held.taken ≡ Some c.in-Some.hand) c.key.ensures (sym c.take_back.ensures.found ∙ c.in-Some.is) in
    back_settles _ _ _ _ _ _ _ _ _ _ c.self.invariant.0 c.args.plan c.args.moment c.in-Some.hand found c.take_back.new.self c.in-Some.ensures.some

pub invariant_of-self-2 : goal.invariant_of-self-2
invariant_of-self-2 g c =
    let found = subst (λ (k : Key). find (λ (u : InHand). is_key u.key k) c.self.inside.held.taken ≡ Some c.in-Some.hand) c.key.ensures (sym c.take_back.ensures.found ∙ c.in-Some.is) in
    (run_parts _ _ _ _ _ _ _ _ _ _ c.self.invariant.0 c.args.plan c.args.moment c.in-Some.hand found c.take_back.new.self c.in-Some.ensures.some c.if-hand.false _ _ _ _ c.run.ensures.ran c.run.new.journal.spare c.run.ensures.spare, c.run.ensures.none)

pub returns-clause-step : goal.returns-clause-step
returns-clause-step g c =
    let found = subst (λ (k : Key). find (λ (u : InHand). is_key u.key k) c.self.inside.held.taken ≡ Some c.in-Some.hand) c.key.ensures (sym c.take_back.ensures.found ∙ c.in-Some.is) in
    run_step _ _ _ _ _ _ _ _ _ _ c.self.invariant.0 c.args.plan c.args.moment c.in-Some.hand found c.take_back.new.self c.in-Some.ensures.some c.if-hand.false _ _ _ _ c.run.ensures.ran c.args.self.now c.self.view_is

pub returns-clause-reached : goal.returns-clause-reached
returns-clause-reached g c = (invariant_of-self-2 g c).0.reached
