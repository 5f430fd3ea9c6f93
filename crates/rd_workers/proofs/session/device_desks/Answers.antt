use Rattle.std.proofs.Common.{rules, arith, ◌≡◌, ◌∙◌, ◌++◌, ap, subst, sym, List, [], map}
use Rattle.std.proofs.lemmas.List.{append-nil, take_all}
use Rattle.rd_front.specs.State.{DeviceDeskState, SessionPass}
use Rattle.rd_pool.specs.Desks.{DeskTurn, IsOther}
use Rattle.rd_served_devices.specs.ServedDevices.{IsServedReached, ServedDeviceState}
use Rattle.rd_workers.proofs.PassLemmas.{zip_ends, zip_over, zip_within}
use Rattle.rd_workers.proofs.session.device_desks.Goals as goal

pub returns-clause-turns : goal.returns-clause-turns
returns-clause-turns g c =
    let none : c.loop-pass.own ≡ [] = search rules in
    c.loop-pass.invariant.turns ∙ zip_over IsOther c.args.desks.now.turns c.loop-pass.place c.loop-pass.own c.loop-pass.invariant.others none

pub returns-clause-passes : goal.returns-clause-passes
returns-clause-passes g c =
    let none : c.loop-pass.own ≡ [] = search rules in
    let these = map (λ (d : DeviceDeskState). d.pass) c.loop-pass.list.items in
    sym (append-nil these) ∙ ap (λ (l : List SessionPass). these ++ l) (sym none) ∙ c.loop-pass.invariant.passes

pub returns-clause-ids : goal.returns-clause-ids
returns-clause-ids g c =
    let none : c.loop-pass.own ≡ [] = search rules in
    let all = zip_ends IsOther c.args.desks.now.turns c.loop-pass.place c.loop-pass.own c.loop-pass.invariant.others none in
    let same = c.requires.same in
    c.loop-pass.invariant.ids ∙ take_all c.loop-pass.place c.args.ids.now (omega (arith, all, same))

pub new-requires-clause-reached : goal.new-requires-clause-reached
new-requires-clause-reached g c =
    let within = zip_within IsOther c.args.desks.now.turns c.loop-pass.place c.loop-pass.own c.in-Some.pass c.next.new.self c.loop-pass.invariant.others c.in-Some.ensures.first in
    subst (λ (t : DeskTurn ServedDeviceState). IsServedReached t.opening) (sym c.turn.ensures) (c.requires.reached c.loop-pass.place c.turn.result.now within)
