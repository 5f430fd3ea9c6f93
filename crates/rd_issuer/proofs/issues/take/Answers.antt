use Rattle.std.proofs.Common.{◌≡◌, Ok, Err, false, true, refl, rules}
use Rattle.rd_pending.specs.declared.calls.TakeNo.TheVariants as take_no
use Rattle.rd_world.specs.Hearing.{with_outcome}
use Rattle.rd_world.specs.World.{ApplicationState, Asked}
use Rattle.rd_issuer.proofs.IssueLemmas.{ended_as, goes_take, rests_waiting}
use Rattle.rd_issuer.proofs.issues.take.Goals as goal

pub returns-then-is_patient-clause-goes : goal.returns-then-is_patient-clause-goes
returns-then-is_patient-clause-goes g c =
    let (asked, next, for) = c.next-line.ensures in
    let x : ApplicationState = c.args.application.now in
    goes_take c.args.number true x x c.args.table.now.pass c.call_table.new.table.pass asked c.args.request c.call_table.result (Err take_no.NotYet) c.call_table.ensures.same c.call_table.ensures.called
    (search rules) next c.requires.awaits (λ _. (λ is. absurd (cc (is)), refl))

pub returns-then-is_patient-clause-rests : goal.returns-then-is_patient-clause-rests
returns-then-is_patient-clause-rests g c =
    let (asked, next, for) = c.next-line.ensures in
    λ _. rests_waiting c.args.application.now asked c.args.request c.args.table.now.pass c.call_table.new.table.pass c.call_table.result next (cc (c.is_patient.ensures asked for, c.if-is_patient.true)) c.requires.awaits
    c.call_table.ensures.same c.call_table.ensures.called (search rules)

pub returns-in_ok-end_line-in-Taken-Ok-clause-goes : goal.returns-in_ok-end_line-in-Taken-Ok-clause-goes
returns-in_ok-end_line-in-Taken-Ok-clause-goes g c =
    let (asked, next, for) = c.next-line.ensures in
    let x : ApplicationState = c.args.application.now in
    let taken = c.in-Taken-Ok.taken in
    let ended : c.end_line.new.self ≡ with_outcome x c.reported_outcome.result c.given_handle-given.result asked =
    ended_as _ asked (λ (a : Asked). with_outcome x c.reported_outcome.result c.given_handle-given.result a) x c.end_line.new.self next c.in_ok-end_line-in-Taken-Ok.ensures in
    goes_take c.args.number true x c.end_line.new.self c.args.table.now.pass c.call_table.new.table.pass asked c.args.request c.call_table.result (Ok taken) c.call_table.ensures.same c.call_table.ensures.called
    (search rules) next c.requires.awaits (λ _. (λ is. absurd (cc (is)), search rules))

pub returns-else-is_patient-clause-goes : goal.returns-else-is_patient-clause-goes
returns-else-is_patient-clause-goes g c =
    let (asked, next, for) = c.next-line.ensures in
    let x : ApplicationState = c.args.application.now in
    goes_take c.args.number true x x c.args.table.now.pass c.call_table.new.table.pass asked c.args.request c.call_table.result (Err take_no.NotYet) c.call_table.ensures.same c.call_table.ensures.called
    (search rules) next c.requires.awaits (λ _. (λ is. absurd (cc (is)), refl))

pub returns-in-Taken-Err-Unknown-clause-goes : goal.returns-in-Taken-Err-Unknown-clause-goes
returns-in-Taken-Err-Unknown-clause-goes g c =
    let (asked, next, for) = c.next-line.ensures in
    let x : ApplicationState = c.args.application.now in
    goes_take c.args.number false x x c.args.table.now.pass c.call_table.new.table.pass asked c.args.request c.call_table.result (Err take_no.Unknown) c.call_table.ensures.same c.call_table.ensures.called
    (search rules) next c.requires.awaits (λ found. absurd (cc (found)))
