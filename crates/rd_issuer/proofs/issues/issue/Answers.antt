use Rattle.std.proofs.Common.{◌≡◌, ◌∙◌, ℕ, false, true, Ok, Err, None, Result, ap, sym}
use Rattle.std.specs.Prelude.{is_ok}
use Rattle.rd_pending.specs.declared.calls.SubmitNo.{SubmitNo}
use Rattle.rd_script.specs.declared.outcome.Outcome.TheVariants as outcome
use Rattle.rd_script.specs.declared.outcome.Refusal.{Refusal}
use Rattle.rd_script.specs.declared.outcome.Refusal.TheVariants as refusal
use Rattle.rd_table.specs.declared.calls.PendingReply.TheVariants as reply
use Rattle.rd_world.specs.Hearing.{with_outcome}
use Rattle.rd_world.specs.World.{ApplicationState, Asked}
use Rattle.rd_issuer.proofs.IssueLemmas.{asks_op, ended_as, goes_refused, goes_submit, on_ok}
use Rattle.rd_issuer.proofs.issues.issue.Goals as goal
use Rattle.rd_issuer.proofs.issues.issue.Goals.{in-Submitted-Ok, in-Submitted-Err+in_ok-refusal_of-in-Submitted-Err, in_default-call_table}

pub returns-in_default-clause-goes : goal.returns-in_default-clause-goes
returns-in_default-clause-goes g c =
    let (asked, next, for) = c.next-line.ensures in
    let x : ApplicationState = c.args.application.now in
    goes_refused c.args.number (is_ok c.end_line.result) x c.end_line.new.self c.args.table.now.pass asked (c.requires, next) (sym (c.target.ensures asked for) ∙ c.in_default.is)
    (λ found. ended_as _ asked (λ (a : Asked). with_outcome x (outcome.Refused refusal.NoHandle) None a) x c.end_line.new.self next (on_ok c.end_line.result c.end_line.ensures found))

pub returns-clause-goes : goal.returns-clause-goes
returns-clause-goes g c =
    let (asked, next, for) = c.next-line.ensures in
    let x : ApplicationState = c.args.application.now in
    let op = asks_op c.next-line.result.now asked c.in-Some-2.op c.in_ok-op.field-0 for c.in-Some-2.is c.in_ok-op.ensures in
    goes_submit c.args.number (is_ok c.match-call_table.result) x c.match-call_table.application c.args.table.now.pass c.call_table.new.table.pass asked c.in-Some.target c.in-Some-2.op c.call_table.result
    c.call_table.ensures.same c.call_table.ensures.called (c.requires, next) (sym (c.target.ensures asked for) ∙ c.in-Some.is) op
    (λ found. elim c.match-call_table.branch [
      | in-Submitted-Ok w ↦ (Ok w.in-Submitted-Ok.request, w.in-Submitted-Ok.is ∙ ap (λ (r : Result ℕ SubmitNo). reply.Submitted r) w.in-Submitted-Ok.field-0-is, λ is. absurd (cc (is)), w.application-is ∙ w.await_outcome.ensures)
      | in-Submitted-Err+in_ok-refusal_of-in-Submitted-Err w ↦
          let why : Refusal = w.in_ok-refusal_of-in-Submitted-Err.field-0 in
          let ended : w.end_line-in-Submitted-Err.new.self ≡ with_outcome x (outcome.Refused why) None asked =
          ended_as _ asked (λ (a : Asked). with_outcome x (outcome.Refused why) None a) x w.end_line-in-Submitted-Err.new.self next
          (on_ok w.end_line-in-Submitted-Err.result w.end_line-in-Submitted-Err.ensures (sym (ap is_ok w.result-is) ∙ found)) in (
            Err w.in-Submitted-Err.cause,
            w.in-Submitted-Err.is ∙ ap (λ (r : Result ℕ SubmitNo). reply.Submitted r) w.in-Submitted-Err.field-0-is,
            λ is. w.in_ok-refusal_of-in-Submitted-Err.ensures.memory (cc (is)),
            w.application-is ∙ (ended ∙ ap (λ (r : Refusal). with_outcome x (outcome.Refused r) None asked) w.in_ok-refusal_of-in-Submitted-Err.ensures.why),
          )
      | in_default-call_table w ↦ let no_one : false ≡ true = sym (ap is_ok w.result-is) ∙ found in absurd (cc (no_one))
    ])
