use Rattle.std.proofs.Common.{◌∙◌, List, Some, ap, ℕ}
use Rattle.rd_irp.specs.declared.completion.Head.{Head}
use Rattle.rd_irp.specs.declared.completion.Body.TheVariants.{Fault}
use Rattle.rd_irp.specs.Fits.{kind_of}
use Rattle.rd_irp.specs.Written.{completion_bytes}
use Rattle.rd_client.specs.Core.{Outgoing}
use Rattle.rd_client.proofs.HearLemmas.{put_did, put_kept}
use Rattle.rd_client.proofs.KeptLemmas.{fault_short}
use Rattle.rd_client.proofs.client_core.ClientCore.direct.Goals as goal

pub returns-clause-step : goal.returns-clause-step
returns-clause-step c =
    let head : Head = record { device = c.args.device; completion = c.args.job.now.completion; status = c.args.status } in
    let written = c.in_ok-message.ensures.written ∙ ap (λ k. completion_bytes k head Fault) c.kind_of.ensures in
    let answering : List ℕ → Outgoing = λ m. record { message = m; answers = Some c.args.job.now.key } in
    let same = c.answer.ensures ∙ ap answering written in
    (c.requires, rw (← c.self.view_is) (put_did _ _ _ _ c.put.result same c.put.ensures.ok c.put.ensures.err))

pub returns-clause-kept : goal.returns-clause-kept
returns-clause-kept c =
    let head : Head = record { device = c.args.device; completion = c.args.job.now.completion; status = c.args.status } in
    let written = c.in_ok-message.ensures.written ∙ ap (λ k. completion_bytes k head Fault) c.kind_of.ensures in
    let answering : List ℕ → Outgoing = λ m. record { message = m; answers = Some c.args.job.now.key } in
    let same = c.answer.ensures ∙ ap answering written in
    put_kept _ _ _ _ c.put.result c.self.invariant (fault_short (kind_of c.args.job.now.op) head) same c.put.ensures.ok c.put.ensures.err
