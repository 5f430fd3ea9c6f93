use Rattle.std.proofs.Common.{◌∙◌, append_assoc}
use Rattle.std.proofs.lemmas.Result.{IfOk-weaker}
use Rattle.rd_cli.proofs.summary.summary_of.Goals as goal

pub returns : goal.returns
returns c =
    let tally = c.tally_of-done.ensures in
    IfOk-weaker c.format.result _ _ (λ s is. is ∙ simp (append_assoc, c.from.ensures, c.from-2.ensures, tally.done, tally.lost, tally.bytes, tally.sum)) c.format.ensures.ok
