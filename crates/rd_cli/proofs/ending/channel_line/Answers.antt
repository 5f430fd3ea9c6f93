use Rattle.std.proofs.Common.{◌∙◌, append_assoc}
use Rattle.std.proofs.lemmas.Result.{IfOk-weaker}
use Rattle.rd_cli.proofs.ending.channel_line.Goals as goal

pub returns : goal.returns
returns c = IfOk-weaker c.format.result _ _ (λ s is. is ∙ simp (append_assoc, c.end_word-word.ensures, c.in_ok-place.ensures)) c.format.ensures.ok
