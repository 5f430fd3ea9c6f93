use Rattle.std.proofs.Common.{◌∙◌, sym}
use Rattle.std.proofs.lemmas.Result.{IfOk-weaker}
use Rattle.rd_cli.proofs.StopLemmas.{in_message_is}
use Rattle.rd_cli.proofs.ending.in_message.Goals as goal

pub returns-in_default : goal.returns-in_default
returns-in_default c = IfOk-weaker c.format.result _ _ (λ s is. is ∙ sym (in_message_is c.args.message c.args.why c.in_default.not-Chunk)) c.format.ensures.ok
