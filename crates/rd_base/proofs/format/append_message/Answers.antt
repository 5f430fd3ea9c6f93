use Rattle.rd_base.proofs.SpellingLemmas.{message_spelled}
use Rattle.rd_base.proofs.format.append_message.Goals as goal

pub returns-clause-spelled : goal.returns-clause-spelled
returns-clause-spelled g c = message_spelled _ _ _ c.put.ensures.spelled
