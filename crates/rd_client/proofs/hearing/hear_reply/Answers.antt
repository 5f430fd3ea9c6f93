use Rattle.rd_client.proofs.HearLemmas.{replied}
use Rattle.rd_client.proofs.hearing.hear_reply.Goals as goal

pub returns-in-Ok : goal.returns-in-Ok
returns-in-Ok c = replied _ _ c.in-Ok.field-0.0 c.in-Ok.field-0.1 c.requires c.in-Ok.ensures.spelled
