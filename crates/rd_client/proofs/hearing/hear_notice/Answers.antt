use Rattle.rd_client.proofs.HearLemmas.{notice_lacks, noticed}
use Rattle.rd_client.proofs.hearing.hear_notice.Goals as goal

pub returns-in-Ok : goal.returns-in-Ok
returns-in-Ok c = noticed _ _ _ _ c.requires c.in-Ok.ensures.spelled

pub returns-in-Ok-None : goal.returns-in-Ok-None
returns-in-Ok-None c = notice_lacks _ _ c.requires (rw c.in-Ok-None.field-0-is at c.in-Ok-None.ensures.before)
