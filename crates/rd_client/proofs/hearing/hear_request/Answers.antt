use Rattle.rd_client.proofs.HearLemmas.{asked, request_lacks}
use Rattle.rd_client.proofs.hearing.hear_request.Goals as goal

pub returns-in-Ok : goal.returns-in-Ok
returns-in-Ok c = asked _ _ c.in-Ok.request c.in-Ok._tail c.requires c.in-Ok.ensures.spelled

pub returns-in-Ok-before_body : goal.returns-in-Ok-before_body
returns-in-Ok-before_body c = request_lacks _ _ c.requires c.in-Ok-before_body.ensures
