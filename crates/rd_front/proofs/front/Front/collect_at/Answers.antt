use Rattle.rd_front.proofs.DeskLemmas.{collect_reply}
use Rattle.rd_front.proofs.front.Front.collect_at.Goals as goal

pub given-requires : goal.given-requires
given-requires g c = collect_reply c.call_desk-reply.result c.call_desk-reply.ensures.called.replied
