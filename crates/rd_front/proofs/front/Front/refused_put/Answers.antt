use Rattle.rd_front.proofs.front.Front.refused_put.Goals as goal

pub returns-in-Gone : goal.returns-in-Gone
returns-in-Gone g c = rw (c.in-Gone.is, ← c.gone_status-status.ensures.status) c.answer_directly.ensures
