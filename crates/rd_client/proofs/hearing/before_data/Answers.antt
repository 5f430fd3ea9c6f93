use Rattle.rd_client.proofs.NoticeLemmas.{data_later}
use Rattle.rd_client.proofs.hearing.before_data.Goals as goal

pub returns : goal.returns
returns c = λ bad e. data_later _ _ c.in_ok-event.event bad c.requires c.in_ok-event.ensures.read c.if-event-lt1.false c.if-event-gt4.false e
