use Rattle.std.proofs.Common.{◌∙◌, map}
use Rattle.std.proofs.lemmas.List.Elements.{All-same}
use Rattle.rd_desk.specs.Hand.{HandState}
use Rattle.rd_pool.specs.Desks.{KeepsMoment}
use Rattle.rd_pool.proofs.hands.Hands.new.Goals as goal

pub returns-clause-new_moments : goal.returns-clause-new_moments
returns-clause-new_moments g c told =
    All-same (KeepsMoment told) (map (λ (hand : HandState g.row.D.Denot). hand.pass) c.take_all.new.hands.items) c.in_ok-home.field-0 (c.take_all.ensures.passes ∙ c.home.view_is) (c.in_ok-home.ensures.new_moments told)
