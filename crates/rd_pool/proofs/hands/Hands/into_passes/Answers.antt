use Rattle.std.proofs.Common.{map}
use Rattle.std.specs.Prelude.{All}
use Rattle.std.proofs.lemmas.List.Elements.{All-map, All-same}
use Rattle.rd_desk.specs.Hand.{HandState}
use Rattle.rd_pool.specs.Desks.{AllByHand}
use Rattle.rd_pool.proofs.CallsLemmas.{all_but_of_hands}
use Rattle.rd_pool.proofs.hands.Hands.into_passes.Goals as goal

pub returns-clause-by_hand : goal.returns-clause-by_hand
returns-clause-by_hand g c number =
    let pass_of = λ (hand : HandState g.row.D.Denot). hand.pass in
    let hands = c.self.inside.list.items in
    let none : All AllByHand (map pass_of hands) = All-map AllByHand pass_of hands c.self.invariant.5 in
    all_but_of_hands number c.leave_all.new.passes.items (All-same AllByHand c.leave_all.new.passes.items (map pass_of hands) c.leave_all.ensures.same none)
