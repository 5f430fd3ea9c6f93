use Rattle.rd_world.proofs.HandsLemmas.{keeps_set, there_of_free, with_is}
use Rattle.rd_world.proofs.hands.Hands.put.Goals as goal

pub invariant_of-self : goal.invariant_of-self
invariant_of-self c =
    let there = there_of_free c.self.inside.list.items c.args.hand (rw c.self.view_is c.requires) in
    keeps_set _ _ _ _ _ _ _ c.self.invariant there.1 c.mark.ensures c.mark-2.ensures

pub returns : goal.returns
returns c =
    let there = there_of_free c.self.inside.list.items c.args.hand (rw c.self.view_is c.requires) in
    with_is _ _ _ _ c.self.view_is there.0 there.1
