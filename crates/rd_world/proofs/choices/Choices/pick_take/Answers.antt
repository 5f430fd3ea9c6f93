use Rattle.rd_world.proofs.ChoicesLemmas.{take_at, take_within}
use Rattle.rd_world.proofs.choices.Choices.pick_take.Goals as goal

pub nonzero_div-index : goal.nonzero_div-index
nonzero_div-index c = (take_within c.args.self.now c.args.index c.count-free.result c.count-free.ensures c.requires).0

pub pick-requires : goal.pick-requires
pick-requires c = (take_within c.args.self.now c.args.index c.count-free.result c.count-free.ensures c.requires).1

pub nonzero_rem-index : goal.nonzero_rem-index
nonzero_rem-index c = (take_within c.args.self.now c.args.index c.count-free.result c.count-free.ensures c.requires).0

pub pick-requires-2 : goal.pick-requires-2
pick-requires-2 c = (take_within c.args.self.now c.args.index c.count-free.result c.count-free.ensures c.requires).2

pub returns : goal.returns
returns c = take_at c.args.self.now c.args.index c.count-free.result c.pick.result c.pick-2.result c.count-free.ensures c.pick.ensures c.pick-2.ensures
