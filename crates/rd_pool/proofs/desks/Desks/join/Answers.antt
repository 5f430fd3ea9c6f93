use Rattle.std.proofs.Common.{rules}
use Rattle.std.specs.List.{AllZip, zip}
use Rattle.rd_pool.specs.Desks.{GivesThen, IsJoined, IsByHandBut}
use Rattle.rd_pool.proofs.CallsLemmas.{all_came_home, all_still_home, joins_hold}
use Rattle.rd_pool.proofs.desks.Desks.join.Goals as goal

pub returns-clause-moments : goal.returns-clause-moments
returns-clause-moments g c told =
    let joined : AllZip IsJoined (zip c.args.passes.now c.args.others) c.swap.new.x.items = search rules in
    joins_hold (GivesThen told) c.args.self.now.turns c.args.passes.now c.args.others c.swap.new.x.items c.requires.first c.requires.others joined

pub returns-clause-by_hand : goal.returns-clause-by_hand
returns-clause-by_hand g c number =
    let joined : AllZip IsJoined (zip c.args.passes.now c.args.others) c.swap.new.x.items = search rules in
    joins_hold (IsByHandBut number) c.args.self.now.turns c.args.passes.now c.args.others c.swap.new.x.items c.requires.first c.requires.others joined

pub returns-clause-home : goal.returns-clause-home
returns-clause-home g c =
    let joined : AllZip IsJoined (zip c.args.passes.now c.args.others) c.swap.new.x.items = search rules in
    all_came_home c.args.self.now.turns c.args.passes.now c.args.others c.swap.new.x.items c.requires.first c.requires.others joined

pub returns-clause-still_home : goal.returns-clause-still_home
returns-clause-still_home g c earlier home =
    let joined : AllZip IsJoined (zip c.args.passes.now c.args.others) c.swap.new.x.items = search rules in
    all_still_home c.args.self.now.turns c.args.passes.now earlier c.args.others c.swap.new.x.items c.requires.first c.requires.others home joined
