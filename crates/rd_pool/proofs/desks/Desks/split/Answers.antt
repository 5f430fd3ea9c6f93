use Rattle.std.proofs.Common.{rules, ◌≡◌, map}
use Rattle.std.specs.List.{AllZip}
use Rattle.rd_turn.specs.Pass.{after_split}
use Rattle.rd_pool.specs.Desks.{GivesThen, IsFresh, IsByHandBut}
use Rattle.rd_pool.proofs.CallsLemmas.{fresh_hold, split_holds}
use Rattle.rd_pool.proofs.desks.Desks.split.Goals as goal

pub returns-clause-moments : goal.returns-clause-moments
returns-clause-moments g c told =
    let kept : c.swap.new.x.items ≡ map after_split c.args.passes.now = search rules in
    split_holds (GivesThen told) c.args.passes.now c.swap.new.x.items kept

pub returns-clause-by_hand : goal.returns-clause-by_hand
returns-clause-by_hand g c number =
    let kept : c.swap.new.x.items ≡ map after_split c.args.passes.now = search rules in
    split_holds (IsByHandBut number) c.args.passes.now c.swap.new.x.items kept

pub returns-clause-new_moments : goal.returns-clause-new_moments
returns-clause-new_moments g c told =
    let fresh : AllZip IsFresh c.args.self.now.turns c.split_all.new.new.items = search rules in
    fresh_hold (GivesThen told) c.args.self.now.turns c.split_all.new.new.items fresh
