use Rattle.std.proofs.Common.{rules, ◌≡◌, ◌∙◌, ◌+◌, ◌-◌, ◌<◌, ap, subst, sym, List, length, map}
use Rattle.std.specs.Prelude.{All}
use Rattle.std.specs.List.{AllZip}
use Rattle.std.proofs.lemmas.List.{length-map}
use Rattle.std.proofs.lemmas.List.Elements.{All-same}
use Rattle.rd_turn.specs.Pass.{after_split, max_made}
use Rattle.rd_desk.specs.Hand.{HandState}
use Rattle.rd_pool.specs.Desks.{DeskPass, DeskTurn, IsFirst, IsOther, KeepsMoment, AllByHandBut}
use Rattle.rd_pool.proofs.DeskLemmas.{outs_home, still_few, still_first}
use Rattle.rd_pool.proofs.workers.+fn-with_workers-join+arg3+with_workers.Goals as goal

pub join-others-requires-after_bounds : goal.join-others-requires-after_bounds
join-others-requires-after_bounds g n c =
    let turns = c.args.desks.now.turns in
    let passes = c.begin.new.passes in
    let some : 0 < c.args.workers = search rules in
    let kept : passes ≡ map after_split c.args.passes = search rules in
    let first : AllZip IsFirst turns passes = subst (λ (l : List (DeskPass g.row.D.Denot)). AllZip IsFirst turns l) (sym kept) (still_first turns c.args.passes c.requires.first) in
    let few : All (λ (p : DeskPass g.row.D.Denot). p.made + (c.args.workers - 1) < max_made) passes =
    All-same (λ (p : DeskPass g.row.D.Denot). p.made + (c.args.workers - 1) < max_made) passes (map after_split c.args.passes) kept (still_few c.args.workers c.args.passes some c.requires.few) in
    let hands : length turns ≡ length c.in-Ok.both.0 = sym (ap length c.in-Ok.ensures.turns) ∙ length-map c.in-Ok.both.0 (λ (hand : HandState g.row.D.Denot). hand.turn) in
    let moments : All (KeepsMoment (g.X.Outside.moment c.args.outside.now)) (map (λ (hand : HandState g.row.D.Denot). hand.pass) c.in-Ok.both.0) = c.in-Ok.ensures.new_moments (g.X.Outside.moment c.args.outside.now) in
    search rules

pub returns-clause-out : goal.returns-clause-out
returns-clause-out g n c =
    let turns = c.args.desks.now.turns in
    let home = c.join-others.result.1.1 in
    let others = c.join-others.result.0 in
    let kept : c.begin.new.passes ≡ map after_split c.args.passes = search rules in
    let same : map (λ (p : DeskPass g.row.D.Denot). p.out) home ≡ map (λ (p : DeskPass g.row.D.Denot). p.out) c.begin.new.passes = search rules in
    let first : AllZip IsFirst turns home = search rules in
    let left : AllZip IsOther (map (λ (hand : HandState g.row.D.Denot). hand.turn) c.in-Ok.both.0) others = search rules in
    let other : AllZip IsOther turns others = subst (λ (l : List (DeskTurn g.row.D.Denot)). AllZip IsOther l others) c.in-Ok.ensures.turns left in
    outs_home turns c.args.passes c.begin.new.passes home others c.join.new.passes kept same first other c.join.ensures.joined

pub returns-clause-moments : goal.returns-clause-moments
returns-clause-moments g n c keeps =
    let told = g.X.Outside.moment c.args.outside.now in
    let others : All (KeepsMoment told) c.join-others.result.0 = search rules in
    let home : All (KeepsMoment told) c.begin.new.passes → All (KeepsMoment told) c.join-others.result.1.1 = search rules in
    c.join.ensures.moments told (home (c.begin.ensures.moments told keeps)) others

pub returns-clause-by_hand : goal.returns-clause-by_hand
returns-clause-by_hand g n c number puts =
    let others : All (AllByHandBut number) c.join-others.result.0 = c.join-others.ensures.first.2 number in
    let home : All (AllByHandBut number) c.begin.new.passes → All (AllByHandBut number) c.join-others.result.1.1 = c.join-others.ensures.second.4 number in
    c.join.ensures.by_hand number (home (c.begin.ensures.by_hand number puts)) others
