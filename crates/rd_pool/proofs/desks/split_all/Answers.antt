use Rattle.std.proofs.Common.{rules, ◌≡◌, ◌<◌, subst, sym, List, [], ◌∷◌}
use Rattle.std.specs.Prelude.{All}
use Rattle.std.specs.List.{AllZip}
use Rattle.std.proofs.lemmas.List.Elements.{All-rest}
use Rattle.rd_turn.specs.Pass.{after_split, max_made, new_pass}
use Rattle.rd_pool.specs.Desks.{DeskPass, IsFirst, IsFresh}
use Rattle.rd_pool.proofs.DeskLemmas.{MadeNone, all_fresh, all_other}
use Rattle.rd_pool.proofs.ZipLemmas.{all_next, map_all, map_next, zip_here}
use Rattle.rd_pool.proofs.desks.split_all.Goals as goal

pub loop-pass-preserved : goal.loop-pass-preserved
loop-pass-preserved g c =
    let kept = c.loop-pass.invariant in
    let rest = c.pop_front.new.self.items in
    let is : c.loop-pass.from.items ≡ c.in-Some.pass ∷ rest = c.in-Some.ensures.items in
    record {
      kept = map_next after_split c.args.from.now.items c.loop-pass.from.items rest c.loop-pass.to.items c.push_back_reserved-in-Some.new.self.items c.in-Some.pass c.split.new.pass is c.push_back_reserved-in-Some.ensures.items c.split.ensures.kept kept.kept;
      given = map_next new_pass c.args.from.now.items c.loop-pass.from.items rest c.loop-pass.new.items c.push_back_reserved.new.self.items c.in-Some.pass c.split.result is c.push_back_reserved.ensures.items c.split.ensures.given kept.given;
      fresh = all_next MadeNone c.loop-pass.new.items c.push_back_reserved.new.self.items c.split.result c.push_back_reserved.ensures.items c.split.ensures.fresh kept.fresh;
      first = (zip_here IsFirst c.args.turns.now.items c.loop-pass.at c.index.result.now c.in-Some.pass rest c.loop-pass.from.items is kept.first).1;
      few = All-rest (λ (p : DeskPass g.row.D.Denot). p.made < max_made) c.in-Some.pass rest c.loop-pass.from.items is kept.few;
      room = search rules;
      capacity = search rules;
    }

abbrev is_fresh : goal.returns-clause-fresh
is_fresh g c =
    let kept = c.loop-pass.invariant in
    let none : c.loop-pass.from.items ≡ [] = search rules in
    let given = map_all new_pass c.args.from.now.items c.loop-pass.from.items c.loop-pass.new.items none kept.given in
    subst (λ (l : List (DeskPass g.row.D.Denot)). AllZip IsFresh c.args.turns.now.items l) (sym given)
    (all_fresh c.args.turns.now.items c.args.from.now.items c.requires.first (subst (λ (l : List (DeskPass g.row.D.Denot)). All MadeNone l) given kept.fresh))

pub returns-clause-fresh : goal.returns-clause-fresh
returns-clause-fresh g c = is_fresh g c

pub returns-clause-others : goal.returns-clause-others
returns-clause-others g c = all_other c.args.turns.now.items c.loop-pass.new.items (is_fresh g c)
