use Rattle.std.proofs.Common.{rules, ◌≡◌, ◌+◌, ◌<◌, subst, suc, sym, List, map, arith}
use Rattle.std.specs.List.{AllZip}
use Rattle.std.proofs.lemmas.List.Elements.{All-map, All-same, All-weaker}
use Rattle.rd_turn.specs.Pass.{after_split, max_made}
use Rattle.rd_pool.specs.Desks.{DeskPass, IsFirst}
use Rattle.rd_pool.proofs.DeskLemmas.{all_home, still_first}
use Rattle.rd_pool_tests.proofs.alone.work_alone.Goals as goal

pub with_workers-others-requires-clause-first : goal.with_workers-others-requires-clause-first
with_workers-others-requires-clause-first g c κs within =
    let kept : c.new-2.new.passes ≡ map after_split c.args.passes = search rules in
    subst (λ (l : List (DeskPass g.row.D.Denot)). AllZip IsFirst c.args.desks.now.turns l) (sym kept) (still_first c.args.desks.now.turns c.args.passes c.requires.first)

pub with_workers-others-requires-clause-few : goal.with_workers-others-requires-clause-few
with_workers-others-requires-clause-few g c κs within =
    let kept : c.new-2.new.passes ≡ map after_split c.args.passes = search rules in
    All-same (λ (p : DeskPass g.row.D.Denot). p.made + 1 < max_made) c.new-2.new.passes (map after_split c.args.passes) kept
    (All-map (λ (p : DeskPass g.row.D.Denot). p.made + 1 < max_made) after_split c.args.passes
    (All-weaker (λ (p : DeskPass g.row.D.Denot). (p.made ≡ 0) × (p.out ≡ 0)) (λ (p : DeskPass g.row.D.Denot). suc p.made + 1 < max_made) (λ p is. omega (arith, is.0)) c.args.passes c.requires.new))

pub returns-clause-home : goal.returns-clause-home
returns-clause-home g c =
    let kept : c.new-2.new.passes ≡ map after_split c.args.passes = search rules in
    all_home c.args.passes c.new-2.new.passes c.with_workers-others.result.1 c.join.new.passes kept c.with_workers-others.ensures.out c.join.ensures.out
    (All-weaker (λ (p : DeskPass g.row.D.Denot). (p.made ≡ 0) × (p.out ≡ 0)) (λ (p : DeskPass g.row.D.Denot). p.out ≡ 0) (λ p is. is.1) c.args.passes c.requires.new)
