use Rattle.std.proofs.Common.{rules, ◌≡◌, ◌<◌, ap, refl, subst, suc, sym, List, map, arith}
use Rattle.std.specs.List.{AllZip}
use Rattle.std.proofs.lemmas.List.Elements.{All-map, All-same, All-weaker}
use Rattle.rd_turn.specs.Pass.{after_split, max_made}
use Rattle.rd_pool.specs.Desks.{DeskPass, IsFirst}
use Rattle.rd_pool.proofs.DeskLemmas.{all_home, still_first}
use Rattle.rd_pool_tests.proofs.side_by_side.run_two.Goals as goal

pub put_two-requires-clause-few : goal.put_two-requires-clause-few
put_two-requires-clause-few g c =
    All-weaker (λ (p : DeskPass g.row.D.Denot). (p.made ≡ 0) × (p.out ≡ 0)) (λ (p : DeskPass g.row.D.Denot). p.made < max_made) (λ p is. omega (arith, is.0)) c.args.passes c.requires.new

pub work_two-passes-requires-clause-first : goal.work_two-passes-requires-clause-first
work_two-passes-requires-clause-first g c κs lives =
    let kept : c.put_two.new.passes ≡ map after_split c.args.passes = search rules in
    subst (λ (l : List (DeskPass g.row.D.Denot)). AllZip IsFirst c.args.desks.turns l) (sym kept) (still_first c.args.desks.turns c.args.passes c.requires.first)

pub work_two-passes-requires-clause-few : goal.work_two-passes-requires-clause-few
work_two-passes-requires-clause-few g c κs lives =
    let kept : c.put_two.new.passes ≡ map after_split c.args.passes = search rules in
    All-same (λ (p : DeskPass g.row.D.Denot). p.made ≡ 1) c.put_two.new.passes (map after_split c.args.passes) kept
    (All-map (λ (p : DeskPass g.row.D.Denot). p.made ≡ 1) after_split c.args.passes
    (All-weaker (λ (p : DeskPass g.row.D.Denot). (p.made ≡ 0) × (p.out ≡ 0)) (λ (p : DeskPass g.row.D.Denot). suc p.made ≡ 1) (λ p is. ap suc is.0) c.args.passes c.requires.new))

pub close-requires-clause-home : goal.close-requires-clause-home
close-requires-clause-home g c =
    let kept : c.put_two.new.passes ≡ map after_split c.args.passes = search rules in
    all_home c.args.passes c.put_two.new.passes c.put_two.new.passes c.work_two-passes.result.0 kept refl c.work_two-passes.ensures.out
    (All-weaker (λ (p : DeskPass g.row.D.Denot). (p.made ≡ 0) × (p.out ≡ 0)) (λ (p : DeskPass g.row.D.Denot). p.out ≡ 0) (λ p is. is.1) c.args.passes c.requires.new)
