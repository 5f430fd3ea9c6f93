use Rattle.std.proofs.Common.{rules, ◌≡◌, subst, ◌+◌, [], ◌∷◌, drop, get_or}
use Rattle.std.specs.List.{zip}
use Rattle.std.proofs.lemmas.List.{drop_more}
use Rattle.rd_turn.specs.Pass.{Belongs}
use Rattle.rd_pool.specs.Desks.{DeskTurn, IsFirst, IsJoined, IsOther}
use Rattle.rd_pool.proofs.DeskLemmas.{is_joined, joined_first, outs_joined}
use Rattle.rd_pool.proofs.ZipLemmas.{both_some, zip_cons, zip_here, zip_nothing, zip_within, zips_all, zips_next}
use Rattle.rd_pool.proofs.desks.join_all.Goals as goal

pub unreachable-requires : goal.unreachable-requires
unreachable-requires g c =
    let is : c.loop-pass.from.items ≡ c.in-Some.pass ∷ c.pop_front.new.self.items = c.in-Some.ensures.items in
    let none : c.loop-pass.others.items ≡ [] = search rules in
    both_some IsFirst IsOther (drop c.loop-pass.at c.args.turns.now.items) c.in-Some.pass c.pop_front.new.self.items c.loop-pass.from.items c.loop-pass.others.items is c.loop-pass.invariant.first c.loop-pass.invariant.others none

pub loop-pass-preserved : goal.loop-pass-preserved
loop-pass-preserved g c =
    let kept = c.loop-pass.invariant in
    let turns = c.args.turns.now.items in
    let at = c.loop-pass.at in
    let t = get_or turns at c.index.result.now in
    let p = c.in-Some.pass in
    let ps = c.pop_front.new.self.items in
    let q = c.in-Some-pop_front.other in
    let qs = c.pop_front-in-Some.new.self.items in
    let passes : c.loop-pass.from.items ≡ p ∷ ps = c.in-Some.ensures.items in
    let others : c.loop-pass.others.items ≡ q ∷ qs = c.in-Some-pop_front.ensures.items in
    let first = zip_here IsFirst turns at c.index.result.now p ps c.loop-pass.from.items passes kept.first in
    let other = zip_here IsOther turns at c.index.result.now q qs c.loop-pass.others.items others kept.others in
    let here : c.index.result.now ≡ t = c.index.ensures in
    let own = subst (λ (x : DeskTurn g.row.D.Denot). Belongs x c.join.new.pass) here c.join.ensures.own in
    record {
      joined = zips_next IsJoined (zip c.args.from.now.items c.args.others.now.items) (zip c.loop-pass.from.items c.loop-pass.others.items) (zip ps qs) c.loop-pass.to.items c.push_back_reserved.new.self.items
          (p, q) c.join.new.pass (zip_cons p ps c.loop-pass.from.items q qs c.loop-pass.others.items passes others) c.push_back_reserved.ensures.items
          (is_joined t p q c.join.new.pass first.0.own own c.join.ensures.counts c.join.ensures.joined c.join.ensures.longer c.join.ensures.other_calls c.join.ensures.goes_on) kept.joined;
      ready = zips_next IsFirst turns (drop at turns) (drop (at + 1) turns) c.loop-pass.to.items c.push_back_reserved.new.self.items t c.join.new.pass
          (drop_more turns at c.index.result.now (zip_within IsFirst turns at p ps c.loop-pass.from.items passes kept.first)) c.push_back_reserved.ensures.items
          (joined_first t p q c.join.new.pass first.0 other.0 own c.join.ensures.counts.0 c.join.ensures.joined c.join.ensures.other_calls c.join.ensures.goes_on) kept.ready;
      first = first.1;
      others = other.1;
      len = search rules;
      room = search rules;
      capacity = search rules;
    }

pub returns-clause-out : goal.returns-clause-out
returns-clause-out g c =
    let none : c.loop-pass.from.items ≡ [] = search rules in
    let all = zip c.args.from.now.items c.args.others.now.items in
    outs_joined c.args.turns.now.items c.args.from.now.items c.args.others.now.items c.loop-pass.to.items c.requires.first c.requires.others
    (zips_all IsJoined all (zip c.loop-pass.from.items c.loop-pass.others.items) c.loop-pass.to.items (zip_nothing c.loop-pass.from.items c.loop-pass.others.items none) c.loop-pass.invariant.joined)
