use Rattle.std.proofs.Common.{rules, ◌≡◌, ◌≢◌, ◌∙◌, subst, sym, ◌+◌, [], ◌∷◌, drop, get_or}
use Rattle.std.proofs.lemmas.List.{drop_more}
use Rattle.rd_desk.specs.Hand.{HandState}
use Rattle.rd_pool.specs.Desks.{DeskPass, IsFresh, IsByHand, AllByHand}
use Rattle.rd_pool.proofs.CallsLemmas.{new_holds}
use Rattle.rd_pool.proofs.ZipLemmas.{all_next, mapped_all, mapped_next, zip_here, zip_none, zip_within}
use Rattle.rd_pool.proofs.hands.take_all.Goals as goal

pub loop-pass-preserved : goal.loop-pass-preserved
loop-pass-preserved g c =
    let kept = c.loop-pass.invariant in
    let turns = c.args.turns.now.items in
    let at = c.loop-pass.at in
    let d = c.index.result.now in
    let p = c.in-Some.pass in
    let ps = c.pop_front.new.self.items in
    let hands = c.loop-pass.hands.items in
    let next = c.push_back_reserved.new.self.items in
    let passes : c.loop-pass.passes.items ≡ p ∷ ps = c.in-Some.ensures.items in
    let first = zip_here IsFresh turns at d p ps c.loop-pass.passes.items passes kept.fresh in
    record {
      turns = mapped_next (λ (hand : HandState g.row.D.Denot). hand.turn) turns (drop at turns) (drop (at + 1) turns) hands next c.new.result (get_or turns at d)
          (drop_more turns at d (zip_within IsFresh turns at p ps c.loop-pass.passes.items passes kept.fresh)) c.push_back_reserved.ensures.items (c.new.ensures.0 ∙ c.index.ensures) kept.turns;
      passes = mapped_next (λ (hand : HandState g.row.D.Denot). hand.pass) c.args.passes.now.items c.loop-pass.passes.items ps hands next c.new.result p passes c.push_back_reserved.ensures.items c.new.ensures.1 kept.passes;
      fresh = first.1;
      others = all_next (λ (hand : HandState g.row.D.Denot). hand.pass.number ≢ 0) hands next c.new.result c.push_back_reserved.ensures.items
          (subst (λ (q : DeskPass g.row.D.Denot). q.number ≢ 0) (sym c.new.ensures.1) first.0.number) kept.others;
      by_hand = all_next (λ (hand : HandState g.row.D.Denot). AllByHand hand.pass) hands next c.new.result c.push_back_reserved.ensures.items
          (subst AllByHand (sym c.new.ensures.1) (new_holds IsByHand (get_or turns at d) p first.0)) kept.by_hand;
      room = search rules;
      capacity = search rules;
    }

pub returns-clause-turns : goal.returns-clause-turns
returns-clause-turns g c =
    let none : c.loop-pass.passes.items ≡ [] = search rules in
    mapped_all (λ (hand : HandState g.row.D.Denot). hand.turn) c.args.turns.now.items (drop c.loop-pass.at c.args.turns.now.items) c.loop-pass.hands.items
    (zip_none IsFresh (drop c.loop-pass.at c.args.turns.now.items) c.loop-pass.passes.items none c.loop-pass.invariant.fresh) c.loop-pass.invariant.turns
