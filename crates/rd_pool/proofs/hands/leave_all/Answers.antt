use Rattle.std.proofs.Common.{rules, ◌≡◌, ◌≢◌, subst, sym, ap, [], ◌∷◌, map}
use Rattle.std.proofs.lemmas.List.Elements.{All-head, All-rest, All-same}
use Rattle.rd_desk.specs.Hand.{HandState}
use Rattle.rd_pool.specs.Desks.{DeskPass, IsOther}
use Rattle.rd_pool.proofs.ZipLemmas.{map_all, map_next, zips_all, zips_next}
use Rattle.rd_pool.proofs.hands.leave_all.Goals as goal

pub loop-hand-preserved : goal.loop-hand-preserved
loop-hand-preserved g c =
    let kept = c.loop-hand.invariant in
    let turn_of = λ (hand : HandState g.row.D.Denot). hand.turn in
    let hand = c.in-Some.hand in
    let rest = c.pop_front.new.self.items in
    let is : c.loop-hand.hands.items ≡ hand ∷ rest = c.in-Some.ensures.items in
    let number = All-head (λ (h : HandState g.row.D.Denot). h.pass.number ≢ 0) hand rest (All-same (λ (h : HandState g.row.D.Denot). h.pass.number ≢ 0) (hand ∷ rest) c.loop-hand.hands.items (sym is) kept.others) in
    record {
      passes = zips_next IsOther (map turn_of c.args.hands.items) (map turn_of c.loop-hand.hands.items) (map turn_of rest) c.loop-hand.passes.items c.push_back_reserved.new.self.items hand.turn c.into_pass.result
          (ap (map turn_of) is) c.push_back_reserved.ensures.items
          (record { own = c.into_pass.ensures.own; number = subst (λ (q : DeskPass g.row.D.Denot). q.number ≢ 0) (sym c.into_pass.ensures.same) number; gives = c.into_pass.ensures.gives }) kept.passes;
      same = map_next (λ (h : HandState g.row.D.Denot). h.pass) c.args.hands.items c.loop-hand.hands.items rest c.loop-hand.passes.items c.push_back_reserved.new.self.items hand c.into_pass.result is c.push_back_reserved.ensures.items c.into_pass.ensures.same kept.same;
      others = All-rest (λ (h : HandState g.row.D.Denot). h.pass.number ≢ 0) hand rest c.loop-hand.hands.items is kept.others;
      len = search rules;
      room = search rules;
      capacity = search rules;
    }

pub returns-clause-passes : goal.returns-clause-passes
returns-clause-passes g c =
    let turn_of = λ (hand : HandState g.row.D.Denot). hand.turn in
    let none : c.loop-hand.hands.items ≡ [] = search rules in
    zips_all IsOther (map turn_of c.args.hands.items) (map turn_of c.loop-hand.hands.items) c.loop-hand.passes.items (ap (map turn_of) none) c.loop-hand.invariant.passes

pub returns-clause-same : goal.returns-clause-same
returns-clause-same g c =
    let none : c.loop-hand.hands.items ≡ [] = search rules in
    map_all (λ (hand : HandState g.row.D.Denot). hand.pass) c.args.hands.items c.loop-hand.hands.items c.loop-hand.passes.items none c.loop-hand.invariant.same
