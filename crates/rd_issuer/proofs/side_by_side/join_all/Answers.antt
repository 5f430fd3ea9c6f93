use Rattle.std.proofs.Common.{◌≡◌, ◌∙◌, refl, sym, ap, subst, ℕ, true, List, [], ◌∷◌, ◌++◌, length, map, append-nil, append_assoc, length-append, arith, rules}
use Rattle.std.specs.Prelude.{All}
use Rattle.std.proofs.lemmas.List.{map-append, nil_from_length}
use Rattle.std.proofs.lemmas.List.Elements.{All-push, All-tail}
use Rattle.rd_turn.specs.History.{calls_of}
use Rattle.rd_issuer.specs.Stints.{CameHome, StintState, issuer_of}
use Rattle.rd_issuer.proofs.StintLemmas.{all_came, goes_on_none, goes_on_then}
use Rattle.rd_issuer.proofs.side_by_side.join_all.Goals as goal

pub loop-stint-init : goal.loop-stint-init
loop-stint-init c =
    let all : c.into_iter-stint-iterator.result.rest.items ≡ c.args.stints.items = search rules in record {
      done = [];
      whole = sym all;
      own = c.requires.own;
      first = c.requires.first;
      made = refl;
      out = omega arith;
      more = [];
      joined = refl;
      goes_on = goes_on_none c.args.pass.now;
      came = λ place d within. absurd (omega arith);
      turns = subst (All (λ (s : StintState). s.turn ≡ c.args.turn.now)) (sym all) c.requires.turns;
      room = omega (arith, ap length all, ap length c.requires.none, c.requires.room);
      issuers = c.requires.none;
      all = λ was place d within. absurd (omega arith);
    }

pub loop-stint-preserved : goal.loop-stint-preserved
loop-stint-preserved c =
    let i = c.loop-stint.invariant in
    let s = c.in-Some.stint in
    let other = c.into_parts-other.result.0 in
    let step = c.in-Some.ensures.steps.0 in
    let j : ℕ × ℕ = (other.number, length (calls_of other.number other.seen)) in record {
      done = i.done ++ s ∷ [];
      whole = i.whole ∙ (ap (λ (l : List StintState). i.done ++ l) step ∙ sym (append_assoc i.done (s ∷ []) c.next.new.self.rest.items));
      own = c.join.ensures.own;
      first = c.join.ensures.counts.0;
      made = c.join.ensures.counts.1 ∙ i.made;
      out = omega (arith, length-append i.done (s ∷ []), c.join.ensures.counts.2, i.out);
      more = j ∷ i.more;
      joined = c.join.ensures.joined ∙ ap (λ l. j ∷ l) i.joined;
      goes_on = goes_on_then c.args.pass.now c.loop-stint.pass c.join.new.pass i.more c.requires.first i.first i.joined i.goes_on c.join.ensures.goes_on;
      came = all_came c.loop-stint.pass c.join.new.pass other i.done s i.first c.into_parts-other.ensures.pass c.join.ensures.joined c.join.ensures.other_calls c.join.ensures.goes_on i.came;
      turns = All-tail (λ (t : StintState). t.turn ≡ c.args.turn.now) s c.next.new.self.rest.items (subst (All (λ (t : StintState). t.turn ≡ c.args.turn.now)) step i.turns);
      room = omega (arith, ap length step, ap length c.push_reserved.ensures.items, length-append c.loop-stint.home.items (c.into_parts-other.result.1 ∷ []), i.room);
      issuers = c.push_reserved.ensures.items
          ∙ (ap (λ l. l ++ c.into_parts-other.result.1 ∷ []) i.issuers ∙ (ap (λ x. map issuer_of i.done ++ x ∷ []) c.into_parts-other.ensures.issuer ∙ sym (map-append issuer_of i.done (s ∷ []))));
      all = λ was. All-push (λ (t : StintState). t.found ≡ true) i.done s (i.all (search rules)) (search rules);
    }

pub returns-then-not-found-clause-home : goal.returns-then-not-found-clause-home
returns-then-not-found-clause-home c =
    let none : c.loop-stint.stint-iterator.rest.items ≡ [] = nil_from_length _ (sym c.loop-stint.stint-iterator.rest.ok.0 ∙ c.in-None.ensures.steps.0) in
    let i = c.loop-stint.invariant in
    let whole : c.args.stints.items ≡ i.done = i.whole ∙ (ap (λ (l : List StintState). i.done ++ l) none ∙ append-nil i.done) in
    subst (All (λ (s : StintState). CameHome c.loop-stint.pass s.pass)) (sym whole) i.came

pub returns-clause-home : goal.returns-clause-home
returns-clause-home c =
    let none : c.loop-stint.stint-iterator.rest.items ≡ [] = nil_from_length _ (sym c.loop-stint.stint-iterator.rest.ok.0 ∙ c.in-None.ensures.steps.0) in
    let i = c.loop-stint.invariant in
    let whole : c.args.stints.items ≡ i.done = i.whole ∙ (ap (λ (l : List StintState). i.done ++ l) none ∙ append-nil i.done) in
    subst (All (λ (s : StintState). CameHome c.loop-stint.pass s.pass)) (sym whole) i.came

pub returns-then-not-found-clause-kept : goal.returns-then-not-found-clause-kept
returns-then-not-found-clause-kept c = (c.loop-stint.invariant.more, c.loop-stint.invariant.joined)

pub returns-clause-kept : goal.returns-clause-kept
returns-clause-kept c = (c.loop-stint.invariant.more, c.loop-stint.invariant.joined)
