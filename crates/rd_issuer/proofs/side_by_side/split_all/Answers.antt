use Rattle.std.proofs.Common.{◌∙◌, sym, ap, subst, [], ◌∷◌, length, length-append, arith, rules}
use Rattle.std.proofs.lemmas.List.Elements.{All-push}
use Rattle.std.specs.Prelude.{All}
use Rattle.rd_issuer.specs.Issues.{TablePass}
use Rattle.rd_issuer.specs.Stints.{IsFresh}
use Rattle.rd_issuer.proofs.StintLemmas.{split_kept, split_next}
use Rattle.rd_issuer.proofs.side_by_side.split_all.Goals as goal

pub loop-issuer-preserved : goal.loop-issuer-preserved
loop-issuer-preserved c =
    let i = c.loop-issuer.invariant in
    let step = c.in-Some.ensures.steps.0 in
    let left = ap length step in
    let own = c.split-own.ensures.kept in record {
      own = search rules;
      first = ap (λ (p : TablePass). p.number) own ∙ i.first;
      few = omega (arith, left, ap (λ (p : TablePass). p.made) own);
      room = omega (arith, left, ap length c.push_reserved.ensures.items, length-append c.loop-issuer.stints.items (c.new.result ∷ []));
      kept = split_kept c.loop-issuer.pass c.split-own.new.pass c.in-Some.issuer c.loop-issuer.issuer-iterator.rest.items c.next.new.self.rest.items step own ∙ i.kept;
      stints = split_next c.args.turn.now c.loop-issuer.pass c.split-own.new.pass c.split-own.result c.in-Some.issuer c.loop-issuer.issuer-iterator.rest.items c.next.new.self.rest.items c.loop-issuer.stints.items
          c.push_reserved.new.self.items c.new.result step own c.split-own.ensures.given c.new.ensures c.push_reserved.ensures.items ∙ i.stints;
      fresh = subst (All IsFresh) (sym c.push_reserved.ensures.items) (All-push IsFresh c.loop-issuer.stints.items c.new.result i.fresh (subst IsFresh (sym c.new.ensures) c.split-own.ensures.fresh));
    }
