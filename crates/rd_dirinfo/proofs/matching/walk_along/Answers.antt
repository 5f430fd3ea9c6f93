use Rattle.std.proofs.Common.{length, arith, inl, inr, eqb-true, refl, ◌∙◌, sym}
use Rattle.rd_dirinfo.specs.Naming.{seen, seen_unit}
use Rattle.rd_dirinfo.proofs.PatternLemmas.{walk_begins}
use Rattle.rd_dirinfo.proofs.WalkLemmas.{meets_star, meets_end, goes_on, meets_other, meets_both, ends_before}
use Rattle.rd_dirinfo.proofs.matching.walk_along.Goals as goal
use Rattle.rd_dirinfo.proofs.matching.walk_along.Goals.{else-wanted-ne-QUESTION-via-then-wanted-ne-QUESTION+else-wanted-see, else-wanted-ne-QUESTION-via-else-wanted-ne-QUESTION}

pub loop-first-init : goal.loop-first-init
loop-first-init c = record {
  walked = walk_begins (seen c.args.naming c.args.pattern.now) (seen c.args.naming c.args.name.now);
  shorter = omega arith;
  within = omega arith;
}

pub returns-then-wanted-eq-STAR : goal.returns-then-wanted-eq-STAR
returns-then-wanted-eq-STAR c =
    let both = meets_star c.args.naming c.args.pattern.now c.args.name.now c.loop-first.pattern.now c.loop-first.name.now c.loop-first.invariant.walked c.in-Some.first.now c.see-wanted.result c.in-Some.others.now c.in-Some.ensures.cases.0 c.see-wanted.ensures c.if-wanted-eq-STAR.true in
    (both.0, both.1, omega (arith, c.in-Some.ensures), c.loop-first.invariant.within)

pub returns-in_default-split_first : goal.returns-in_default-split_first
returns-in_default-split_first c =
    meets_end c.args.naming c.args.pattern.now c.args.name.now c.loop-first.pattern.now c.loop-first.name.now c.loop-first.invariant.walked c.in-Some.first.now c.see-wanted.result c.in-Some.others.now c.in-Some.ensures.cases.0 c.in_default-split_first.ensures.cases c.see-wanted.ensures c.if-wanted-eq-STAR.false

pub returns-then-wanted-see : goal.returns-then-wanted-see
returns-then-wanted-see c =
    meets_other c.args.naming c.args.pattern.now c.args.name.now c.loop-first.pattern.now c.loop-first.name.now c.loop-first.invariant.walked c.in-Some.first.now c.see-wanted.result c.in-Some.others.now c.in-Some-split_first.unit.now c.see.result c.in-Some-split_first.rest.now
    c.in-Some.ensures.cases.0 c.in-Some-split_first.ensures.cases.0 c.see-wanted.ensures c.see.ensures c.if-wanted-eq-STAR.false c.if-wanted-ne-QUESTION.true c.if-wanted-see.true

pub loop-first-preserved : goal.loop-first-preserved
loop-first-preserved c = record {
  walked = goes_on c.args.naming c.args.pattern.now c.args.name.now c.loop-first.pattern.now c.loop-first.name.now c.loop-first.invariant.walked c.in-Some.first.now c.see-wanted.result c.in-Some.others.now c.in-Some-split_first.unit.now (seen_unit c.args.naming c.in-Some-split_first.unit.now) c.in-Some-split_first.rest.now
      c.in-Some.ensures.cases.0 c.in-Some-split_first.ensures.cases.0 c.see-wanted.ensures refl c.if-wanted-eq-STAR.false
      (elim c.else-wanted-ne-QUESTION.branch [
        | else-wanted-ne-QUESTION-via-then-wanted-ne-QUESTION+else-wanted-see w ↦ inr (w.if-wanted-see.false ∙ w.see.ensures)
        | else-wanted-ne-QUESTION-via-else-wanted-ne-QUESTION w ↦ inl w.if-wanted-ne-QUESTION.false
      ]);
  shorter = omega (arith, c.in-Some.ensures);
  within = omega (arith, c.in-Some-split_first.ensures);
}

pub returns-then-is_empty : goal.returns-then-is_empty
returns-then-is_empty c =
    meets_both c.args.naming c.args.pattern.now c.args.name.now c.loop-first.pattern.now c.loop-first.name.now c.loop-first.invariant.walked c.in_default.ensures.cases (eqb-true (length c.loop-first.name.now) 0 (sym c.is_empty.ensures ∙ c.if-is_empty.true))

pub returns-else-is_empty : goal.returns-else-is_empty
returns-else-is_empty c =
    ends_before c.args.naming c.args.pattern.now c.args.name.now c.loop-first.pattern.now c.loop-first.name.now c.loop-first.invariant.walked c.in_default.ensures.cases (sym c.is_empty.ensures ∙ c.if-is_empty.false)
