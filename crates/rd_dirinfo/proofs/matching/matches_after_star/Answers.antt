use Rattle.std.proofs.Common.{◌∙◌, sym, length, eqb-true}
use Rattle.rd_dirinfo.specs.Naming.{seen}
use Rattle.rd_dirinfo.proofs.PatternLemmas.{star_whole}
use Rattle.rd_dirinfo.proofs.WalkLemmas.{ends_in_star, steps_on, nothing_left}
use Rattle.rd_dirinfo.proofs.matching.matches_after_star.Goals as goal

pub returns-in-Whole : goal.returns-in-Whole
returns-in-Whole c = sym (c.loop-pattern.invariant ∙ star_whole (seen c.args.naming c.loop-pattern.pattern.now) (seen c.args.naming c.loop-pattern.name.now) c.in-Whole.ensures)

pub loop-pattern-preserved : goal.loop-pattern-preserved
loop-pattern-preserved c = c.loop-pattern.invariant ∙ steps_on c.args.naming c.loop-pattern.pattern.now c.loop-pattern.name.now c.in-Some.field-0-0.now c.in-Some.rest.now c.in-Some.ensures.cases.0 c.in-Differs.ensures

pub returns-in-None : goal.returns-in-None
returns-in-None c = sym (c.loop-pattern.invariant ∙ nothing_left c.args.naming c.loop-pattern.pattern.now c.loop-pattern.name.now c.in-None.ensures.cases c.in-Differs.ensures)

pub returns-then-is_empty : goal.returns-then-is_empty
returns-then-is_empty c = sym (c.loop-pattern.invariant ∙ ends_in_star c.args.naming c.loop-pattern.pattern.now c.loop-pattern.name.now (eqb-true (length c.loop-pattern.pattern.now) 0 (sym c.is_empty.ensures ∙ c.if-is_empty.true)))
