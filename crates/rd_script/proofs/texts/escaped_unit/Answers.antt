use Rattle.std.proofs.Common.{◌∙◌, sym, arith}
use Rattle.std.proofs.lemmas.Grind.{common_steps}
use Rattle.rd_script.specs.Texts.{units_after}
use Rattle.rd_script.proofs.NumberLemmas.{four_fit}
use Rattle.rd_script.proofs.TextLemmas.{four_units, no_zero_unit, unit_kept}
use Rattle.rd_script.proofs.texts.escaped_unit.Goals as goal

pub overflow_cast-result : goal.overflow_cast-result
overflow_cast-result c = omega (arith, four_fit c.split_at.result.0.now c.in_ok-unit.unit (omega (arith, c.split_at.ensures.front_len)) (sym c.digits_from.ensures ∙ c.in_ok-unit.was))

pub returns-then-digits-lt4-clause-units : goal.returns-then-digits-lt4-clause-units
returns-then-digits-lt4-clause-units c = grind (arith, common_steps)

pub returns-in_err-unit-clause-units : goal.returns-in_err-unit-clause-units
returns-in_err-unit-clause-units c = grind (arith, common_steps)

pub returns-clause-shorter : goal.returns-clause-shorter
returns-clause-shorter c = grind (arith, common_steps)

pub returns-then-unit-eq0-clause-units : goal.returns-then-unit-eq0-clause-units
returns-then-unit-eq0-clause-units c =
    four_units c.args.digits.now c.split_at.result.0.now c.split_at.result.1.now c.in_ok-unit.unit c.if-digits-lt4.false c.split_at.ensures.front c.split_at.ensures.back (sym c.digits_from.ensures ∙ c.in_ok-unit.was)
    ∙ no_zero_unit c.in_ok-unit.unit (units_after 0 c.split_at.result.1.now) c.if-unit-eq0.true

pub returns-clause-units : goal.returns-clause-units
returns-clause-units c =
    four_units c.args.digits.now c.split_at.result.0.now c.split_at.result.1.now c.in_ok-unit.unit c.if-digits-lt4.false c.split_at.ensures.front c.split_at.ensures.back (sym c.digits_from.ensures ∙ c.in_ok-unit.was)
    ∙ unit_kept c.in_ok-unit.unit (units_after 0 c.split_at.result.1.now) c.if-unit-eq0.false
