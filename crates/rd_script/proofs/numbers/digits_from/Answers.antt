use Rattle.std.proofs.Common.{◌∙◌, sym, arith, ◌*◌, ◌^◌, ◌+◌, ◌<◌}
use Rattle.rd_script.proofs.NumberLemmas.{past_more, all_digits}
use Rattle.rd_script.proofs.numbers.digits_from.Goals as goal

pub returns-in_err-checked_mul : goal.returns-in_err-checked_mul
returns-in_err-checked_mul c =
    let over : c.loop-byte.value * c.args.base < 2 ^ 64 → ⊥ = c.in_err-checked_mul.ensures in
    c.from_residual-in_err-checked_mul.ensures
    ∙ sym (past_more c.args.base c.loop-byte.value c.in_ok-digit.digit c.loop-byte.byte-index c.args.digits.now c.loop-byte-test.true c.requires (sym c.digit_of.ensures ∙ c.in_ok-digit.was) (omega (arith, over)))
    ∙ c.loop-byte.invariant.said

pub returns-in_err-value : goal.returns-in_err-value
returns-in_err-value c =
    let over : c.in_ok-checked_mul.field-0 + c.in_ok-digit.digit < 2 ^ 64 → ⊥ = c.in_err-value.ensures in
    c.from_residual-in_err-value.ensures
    ∙ sym (past_more c.args.base c.loop-byte.value c.in_ok-digit.digit c.loop-byte.byte-index c.args.digits.now c.loop-byte-test.true c.requires (sym c.digit_of.ensures ∙ c.in_ok-digit.was) (omega (arith, over, c.in_ok-checked_mul.ensures.1)))
    ∙ c.loop-byte.invariant.said

pub returns : goal.returns
returns c = sym (all_digits c.args.base c.loop-byte.value c.loop-byte.byte-index c.args.digits.now (omega arith) c.loop-byte.invariant.fits) ∙ c.loop-byte.invariant.said
