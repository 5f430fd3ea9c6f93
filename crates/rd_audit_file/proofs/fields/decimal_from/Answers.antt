use Rattle.std.proofs.Common.{◌∙◌, sym, arith, ◌*◌, ◌^◌, ◌+◌, ◌<◌}
use Rattle.rd_audit_file.proofs.DecimalLemmas.{all_digits, past_more}
use Rattle.rd_audit_file.proofs.fields.decimal_from.Goals as goal

pub returns-in_err-checked_mul : goal.returns-in_err-checked_mul
returns-in_err-checked_mul c =
    let over : c.loop-byte.value * 10 < 2 ^ 64 → ⊥ = c.in_err-checked_mul.ensures in
    c.from_residual-in_err-checked_mul.ensures
    ∙ sym (past_more c.loop-byte.value c.in_ok-digit.digit c.loop-byte.byte-index c.args.digits.now c.loop-byte-test.true (sym c.decimal_digit_of.ensures ∙ c.in_ok-digit.was) (omega (arith, over)))
    ∙ c.loop-byte.invariant.said

pub returns-in_err-value : goal.returns-in_err-value
returns-in_err-value c =
    let over : c.in_ok-checked_mul.field-0 + c.in_ok-digit.digit < 2 ^ 64 → ⊥ = c.in_err-value.ensures in
    c.from_residual-in_err-value.ensures
    ∙ sym (past_more c.loop-byte.value c.in_ok-digit.digit c.loop-byte.byte-index c.args.digits.now c.loop-byte-test.true (sym c.decimal_digit_of.ensures ∙ c.in_ok-digit.was) (omega (arith, over, c.in_ok-checked_mul.ensures.1)))
    ∙ c.loop-byte.invariant.said

pub returns : goal.returns
returns c = sym (all_digits c.loop-byte.value c.loop-byte.byte-index c.args.digits.now (omega arith) c.loop-byte.invariant.fits) ∙ c.loop-byte.invariant.said
