use Rattle.std.proofs.Common.{◌∙◌, sym, ap}
use Rattle.std.specs.Option.{option_copied}
use Rattle.rd_audit_file.specs.declared.form.Form.TheVariants as form
use Rattle.rd_audit_file.specs.Taken.{after_word, all_forms}
use Rattle.rd_audit_file.proofs.LineLemmas.{form_passed}
use Rattle.rd_audit_file.proofs.form.take_form.Goals as goal

pub loop-form-preserved : goal.loop-form-preserved
loop-form-preserved c =
    c.loop-form.invariant
    ∙ form_passed all_forms c.loop-form.form-index form.Device c.args.text.now c.loop-form-test.true
    (sym (c.after.ensures ∙ ap (λ word. after_word word c.args.text.now) c.word.ensures) ∙ ap option_copied c.in_default.is)
