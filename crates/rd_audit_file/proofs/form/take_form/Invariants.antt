use Rattle.std.proofs.Common.{◌≡◌, drop}
use Rattle.rd_audit_file.specs.Taken.{all_forms, form_among}
use Rattle.rd_audit_file.proofs.form.take_form.Given as goal

-- the text begins with the word of none before
abbrev pub invariant-loop-form : goal.invariant-loop-form
invariant-loop-form l = form_among all_forms l.text ≡ form_among (drop l.form-index all_forms) l.text
