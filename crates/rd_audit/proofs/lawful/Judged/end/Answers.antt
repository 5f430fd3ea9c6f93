use Rattle.std.proofs.Common.{◌≡◌, true, false, refl, ◌∙◌, rules}
use Rattle.rd_lawful.specs.Rules.{few_unsent}
use Rattle.rd_audit.proofs.LineLemmas.{few_is}
use Rattle.rd_audit.proofs.lawful.Judged.end.Goals as goal

-- src/lawful.rt:84:13
pub returns-then-may_end : goal.returns-then-may_end
returns-then-may_end c items j =
    let is : few_unsent items ≡ true = few_is items c.may_end.result (c.may_end.ensures items j.taken) ∙ search rules in
    rw is refl

-- src/lawful.rt:79:5
pub returns : goal.returns
returns c items j =
    let is : few_unsent items ≡ false = few_is items c.may_end.result (c.may_end.ensures items j.taken) ∙ search rules in
    rw (is, j.counted, c.number.ensures) refl
