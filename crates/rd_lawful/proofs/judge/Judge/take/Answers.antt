use Rattle.std.proofs.Common.{◌∙◌, [], ◌∷◌, ◌++◌, ap, sym, subst}
use Rattle.rd_lawful.specs.Memory.{Remembered, broken_by}
use Rattle.rd_lawful.specs.Judged.{HasTaken}
use Rattle.rd_lawful.proofs.JudgeLemmas.{judged, taken-more}
use Rattle.rd_lawful.proofs.MemoryLemmas.{some_unsent}
use Rattle.rd_lawful.proofs.judge.Judge.take.Goals as goal

pub returns-in-Some-clause-verdict : goal.returns-in-Some-clause-verdict
returns-in-Some-clause-verdict c items taken =
    sym c.in-Some.is ∙ c.broken_by.ensures ∙ judged c.self.inside.memory items (subst (λ (m : Remembered). HasTaken m items) (sym c.self.view_is) taken) c.args.entry

pub remember-requires-clause-sent : goal.remember-requires-clause-sent
remember-requires-clause-sent c key is =
    let (items, taken) = c.self.invariant in
    some_unsent items c.self.inside.memory taken.memory key (ap (broken_by c.self.inside.memory) (sym is) ∙ sym c.broken_by.ensures ∙ c.in_default.is)

pub invariant_of-self-2 : goal.invariant_of-self-2
invariant_of-self-2 c =
    let (items, taken) = c.self.invariant in
    (items ++ c.args.entry ∷ [], subst (λ (m : Remembered). HasTaken m (items ++ c.args.entry ∷ [])) (sym c.in_ok-remember.ensures.ok) (taken-more c.self.inside.memory items taken c.args.entry (sym c.broken_by.ensures ∙ c.in_default.is)))

pub returns-clause-verdict : goal.returns-clause-verdict
returns-clause-verdict c items taken =
    sym c.in_default.is ∙ c.broken_by.ensures ∙ judged c.self.inside.memory items (subst (λ (m : Remembered). HasTaken m items) (sym c.self.view_is) taken) c.args.entry

pub returns-clause-taken : goal.returns-clause-taken
returns-clause-taken c items taken =
    let inside : HasTaken c.self.inside.memory items = subst (λ (m : Remembered). HasTaken m items) (sym c.self.view_is) taken in
    subst (λ (m : Remembered). HasTaken m (items ++ c.args.entry ∷ [])) (sym c.in_ok-remember.ensures.ok) (taken-more c.self.inside.memory items inside c.args.entry (sym c.broken_by.ensures ∙ c.in_default.is))
