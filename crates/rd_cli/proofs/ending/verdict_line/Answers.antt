use Rattle.std.proofs.Common.{◌∙◌, append_assoc}
use Rattle.std.proofs.lemmas.Result.{IfOk-weaker}
use Rattle.rd_cli.proofs.ending.verdict_line.Goals as goal

pub returns-in-Item : goal.returns-in-Item
returns-in-Item c = rw c.in-Item.is (IfOk-weaker c.format.result _ _ (λ s is. is ∙ simp (append_assoc)) c.format.ensures.ok)

pub returns-in-Mark : goal.returns-in-Mark
returns-in-Mark c = rw c.in-Mark.is (IfOk-weaker c.format-in-Mark.result _ _ (λ s is. is ∙ simp (append_assoc)) c.format-in-Mark.ensures.ok)

pub returns-in-Entry : goal.returns-in-Entry
returns-in-Entry c = rw c.in-Entry.is (IfOk-weaker c.format-in-Entry.result _ _ (λ s is. is ∙ simp (append_assoc, c.audit_word-word.ensures)) c.format-in-Entry.ensures.ok)
