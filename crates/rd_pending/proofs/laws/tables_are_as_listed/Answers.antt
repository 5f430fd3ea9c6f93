use Rattle.std.proofs.Common.{refl}
use Rattle.rd_irp.specs.Completion.{completion_body, success_body}
use Rattle.rd_pending.proofs.laws.tables_are_as_listed.Goals as goal

pub returns-clause-short : goal.returns-clause-short
unfolding completion_body success_body
returns-clause-short c = refl

pub returns-clause-gave : goal.returns-clause-gave
unfolding completion_body success_body
returns-clause-gave c = refl

pub returns-clause-done : goal.returns-clause-done
unfolding completion_body success_body
returns-clause-done c = refl
