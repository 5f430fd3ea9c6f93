use Rattle.std.proofs.Common.{refl}
use Rattle.rd_irp.specs.Completion.{completion_body, success_body}
use Rattle.rd_pending.proofs.laws.outcomes_are_as_listed.Goals as goal

pub returns-clause-done : goal.returns-clause-done
unfolding completion_body success_body
returns-clause-done c = refl

pub returns-clause-own_life : goal.returns-clause-own_life
unfolding completion_body success_body
returns-clause-own_life c = refl
