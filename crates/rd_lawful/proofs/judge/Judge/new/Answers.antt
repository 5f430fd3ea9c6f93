use Rattle.std.proofs.Common.{[], sym, subst}
use Rattle.rd_lawful.specs.Memory.{Remembered}
use Rattle.rd_lawful.specs.Judged.{HasTaken}
use Rattle.rd_lawful.proofs.JudgeLemmas.{taken-none}
use Rattle.rd_lawful.proofs.judge.Judge.new.Goals as goal

pub invariant_of-result : goal.invariant_of-result
invariant_of-result c = ([], subst (λ (m : Remembered). HasTaken m []) (sym c.new.ensures) taken-none)

pub returns : goal.returns
returns c = subst (λ (m : Remembered). HasTaken m []) (sym c.new.ensures) taken-none
