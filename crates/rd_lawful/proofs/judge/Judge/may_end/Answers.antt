use Rattle.std.proofs.Common.{sym, subst}
use Rattle.rd_lawful.specs.Memory.{Remembered}
use Rattle.rd_lawful.specs.Judged.{HasTaken}
use Rattle.rd_lawful.proofs.JudgeLemmas.{ends-decides}
use Rattle.rd_lawful.proofs.judge.Judge.may_end.Goals as goal

pub returns : goal.returns
returns c items taken =
    ends-decides c.self.inside.memory items (subst (λ (m : Remembered). HasTaken m items) (sym c.self.view_is) taken) c.few_unsent.result c.few_unsent.ensures
