use Rattle.rd_irp.proofs.HeadLemmas.{head_spelled, head_enough}
use Rattle.rd_irp.proofs.completion.read_head.Goals as goal

pub returns-clause-spelled : goal.returns-clause-spelled
returns-clause-spelled c = head_spelled _ _ _ _ c.type_inv.bytes c.new-cursor.ensures c.head_of.ensures

pub returns-clause-enough : goal.returns-clause-enough
returns-clause-enough c = head_enough _ _ (head_spelled _ _ _ _ c.type_inv.bytes c.new-cursor.ensures c.head_of.ensures)
