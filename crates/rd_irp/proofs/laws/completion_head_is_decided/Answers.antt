use Rattle.rd_irp.specs.Completion.{completion_head}
use Rattle.rd_base.proofs.LayoutLemmas.{layout_one_of}
use Rattle.rd_irp.proofs.laws.completion_head_is_decided.Goals as goal

pub returns : goal.returns
returns c = layout_one_of completion_head _ c.type_inv.bytes
