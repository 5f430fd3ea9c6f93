use Rattle.rd_irp.specs.Completion.{completion_body}
use Rattle.rd_base.proofs.LayoutLemmas.{layout_one_of}
use Rattle.rd_irp.proofs.laws.completion_body_is_decided.Goals as goal

pub returns : goal.returns
returns c = layout_one_of (completion_body c.args.kind c.args.status) _ c.type_inv.bytes
