use Rattle.std.proofs.Common.{ap, length}
use Rattle.rd_base.proofs.LayoutLemmas.{reader_spells}
use Rattle.rd_irp.specs.Completion.{completion_body}
use Rattle.rd_irp.proofs.completion.read_body.Goals as goal

pub returns-clause-spelled : goal.returns-clause-spelled
returns-clause-spelled c =
    (length c.rest.result.now, c.tail_len.ensures, reader_spells (completion_body c.args.kind c.args.status) _ _ _ _ _ c.type_inv.bytes c.new-cursor.ensures c.in_ok-body.ensures.read (ap length c.rest.ensures))
