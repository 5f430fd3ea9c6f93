use Rattle.std.proofs.Common.{ap, length}
use Rattle.rd_irp.proofs.RequestLemmas.{read_whole, read_malformed}
use Rattle.rd_irp.proofs.request.read_request.Goals as goal
use Rattle.rd_irp.proofs.request.read_request.Goals.{in-Ok, in-Err-Bad}

pub returns-clause-spelled : goal.returns-clause-spelled
returns-clause-spelled c =
    elim c.match-read_op.branch [
      | in-Ok w ↦ rw w.op-is (length w.rest-in-Ok.result.now, w.tail_len.ensures, read_whole _ _ _ _ _ _ _ c.type_inv.bytes c.new-cursor.ensures c.in_ok-head.ensures w.in-Ok.ensures (ap length w.rest-in-Ok.ensures))
      | in-Err-Bad w ↦ rw (w.op-is, w.in-Err-Bad.bad-is) (length c.rest.result.now, c.tail_len-after_head.ensures, read_malformed _ _ _ c.read_op.new.cursor _ _ _ _ c.type_inv.bytes c.new-cursor.ensures c.in_ok-head.ensures w.in-Err-Bad.field-0-is w.in-Err-Bad.ensures (ap length c.rest.ensures))
    ]
