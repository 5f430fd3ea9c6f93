use Rattle.std.proofs.Common.{arith}
use Rattle.rd_irp.proofs.OpLemmas.{length-op_bytes}
use Rattle.rd_irp.proofs.WrittenLemmas.{request_spelled}
use Rattle.rd_irp.proofs.request.append.Goals as goal

pub returns-clause-spelled : goal.returns-clause-spelled
returns-clause-spelled c =
    let head = c.put_request_head.ensures in
    request_spelled c.args.request.now c.requires.fits c.put_op.ensures.in_range head.device head.file head.completion

pub returns-clause-length : goal.returns-clause-length
returns-clause-length c = omega (arith, length-op_bytes c.args.request.now.op c.requires.fits)
