use Rattle.rd_irp.specs.Written.{body_bytes}
use Rattle.rd_irp.proofs.WrittenLemmas.{head_spelled, length-body_bytes, body_spelled}
use Rattle.rd_irp.proofs.completion.append.Goals as goal

pub returns-clause-head : goal.returns-clause-head
returns-clause-head c =
    let head = c.put_head.ensures in
    head_spelled c.args.head.now (body_bytes c.args.kind c.args.body.now) _ (length-body_bytes c.args.kind c.args.body.now) head.device head.completion head.status

pub returns-clause-body : goal.returns-clause-body
returns-clause-body c = body_spelled c.args.kind c.args.head.now.status c.args.body.now c.requires.fits c.append_body.ensures.in_range
