use Rattle.std.proofs.Common.{refl}
use Rattle.rd_base.proofs.LayoutLemmas.{meets}
use Rattle.rd_irp.specs.Completion.{completion_body}
use Rattle.rd_pending.proofs.replies.read_reply.Goals as goal

pub returns-in-Ok-clause-reply : goal.returns-in-Ok-clause-reply
returns-in-Ok-clause-reply c =
    let spelled = c.in-Ok.ensures.spelled in
    let read = meets (completion_body c.args.kind c.args.status) 0 c.args.bytes.now c.in-Ok.body spelled.0 spelled.2 in
    (refl, read.0, read.1)
