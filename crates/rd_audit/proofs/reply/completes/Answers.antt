use Rattle.rd_audit.proofs.ReplyLemmas.{says_apart, says_body, says_none}
use Rattle.rd_audit.proofs.reply.completes.Goals as goal

pub returns-then-head-reply : goal.returns-then-head-reply
returns-then-head-reply c = says_apart c.args.kind c.args.message.now c.args.reply.now c.in-Ok.head _ c.in-Ok.ensures.spelled c.if-head-reply.true

pub returns-in-Ok-read_body : goal.returns-in-Ok-read_body
returns-in-Ok-read_body c =
    says_body c.args.kind c.args.message.now c.args.reply.now c.in-Ok.head _ c.in-Ok.ensures.spelled c.in-Ok-read_body.body c.in-Ok-read_body.field-0-1 c.is_same.result c.if-head-reply.false
    c.in-Ok-read_body.ensures.spelled c.is_same.ensures

pub returns-in-Err-Bad : goal.returns-in-Err-Bad
returns-in-Err-Bad c =
    says_none c.args.kind c.args.message.now c.args.reply.now c.in-Ok.head _ c.in-Ok.ensures.spelled c.in-Err-Bad.field-0-0 (rw c.in-Err-Bad.field-0-is at c.in-Err-Bad.ensures.refused)
