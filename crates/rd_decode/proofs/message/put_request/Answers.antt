use Rattle.std.proofs.Common.{rules}
use Rattle.rd_decode.specs.Kept.{awaited_of}
use Rattle.rd_decode.proofs.MessageLemmas.{request_found, request_measured}
use Rattle.rd_decode.proofs.message.put_request.Goals as goal

-- src/message.rt:49:1
pub returns : goal.returns
returns c =
    let head = c.in_ok-head.head in
    let before = awaited_of c.args.requests.now in
    let e = request_measured c.args.message.now head c.in_ok-head.tail c.type_inv.message c.requires c.in_ok-head.ensures.measured in
    (_, request_found c.args.side before c.args.message.now head c.in_ok-head.tail e, c.in_ok-put_request_line.ensures, search rules)
