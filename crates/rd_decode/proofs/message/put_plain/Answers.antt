use Rattle.std.proofs.Common.{refl}
use Rattle.rd_decode.proofs.message.put_plain.Goals as goal

-- src/message.rt:97:1
pub returns : goal.returns
returns c = λ awaited. (_, rw c.in_ok-tail.ensures.tail refl, c.in_ok-put_plain_line.ensures, refl)
