use Rattle.std.proofs.Common.{◌<◌, ◌%◌, ◌/◌, arith, get_or}
use mir.Syntax.{w64}
use Rattle.std.proofs.lemmas.Nat.Bits.{bit_at_set_other, bit_at_set_same}
use Rattle.rd_pending.proofs.MarkLemmas.{one_word}
use Rattle.rd_pending.proofs.slots.mark.Goals as goal

pub returns : goal.returns
returns c =
    let bit : c.args.id % 64 < 64 = omega arith in
    let word = get_or c.args.marks.now (c.args.id / 64) 0 in
    one_word c.args.marks.now c.args.id _ 1 (omega arith) (bit_at_set_same w64 word (c.args.id % 64) bit)
    (λ b small other. bit_at_set_other w64 word (c.args.id % 64) bit b other)
