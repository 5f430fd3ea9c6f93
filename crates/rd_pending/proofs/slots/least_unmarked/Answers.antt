use Rattle.rd_pending.proofs.MarkLemmas.{least_place, word_set}
use Rattle.rd_pending.proofs.slots.least_unmarked.Goals as goal

pub returns-then-bit-lt64 : goal.returns-then-bit-lt64
returns-then-bit-lt64 c =
    least_place c.args.marks.now c.loop-word.word c.trailing_ones-bit.result c.loop-word-test.true (c.fits-marks c.loop-word.word) c.trailing_ones-bit.ensures c.if-bit-lt64.true
    c.loop-word.invariant

pub loop-word-preserved : goal.loop-word-preserved
loop-word-preserved c =
    word_set c.args.marks.now c.loop-word.word c.trailing_ones-bit.result (c.fits-marks c.loop-word.word) c.trailing_ones-bit.ensures c.if-bit-lt64.false c.loop-word.invariant
