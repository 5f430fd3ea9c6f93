use Rattle.rd_cli.proofs.LoadWordLemmas.{found, high_test, low_test, not_above, not_most, not_parsed}
use Rattle.rd_cli.proofs.words.load_number.Goals as goal

pub returns-then-not-is_above_zero : goal.returns-then-not-is_above_zero
returns-then-not-is_above_zero c = not_above _ (low_test _ _ _ c.as_bytes.ensures.value c.is_above_zero.ensures c.if-not-is_above_zero.true)

pub returns-in_default : goal.returns-in_default
returns-in_default c = not_parsed c.args.word.now c.parse.result _ c.parse.ensures.value.0 c.in_default.is

pub returns-then-number-le-MAX_LOAD : goal.returns-then-number-le-MAX_LOAD
returns-then-number-le-MAX_LOAD c =
    let above = high_test _ _ _ c.as_bytes.ensures.value c.is_above_zero.ensures c.if-not-is_above_zero.false in
    found c.args.word.now c.parse.result _ above c.parse.ensures.value.0 c.in-Ok.is c.if-number-le-MAX_LOAD.true

pub returns-else-number-le-MAX_LOAD : goal.returns-else-number-le-MAX_LOAD
returns-else-number-le-MAX_LOAD c = not_most c.args.word.now c.parse.result _ c.parse.ensures.value.0 c.in-Ok.is c.if-number-le-MAX_LOAD.false
