use Rattle.std.proofs.Common.{◌∙◌, sym, ap, Some, arith}
use Rattle.std.proofs.lemmas.Grind.{common_steps}
use Rattle.rd_script.specs.Texts.{pairs_of}
use Rattle.rd_script.proofs.TextLemmas.{hex_pairs, more_pairs, no_pairs, none_left, none_read}
use Rattle.rd_script.proofs.texts.bytes_of.Goals as goal

pub returns-in_default : goal.returns-in_default
returns-in_default c =
    no_pairs c.loop-rest.bytes.items (pairs_of c.loop-rest.rest.now) (pairs_of c.args.word.now) c.in_default.ensures.bytes c.loop-rest.invariant
    ∙ sym (hex_pairs c.args.word.now (sym c.is_dash.ensures ∙ c.if-is_dash.false) (sym c.is_empty.ensures ∙ c.if-is_empty.false))

pub loop-rest-preserved : goal.loop-rest-preserved
loop-rest-preserved c =
    more_pairs c.loop-rest.bytes.items c.push.new.self.items c.in-Some.byte (pairs_of c.loop-rest.rest.now) (pairs_of c.in-Some.others.now) (pairs_of c.args.word.now) c.in_ok-push.ensures.items
    (rw (c.in-Some.byte-is, c.in-Some.others-is) c.in-Some.ensures.bytes) c.loop-rest.invariant

pub returns : goal.returns
returns c =
    ap Some c.of-2.ensures
    ∙ none_left c.loop-rest.bytes.items c.loop-rest.rest.now (pairs_of c.args.word.now) (sym c.is_empty-in-loop-rest.ensures ∙ c.loop-rest-test.false) c.loop-rest.invariant
    ∙ sym (hex_pairs c.args.word.now (sym c.is_dash.ensures ∙ c.if-is_dash.false) (sym c.is_empty.ensures ∙ c.if-is_empty.false))

pub returns-then-is_dash : goal.returns-then-is_dash
returns-then-is_dash c = grind (arith, common_steps)

pub returns-then-is_empty : goal.returns-then-is_empty
returns-then-is_empty c = grind (arith, common_steps)

pub next_byte-requires : goal.next_byte-requires
next_byte-requires c = grind (arith, common_steps)

pub loop-rest-smaller : goal.loop-rest-smaller
loop-rest-smaller c = grind (arith, common_steps)

pub loop-rest-init : goal.loop-rest-init
loop-rest-init c = none_read c.in_ok-bytes.bytes.items (pairs_of c.args.word.now) c.in_ok-bytes.ensures.items
