use Rattle.std.proofs.Common.{arith, sym, ◌∙◌}
use Rattle.rd_script.proofs.TextLemmas.{next_pair}
use Rattle.std.proofs.lemmas.Grind.{common_steps}
use Rattle.rd_script.proofs.texts.next_byte.Goals as goal

pub returns-in_err-byte_of-in-len2-up-clause-bytes : goal.returns-in_err-byte_of-in-len2-up-clause-bytes
returns-in_err-byte_of-in-len2-up-clause-bytes c = grind (arith, common_steps)

pub returns-in_default-clause-bytes : goal.returns-in_default-clause-bytes
returns-in_default-clause-bytes c = grind (arith, common_steps)

pub returns-in_ok-byte_of-in-len2-up-clause-shorter : goal.returns-in_ok-byte_of-in-len2-up-clause-shorter
returns-in_ok-byte_of-in-len2-up-clause-shorter c = grind (arith, common_steps)

pub returns-in_ok-byte_of-in-len2-up-clause-bytes : goal.returns-in_ok-byte_of-in-len2-up-clause-bytes
returns-in_ok-byte_of-in-len2-up-clause-bytes c =
    next_pair c.args.digits.now c.in_ok-byte_of-in-len2-up.field-0 c.in-len2-up.len_at_least (sym c.byte_of.ensures ∙ c.in_ok-byte_of-in-len2-up.was)
