use Rattle.std.proofs.Common.{refl}
use Rattle.std.specs.Fmt.{digits}
use Rattle.rd_audit_file.proofs.LineLemmas.{takes_none}
use Rattle.rd_audit_file.proofs.laws.journal_texts_are_as_listed.Goals as goal

pub returns-clause-text : goal.returns-clause-text
unfolding digits
returns-clause-text c = refl

pub returns-clause-leading_zero : goal.returns-clause-leading_zero
returns-clause-leading_zero c = takes_none _ refl

pub returns-clause-past_64_bits : goal.returns-clause-past_64_bits
returns-clause-past_64_bits c = takes_none _ refl

pub returns-clause-past_32_bits : goal.returns-clause-past_32_bits
returns-clause-past_32_bits c = takes_none _ refl

pub returns-clause-no_number : goal.returns-clause-no_number
returns-clause-no_number c = takes_none _ refl

pub returns-clause-two_spaces : goal.returns-clause-two_spaces
returns-clause-two_spaces c = takes_none _ refl

pub returns-clause-mark : goal.returns-clause-mark
returns-clause-mark c = takes_none _ refl

pub returns-clause-no_line_feed : goal.returns-clause-no_line_feed
returns-clause-no_line_feed c = takes_none _ refl

pub returns-clause-carriage_return : goal.returns-clause-carriage_return
returns-clause-carriage_return c = takes_none _ refl
