use Rattle.rd_told.proofs.PlainLemmas.{written_plainly}
use Rattle.rd_told.proofs.laws.completions_are_plain.Goals as goal

pub returns : goal.returns
returns c lines starves w fit premises reached = written_plainly lines starves fit premises w reached
