use Rattle.rd_journals.proofs.InOrderLemmas.{reached_order}
use Rattle.rd_journals.proofs.laws.completions_are_in_order.Goals as goal

pub returns : goal.returns
returns c lines starves w fit premises reached = reached_order lines starves fit premises w reached
