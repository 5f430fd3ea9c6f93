use Rattle.rd_journals.proofs.AnswerLemmas.{reached_spelled}
use Rattle.rd_journals.proofs.laws.completions_answer.Goals as goal

pub returns : goal.returns
returns c lines starves w fit premises reached = (reached_spelled lines starves fit premises w reached).each
