use Rattle.rd_journals.proofs.RunLemmas.{orderly_lawful, reached_orderly}
use Rattle.rd_journals.proofs.laws.runs_keep_journals.Goals as goal

pub returns-clause-lawful : goal.returns-clause-lawful
returns-clause-lawful c lines starves w fit reached device = orderly_lawful w (reached_orderly lines starves w fit reached) device

pub returns-clause-tied : goal.returns-clause-tied
returns-clause-tied c lines starves w fit reached device s there = ((reached_orderly lines starves w fit reached).held).tied device s there

pub returns-clause-reached : goal.returns-clause-reached
returns-clause-reached c lines starves w fit reached device s there = (((reached_orderly lines starves w fit reached).held).on device s there).sound.reached

pub returns-clause-comes_read : goal.returns-clause-comes_read
returns-clause-comes_read c lines starves w fit reached = ((reached_orderly lines starves w fit reached).held).reads

pub returns-clause-orderly : goal.returns-clause-orderly
returns-clause-orderly c lines starves w fit reached = reached_orderly lines starves w fit reached
