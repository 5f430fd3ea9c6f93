use Rattle.rd_refused.proofs.SaidLemmas.{completion_says, hello_says, list_says, removal_says}
use Rattle.rd_refused.proofs.laws.messages_say_who_is_gone.Goals as goal

pub returns-clause-removal : goal.returns-clause-removal
returns-clause-removal c d e older fits = removal_says d e older fits

pub returns-clause-list : goal.returns-clause-list
returns-clause-list c d list older spells = list_says d list older spells

pub returns-clause-completion : goal.returns-clause-completion
returns-clause-completion c d kind head body older = completion_says d kind head body older

pub returns-clause-opening : goal.returns-clause-opening
returns-clause-opening context d x older = hello_says d x older
