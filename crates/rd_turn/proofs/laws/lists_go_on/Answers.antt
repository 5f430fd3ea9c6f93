use Rattle.rd_turn.proofs.HistoryLemmas.{GoesOn-own, GoesOn-prefix, Called-own, Called-prefix}
use Rattle.rd_turn.proofs.laws.lists_go_on.Goals as goal

pub returns-clause-called : goal.returns-clause-called
returns-clause-called g k p q call reply = Called-prefix p q call reply

pub returns-clause-one_more : goal.returns-clause-one_more
returns-clause-one_more g k p q call reply = Called-own p q call reply

pub returns-clause-goes_on : goal.returns-clause-goes_on
returns-clause-goes_on g k p q = GoesOn-prefix p q

pub returns-clause-no_more : goal.returns-clause-no_more
returns-clause-no_more g k p q = GoesOn-own p q
