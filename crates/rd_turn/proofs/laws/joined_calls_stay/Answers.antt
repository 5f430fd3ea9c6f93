use Rattle.rd_turn.proofs.HistoryLemmas.{GoesOn-joined, Called-joined}
use Rattle.rd_turn.proofs.laws.joined_calls_stay.Goals as goal

pub returns-clause-called : goal.returns-clause-called
returns-clause-called g k p q call reply number count = Called-joined p q call reply number count

pub returns-clause-goes_on : goal.returns-clause-goes_on
returns-clause-goes_on g k p q number count = GoesOn-joined p q number count
