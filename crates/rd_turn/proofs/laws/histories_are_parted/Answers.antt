use Rattle.rd_turn.proofs.HistoryLemmas.{Leads-append, Leads-parted, IsLegal-prefix}
use Rattle.rd_turn.proofs.laws.histories_are_parted.Goals as goal

pub returns-clause-joined : goal.returns-clause-joined
returns-clause-joined g k a b c xs ys = Leads-append g.O.Object.steps a xs b ys c

pub returns-clause-parted : goal.returns-clause-parted
returns-clause-parted g k a c xs ys = Leads-parted g.O.Object.steps a xs ys c

pub returns-clause-prefix : goal.returns-clause-prefix
returns-clause-prefix g k a xs ys = IsLegal-prefix g.O.Object.steps a xs ys
