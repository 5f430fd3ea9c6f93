use Rattle.rd_table.proofs.AcceptsLemmas.{accepted_by_one, accepts_numbered, accepts_once}
use Rattle.rd_table.proofs.laws.requests_are_accepted_once.Goals as goal

pub returns-clause-numbered : goal.returns-clause-numbered
returns-clause-numbered c = accepts_numbered

pub returns-clause-accepted : goal.returns-clause-accepted
returns-clause-accepted c = accepted_by_one

pub returns-clause-once : goal.returns-clause-once
returns-clause-once c = accepts_once
