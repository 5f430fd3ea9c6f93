use Rattle.rd_answered.proofs.SessionLemmas.{reached_good}
use Rattle.rd_answered.proofs.laws.clients_say_who_is_there.Goals as goal

pub returns-clause-saying : goal.returns-clause-saying
returns-clause-saying c lines starves w premises writable few reached = (reached_good lines starves premises few w reached writable).0

pub returns-clause-live : goal.returns-clause-live
returns-clause-live c lines starves w premises writable few reached = (reached_good lines starves premises few w reached writable).1
