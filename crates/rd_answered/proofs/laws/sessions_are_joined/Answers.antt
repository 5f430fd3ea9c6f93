use Rattle.rd_answered.proofs.SessionLemmas.{reached_joined, reached_joins}
use Rattle.rd_answered.proofs.laws.sessions_are_joined.Goals as goal

pub returns-clause-joined : goal.returns-clause-joined
returns-clause-joined c lines starves w premises writable few reached = reached_joined lines starves premises few w reached writable

pub returns-clause-joins : goal.returns-clause-joins
returns-clause-joins c lines starves w premises writable few reached = reached_joins lines starves premises few w reached writable
