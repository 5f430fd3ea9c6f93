use Rattle.rd_answered.proofs.SessionLemmas.{reached_answered}
use Rattle.rd_answered.proofs.laws.clients_answer.Goals as goal

pub returns : goal.returns
returns c lines starves w premises writable few reached = reached_answered lines starves premises few w reached writable
