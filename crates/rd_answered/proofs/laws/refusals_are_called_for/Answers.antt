use Rattle.rd_answered.proofs.SessionLemmas.{reached_refuses}
use Rattle.rd_answered.proofs.laws.refusals_are_called_for.Goals as goal

pub returns : goal.returns
returns c lines starves w premises writable few reached = reached_refuses lines starves premises few w reached writable
