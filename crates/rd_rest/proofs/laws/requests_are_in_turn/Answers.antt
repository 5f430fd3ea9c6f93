use Rattle.rd_rest.proofs.TurnsLemmas.{reached_in_turn}
use Rattle.rd_rest.proofs.laws.requests_are_in_turn.Goals as goal

pub returns : goal.returns
returns c lines starves w premises writable few reached = reached_in_turn lines starves premises writable few w reached
