use Rattle.rd_host_turns.proofs.SessionLemmas.{session_quiet}
use Rattle.rd_host_turns.proofs.laws.only_quiet_calls_stand_between.Goals as goal

pub returns : goal.returns
returns c = session_quiet
