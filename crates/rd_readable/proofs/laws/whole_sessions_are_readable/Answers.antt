use Rattle.rd_readable.proofs.SessionLemmas.{session_prints}
use Rattle.rd_readable.proofs.laws.whole_sessions_are_readable.Goals as goal

pub returns : goal.returns
returns c script recording books told output s = session_prints script recording books told output s
