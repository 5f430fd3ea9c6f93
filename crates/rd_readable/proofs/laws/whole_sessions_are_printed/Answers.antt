use Rattle.rd_readable.proofs.SessionLemmas.{recording_good, recording_lines}
use Rattle.rd_readable.proofs.laws.whole_sessions_are_printed.Goals as goal

pub returns : goal.returns
returns c = record {
  lines = λ script recording books told output s. recording_lines script recording books told output s;
  good = λ script recording books told output s. recording_good script recording books told output s;
}
