use Rattle.rd_cli.proofs.RecordedLemmas.{recording_printed}
use Rattle.rd_readable.proofs.SessionLemmas.{recording_good}
use Rattle.rd_cli.proofs.laws.recordings_are_read.Goals as goal

pub returns-clause-good : goal.returns-clause-good
returns-clause-good g c script before after books told p = recording_good script p.recording books told _ p.whole

pub returns-clause-printed : goal.returns-clause-printed
returns-clause-printed g c script before after books told p input input_after output output_after status has is =
    recording_printed script before after books told p input input_after output output_after status has is
