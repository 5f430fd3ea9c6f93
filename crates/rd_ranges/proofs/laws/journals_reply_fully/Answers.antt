use Rattle.rd_ranges.proofs.JournalLemmas.{quiet_full}
use Rattle.rd_ranges.proofs.laws.journals_reply_fully.Goals as goal

pub returns : goal.returns
returns c = quiet_full
