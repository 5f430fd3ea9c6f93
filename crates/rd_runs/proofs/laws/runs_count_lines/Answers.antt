use Rattle.rd_runs.proofs.Counting.{accepted_few, channels_few}
use Rattle.rd_runs.proofs.laws.runs_count_lines.Goals as goal

pub returns-clause-channels : goal.returns-clause-channels
returns-clause-channels c lines starves w r = channels_few lines starves w r

pub returns-clause-requests : goal.returns-clause-requests
returns-clause-requests c lines starves w r = accepted_few lines starves w r
