use Rattle.rd_acted.proofs.InTimeLemmas.{behind_in_time}
use Rattle.rd_acted.proofs.ReachedLemmas.{unready_told, waiting_told_at}
use Rattle.rd_acted.proofs.TellLemmas.{behind_tells}
use Rattle.rd_acted.proofs.laws.runs_tell_in_time.Goals as goal
use Rattle.rd_rest.proofs.RunsParts.{reached_behind}

pub returns-clause-told : goal.returns-clause-told
returns-clause-told c lines starves w premises reached well = (behind_tells lines starves premises w (reached_behind lines starves w reached) well).each

pub returns-clause-waiting : goal.returns-clause-waiting
returns-clause-waiting c lines starves w premises reached well = waiting_told_at lines starves premises w (reached_behind lines starves w reached) well

pub returns-clause-unready : goal.returns-clause-unready
returns-clause-unready c lines starves w premises reached well = unready_told lines starves premises w (reached_behind lines starves w reached) well

pub returns-clause-in_time : goal.returns-clause-in_time
returns-clause-in_time c lines starves w premises reached well = (behind_in_time lines starves premises w (reached_behind lines starves w reached) well).points
