use Rattle.rd_acted.proofs.PrinterLemmas.{behind_notices}
use Rattle.rd_acted.proofs.ReachedLemmas.{waiting_noted_at}
use Rattle.rd_acted.proofs.laws.runs_tell_of_printers.Goals as goal
use Rattle.rd_rest.proofs.RunsParts.{reached_behind}

pub returns-clause-told : goal.returns-clause-told
returns-clause-told c lines starves w premises reached = (behind_notices lines starves premises w (reached_behind lines starves w reached)).each

pub returns-clause-waiting : goal.returns-clause-waiting
returns-clause-waiting c lines starves w premises reached = waiting_noted_at lines starves premises w (reached_behind lines starves w reached)
