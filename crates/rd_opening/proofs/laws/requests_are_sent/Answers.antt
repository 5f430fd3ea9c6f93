use Rattle.rd_orders.proofs.RunsParts.{reached_behind}
use Rattle.rd_opening.proofs.SentLemmas.{all_sent, runs_heard, runs_sent}
use Rattle.rd_opening.proofs.Submitted.{behind_submitted}
use Rattle.rd_opening.proofs.laws.requests_are_sent.Goals as goal

pub returns-clause-stand : goal.returns-clause-stand
returns-clause-stand c lines starves w premises writable reached channel = (behind_submitted lines starves premises writable w (reached_behind lines starves w reached)).stand channel

pub returns-clause-sent : goal.returns-clause-sent
returns-clause-sent c lines starves w premises writable reached opened silent = all_sent lines starves premises writable w reached opened silent

pub returns-clause-runs : goal.returns-clause-runs
returns-clause-runs c lines starves most w premises writable is channel off = runs_sent lines starves premises writable most w is channel off

pub returns-clause-heard : goal.returns-clause-heard
returns-clause-heard c lines starves most w premises writable is channel off = runs_heard lines starves premises writable most w is channel off
