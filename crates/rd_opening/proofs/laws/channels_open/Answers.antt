use Rattle.rd_opening.proofs.Opened.{connected_opens}
use Rattle.rd_opening.proofs.RunLemmas.{runs_opened, runs_settled}
use Rattle.rd_opening.proofs.laws.channels_open.Goals as goal

pub returns-clause-begun : goal.returns-clause-begun
returns-clause-begun c lines starves most v premises writable reached can = connected_opens lines starves premises writable most v can reached

pub returns-clause-runs : goal.returns-clause-runs
returns-clause-runs c lines starves most w premises writable is = runs_opened lines starves premises writable most w is

pub returns-clause-settled : goal.returns-clause-settled
returns-clause-settled c lines starves most w premises writable is = runs_settled lines starves premises writable most w is
