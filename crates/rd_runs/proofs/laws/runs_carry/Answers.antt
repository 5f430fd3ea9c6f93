use Rattle.std.proofs.lemmas.List.Elements.{All-from_recursion}
use Rattle.rd_runs.proofs.Carrying.{IsFit}
use Rattle.rd_runs.proofs.Together.{known}
use Rattle.rd_runs.proofs.laws.runs_carry.Goals as goal

pub returns-clause-carried : goal.returns-clause-carried
returns-clause-carried c lines starves premises w r = (known lines starves premises w r).carries.each

pub returns-clause-fit : goal.returns-clause-fit
returns-clause-fit c lines starves premises w r = All-from_recursion IsFit w.deeds (known lines starves premises w r).fits.deeds

pub returns-clause-on_open : goal.returns-clause-on_open
returns-clause-on_open c lines starves premises w r = (known lines starves premises w r).carries.on_open
