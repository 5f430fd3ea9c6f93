use Rattle.rd_acted.proofs.CauseLemmas.{cuts_by_deeds}
use Rattle.rd_acted.proofs.EveryCutLemmas.{behind_there}
use Rattle.rd_acted.proofs.laws.runs_cut_devices.Goals as goal
use Rattle.rd_rest.proofs.RunsParts.{reached_behind}
use Rattle.rd_declared.specs.Declaring.{bare_lines, declared_devices}

pub returns-clause-there : goal.returns-clause-there
returns-clause-there c lines starves w premises reached goes = (behind_there lines starves premises w (reached_behind lines starves w reached) goes).cut.there

pub returns-clause-all : goal.returns-clause-all
returns-clause-all c lines starves w premises reached goes = (behind_there lines starves premises w (reached_behind lines starves w reached) goes).cut.all

pub returns-clause-cuts : goal.returns-clause-cuts
returns-clause-cuts c lines starves w premises reached goes device =
    let there = behind_there lines starves premises w (reached_behind lines starves w reached) goes in
    cuts_by_deeds (declared_devices (bare_lines lines)) device w.deeds there.cut.there there.cut.all
