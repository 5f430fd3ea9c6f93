use Rattle.rd_folder_drive.specs.Served.{seen}
use Rattle.rd_folder_drive.proofs.BesideLemmas.{over_beside}
use Rattle.rd_folder_drive.proofs.CutLemmas.{cut_is}
use Rattle.rd_folder_drive.proofs.table.Table.cut.Goals as goal

pub close_all-requires-clause-over : goal.close_all-requires-clause-over
close_all-requires-clause-over g c = over_beside c.args.self.now c.cancel_all.new.self c.cancel_all.ensures.others (seen g.F.Folder.nodes g.F.Folder.faults c.args.folder.now) c.requires.over

pub returns-clause-cuts : goal.returns-clause-cuts
returns-clause-cuts g c =
    cut_is c.args.self.now c.cancel_all.new.self c.cancel_all.ensures.others c.cancel_all.ensures.locks c.cancel_all.ensures.none
    (seen g.F.Folder.nodes g.F.Folder.faults c.args.folder.now) c.close_all.new.self (seen g.F.Folder.nodes g.F.Folder.faults c.close_all.new.folder) c.close_all.ensures.closes
