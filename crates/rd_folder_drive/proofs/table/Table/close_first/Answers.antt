use Rattle.rd_folder_drive.specs.Served.{seen}
use Rattle.rd_folder_drive.proofs.CutLemmas.{first_closed}
use Rattle.rd_folder_drive.proofs.table.Table.close_first.Goals as goal

pub returns-in-Some-clause-sound : goal.returns-in-Some-clause-sound
returns-in-Some-clause-sound g c =
    (first_closed c.args.self.now c.close.new.self (seen g.F.Folder.nodes g.F.Folder.faults c.args.folder.now) (seen g.F.Folder.nodes g.F.Folder.faults c.close.new.folder) c.requires.sound c.requires.none
    c.in-Some.file.now c.in-Some.field-0-1.now c.in-Some.ensures.first c.close.ensures.handles c.close.ensures.waiting c.close.result c.close.ensures.serves).0

pub returns-in-Some-clause-over : goal.returns-in-Some-clause-over
returns-in-Some-clause-over g c =
    (first_closed c.args.self.now c.close.new.self (seen g.F.Folder.nodes g.F.Folder.faults c.args.folder.now) (seen g.F.Folder.nodes g.F.Folder.faults c.close.new.folder) c.requires.sound c.requires.none
    c.in-Some.file.now c.in-Some.field-0-1.now c.in-Some.ensures.first c.close.ensures.handles c.close.ensures.waiting c.close.result c.close.ensures.serves).1

pub returns-in-Some-clause-untold : goal.returns-in-Some-clause-untold
returns-in-Some-clause-untold g c =
    (first_closed c.args.self.now c.close.new.self (seen g.F.Folder.nodes g.F.Folder.faults c.args.folder.now) (seen g.F.Folder.nodes g.F.Folder.faults c.close.new.folder) c.requires.sound c.requires.none
    c.in-Some.file.now c.in-Some.field-0-1.now c.in-Some.ensures.first c.close.ensures.handles c.close.ensures.waiting c.close.result c.close.ensures.serves).2

pub returns-in-Some-clause-closes : goal.returns-in-Some-clause-closes
returns-in-Some-clause-closes g c =
    (first_closed c.args.self.now c.close.new.self (seen g.F.Folder.nodes g.F.Folder.faults c.args.folder.now) (seen g.F.Folder.nodes g.F.Folder.faults c.close.new.folder) c.requires.sound c.requires.none
    c.in-Some.file.now c.in-Some.field-0-1.now c.in-Some.ensures.first c.close.ensures.handles c.close.ensures.waiting c.close.result c.close.ensures.serves).3
