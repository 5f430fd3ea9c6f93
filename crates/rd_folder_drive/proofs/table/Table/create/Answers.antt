use Rattle.std.proofs.Common.{refl, sym, ap, Err}
use Rattle.rd_base.specs.Statuses.{invalid_parameter, object_name_invalid}
use Rattle.rd_dirinfo.specs.declared.path.PathNo.{PathNo}
use Rattle.rd_drive.specs.Create.{create}
use Rattle.rd_drive.specs.Made.{create_at}
use Rattle.rd_folder_drive.specs.Served.{seen}
use Rattle.rd_folder_drive.specs.Table.{drive_of}
use Rattle.rd_folder_drive.proofs.AskedLemmas.{serves_same}
use Rattle.rd_folder_drive.proofs.CreateLemmas.{comes_contradictory, comes_spelled, comes_unspelled}
use Rattle.rd_folder_drive.proofs.ServeLemmas.{refused_at_once}
use Rattle.rd_folder_drive.proofs.table.Table.create.Goals as goal

pub returns-then-is_contradictory-clause-serves : goal.returns-then-is_contradictory-clause-serves
returns-then-is_contradictory-clause-serves g c =
    refused_at_once c.args.self.now (seen g.F.Folder.nodes g.F.Folder.faults c.args.folder.now) c.requires.over c.requires.sound (λ s. create s c.args.moment c.args.asked c.args.units.now)
    invalid_parameter (refl, refl) (λ nodes holds. comes_contradictory (drive_of c.args.self.now nodes) c.args.asked c.args.moment c.args.units.now (sym c.if-is_contradictory.ensures))

pub returns-in-Ok-clause-serves : goal.returns-in-Ok-clause-serves
returns-in-Ok-clause-serves g c =
    serves_same c.args.self.now c.open_or_make.new.self (seen g.F.Folder.nodes g.F.Folder.faults c.args.folder.now) (seen g.F.Folder.nodes g.F.Folder.faults c.open_or_make.new.folder) c.requires.over
    (λ s. create_at s c.args.moment c.args.asked c.in-Ok.path) (λ s. create s c.args.moment c.args.asked c.args.units.now) c.open_or_make.result
    (λ nodes told holds. comes_spelled (drive_of c.args.self.now nodes) c.args.asked c.args.moment c.args.units.now (sym c.if-is_contradictory.ensures) c.in-Ok.path c.in-Ok.ensures.split)
    c.open_or_make.ensures.serves

pub returns-in-Err-Invalid-clause-serves : goal.returns-in-Err-Invalid-clause-serves
returns-in-Err-Invalid-clause-serves g c =
    refused_at_once c.args.self.now (seen g.F.Folder.nodes g.F.Folder.faults c.args.folder.now) c.requires.over c.requires.sound (λ s. create s c.args.moment c.args.asked c.args.units.now)
    object_name_invalid (refl, refl)
    (λ nodes holds. comes_unspelled (drive_of c.args.self.now nodes) c.args.asked c.args.moment c.args.units.now (sym c.if-is_contradictory.ensures) c.in-Err-Invalid.field-0-0
    ((c.in-Err-Invalid.ensures.invalid c.in-Err-Invalid.field-0-0).0 (ap (λ (no : PathNo). Err no) c.in-Err-Invalid.field-0-is)))
