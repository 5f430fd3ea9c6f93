use Rattle.std.proofs.Common.{refl, ap, Err}
use Rattle.rd_base.specs.Statuses.{invalid_handle, object_name_invalid}
use Rattle.rd_dirinfo.specs.declared.path.PathNo.{PathNo}
use Rattle.rd_fileinfo.specs.declared.set_info.SetInfo.TheVariants as set
use Rattle.rd_folder_drive.specs.Served.{seen}
use Rattle.rd_folder_drive.specs.Setting.{renames, sets_of}
use Rattle.rd_folder_drive.proofs.AskedLemmas.{serves_same}
use Rattle.rd_folder_drive.proofs.RenameLemmas.{spells_none, spells_path}
use Rattle.rd_folder_drive.proofs.ServeLemmas.{refused_at_once}
use Rattle.rd_folder_drive.proofs.TableLemmas.{unopened}
use Rattle.rd_folder_drive.proofs.table.Table.rename.Goals as goal

pub returns-in_default-clause-serves : goal.returns-in_default-clause-serves
returns-in_default-clause-serves g c =
    refused_at_once c.args.self.now (seen g.F.Folder.nodes g.F.Folder.faults c.args.folder.now) c.requires.over c.requires.sound (sets_of c.args.file c.args.moment c.args.count (set.Rename c.args.replace (c.args.units).now))
    invalid_handle (refl, refl) (λ nodes holds. unopened c.args.self.now nodes c.args.file _ (c.held.ensures.none c.in_default.is))

pub returns-in-Ok-clause-serves : goal.returns-in-Ok-clause-serves
returns-in-Ok-clause-serves g c =
    serves_same c.args.self.now c.rename_path.new.self (seen g.F.Folder.nodes g.F.Folder.faults c.args.folder.now) (seen g.F.Folder.nodes g.F.Folder.faults c.rename_path.new.folder) c.requires.over
    (renames c.args.file c.args.moment c.args.count c.args.replace c.in-Ok.path) (sets_of c.args.file c.args.moment c.args.count (set.Rename c.args.replace (c.args.units).now)) c.rename_path.result
    (λ nodes told holds. spells_path c.args.self.now c.requires.sound c.args.moment c.args.file c.args.count c.args.replace (c.in-Some.field-0-0).now (c.in-Some.field-0-1).now c.in-Some.ensures.some.0 c.in-Some.ensures.some.1 nodes holds (c.args.units).now c.in-Ok.path c.in-Ok.ensures.split)
    c.rename_path.ensures.serves

pub returns-in-Err-Invalid-clause-serves : goal.returns-in-Err-Invalid-clause-serves
returns-in-Err-Invalid-clause-serves g c =
    refused_at_once c.args.self.now (seen g.F.Folder.nodes g.F.Folder.faults c.args.folder.now) c.requires.over c.requires.sound (sets_of c.args.file c.args.moment c.args.count (set.Rename c.args.replace (c.args.units).now))
    object_name_invalid (refl, refl)
    (λ nodes holds. spells_none c.args.self.now c.requires.sound c.args.moment c.args.file c.args.count c.args.replace (c.in-Some.field-0-0).now (c.in-Some.field-0-1).now c.in-Some.ensures.some.0 c.in-Some.ensures.some.1 nodes holds (c.args.units).now c.in-Err-Invalid.field-0-0
    ((c.in-Err-Invalid.ensures.invalid c.in-Err-Invalid.field-0-0).0 (ap (λ (no : PathNo). Err no) c.in-Err-Invalid.field-0-is)))
