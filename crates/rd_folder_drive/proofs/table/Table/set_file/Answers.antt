use Rattle.std.proofs.Common.{refl, subst, ℕ, List, [], length}
use Rattle.rd_base.specs.declared.bad.InfoNo.{InfoNo}
use Rattle.rd_base.specs.Classes.{IsRefusal}
use Rattle.rd_base.specs.Statuses.{invalid_handle, invalid_parameter}
use Rattle.rd_fileinfo.specs.declared.set_info.SetInfo.TheVariants as set
use Rattle.rd_fileinfo.specs.SetInfo.{set_classes}
use Rattle.rd_drive.specs.Outcome.{on_handle}
use Rattle.rd_drive.specs.SetFile.{set_file}
use Rattle.rd_drive.proofs.SetLemmas.{class_of, info_faulty, info_spelled, info_unlisted}
use Rattle.rd_drive.proofs.SettingLemmas.{spelled_as}
use Rattle.rd_folder_drive.specs.Served.{Serves, seen}
use Rattle.rd_folder_drive.specs.Setting.{IsBelowRoot, IsOpenFile, ends, sets_of}
use Rattle.rd_folder_drive.specs.Table.{drive_of}
use Rattle.rd_folder_drive.proofs.AskedLemmas.{serves_same}
use Rattle.rd_folder_drive.proofs.ServeLemmas.{refused_at_once}
use Rattle.rd_folder_drive.proofs.SetLemmas.{cuts_file, ends_file, marks_other, of_open, renames_other, set_refused, set_right, set_wrong}
use Rattle.rd_folder_drive.proofs.TableLemmas.{unopened}
use Rattle.rd_folder_drive.proofs.table.Table.set_file.Goals as goal

pub returns-in_default-clause-serves : goal.returns-in_default-clause-serves
returns-in_default-clause-serves g c =
    refused_at_once c.args.self.now (seen g.F.Folder.nodes g.F.Folder.faults c.args.folder.now) c.requires.over c.requires.sound (λ s. on_handle s c.args.file (set_file s c.args.moment c.args.class (c.args.bytes).now))
    invalid_handle (refl, refl) (λ nodes holds. unopened c.args.self.now nodes c.args.file _ (c.held.ensures.none c.in_default.is))

pub returns-in-Err-clause-serves : goal.returns-in-Err-clause-serves
returns-in-Err-clause-serves g c =
    refused_at_once c.args.self.now (seen g.F.Folder.nodes g.F.Folder.faults c.args.folder.now) c.requires.over c.requires.sound (λ s. on_handle s c.args.file (set_file s c.args.moment c.args.class (c.args.bytes).now))
    c.in-Err.status c.in-Err.ensures.own (λ nodes holds. set_refused c.args.self.now c.requires.sound c.args.moment c.args.file c.args.class (c.args.bytes).now (c.in-Some.handle).now (c.in-Some.opened).now c.in-Some.ensures.some.0 c.in-Some.ensures.some.1 nodes holds c.in-Err.status c.in-Err.ensures.err)

pub rename-requires-clause-other : goal.rename-requires-clause-other
rename-requires-clause-other g c =
    let t = c.args.self.now in
    let spelled = spelled_as c.args.class c.args.bytes.now c.in-Ok-Rename.field-0 (set.Rename c.in-Ok-Rename.replace c.in-Ok-Rename.path) c.in-Ok-Rename.field-0-is c.in-Ok-Rename.ensures.spelled in
    of_open t c.args.file IsBelowRoot (c.in-Some.handle).now (c.in-Some.opened).now c.in-Some.ensures.some.0 c.in-Some.ensures.some.1
    (renames_other (c.in-Some.handle).now (c.in-Some.opened).now c.args.class t (drive_of t []) c.in-Ok.ensures.ok (class_of c.args.class (set.Rename c.in-Ok-Rename.replace c.in-Ok-Rename.path) spelled.0 c.args.bytes.now spelled.1))

pub set_pending-requires-clause-other : goal.set_pending-requires-clause-other
set_pending-requires-clause-other g c =
    let t = c.args.self.now in
    let spelled = spelled_as c.args.class c.args.bytes.now c.in-Ok-Disposition.field-0 (set.Disposition c.in-Ok-Disposition.pending) c.in-Ok-Disposition.field-0-is c.in-Ok-Disposition.ensures.spelled in
    of_open t c.args.file IsBelowRoot (c.in-Some.handle).now (c.in-Some.opened).now c.in-Some.ensures.some.0 c.in-Some.ensures.some.1
    (marks_other (c.in-Some.handle).now (c.in-Some.opened).now c.args.class t (drive_of t []) c.in-Ok.ensures.ok (class_of c.args.class (set.Disposition c.in-Ok-Disposition.pending) spelled.0 c.args.bytes.now spelled.1))

pub set_allocation-requires-clause-file : goal.set_allocation-requires-clause-file
set_allocation-requires-clause-file g c =
    let t = c.args.self.now in
    let spelled = spelled_as c.args.class c.args.bytes.now c.in-Ok-Allocation.field-0 (set.Allocation c.in-Ok-Allocation.size) c.in-Ok-Allocation.field-0-is c.in-Ok-Allocation.ensures.spelled in
    of_open t c.args.file IsOpenFile (c.in-Some.handle).now (c.in-Some.opened).now c.in-Some.ensures.some.0 c.in-Some.ensures.some.1
    (cuts_file (c.in-Some.handle).now (c.in-Some.opened).now c.args.class t (drive_of t []) c.in-Ok.ensures.ok (class_of c.args.class (set.Allocation c.in-Ok-Allocation.size) spelled.0 c.args.bytes.now spelled.1))

pub set_end-requires-clause-file : goal.set_end-requires-clause-file
set_end-requires-clause-file g c =
    let t = c.args.self.now in
    let spelled = spelled_as c.args.class c.args.bytes.now c.in-Ok-EndOfFile.field-0 (set.EndOfFile c.in-Ok-EndOfFile.end) c.in-Ok-EndOfFile.field-0-is c.in-Ok-EndOfFile.ensures.spelled in
    of_open t c.args.file IsOpenFile (c.in-Some.handle).now (c.in-Some.opened).now c.in-Some.ensures.some.0 c.in-Some.ensures.some.1
    (ends_file (c.in-Some.handle).now (c.in-Some.opened).now c.args.class t (drive_of t []) c.in-Ok.ensures.ok (class_of c.args.class (set.EndOfFile c.in-Ok-EndOfFile.end) spelled.0 c.args.bytes.now spelled.1))

pub returns-in-Ok-Basic-clause-serves : goal.returns-in-Ok-Basic-clause-serves
returns-in-Ok-Basic-clause-serves g c =
    let t = c.args.self.now in
    let info = set.Basic c.in-Ok-Basic.moments c.in-Ok-Basic.attributes in
    let spelled = spelled_as c.args.class c.args.bytes.now c.in-Ok-Basic.field-0 info c.in-Ok-Basic.field-0-is c.in-Ok-Basic.ensures.spelled in
    serves_same t t (seen g.F.Folder.nodes g.F.Folder.faults c.args.folder.now) (seen g.F.Folder.nodes g.F.Folder.faults c.set_basic.new.folder) c.requires.over
    (sets_of c.args.file c.args.moment (length c.args.bytes.now) info) (λ s. on_handle s c.args.file (set_file s c.args.moment c.args.class (c.args.bytes).now)) c.set_basic.result
    (λ nodes told holds. set_right t c.requires.sound c.args.moment c.args.file c.args.class c.args.bytes.now (c.in-Some.handle).now (c.in-Some.opened).now c.in-Some.ensures.some.0 c.in-Some.ensures.some.1 nodes holds c.in-Ok.ensures.ok info (info_spelled c.args.class info spelled.0 c.args.bytes.now spelled.1))
    c.set_basic.ensures.serves

pub returns-in-Ok-Rename-clause-serves : goal.returns-in-Ok-Rename-clause-serves
returns-in-Ok-Rename-clause-serves g c =
    let t = c.args.self.now in
    let info = set.Rename c.in-Ok-Rename.replace c.in-Ok-Rename.path in
    let spelled = spelled_as c.args.class c.args.bytes.now c.in-Ok-Rename.field-0 info c.in-Ok-Rename.field-0-is c.in-Ok-Rename.ensures.spelled in
    serves_same t c.rename.new.self (seen g.F.Folder.nodes g.F.Folder.faults c.args.folder.now) (seen g.F.Folder.nodes g.F.Folder.faults c.rename.new.folder) c.requires.over
    (sets_of c.args.file c.args.moment (length c.args.bytes.now) info) (λ s. on_handle s c.args.file (set_file s c.args.moment c.args.class (c.args.bytes).now)) c.rename.result
    (λ nodes told holds. set_right t c.requires.sound c.args.moment c.args.file c.args.class c.args.bytes.now (c.in-Some.handle).now (c.in-Some.opened).now c.in-Some.ensures.some.0 c.in-Some.ensures.some.1 nodes holds c.in-Ok.ensures.ok info (info_spelled c.args.class info spelled.0 c.args.bytes.now spelled.1))
    (subst (λ (units : List ℕ). Serves t (seen g.F.Folder.nodes g.F.Folder.faults c.args.folder.now) c.rename.new.self (seen g.F.Folder.nodes g.F.Folder.faults c.rename.new.folder) (sets_of c.args.file c.args.moment (length c.args.bytes.now) (set.Rename c.in-Ok-Rename.replace units)) c.rename.result) c.as_slice.ensures c.rename.ensures.serves)

pub returns-in-Ok-Disposition-clause-serves : goal.returns-in-Ok-Disposition-clause-serves
returns-in-Ok-Disposition-clause-serves g c =
    let t = c.args.self.now in
    let info = set.Disposition c.in-Ok-Disposition.pending in
    let spelled = spelled_as c.args.class c.args.bytes.now c.in-Ok-Disposition.field-0 info c.in-Ok-Disposition.field-0-is c.in-Ok-Disposition.ensures.spelled in
    serves_same t c.set_pending.new.self (seen g.F.Folder.nodes g.F.Folder.faults c.args.folder.now) (seen g.F.Folder.nodes g.F.Folder.faults c.set_pending.new.folder) c.requires.over
    (sets_of c.args.file c.args.moment (length c.args.bytes.now) info) (λ s. on_handle s c.args.file (set_file s c.args.moment c.args.class (c.args.bytes).now)) c.set_pending.result
    (λ nodes told holds. set_right t c.requires.sound c.args.moment c.args.file c.args.class c.args.bytes.now (c.in-Some.handle).now (c.in-Some.opened).now c.in-Some.ensures.some.0 c.in-Some.ensures.some.1 nodes holds c.in-Ok.ensures.ok info (info_spelled c.args.class info spelled.0 c.args.bytes.now spelled.1))
    (c.set_pending.ensures.serves c.args.moment)

pub returns-in-Ok-Allocation-clause-serves : goal.returns-in-Ok-Allocation-clause-serves
returns-in-Ok-Allocation-clause-serves g c =
    let t = c.args.self.now in
    let info = set.Allocation c.in-Ok-Allocation.size in
    let spelled = spelled_as c.args.class c.args.bytes.now c.in-Ok-Allocation.field-0 info c.in-Ok-Allocation.field-0-is c.in-Ok-Allocation.ensures.spelled in
    serves_same t t (seen g.F.Folder.nodes g.F.Folder.faults c.args.folder.now) (seen g.F.Folder.nodes g.F.Folder.faults c.set_allocation.new.folder) c.requires.over
    (sets_of c.args.file c.args.moment (length c.args.bytes.now) info) (λ s. on_handle s c.args.file (set_file s c.args.moment c.args.class (c.args.bytes).now)) c.set_allocation.result
    (λ nodes told holds. set_right t c.requires.sound c.args.moment c.args.file c.args.class c.args.bytes.now (c.in-Some.handle).now (c.in-Some.opened).now c.in-Some.ensures.some.0 c.in-Some.ensures.some.1 nodes holds c.in-Ok.ensures.ok info (info_spelled c.args.class info spelled.0 c.args.bytes.now spelled.1))
    c.set_allocation.ensures.serves

pub returns-in-Ok-EndOfFile-clause-serves : goal.returns-in-Ok-EndOfFile-clause-serves
returns-in-Ok-EndOfFile-clause-serves g c =
    let t = c.args.self.now in
    let info = set.EndOfFile c.in-Ok-EndOfFile.end in
    let spelled = spelled_as c.args.class c.args.bytes.now c.in-Ok-EndOfFile.field-0 info c.in-Ok-EndOfFile.field-0-is c.in-Ok-EndOfFile.ensures.spelled in
    serves_same t t (seen g.F.Folder.nodes g.F.Folder.faults c.args.folder.now) (seen g.F.Folder.nodes g.F.Folder.faults c.set_end.new.folder) c.requires.over
    (ends c.args.file c.args.moment (length c.args.bytes.now) c.in-Ok-EndOfFile.end c.in-Ok-EndOfFile.end) (λ s. on_handle s c.args.file (set_file s c.args.moment c.args.class (c.args.bytes).now)) c.set_end.result
    (λ nodes told holds. set_right t c.requires.sound c.args.moment c.args.file c.args.class c.args.bytes.now (c.in-Some.handle).now (c.in-Some.opened).now c.in-Some.ensures.some.0 c.in-Some.ensures.some.1 nodes holds c.in-Ok.ensures.ok info (info_spelled c.args.class info spelled.0 c.args.bytes.now spelled.1))
    c.set_end.ensures.serves

pub returns-in-Err-Class-clause-serves : goal.returns-in-Err-Class-clause-serves
returns-in-Err-Class-clause-serves g c =
    let refused = subst (λ (no : InfoNo). IsRefusal set_classes c.args.class c.args.bytes.now no) c.in-Err-Class.field-0-is c.in-Err-Class.ensures.refused in
    refused_at_once c.args.self.now (seen g.F.Folder.nodes g.F.Folder.faults c.args.folder.now) c.requires.over c.requires.sound (λ s. on_handle s c.args.file (set_file s c.args.moment c.args.class (c.args.bytes).now))
    invalid_parameter (refl, refl)
    (λ nodes holds. set_wrong c.args.self.now c.requires.sound c.args.moment c.args.file c.args.class c.args.bytes.now (c.in-Some.handle).now (c.in-Some.opened).now c.in-Some.ensures.some.0 c.in-Some.ensures.some.1 nodes holds c.in-Ok.ensures.ok (info_unlisted c.args.class c.in-Err-Class.field-0-0 c.args.bytes.now refused))

pub returns-in-Err-Bad-clause-serves : goal.returns-in-Err-Bad-clause-serves
returns-in-Err-Bad-clause-serves g c =
    let refused = subst (λ (no : InfoNo). IsRefusal set_classes c.args.class c.args.bytes.now no) c.in-Err-Bad.field-0-is c.in-Err-Bad.ensures.refused in
    refused_at_once c.args.self.now (seen g.F.Folder.nodes g.F.Folder.faults c.args.folder.now) c.requires.over c.requires.sound (λ s. on_handle s c.args.file (set_file s c.args.moment c.args.class (c.args.bytes).now))
    invalid_parameter (refl, refl)
    (λ nodes holds. set_wrong c.args.self.now c.requires.sound c.args.moment c.args.file c.args.class c.args.bytes.now (c.in-Some.handle).now (c.in-Some.opened).now c.in-Some.ensures.some.0 c.in-Some.ensures.some.1 nodes holds c.in-Ok.ensures.ok (info_faulty c.args.class c.args.bytes.now c.in-Err-Bad.field-0-0 refused))
