use Rattle.std.proofs.Common.{◌∙◌, sym, ap, subst, ℕ, List, Ok, length, min, inl}
use Rattle.rd_base.specs.declared.bad.InfoNo.{InfoNo}
use Rattle.rd_base.specs.Classes.{IsRefusal}
use Rattle.rd_fileinfo.specs.declared.set_info.SetInfo.TheVariants as set
use Rattle.rd_fileinfo.specs.SetInfo.{set_classes}
use Rattle.rd_tree.specs.Places.{bytes_at}
use Rattle.rd_drive.specs.Rename.{rename_to}
use Rattle.rd_drive.specs.SetFile.{set_end, set_file}
use Rattle.rd_drive.specs.Store.{drive_of, handle_of, Serves}
use Rattle.rd_drive.specs.Kept.{own_node}
use Rattle.rd_drive.proofs.HandleLemmas.{unopened}
use Rattle.rd_drive.proofs.SetLemmas.{allocation_of_file, class_of, end_of_file_of_file, info_faulty, info_unlisted, mark_of_other, rename_of_other}
use Rattle.rd_drive.proofs.SettingLemmas.{end_is, no_folder, not_root, set_refused, set_serves, set_wrong, spelled_as}
use Rattle.rd_drive.proofs.store.Store.set_file.Goals as goal

pub returns-in_default : goal.returns-in_default
returns-in_default c = (c.requires, inl (unopened c.args.self.now c.args.file (set_file (drive_of c.args.self.now) c.args.moment c.args.class c.args.bytes.now) (sym c.in_default.ensures)))

pub returns-in-Err : goal.returns-in-Err
returns-in-Err c = (c.requires, inl (set_refused c.args.self.now c.requires c.args.file c.in-Some.handle.now (sym c.in-Some.ensures) c.args.moment c.args.class c.args.bytes.now c.in-Err.status c.in-Err.ensures.err))

pub rename-requires-clause-other : goal.rename-requires-clause-other
rename-requires-clause-other c =
    let s = c.args.self.now in
    let h = c.in-Some.handle.now in
    let spelled = spelled_as c.args.class c.args.bytes.now c.in-Ok-Rename.field-0 (set.Rename c.in-Ok-Rename.replace c.in-Ok-Rename.path) c.in-Ok-Rename.field-0-is c.in-Ok-Rename.ensures.spelled in
    let class = class_of c.args.class (set.Rename c.in-Ok-Rename.replace c.in-Ok-Rename.path) spelled.0 c.args.bytes.now spelled.1 in
    not_root s.tree c.requires.whole h.node.0 (c.requires.opened c.args.file h (sym c.in-Some.ensures)).0 (rename_of_other (drive_of s) (handle_of s.tree h) (own_node s h.node.0) c.args.class class c.in-Ok.ensures.ok)

pub set_pending-requires-clause-other : goal.set_pending-requires-clause-other
set_pending-requires-clause-other c =
    let s = c.args.self.now in
    let h = c.in-Some.handle.now in
    let spelled = spelled_as c.args.class c.args.bytes.now c.in-Ok-Disposition.field-0 (set.Disposition c.in-Ok-Disposition.pending) c.in-Ok-Disposition.field-0-is c.in-Ok-Disposition.ensures.spelled in
    let class = class_of c.args.class (set.Disposition c.in-Ok-Disposition.pending) spelled.0 c.args.bytes.now spelled.1 in
    not_root s.tree c.requires.whole h.node.0 (c.requires.opened c.args.file h (sym c.in-Some.ensures)).0 (mark_of_other (drive_of s) (handle_of s.tree h) (own_node s h.node.0) c.args.class class c.in-Ok.ensures.ok)

pub set_end-requires-clause-file : goal.set_end-requires-clause-file
set_end-requires-clause-file c =
    let s = c.args.self.now in
    let h = c.in-Some.handle.now in
    let spelled = spelled_as c.args.class c.args.bytes.now c.in-Ok-Allocation.field-0 (set.Allocation c.in-Ok-Allocation.size) c.in-Ok-Allocation.field-0-is c.in-Ok-Allocation.ensures.spelled in
    let class = class_of c.args.class (set.Allocation c.in-Ok-Allocation.size) spelled.0 c.args.bytes.now spelled.1 in
    no_folder (bytes_at s.tree h.node.0) (allocation_of_file (drive_of s) (handle_of s.tree h) (own_node s h.node.0) c.args.class class c.in-Ok.ensures.ok)

pub set_end-requires-in-Ok-EndOfFile-clause-file : goal.set_end-requires-in-Ok-EndOfFile-clause-file
set_end-requires-in-Ok-EndOfFile-clause-file c =
    let s = c.args.self.now in
    let h = c.in-Some.handle.now in
    let spelled = spelled_as c.args.class c.args.bytes.now c.in-Ok-EndOfFile.field-0 (set.EndOfFile c.in-Ok-EndOfFile.end) c.in-Ok-EndOfFile.field-0-is c.in-Ok-EndOfFile.ensures.spelled in
    let class = class_of c.args.class (set.EndOfFile c.in-Ok-EndOfFile.end) spelled.0 c.args.bytes.now spelled.1 in
    no_folder (bytes_at s.tree h.node.0) (end_of_file_of_file (drive_of s) (handle_of s.tree h) (own_node s h.node.0) c.args.class class c.in-Ok.ensures.ok)

pub returns-in-Ok-Basic : goal.returns-in-Ok-Basic
returns-in-Ok-Basic c =
    let s = c.args.self.now in
    let spelled = spelled_as c.args.class c.args.bytes.now c.in-Ok-Basic.field-0 (set.Basic c.in-Ok-Basic.moments c.in-Ok-Basic.attributes) c.in-Ok-Basic.field-0-is c.in-Ok-Basic.ensures.spelled in
    set_serves s c.requires c.args.file c.in-Some.handle.now (sym c.in-Some.ensures) c.args.moment c.args.class c.args.bytes.now c.in-Ok.ensures.ok (set.Basic c.in-Ok-Basic.moments c.in-Ok-Basic.attributes) spelled.0 spelled.1 c.set_basic.new.self (Ok c.set_basic.result)
    c.set_basic.ensures

pub returns-in-Ok-Rename : goal.returns-in-Ok-Rename
returns-in-Ok-Rename c =
    let s = c.args.self.now in
    let spelled = spelled_as c.args.class c.args.bytes.now c.in-Ok-Rename.field-0 (set.Rename c.in-Ok-Rename.replace c.in-Ok-Rename.path) c.in-Ok-Rename.field-0-is c.in-Ok-Rename.ensures.spelled in
    set_serves s c.requires c.args.file c.in-Some.handle.now (sym c.in-Some.ensures) c.args.moment c.args.class c.args.bytes.now c.in-Ok.ensures.ok (set.Rename c.in-Ok-Rename.replace c.in-Ok-Rename.path) spelled.0 spelled.1 c.rename.new.self c.rename.result
    (subst (λ (units : List ℕ). Serves s c.rename.new.self (rename_to (drive_of s) c.args.moment (length c.args.bytes.now) (own_node s c.in-Some.handle.now.node.0) c.in-Ok-Rename.replace units) c.rename.result) c.as_slice.ensures c.rename.ensures)

pub returns-in-Ok-Disposition : goal.returns-in-Ok-Disposition
returns-in-Ok-Disposition c =
    let s = c.args.self.now in
    let spelled = spelled_as c.args.class c.args.bytes.now c.in-Ok-Disposition.field-0 (set.Disposition c.in-Ok-Disposition.pending) c.in-Ok-Disposition.field-0-is c.in-Ok-Disposition.ensures.spelled in
    set_serves s c.requires c.args.file c.in-Some.handle.now (sym c.in-Some.ensures) c.args.moment c.args.class c.args.bytes.now c.in-Ok.ensures.ok (set.Disposition c.in-Ok-Disposition.pending) spelled.0 spelled.1 c.set_pending.new.self c.set_pending.result
    c.set_pending.ensures

pub returns-in-Ok-Allocation : goal.returns-in-Ok-Allocation
returns-in-Ok-Allocation c =
    let s = c.args.self.now in
    let spelled = spelled_as c.args.class c.args.bytes.now c.in-Ok-Allocation.field-0 (set.Allocation c.in-Ok-Allocation.size) c.in-Ok-Allocation.field-0-is c.in-Ok-Allocation.ensures.spelled in
    set_serves s c.requires c.args.file c.in-Some.handle.now (sym c.in-Some.ensures) c.args.moment c.args.class c.args.bytes.now c.in-Ok.ensures.ok (set.Allocation c.in-Ok-Allocation.size) spelled.0 spelled.1 c.set_end.new.self c.set_end.result
    (subst (λ (end : ℕ). Serves s c.set_end.new.self (set_end (drive_of s) c.args.moment (length c.args.bytes.now) (own_node s c.in-Some.handle.now.node.0) c.in-Ok-Allocation.size end) c.set_end.result)
    (c.min.ensures ∙ ap (λ (k : ℕ). min c.in-Ok-Allocation.size k) (c.unwrap_or-end.ensures ∙ end_is c.end.result (bytes_at s.tree c.in-Some.handle.now.node.0) c.end.ensures.end)) c.set_end.ensures)

pub returns-in-Ok-EndOfFile : goal.returns-in-Ok-EndOfFile
returns-in-Ok-EndOfFile c =
    let s = c.args.self.now in
    let spelled = spelled_as c.args.class c.args.bytes.now c.in-Ok-EndOfFile.field-0 (set.EndOfFile c.in-Ok-EndOfFile.end) c.in-Ok-EndOfFile.field-0-is c.in-Ok-EndOfFile.ensures.spelled in
    set_serves s c.requires c.args.file c.in-Some.handle.now (sym c.in-Some.ensures) c.args.moment c.args.class c.args.bytes.now c.in-Ok.ensures.ok (set.EndOfFile c.in-Ok-EndOfFile.end) spelled.0 spelled.1 c.set_end-in-Ok-EndOfFile.new.self c.set_end-in-Ok-EndOfFile.result
    c.set_end-in-Ok-EndOfFile.ensures

pub returns-in-Err-Class : goal.returns-in-Err-Class
returns-in-Err-Class c =
    let refused = subst (λ (no : InfoNo). IsRefusal set_classes c.args.class c.args.bytes.now no) c.in-Err-Class.field-0-is c.in-Err-Class.ensures.refused in
    (c.requires, inl (set_wrong c.args.self.now c.requires c.args.file c.in-Some.handle.now (sym c.in-Some.ensures) c.args.moment c.args.class c.args.bytes.now c.in-Ok.ensures.ok (info_unlisted c.args.class c.in-Err-Class.field-0-0 c.args.bytes.now refused)))

pub returns-in-Err-Bad : goal.returns-in-Err-Bad
returns-in-Err-Bad c =
    let refused = subst (λ (no : InfoNo). IsRefusal set_classes c.args.class c.args.bytes.now no) c.in-Err-Bad.field-0-is c.in-Err-Bad.ensures.refused in
    (c.requires, inl (set_wrong c.args.self.now c.requires c.args.file c.in-Some.handle.now (sym c.in-Some.ensures) c.args.moment c.args.class c.args.bytes.now c.in-Ok.ensures.ok (info_faulty c.args.class c.args.bytes.now c.in-Err-Bad.field-0-0 refused)))
