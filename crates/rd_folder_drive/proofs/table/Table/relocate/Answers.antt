use Rattle.std.proofs.Common.{◌≡◌, ◌∙◌, refl, sym, ap, subst, true, false, map, Some, Result, Err}
use Rattle.std.specs.List.{list_any}
use Rattle.rd_base.specs.declared.status.Status.{Status}
use Rattle.rd_base.specs.Statuses.{invalid_handle}
use Rattle.rd_dirinfo.specs.Paths.{Names, is_path}
use Rattle.rd_folder.specs.FolderCalls.{folder_rename}
use Rattle.rd_folder.specs.FolderLaws.{CountsNo, DoesCall}
use Rattle.rd_folder_drive.specs.Asking.{IsLookAt}
use Rattle.rd_folder_drive.specs.Moving.{is_far, moved_entry, move_news, AreMoved, MayNotReplace, MayReplace}
use Rattle.rd_folder_drive.specs.Served.{Seen, seen, Serves}
use Rattle.rd_folder_drive.specs.Setting.{renames}
use Rattle.rd_folder_drive.proofs.RelocateLemmas.{serves_barred, serves_far, serves_moved, serves_refused}
use Rattle.rd_folder_drive.proofs.RenameLemmas.{is_true}
use Rattle.rd_folder_drive.proofs.ServeLemmas.{refused_at_once}
use Rattle.rd_folder_drive.proofs.TableLemmas.{unopened}
use Rattle.rd_folder_drive.proofs.table.Table.relocate.Goals as goal

pub returns-in_default-clause-serves : goal.returns-in_default-clause-serves
returns-in_default-clause-serves g c =
    refused_at_once c.args.self.now (seen g.F.Folder.nodes g.F.Folder.faults c.args.folder.now) c.requires.over c.requires.sound (renames c.args.file c.args.moment c.args.count c.args.replace (c.args.to).now)
    invalid_handle (refl, refl) (λ nodes holds. unopened c.args.self.now nodes c.args.file _ (c.held.ensures.none c.in_default.is))

pub returns-in-Ok-None-clause-serves : goal.returns-in-Ok-None-clause-serves
returns-in-Ok-None-clause-serves g c =
    let t = c.args.self.now in
    let h = (c.in-Some.handle).now in
    let o = (c.in-Some.opened).now in
    let to = (c.args.to).now in
    let before : Seen = seen g.F.Folder.nodes g.F.Folder.faults c.args.folder.now in
    let path : is_path to ≡ true = is_true (is_path to) c.names-path.ensures.within in
    serves_far t c.requires.sound before c.requires.over c.args.moment c.args.file c.args.count c.args.replace h o c.in-Some.ensures.some.0 c.in-Some.ensures.some.1 to path c.requires.below c.requires.new
    (ap (λ (p : Names). list_any (is_far p to) t.opens.entries) (sym c.names-from.ensures.names) ∙ subst (AreMoved c.names-from.result.now to t.opens.entries) c.in-Ok-None.field-0-is c.in-Ok-None.ensures)

pub returns-in-Err-check_target-clause-serves : goal.returns-in-Err-check_target-clause-serves
returns-in-Err-check_target-clause-serves g c =
    let t = c.args.self.now in
    let h = (c.in-Some.handle).now in
    let o = (c.in-Some.opened).now in
    let to = (c.args.to).now in
    let before : Seen = seen g.F.Folder.nodes g.F.Folder.faults c.args.folder.now in
    let path : is_path to ≡ true = is_true (is_path to) c.names-path.ensures.within in
    let are : AreMoved c.names-from.result.now to t.opens.entries (Some c.in-Ok-Some.moved) = subst (AreMoved c.names-from.result.now to t.opens.entries) c.in-Ok-Some.field-0-is c.in-Ok-Some.ensures in
    let near : list_any (is_far o.path to) t.opens.entries ≡ false = ap (λ (p : Names). list_any (is_far p to) t.opens.entries) (sym c.names-from.ensures.names) ∙ are.0 in
    let look : IsLookAt before to c.in-Ok.found = subst (λ (p : Names). IsLookAt before p c.in-Ok.found) c.names-path.ensures.names c.in-Ok.ensures.ok.1 in
    serves_barred t c.requires.sound before c.requires.over c.args.moment c.args.file c.args.count c.args.replace h o c.in-Some.ensures.some.0 c.in-Some.ensures.some.1 to path c.requires.below c.requires.new
    near c.in-Ok.found look (seen g.F.Folder.nodes g.F.Folder.faults c.look.new.folder) c.in-Ok.ensures.ok.0 c.in-Err-check_target.status
    (subst (λ (p : Names). MayNotReplace t p c.args.replace c.in-Ok.found c.in-Err-check_target.status) c.names-path.ensures.names c.in-Err-check_target.ensures.err)

pub returns-in-Ok-rename-clause-serves : goal.returns-in-Ok-rename-clause-serves
returns-in-Ok-rename-clause-serves g c =
    let t = c.args.self.now in
    let h = (c.in-Some.handle).now in
    let o = (c.in-Some.opened).now in
    let to = (c.args.to).now in
    let before : Seen = seen g.F.Folder.nodes g.F.Folder.faults c.args.folder.now in
    let path : is_path to ≡ true = is_true (is_path to) c.names-path.ensures.within in
    let are : AreMoved c.names-from.result.now to t.opens.entries (Some c.in-Ok-Some.moved) = subst (AreMoved c.names-from.result.now to t.opens.entries) c.in-Ok-Some.field-0-is c.in-Ok-Some.ensures in
    let near : list_any (is_far o.path to) t.opens.entries ≡ false = ap (λ (p : Names). list_any (is_far p to) t.opens.entries) (sym c.names-from.ensures.names) ∙ are.0 in
    let look : IsLookAt before to c.in-Ok.found = subst (λ (p : Names). IsLookAt before p c.in-Ok.found) c.names-path.ensures.names c.in-Ok.ensures.ok.1 in
    let after : Seen = seen g.F.Folder.nodes g.F.Folder.faults c.rename.new.self in
    let free : MayReplace t to c.args.replace c.in-Ok.found = subst (λ (p : Names). MayReplace t p c.args.replace c.in-Ok.found) c.names-path.ensures.names c.in_default-check_target.ensures.ok in
    let same : seen g.F.Folder.nodes g.F.Folder.faults c.look.new.folder ≡ before = c.in-Ok.ensures.ok.0 in
    serves_moved t c.requires.sound before c.requires.over c.args.moment c.args.file c.args.count c.args.replace h o c.in-Some.ensures.some.0 c.in-Some.ensures.some.1 to path c.requires.below c.requires.new
    near c.in-Ok.found look free after
    (subst (λ (p : Names). DoesCall before.told after.told (folder_rename o.path p c.args.moment) (Result.Ok tt)) c.names-path.ensures.names
    (subst (λ (p : Names). DoesCall before.told after.told (folder_rename p c.names-path.result.now c.args.moment) (Result.Ok tt)) c.names-from.ensures.names
    (subst (λ (x : Seen). DoesCall x.told after.told (folder_rename c.names-from.result.now c.names-path.result.now c.args.moment) (Result.Ok tt)) same c.in-Ok-rename.ensures.does)))
    (c.in-Ok-rename.ensures.counted ∙ ap (λ (x : Seen). x.faults) same)
    c.in-Ok-Some.moved (are.1 ∙ ap (λ (p : Names). map (moved_entry p to) t.opens.entries) c.names-from.ensures.names)
    c.in-Ok-move_news.news (c.in-Ok-move_news.ensures ∙ (λ i. move_news (c.names-from.ensures.names i) (c.names-path.ensures.names i) h.node o.folder c.in-Ok.found))

pub returns-in-Err-rename-clause-serves : goal.returns-in-Err-rename-clause-serves
returns-in-Err-rename-clause-serves g c =
    let t = c.args.self.now in
    let h = (c.in-Some.handle).now in
    let o = (c.in-Some.opened).now in
    let to = (c.args.to).now in
    let before : Seen = seen g.F.Folder.nodes g.F.Folder.faults c.args.folder.now in
    let path : is_path to ≡ true = is_true (is_path to) c.names-path.ensures.within in
    let are : AreMoved c.names-from.result.now to t.opens.entries (Some c.in-Ok-Some.moved) = subst (AreMoved c.names-from.result.now to t.opens.entries) c.in-Ok-Some.field-0-is c.in-Ok-Some.ensures in
    let near : list_any (is_far o.path to) t.opens.entries ≡ false = ap (λ (p : Names). list_any (is_far p to) t.opens.entries) (sym c.names-from.ensures.names) ∙ are.0 in
    let look : IsLookAt before to c.in-Ok.found = subst (λ (p : Names). IsLookAt before p c.in-Ok.found) c.names-path.ensures.names c.in-Ok.ensures.ok.1 in
    let after : Seen = seen g.F.Folder.nodes g.F.Folder.faults c.rename.new.self in
    let free : MayReplace t to c.args.replace c.in-Ok.found = subst (λ (p : Names). MayReplace t p c.args.replace c.in-Ok.found) c.names-path.ensures.names c.in_default-check_target.ensures.ok in
    let same : seen g.F.Folder.nodes g.F.Folder.faults c.look.new.folder ≡ before = c.in-Ok.ensures.ok.0 in
    subst (λ (x : Status). Serves t before t after (renames c.args.file c.args.moment c.args.count c.args.replace to) (Err x)) (sym c.folder_status.ensures)
    (serves_refused t c.requires.sound before c.requires.over c.args.moment c.args.file c.args.count c.args.replace h o c.in-Some.ensures.some.0 c.in-Some.ensures.some.1 to path c.requires.below c.requires.new
    near c.in-Ok.found look free after c.in-Err-rename.no
    (subst (λ (p : Names). DoesCall before.told after.told (folder_rename o.path p c.args.moment) (Result.Err c.in-Err-rename.no)) c.names-path.ensures.names
    (subst (λ (p : Names). DoesCall before.told after.told (folder_rename p c.names-path.result.now c.args.moment) (Result.Err c.in-Err-rename.no)) c.names-from.ensures.names
    (subst (λ (x : Seen). DoesCall x.told after.told (folder_rename c.names-from.result.now c.names-path.result.now c.args.moment) (Result.Err c.in-Err-rename.no)) same c.in-Err-rename.ensures.does)))
    (subst (λ (x : Seen). CountsNo x.told c.in-Err-rename.no x.faults after.faults) same c.in-Err-rename.ensures.counted))
