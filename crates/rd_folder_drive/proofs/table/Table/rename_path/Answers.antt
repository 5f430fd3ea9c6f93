use Rattle.std.proofs.Common.{◌∙◌, refl, sym, ap, ◌==◌, length}
use Rattle.std.specs.List.{list_all}
use Rattle.rd_base.specs.Statuses.{access_denied, invalid_handle, invalid_parameter, object_path_not_found}
use Rattle.rd_drive.specs.DriveState.{has_folder}
use Rattle.rd_folder.specs.Told.{drive_over}
use Rattle.rd_irp.specs.declared.completion.Body.TheVariants.{Count}
use Rattle.rd_dirinfo.specs.declared.naming.Naming.TheVariants.{Exact}
use Rattle.rd_dirinfo.specs.Paths.{Names, is_below, is_name, is_path, is_same_path, parent}
use Rattle.rd_folder_drive.specs.Served.{seen}
use Rattle.rd_folder_drive.specs.Setting.{renames}
use Rattle.rd_folder_drive.proofs.RenameLemmas.{is_true, parent_named, refused_told, to_below, to_nowhere, to_own, to_root}
use Rattle.rd_folder_drive.proofs.ServeLemmas.{done_at_once_quietly, refused_at_once}
use Rattle.rd_folder_drive.proofs.TableLemmas.{unopened}
use Rattle.rd_folder_drive.proofs.table.Table.rename_path.Goals as goal

pub returns-in_default-clause-serves : goal.returns-in_default-clause-serves
returns-in_default-clause-serves g c =
    refused_at_once c.args.self.now (seen g.F.Folder.nodes g.F.Folder.faults c.args.folder.now) c.requires.over c.requires.sound (renames c.args.file c.args.moment c.args.count c.args.replace (c.args.path).now)
    invalid_handle (refl, refl) (λ nodes holds. unopened c.args.self.now nodes c.args.file _ (c.held.ensures.none c.in_default.is))

pub returns-then-is_empty-clause-serves : goal.returns-then-is_empty-clause-serves
returns-then-is_empty-clause-serves g c =
    refused_at_once c.args.self.now (seen g.F.Folder.nodes g.F.Folder.faults c.args.folder.now) c.requires.over c.requires.sound (renames c.args.file c.args.moment c.args.count c.args.replace (c.args.path).now)
    access_denied (refl, refl) (λ nodes holds. to_root c.args.self.now c.requires.sound c.args.moment c.args.file c.args.count c.args.replace (c.in-Some.handle).now (c.in-Some.opened).now c.in-Some.ensures.some.0 c.in-Some.ensures.some.1 nodes holds (c.args.path).now
    (ap (λ (p : Names). length p == 0) (sym c.names.ensures.names) ∙ sym c.if-is_empty.ensures))

pub returns-then-is_same-clause-serves : goal.returns-then-is_same-clause-serves
returns-then-is_same-clause-serves g c =
    done_at_once_quietly c.args.self.now (seen g.F.Folder.nodes g.F.Folder.faults c.args.folder.now) c.requires.over c.requires.sound (renames c.args.file c.args.moment c.args.count c.args.replace (c.args.path).now)
    (Count c.args.count) c.none.result c.none.ensures (λ nodes holds. to_own c.args.self.now c.requires.sound c.args.moment c.args.file c.args.count c.args.replace (c.in-Some.handle).now (c.in-Some.opened).now c.in-Some.ensures.some.0 c.in-Some.ensures.some.1 nodes holds (c.args.path).now
    (ap (λ (p : Names). length p == 0) (sym c.names.ensures.names) ∙ sym c.if-is_empty.ensures)
    (ap (λ (p : Names). is_same_path Exact p (c.in-Some.opened).now.path) (sym c.names-2.ensures.names) ∙ ap (is_same_path Exact c.names-2.result.now) (sym c.names-3.ensures.names) ∙ sym c.if-is_same.ensures))

pub returns-then-is_below-clause-serves : goal.returns-then-is_below-clause-serves
returns-then-is_below-clause-serves g c =
    refused_at_once c.args.self.now (seen g.F.Folder.nodes g.F.Folder.faults c.args.folder.now) c.requires.over c.requires.sound (renames c.args.file c.args.moment c.args.count c.args.replace (c.args.path).now)
    invalid_parameter (refl, refl) (λ nodes holds. to_below c.args.self.now c.requires.sound c.args.moment c.args.file c.args.count c.args.replace (c.in-Some.handle).now (c.in-Some.opened).now c.in-Some.ensures.some.0 c.in-Some.ensures.some.1 nodes holds (c.args.path).now
    (ap (λ (p : Names). length p == 0) (sym c.names.ensures.names) ∙ sym c.if-is_empty.ensures)
    (ap (λ (p : Names). is_same_path Exact p (c.in-Some.opened).now.path) (sym c.names-2.ensures.names) ∙ ap (is_same_path Exact c.names-2.result.now) (sym c.names-3.ensures.names) ∙ sym c.if-is_same.ensures)
    (ap (λ (p : Names). is_below Exact p (c.args.path).now) (sym c.names-4.ensures.names) ∙ ap (is_below Exact c.names-4.result.now) (sym c.names-5.ensures.names) ∙ sym c.if-is_below.ensures))

pub is_folder-requires : goal.is_folder-requires
is_folder-requires g c = record {
  named = ap (list_all is_name) (c.above.ensures ∙ ap parent c.names-6.ensures.names) ∙ parent_named (c.args.path).now (is_true (is_path (c.args.path).now) c.names-6.ensures.within);
}

pub returns-in-Ok-false-clause-serves : goal.returns-in-Ok-false-clause-serves
returns-in-Ok-false-clause-serves g c =
    refused_told c.args.self.now (seen g.F.Folder.nodes g.F.Folder.faults c.args.folder.now) (seen g.F.Folder.nodes g.F.Folder.faults c.is_folder.new.folder) c.requires.over c.requires.sound (renames c.args.file c.args.moment c.args.count c.args.replace (c.args.path).now)
    c.in-Ok-false.ensures.ok.0 object_path_not_found (refl, refl) (λ nodes told holds. to_nowhere c.args.self.now c.requires.sound c.args.moment c.args.file c.args.count c.args.replace (c.in-Some.handle).now (c.in-Some.opened).now c.in-Some.ensures.some.0 c.in-Some.ensures.some.1 nodes holds (c.args.path).now
    (ap (λ (p : Names). length p == 0) (sym c.names.ensures.names) ∙ sym c.if-is_empty.ensures)
    (ap (λ (p : Names). is_same_path Exact p (c.in-Some.opened).now.path) (sym c.names-2.ensures.names) ∙ ap (is_same_path Exact c.names-2.result.now) (sym c.names-3.ensures.names) ∙ sym c.if-is_same.ensures)
    (ap (λ (p : Names). is_below Exact p (c.args.path).now) (sym c.names-4.ensures.names) ∙ ap (is_below Exact c.names-4.result.now) (sym c.names-5.ensures.names) ∙ sym c.if-is_below.ensures)
    (ap (λ (p : Names). has_folder (drive_over nodes) p) (sym (c.above.ensures ∙ ap parent c.names-6.ensures.names)) ∙ c.in-Ok-false.ensures.ok.1 nodes told ∙ c.in-Ok-false.field-0-test))
