use Rattle.std.proofs.Common.{◌∙◌, refl, sym, subst, Bool}
use Rattle.rd_drive.specs.Outcome.{on_handle}
use Rattle.rd_drive.specs.QueryDir.{query_dir}
use Rattle.rd_folder_drive.specs.Served.{Serves, seen}
use Rattle.rd_folder_drive.proofs.DirLemmas as lemma
use Rattle.rd_folder_drive.proofs.TableLemmas.{unopened}
use Rattle.rd_base.specs.Statuses.{invalid_handle, invalid_info_class, invalid_parameter}
use Rattle.rd_folder_drive.proofs.ServeLemmas.{refused_at_once}
use Rattle.rd_folder_drive.proofs.table.Table.query_dir.Goals as goal

pub returns-in_default-clause-serves : goal.returns-in_default-clause-serves
returns-in_default-clause-serves g c =
    refused_at_once c.args.self.now (seen g.F.Folder.nodes g.F.Folder.faults c.args.folder.now) c.requires.over c.requires.sound (λ s. on_handle s c.args.file (query_dir s c.args.file c.args.class c.args.initial (c.args.units).now))
    invalid_handle (refl, refl) (λ nodes holds. unopened c.args.self.now nodes c.args.file _ (c.held.ensures.none c.in_default.is))

pub returns-then-not-opened-clause-serves : goal.returns-then-not-opened-clause-serves
returns-then-not-opened-clause-serves g c =
    refused_at_once c.args.self.now (seen g.F.Folder.nodes g.F.Folder.faults c.args.folder.now) c.requires.over c.requires.sound (λ s. on_handle s c.args.file (query_dir s c.args.file c.args.class c.args.initial (c.args.units).now))
    invalid_parameter (refl, refl) (λ nodes holds. lemma.dir_file c.args.self.now c.requires.sound c.args.file (c.in-Some.field-0-0).now (c.in-Some.opened).now c.in-Some.ensures.some.0 c.in-Some.ensures.some.1 c.args.class nodes holds c.args.initial (c.args.units).now c.if-not-opened.true)

pub returns-then-not-is_entry_class-clause-serves : goal.returns-then-not-is_entry_class-clause-serves
returns-then-not-is_entry_class-clause-serves g c =
    refused_at_once c.args.self.now (seen g.F.Folder.nodes g.F.Folder.faults c.args.folder.now) c.requires.over c.requires.sound (λ s. on_handle s c.args.file (query_dir s c.args.file c.args.class c.args.initial (c.args.units).now))
    invalid_info_class (refl, refl) (λ nodes holds. lemma.dir_class c.args.self.now c.requires.sound c.args.file (c.in-Some.field-0-0).now (c.in-Some.opened).now c.in-Some.ensures.some.0 c.in-Some.ensures.some.1 c.args.class nodes holds c.args.initial (c.args.units).now c.if-not-opened.false (sym c.is_entry_class.ensures ∙ c.if-not-is_entry_class.true))

pub returns-clause-serves : goal.returns-clause-serves
returns-clause-serves g c =
    subst (λ (initial : Bool). Serves c.args.self.now (seen g.F.Folder.nodes g.F.Folder.faults c.args.folder.now) c.list_on.new.self (seen g.F.Folder.nodes g.F.Folder.faults c.list_on.new.folder) (λ s. on_handle s c.args.file (query_dir s c.args.file c.args.class initial (c.args.units).now)) c.list_on.result) (sym c.if-initial.false) (c.list_on.ensures.serves (c.args.units).now)
