use Rattle.std.proofs.Common.{◌≡◌, ◌∙◌, refl, sym, ap, subst, ℕ, false, Option, Some, None, Bor}
use Rattle.rd_drive.specs.DriveState.{DriveState}
use Rattle.rd_drive.specs.Outcome.{no_news, on_handle, succeeded}
use Rattle.rd_drive.specs.QueryDir.{query_dir}
use Rattle.rd_folder_drive.specs.Served.{Seen, seen}
use Rattle.rd_folder_drive.proofs.DirLemmas as lemma
use Rattle.rd_folder_drive.proofs.TableLemmas.{unopened}
use Rattle.rd_base.specs.Statuses.{invalid_handle, no_more_files}
use Rattle.std.specs.Option.{option_copied, option_map}
use Rattle.rd_base.specs.declared.items.Items.{Items}
use Rattle.rd_dirinfo.specs.Naming.{Name}
use Rattle.rd_dirinfo.specs.Paths.{Names}
use Rattle.rd_irp.specs.declared.completion.Body.TheVariants.{Buffer}
use Rattle.rd_folder_drive.specs.declared.query_dir.Entered.{Entered}
use Rattle.rd_folder_drive.specs.Listing.{FindsNext}
use Rattle.rd_folder_drive.proofs.RelistedLemmas.{relists_sound}
use Rattle.rd_folder_drive.proofs.AskLemmas.{calm_by}
use Rattle.rd_folder_drive.proofs.ServeLemmas.{done_with, refused_at_once, refused_so}
use Rattle.rd_folder_drive.specs.declared.table.Table.{Table}
use Rattle.rd_folder_drive.proofs.FilesLemmas.{files_relisted}
use Rattle.rd_folder_drive.proofs.table.Table.list_on.Goals as goal

-- a reference's value, in either word
copied : (o : Option (Bor (Items ℕ))) → option_map (λ other. other.now) o ≡ option_copied o
copied None = refl
copied (Some x) = refl

pub returns-in_default-clause-serves : goal.returns-in_default-clause-serves
returns-in_default-clause-serves g c units =
    refused_at_once c.args.self.now (seen g.F.Folder.nodes g.F.Folder.faults c.args.folder.now) c.requires.over c.requires.sound (λ s. on_handle s c.args.file (query_dir s c.args.file c.args.class false units))
    invalid_handle (refl, refl) (λ nodes holds. unopened c.args.self.now nodes c.args.file _ (c.held.ensures.none c.in_default.is))

pub returns-in-Ok-None-clause-serves : goal.returns-in-Ok-None-clause-serves
returns-in-Ok-None-clause-serves g c units =
    let before : Seen = (seen g.F.Folder.nodes g.F.Folder.faults c.args.folder.now) in
    let after : Seen = seen g.F.Folder.nodes g.F.Folder.faults c.listed.new.folder in
    refused_so c.args.self.now before after c.requires.over c.in-Ok-None.ensures.same c.requires.sound (λ s. on_handle s c.args.file (query_dir s c.args.file c.args.class false units)) (calm_by before after c.in-Ok-None.ensures.counted) no_more_files (refl, refl)
    (λ nodes told holds. lemma.on_none c.args.self.now c.requires.sound c.args.file (c.in-Some.handle).now (c.in-Some.opened).now c.in-Some.ensures.some.0 c.in-Some.ensures.some.1 c.args.class nodes holds (c.requires.folds (c.in-Some.handle).now (c.in-Some.opened).now c.in-Some.ensures.some.0 c.in-Some.ensures.some.1) c.requires.class units (subst (λ (p : Names). FindsNext nodes p ((c.in-Some.handle).now).pattern ((c.in-Some.handle).now).last c.args.class None) c.names.ensures.names (subst (λ (l : Option Name). FindsNext nodes c.names.result.now ((c.in-Some.handle).now).pattern l c.args.class None) (copied c.as_ref.result ∙ c.as_ref.ensures.value) (subst (λ (found : Option Entered). FindsNext nodes c.names.result.now ((c.in-Some.handle).now).pattern (option_map (λ other. other.now) c.as_ref.result) c.args.class found) c.in-Ok-None.field-0-is (c.in-Ok-None.ensures.found nodes told)))))

pub returns-in-Ok-Some-clause-serves : goal.returns-in-Ok-Some-clause-serves
returns-in-Ok-Some-clause-serves g c units =
    let before : Seen = (seen g.F.Folder.nodes g.F.Folder.faults c.args.folder.now) in
    let after : Seen = seen g.F.Folder.nodes g.F.Folder.faults c.listed.new.folder in
    let found : Entered = c.in-Ok-Some.field-0-0 in
    let left = relists_sound c.args.self.now c.set_last.new.self c.requires.sound c.args.file (c.in-Some.handle).now c.in-Some.ensures.some.0 ((c.in-Some.handle).now).pattern (Some found.name) (c.set_last.ensures (c.in-Some.handle).now c.in-Some.ensures.some.0) in
    done_with c.args.self.now c.set_last.new.self before after c.requires.over c.in-Ok-Some.ensures.same left.0 (λ s. on_handle s c.args.file (query_dir s c.args.file c.args.class false units)) (calm_by before after c.in-Ok-Some.ensures.counted) (Buffer found.bytes) c.none.result c.none.ensures
    (λ nodes told holds. (
      (left.1 nodes holds).0,
      lemma.on_some c.args.self.now c.requires.sound c.args.file (c.in-Some.handle).now (c.in-Some.opened).now c.in-Some.ensures.some.0 c.in-Some.ensures.some.1 c.args.class nodes holds (c.requires.folds (c.in-Some.handle).now (c.in-Some.opened).now c.in-Some.ensures.some.0 c.in-Some.ensures.some.1) c.requires.class units found (subst (λ (p : Names). FindsNext nodes p ((c.in-Some.handle).now).pattern ((c.in-Some.handle).now).last c.args.class (Some found)) c.names.ensures.names (subst (λ (l : Option Name). FindsNext nodes c.names.result.now ((c.in-Some.handle).now).pattern l c.args.class (Some found)) (copied c.as_ref.result ∙ c.as_ref.ensures.value) (subst (λ (found : Option Entered). FindsNext nodes c.names.result.now ((c.in-Some.handle).now).pattern (option_map (λ other. other.now) c.as_ref.result) c.args.class found) c.in-Ok-Some.field-0-is (c.in-Ok-Some.ensures.found nodes told))))
          ∙ ap (λ (d : DriveState). succeeded d (Buffer found.bytes) no_news) (sym (left.1 nodes holds).1),
    ))

pub returns-in-Ok-Some-clause-waits : goal.returns-in-Ok-Some-clause-waits
returns-in-Ok-Some-clause-waits g c = ap (λ (t : Table). t.waiting) (c.set_last.ensures (c.in-Some.handle).now c.in-Some.ensures.some.0).rest

pub returns-in-Ok-Some-clause-files : goal.returns-in-Ok-Some-clause-files
returns-in-Ok-Some-clause-files g c = files_relisted c.args.self.now c.set_last.new.self c.args.file _ _ _ (c.set_last.ensures (c.in-Some.handle).now c.in-Some.ensures.some.0)
