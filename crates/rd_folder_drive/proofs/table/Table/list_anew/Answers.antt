use Rattle.std.proofs.Common.{◌≡◌, ◌∙◌, refl, sym, ap, subst, ℕ, true, false, List, Option, Some, None, Err}
use Rattle.rd_drive.specs.DriveState.{DriveState, Node, has_folder, is_folder_node}
use Rattle.rd_folder.specs.Told.{drive_over}
use Rattle.std.specs.Option.{option_map_or}
use Rattle.rd_drive.specs.Outcome.{no_news, on_handle, refused, succeeded}
use Rattle.rd_drive.specs.QueryDir.{query_dir}
use Rattle.rd_folder_drive.specs.Served.{Seen, seen}
use Rattle.rd_folder_drive.proofs.DirLemmas as lemma
use Rattle.rd_folder_drive.proofs.TableLemmas.{unopened}
use Rattle.rd_base.specs.Statuses.{invalid_handle, no_such_file, object_name_invalid}
use Rattle.rd_dirinfo.specs.Paths.{Names}
use Rattle.rd_dirinfo.specs.Patterns.{pattern_fault, pattern_of}
use Rattle.rd_dirinfo.specs.declared.path.PathNo.{PathNo}
use Rattle.rd_irp.specs.declared.completion.Body.TheVariants.{Buffer}
use Rattle.rd_folder_drive.specs.declared.query_dir.Entered.{Entered}
use Rattle.rd_folder_drive.specs.Listing.{FindsNext, Relists}
use Rattle.rd_folder_drive.proofs.DirLemmas.{nowhere}
use Rattle.rd_folder_drive.proofs.RelistedLemmas.{relists_sound}
use Rattle.rd_folder_drive.proofs.AskLemmas.{calm_by}
use Rattle.rd_folder_drive.proofs.ServeLemmas.{done_with, held_by, refused_at_once, refused_by, refused_with}
use Rattle.rd_folder_drive.specs.declared.table.Table.{Table}
use Rattle.rd_folder_drive.proofs.FilesLemmas.{files_relisted}
use Rattle.rd_folder_drive.proofs.table.Table.list_anew.Goals as goal

pub returns-in_default-clause-serves : goal.returns-in_default-clause-serves
returns-in_default-clause-serves g c =
    refused_at_once c.args.self.now (seen g.F.Folder.nodes g.F.Folder.faults c.args.folder.now) c.requires.over c.requires.sound (λ s. on_handle s c.args.file (query_dir s c.args.file c.args.class true (c.args.units).now))
    invalid_handle (refl, refl) (λ nodes holds. unopened c.args.self.now nodes c.args.file _ (c.held.ensures.none c.in_default.is))

pub returns-in-Err-Invalid-clause-serves : goal.returns-in-Err-Invalid-clause-serves
returns-in-Err-Invalid-clause-serves g c =
    refused_at_once c.args.self.now (seen g.F.Folder.nodes g.F.Folder.faults c.args.folder.now) c.requires.over c.requires.sound (λ s. on_handle s c.args.file (query_dir s c.args.file c.args.class true (c.args.units).now))
    object_name_invalid (refl, refl) (λ nodes holds. lemma.anew_invalid c.args.self.now c.requires.sound c.args.file (c.in-Some.field-0-0).now (c.in-Some.opened).now c.in-Some.ensures.some.0 c.in-Some.ensures.some.1 c.args.class nodes holds (c.requires.folds (c.in-Some.field-0-0).now (c.in-Some.opened).now c.in-Some.ensures.some.0 c.in-Some.ensures.some.1) c.requires.class (c.args.units).now c.in-Err-Invalid.field-0-0 ((c.in-Err-Invalid.ensures.invalid c.in-Err-Invalid.field-0-0).0 (ap (λ (no : PathNo). Err no) c.in-Err-Invalid.field-0-is)))

pub returns-in-Ok-None-clause-serves : goal.returns-in-Ok-None-clause-serves
returns-in-Ok-None-clause-serves g c =
    let before : Seen = (seen g.F.Folder.nodes g.F.Folder.faults c.args.folder.now) in
    let after : Seen = seen g.F.Folder.nodes g.F.Folder.faults c.listed.new.folder in
    let good : pattern_fault (c.args.units).now ≡ None = nowhere (pattern_fault (c.args.units).now) (λ at e. absurd (let no = (c.in-Ok.ensures.invalid at).1 e in cc)) in
    let relists : Relists c.args.self.now c.args.file (c.in-Some.field-0-0).now (pattern_of (c.args.units).now) None c.set_listing.new.self = subst (λ (p : List ℕ). Relists c.args.self.now c.args.file (c.in-Some.field-0-0).now p None c.set_listing.new.self) c.in-Ok.ensures.pattern (c.set_listing.ensures (c.in-Some.field-0-0).now c.in-Some.ensures.some.0) in
    let left = relists_sound c.args.self.now c.set_listing.new.self c.requires.sound c.args.file (c.in-Some.field-0-0).now c.in-Some.ensures.some.0 (pattern_of (c.args.units).now) None relists in
    refused_with c.args.self.now c.set_listing.new.self before after c.requires.over c.in-Ok-None.ensures.same left.0 (λ s. on_handle s c.args.file (query_dir s c.args.file c.args.class true (c.args.units).now)) (calm_by before after c.in-Ok-None.ensures.counted) no_such_file (refl, refl)
    (λ nodes told holds. (
      (left.1 nodes holds).0,
      lemma.anew_none c.args.self.now c.requires.sound c.args.file (c.in-Some.field-0-0).now (c.in-Some.opened).now c.in-Some.ensures.some.0 c.in-Some.ensures.some.1 c.args.class nodes holds (c.requires.folds (c.in-Some.field-0-0).now (c.in-Some.opened).now c.in-Some.ensures.some.0 c.in-Some.ensures.some.1) c.requires.class (c.args.units).now good (subst (λ (p : Names). FindsNext nodes p (pattern_of (c.args.units).now) None c.args.class None) c.names.ensures.names (subst (λ (p : List ℕ). FindsNext nodes c.names.result.now p None c.args.class None) c.in-Ok.ensures.pattern (subst (λ (found : Option Entered). FindsNext nodes c.names.result.now c.in-Ok.pattern None c.args.class found) c.in-Ok-None.field-0-is (c.in-Ok-None.ensures.found nodes told))))
          ∙ ap (λ (d : DriveState). refused d no_such_file) (sym (left.1 nodes holds).1),
    ))

pub returns-in-Ok-Some-clause-serves : goal.returns-in-Ok-Some-clause-serves
returns-in-Ok-Some-clause-serves g c =
    let before : Seen = (seen g.F.Folder.nodes g.F.Folder.faults c.args.folder.now) in
    let after : Seen = seen g.F.Folder.nodes g.F.Folder.faults c.listed.new.folder in
    let found : Entered = c.in-Ok-Some.field-0-0 in
    let good : pattern_fault (c.args.units).now ≡ None = nowhere (pattern_fault (c.args.units).now) (λ at e. absurd (let no = (c.in-Ok.ensures.invalid at).1 e in cc)) in
    let relists : Relists c.args.self.now c.args.file (c.in-Some.field-0-0).now (pattern_of (c.args.units).now) (Some found.name) c.set_listing-in-Ok-Some.new.self = subst (λ (p : List ℕ). Relists c.args.self.now c.args.file (c.in-Some.field-0-0).now p (Some found.name) c.set_listing-in-Ok-Some.new.self) c.in-Ok.ensures.pattern (c.set_listing-in-Ok-Some.ensures (c.in-Some.field-0-0).now c.in-Some.ensures.some.0) in
    let left = relists_sound c.args.self.now c.set_listing-in-Ok-Some.new.self c.requires.sound c.args.file (c.in-Some.field-0-0).now c.in-Some.ensures.some.0 (pattern_of (c.args.units).now) (Some found.name) relists in
    done_with c.args.self.now c.set_listing-in-Ok-Some.new.self before after c.requires.over c.in-Ok-Some.ensures.same left.0 (λ s. on_handle s c.args.file (query_dir s c.args.file c.args.class true (c.args.units).now)) (calm_by before after c.in-Ok-Some.ensures.counted) (Buffer found.bytes) c.none.result c.none.ensures
    (λ nodes told holds. (
      (left.1 nodes holds).0,
      lemma.anew_some c.args.self.now c.requires.sound c.args.file (c.in-Some.field-0-0).now (c.in-Some.opened).now c.in-Some.ensures.some.0 c.in-Some.ensures.some.1 c.args.class nodes holds (c.requires.folds (c.in-Some.field-0-0).now (c.in-Some.opened).now c.in-Some.ensures.some.0 c.in-Some.ensures.some.1) c.requires.class (c.args.units).now good found (subst (λ (p : Names). FindsNext nodes p (pattern_of (c.args.units).now) None c.args.class (Some found)) c.names.ensures.names (subst (λ (p : List ℕ). FindsNext nodes c.names.result.now p None c.args.class (Some found)) c.in-Ok.ensures.pattern (subst (λ (found : Option Entered). FindsNext nodes c.names.result.now c.in-Ok.pattern None c.args.class found) c.in-Ok-Some.field-0-is (c.in-Ok-Some.ensures.found nodes told))))
          ∙ ap (λ (d : DriveState). succeeded d (Buffer found.bytes) no_news) (sym (left.1 nodes holds).1),
    ))

pub returns-in-Ok-None-clause-waits : goal.returns-in-Ok-None-clause-waits
returns-in-Ok-None-clause-waits g c = ap (λ (t : Table). t.waiting) (c.set_listing.ensures (c.in-Some.field-0-0).now c.in-Some.ensures.some.0).rest

pub returns-in-Ok-Some-clause-waits : goal.returns-in-Ok-Some-clause-waits
returns-in-Ok-Some-clause-waits g c = ap (λ (t : Table). t.waiting) (c.set_listing-in-Ok-Some.ensures (c.in-Some.field-0-0).now c.in-Some.ensures.some.0).rest

pub returns-in-Err-clause-serves : goal.returns-in-Err-clause-serves
returns-in-Err-clause-serves g c =
    let t = c.args.self.now in
    let before : Seen = seen g.F.Folder.nodes g.F.Folder.faults c.args.folder.now in
    let after : Seen = seen g.F.Folder.nodes g.F.Folder.faults c.listed.new.folder in
    let h = (c.in-Some.field-0-0).now in
    let o = (c.in-Some.opened).now in
    refused_by t before after c.requires.over c.in-Err.ensures.same c.requires.sound (λ s. on_handle s c.args.file (query_dir s c.args.file c.args.class true (c.args.units).now)) c.in-Err.status
    (c.in-Err.ensures.refused (λ nodes told.
    let there = (held_by t before c.requires.over nodes told).there h.node o c.in-Some.ensures.some.1 in
    ap (has_folder (drive_over nodes)) c.names.ensures.names
    ∙ ap (λ (found : Option Node). option_map_or is_folder_node found false) there.1 ∙ there.2 ∙ c.requires.folds h o c.in-Some.ensures.some.0 c.in-Some.ensures.some.1))

pub returns-in-Ok-None-clause-files : goal.returns-in-Ok-None-clause-files
returns-in-Ok-None-clause-files g c = files_relisted c.args.self.now c.set_listing.new.self c.args.file _ _ _ (c.set_listing.ensures (c.in-Some.field-0-0).now c.in-Some.ensures.some.0)

pub returns-in-Ok-Some-clause-files : goal.returns-in-Ok-Some-clause-files
returns-in-Ok-Some-clause-files g c = files_relisted c.args.self.now c.set_listing-in-Ok-Some.new.self c.args.file _ _ _ (c.set_listing-in-Ok-Some.ensures (c.in-Some.field-0-0).now c.in-Some.ensures.some.0)
