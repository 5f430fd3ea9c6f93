use Rattle.std.proofs.Common.{◌≡◌, ◌∙◌, refl, sym, ap, subst, ◌==◌, cond, Ok}
use Rattle.std.specs.Option.{is_some, option_map}
use Rattle.std.specs.Prelude.{bit_and}
use Rattle.rd_base.specs.Statuses.{invalid_handle}
use Rattle.rd_dirinfo.specs.Paths.{Names}
use Rattle.rd_fileinfo.specs.declared.set_info.SetInfo.TheVariants as set
use Rattle.rd_irp.specs.declared.completion.Body.TheVariants.{Count}
use Rattle.rd_drive.specs.SetFile.{set_moments}
use Rattle.rd_folder.specs.declared.look.Look.{Look}
use Rattle.rd_folder.specs.FolderCalls.{folder_mark, look_of, node_there, with_put}
use Rattle.rd_folder_drive.specs.declared.table.Done.TheVariants as done
use Rattle.rd_folder_drive.specs.Served.{IsOver, Seen, Serves, seen}
use Rattle.rd_folder_drive.specs.Setting.{sets_of}
use Rattle.rd_folder_drive.proofs.AskLemmas.{calm_by}
use Rattle.rd_folder_drive.proofs.AskedLemmas.{look_is}
use Rattle.rd_folder_drive.proofs.PutLemmas.{put_holds}
use Rattle.rd_folder_drive.proofs.ServeLemmas.{changed_about, refused_at_once}
use Rattle.rd_folder_drive.proofs.SetLemmas as lemma
use Rattle.rd_folder_drive.proofs.TableLemmas as table
use Rattle.rd_folder_drive.proofs.TableLemmas.{unopened}
use Rattle.rd_folder_drive.proofs.table.Table.set_basic.Goals as goal

pub returns-in_default-clause-serves : goal.returns-in_default-clause-serves
returns-in_default-clause-serves g c =
    refused_at_once c.args.self.now (seen g.F.Folder.nodes g.F.Folder.faults c.args.folder.now) c.requires.over c.requires.sound (sets_of c.args.file c.args.moment c.args.count (set.Basic c.args.asked c.args.attributes))
    invalid_handle (refl, refl) (λ nodes holds. unopened c.args.self.now nodes c.args.file _ (c.held.ensures.none c.in_default.is))

pub returns-in-Ok-clause-serves : goal.returns-in-Ok-clause-serves
returns-in-Ok-clause-serves g c =
    let t = c.args.self.now in
    let h = (c.in-Some.handle).now in
    let o = (c.in-Some.opened).now in
    let before : Seen = seen g.F.Folder.nodes g.F.Folder.faults c.args.folder.now in
    let asked : Seen = seen g.F.Folder.nodes g.F.Folder.faults c.look.new.folder in
    let after : Seen = seen g.F.Folder.nodes g.F.Folder.faults c.mark.new.self in
    let same : asked ≡ before = c.in-Ok-Some.ensures.ok.0 in
    subst (λ (s : Seen). Serves t s t after (sets_of c.args.file c.args.moment c.args.count (set.Basic c.args.asked c.args.attributes)) (Ok (done.Replied (Count c.args.count) c.changed.result))) same
    (changed_about t asked after (subst (IsOver t) (sym same) c.requires.over) c.requires.sound (sets_of c.args.file c.args.moment c.args.count (set.Basic c.args.asked c.args.attributes))
    (calm_by asked after c.in-Ok.ensures.counted) (Count c.args.count) _ (ap is_some c.in-Some.ensures.some.1) c.changed.result c.changed.ensures _ c.in-Ok.ensures.does
    (λ nodes told holds.
    let there = table.there t c.requires.sound nodes holds c.args.file h o c.in-Some.ensures.some.0 c.in-Some.ensures.some.1 in
    let node = table.node t c.requires.sound nodes holds c.args.file h o c.in-Some.ensures.some.0 c.in-Some.ensures.some.1 in
    let as_told : c.in-Ok-Some.look ≡ look_of node = look_is nodes o.path node there c.in-Ok-Some.field-0 (ap (λ (p : Names). option_map look_of (node_there nodes p)) (sym c.names.ensures.names) ∙ c.in-Ok-Some.ensures.ok.1 nodes (sym (ap (λ (s : Seen). s.told) same) ∙ told)) c.in-Ok-Some.look c.in-Ok-Some.field-0-is in (
      with_put nodes (lemma.basic_node t c.requires.sound c.args.moment c.args.file c.args.count h o c.in-Some.ensures.some.0 c.in-Some.ensures.some.1 nodes holds c.args.asked c.args.attributes),
      ap (λ (p : Names). folder_mark p c.set_attributes-attributes.result c.set_moments-moments.result nodes) c.names-2.ensures.names ∙ lemma.basic_does t c.requires.sound c.args.moment c.args.file c.args.count h o c.in-Some.ensures.some.0 c.in-Some.ensures.some.1 nodes holds c.args.asked c.args.attributes c.set_attributes-attributes.result c.set_moments-moments.result
          (c.set_attributes-attributes.ensures ∙ ap (λ (l : Look). cond (c.args.attributes == 0) l.attributes (cond l.folder (bit_and c.args.attributes 7) (bit_and c.args.attributes 0x27))) as_told)
          (c.set_moments-moments.ensures ∙ ap (λ (l : Look). set_moments l.moments c.args.asked c.args.moment) as_told),
      put_holds t nodes holds o.path _ _ there (refl, refl),
      lemma.basic_done t c.requires.sound c.args.moment c.args.file c.args.count h o c.in-Some.ensures.some.0 c.in-Some.ensures.some.1 nodes holds c.args.asked c.args.attributes,
    )))
