use Rattle.std.proofs.Common.{◌∙◌, refl, ap, arith}
use Rattle.std.specs.Option.{is_some}
use Rattle.std.proofs.lemmas.Bool.{lt-ltb}
use Rattle.rd_base.specs.Statuses.{disk_full, invalid_handle}
use Rattle.rd_contents.specs.Contents.{max_len}
use Rattle.rd_dirinfo.specs.Paths.{Names}
use Rattle.rd_irp.specs.declared.completion.Body.TheVariants.{Count}
use Rattle.rd_drive.proofs.WriteLemmas.{near_is}
use Rattle.rd_folder.specs.FolderCalls.{folder_resize, with_put}
use Rattle.rd_folder_drive.specs.Served.{Seen, seen}
use Rattle.rd_folder_drive.specs.Setting.{ends}
use Rattle.rd_folder_drive.proofs.AskLemmas.{calm_by}
use Rattle.rd_folder_drive.proofs.PutLemmas.{put_holds}
use Rattle.rd_folder_drive.proofs.ServeLemmas.{changed_about, refused_at_once}
use Rattle.rd_folder_drive.proofs.SetLemmas as lemma
use Rattle.rd_folder_drive.proofs.TableLemmas as table
use Rattle.rd_folder_drive.proofs.TableLemmas.{unopened}
use Rattle.rd_folder_drive.proofs.table.Table.set_end.Goals as goal

pub returns-in_default-clause-serves : goal.returns-in_default-clause-serves
returns-in_default-clause-serves g c =
    refused_at_once c.args.self.now (seen g.F.Folder.nodes g.F.Folder.faults c.args.folder.now) c.requires.over c.requires.sound (ends c.args.file c.args.moment c.args.count c.args.asked c.args.end)
    invalid_handle (refl, refl) (λ nodes holds. unopened c.args.self.now nodes c.args.file _ (c.held.ensures.none c.in_default.is))

pub returns-then-asked-gt-MAX_LEN-clause-serves : goal.returns-then-asked-gt-MAX_LEN-clause-serves
returns-then-asked-gt-MAX_LEN-clause-serves g c =
    refused_at_once c.args.self.now (seen g.F.Folder.nodes g.F.Folder.faults c.args.folder.now) c.requires.over c.requires.sound (ends c.args.file c.args.moment c.args.count c.args.asked c.args.end)
    disk_full (refl, refl) (λ nodes holds. lemma.end_far c.args.self.now c.requires.sound c.args.moment c.args.file c.args.count (c.in-Some.handle).now (c.in-Some.opened).now c.in-Some.ensures.some.0 c.in-Some.ensures.some.1 nodes holds c.args.asked c.args.end (lt-ltb max_len c.args.asked c.if-asked-gt-MAX_LEN.true))

pub returns-in-Ok-clause-serves : goal.returns-in-Ok-clause-serves
returns-in-Ok-clause-serves g c =
    let t = c.args.self.now in
    let h = (c.in-Some.handle).now in
    let o = (c.in-Some.opened).now in
    let before : Seen = seen g.F.Folder.nodes g.F.Folder.faults c.args.folder.now in
    let after : Seen = seen g.F.Folder.nodes g.F.Folder.faults c.resize.new.self in
    let plain = c.requires.file h o c.in-Some.ensures.some.0 c.in-Some.ensures.some.1 in
    let within = near_is max_len c.args.asked (λ far. omega arith) in
    changed_about t before after c.requires.over c.requires.sound (ends c.args.file c.args.moment c.args.count c.args.asked c.args.end)
    (calm_by before after c.in-Ok.ensures.counted) (Count c.args.count) _ (ap is_some c.in-Some.ensures.some.1) c.changed.result c.changed.ensures _ c.in-Ok.ensures.does
    (λ nodes told holds. (
      with_put nodes (lemma.end_node t c.requires.sound c.args.moment c.args.file c.args.count h o c.in-Some.ensures.some.0 c.in-Some.ensures.some.1 nodes holds c.args.asked c.args.end plain c.requires.most within),
      ap (λ (p : Names). folder_resize p c.args.end c.args.moment nodes) c.names.ensures.names ∙ lemma.end_does t c.requires.sound c.args.moment c.args.file c.args.count h o c.in-Some.ensures.some.0 c.in-Some.ensures.some.1 nodes holds c.args.asked c.args.end plain c.requires.most within,
      put_holds t nodes holds o.path _ _ (table.there t c.requires.sound nodes holds c.args.file h o c.in-Some.ensures.some.0 c.in-Some.ensures.some.1)
          (refl, lemma.end_kind t c.requires.sound c.args.moment c.args.file c.args.count h o c.in-Some.ensures.some.0 c.in-Some.ensures.some.1 nodes holds c.args.asked c.args.end plain c.requires.most within),
      lemma.end_done t c.requires.sound c.args.moment c.args.file c.args.count h o c.in-Some.ensures.some.0 c.in-Some.ensures.some.1 nodes holds c.args.asked c.args.end plain c.requires.most within,
    ))
