use Rattle.std.proofs.Common.{◌∙◌, refl, sym, ap, length}
use Rattle.std.specs.Option.{is_some}
use Rattle.rd_dirinfo.specs.Paths.{Names}
use Rattle.rd_folder.specs.FolderCalls.{folder_write, with_put}
use Rattle.rd_irp.specs.declared.completion.Body.TheVariants.{Count}
use Rattle.rd_drive.specs.ReadWrite.{write}
use Rattle.rd_drive.specs.Outcome.{on_handle}
use Rattle.rd_base.specs.Statuses.{access_denied, disk_full, file_lock_conflict, invalid_device_request, invalid_handle}
use Rattle.rd_folder_drive.specs.Served.{Seen, seen}
use Rattle.rd_folder_drive.proofs.AskLemmas.{calm_by}
use Rattle.rd_folder_drive.proofs.PutLemmas.{put_holds}
use Rattle.rd_folder_drive.proofs.ServeLemmas.{changed_about, done_at_once_quietly, refused_at_once}
use Rattle.rd_folder_drive.proofs.TableLemmas.{unopened}
use Rattle.rd_folder_drive.proofs.TableLemmas as table
use Rattle.rd_folder_drive.proofs.WriteLemmas as lemma
use Rattle.rd_folder_drive.proofs.table.Table.write.Goals as goal

pub returns-in_default-clause-serves : goal.returns-in_default-clause-serves
returns-in_default-clause-serves g c =
    refused_at_once c.args.self.now (seen g.F.Folder.nodes g.F.Folder.faults c.args.folder.now) c.requires.over c.requires.sound (λ s. on_handle s c.args.file (write s c.args.moment c.args.file c.args.offset (c.args.bytes).now))
    invalid_handle (refl, refl) (λ nodes holds. unopened c.args.self.now nodes c.args.file _ (c.held.ensures.none c.in_default.is))

pub returns-then-opened-clause-serves : goal.returns-then-opened-clause-serves
returns-then-opened-clause-serves g c =
    refused_at_once c.args.self.now (seen g.F.Folder.nodes g.F.Folder.faults c.args.folder.now) c.requires.over c.requires.sound (λ s. on_handle s c.args.file (write s c.args.moment c.args.file c.args.offset (c.args.bytes).now))
    invalid_device_request (refl, refl) (λ nodes holds. lemma.write_folder c.args.self.now c.requires.sound c.args.moment c.args.file c.args.offset (c.args.bytes).now (c.in-Some.handle).now (c.in-Some.opened).now c.in-Some.ensures.some.0 c.in-Some.ensures.some.1 nodes holds c.if-opened.true)

pub returns-then-not-writes-clause-serves : goal.returns-then-not-writes-clause-serves
returns-then-not-writes-clause-serves g c =
    refused_at_once c.args.self.now (seen g.F.Folder.nodes g.F.Folder.faults c.args.folder.now) c.requires.over c.requires.sound (λ s. on_handle s c.args.file (write s c.args.moment c.args.file c.args.offset (c.args.bytes).now))
    access_denied (refl, refl) (λ nodes holds. lemma.write_denied c.args.self.now c.requires.sound c.args.moment c.args.file c.args.offset (c.args.bytes).now (c.in-Some.handle).now (c.in-Some.opened).now c.in-Some.ensures.some.0 c.in-Some.ensures.some.1 nodes holds c.if-opened.false (sym c.if-not-writes.ensures))

pub returns-then-is_empty-clause-serves : goal.returns-then-is_empty-clause-serves
returns-then-is_empty-clause-serves g c =
    done_at_once_quietly c.args.self.now (seen g.F.Folder.nodes g.F.Folder.faults c.args.folder.now) c.requires.over c.requires.sound (λ s. on_handle s c.args.file (write s c.args.moment c.args.file c.args.offset (c.args.bytes).now))
    _ c.none.result c.none.ensures (λ nodes holds. lemma.write_nothing c.args.self.now c.requires.sound c.args.moment c.args.file c.args.offset (c.args.bytes).now (c.in-Some.handle).now (c.in-Some.opened).now c.in-Some.ensures.some.0 c.in-Some.ensures.some.1 nodes holds c.if-opened.false (sym c.if-not-writes.ensures) (sym c.if-is_empty.ensures))

pub returns-then-not-may_write-clause-serves : goal.returns-then-not-may_write-clause-serves
returns-then-not-may_write-clause-serves g c =
    refused_at_once c.args.self.now (seen g.F.Folder.nodes g.F.Folder.faults c.args.folder.now) c.requires.over c.requires.sound (λ s. on_handle s c.args.file (write s c.args.moment c.args.file c.args.offset (c.args.bytes).now))
    file_lock_conflict (refl, refl) (λ nodes holds. lemma.write_locked c.args.self.now c.requires.sound c.args.moment c.args.file c.args.offset (c.args.bytes).now (c.in-Some.handle).now (c.in-Some.opened).now c.in-Some.ensures.some.0 c.in-Some.ensures.some.1 nodes holds c.if-opened.false (sym c.if-not-writes.ensures) (sym c.if-is_empty.ensures) (sym c.if-not-may_write.ensures))

pub returns-then-is_past_limit-clause-serves : goal.returns-then-is_past_limit-clause-serves
returns-then-is_past_limit-clause-serves g c =
    refused_at_once c.args.self.now (seen g.F.Folder.nodes g.F.Folder.faults c.args.folder.now) c.requires.over c.requires.sound (λ s. on_handle s c.args.file (write s c.args.moment c.args.file c.args.offset (c.args.bytes).now))
    disk_full (refl, refl) (λ nodes holds. lemma.write_full c.args.self.now c.requires.sound c.args.moment c.args.file c.args.offset (c.args.bytes).now (c.in-Some.handle).now (c.in-Some.opened).now c.in-Some.ensures.some.0 c.in-Some.ensures.some.1 nodes holds c.if-opened.false (sym c.if-not-writes.ensures) (sym c.if-is_empty.ensures) (sym c.if-not-may_write.ensures) (sym c.if-is_past_limit.ensures))

pub returns-in-Ok-clause-serves : goal.returns-in-Ok-clause-serves
returns-in-Ok-clause-serves g c =
    let before : Seen = seen g.F.Folder.nodes g.F.Folder.faults c.args.folder.now in
    let after : Seen = seen g.F.Folder.nodes g.F.Folder.faults c.write.new.self in
    changed_about c.args.self.now before after c.requires.over c.requires.sound (λ s. on_handle s c.args.file (write s c.args.moment c.args.file c.args.offset (c.args.bytes).now))
    (calm_by before after c.in-Ok.ensures.counted) (Count (length (c.args.bytes).now)) _ (ap is_some c.in-Some.ensures.some.1) c.changed.result c.changed.ensures _ c.in-Ok.ensures.does
    (λ nodes told holds. (
      with_put nodes (lemma.new c.args.self.now c.requires.sound c.args.moment c.args.file c.args.offset (c.args.bytes).now (c.in-Some.handle).now (c.in-Some.opened).now c.in-Some.ensures.some.0 c.in-Some.ensures.some.1 nodes holds c.if-opened.false (sym c.if-not-writes.ensures) (sym c.if-is_empty.ensures) (sym c.if-not-may_write.ensures) (sym c.if-is_past_limit.ensures)),
      ap (λ (p : Names). folder_write p c.args.offset (c.args.bytes).now c.args.moment nodes) c.names.ensures.names ∙ lemma.write_does c.args.self.now c.requires.sound c.args.moment c.args.file c.args.offset (c.args.bytes).now (c.in-Some.handle).now (c.in-Some.opened).now c.in-Some.ensures.some.0 c.in-Some.ensures.some.1 nodes holds c.if-opened.false (sym c.if-not-writes.ensures) (sym c.if-is_empty.ensures) (sym c.if-not-may_write.ensures) (sym c.if-is_past_limit.ensures),
      put_holds c.args.self.now nodes holds (c.in-Some.opened).now.path _ _ (table.there c.args.self.now c.requires.sound nodes holds c.args.file (c.in-Some.handle).now (c.in-Some.opened).now c.in-Some.ensures.some.0 c.in-Some.ensures.some.1)
          (refl, sym (table.kind c.args.self.now c.requires.sound nodes holds c.args.file (c.in-Some.handle).now (c.in-Some.opened).now c.in-Some.ensures.some.0 c.in-Some.ensures.some.1 ∙ c.if-opened.false)),
      lemma.write_done c.args.self.now c.requires.sound c.args.moment c.args.file c.args.offset (c.args.bytes).now (c.in-Some.handle).now (c.in-Some.opened).now c.in-Some.ensures.some.0 c.in-Some.ensures.some.1 nodes holds c.if-opened.false (sym c.if-not-writes.ensures) (sym c.if-is_empty.ensures) (sym c.if-not-may_write.ensures) (sym c.if-is_past_limit.ensures),
    ))
