use Rattle.std.proofs.Common.{◌≡◌, ◌∙◌, refl, sym, ◌==◌, length, ap, ℕ, List, [], Some, true}
use Rattle.rd_contents.specs.Contents.{part}
use Rattle.rd_dirinfo.specs.Paths.{Names}
use Rattle.rd_drive.specs.DriveState.{Node, bytes_of}
use Rattle.rd_drive.specs.ReadWrite.{read}
use Rattle.rd_drive.specs.Outcome.{on_handle}
use Rattle.rd_base.specs.Statuses.{access_denied, end_of_file, file_lock_conflict, invalid_device_request, invalid_handle}
use Rattle.rd_folder.specs.FolderCalls.{folder_read}
use Rattle.rd_folder_drive.specs.Served.{Seen, seen}
use Rattle.rd_folder_drive.proofs.AskLemmas.{answer_is, asks_same, calm_by, reads_only}
use Rattle.rd_folder_drive.proofs.ReadLemmas as lemma
use Rattle.rd_folder_drive.proofs.ReadLemmas.{none_left, some_left}
use Rattle.rd_locks.specs.Locks.{may_read}
use Rattle.rd_drive.specs.Outcome.{no_news, succeeded}
use Rattle.rd_irp.specs.declared.completion.Body.TheVariants.{Buffer}
use Rattle.std.proofs.lemmas.Bool.{eq-eqb, ne_eqb}
use Rattle.rd_folder_drive.specs.Table.{drive_of}
use Rattle.rd_folder_drive.proofs.ServeLemmas.{done_at_once_quietly, done_quietly, refused_at_once, refused_so}
use Rattle.rd_folder_drive.proofs.TableLemmas.{unopened}
use Rattle.rd_folder_drive.proofs.table.Table.read.Goals as goal

-- src/read_write.rt:47:13
pub returns-in_default-clause-serves : goal.returns-in_default-clause-serves
returns-in_default-clause-serves g c =
    refused_at_once c.args.self.now (seen g.F.Folder.nodes g.F.Folder.faults c.args.folder.now) c.requires.over c.requires.sound (λ s. on_handle s c.args.file (read s c.args.file c.args.offset c.args.length))
    invalid_handle (refl, refl) (λ nodes holds. unopened c.args.self.now nodes c.args.file _ (c.held.ensures.none c.in_default.is))

-- src/read_write.rt:50:13
pub returns-then-opened-clause-serves : goal.returns-then-opened-clause-serves
returns-then-opened-clause-serves g c =
    refused_at_once c.args.self.now (seen g.F.Folder.nodes g.F.Folder.faults c.args.folder.now) c.requires.over c.requires.sound (λ s. on_handle s c.args.file (read s c.args.file c.args.offset c.args.length))
    invalid_device_request (refl, refl)
    (λ nodes holds. lemma.read_folder c.args.self.now c.requires.sound c.args.file c.args.offset c.args.length (c.in-Some.handle).now (c.in-Some.opened).now c.in-Some.ensures.some.0 c.in-Some.ensures.some.1 nodes holds c.if-opened.true)

-- src/read_write.rt:53:13
pub returns-then-not-reads-clause-serves : goal.returns-then-not-reads-clause-serves
returns-then-not-reads-clause-serves g c =
    refused_at_once c.args.self.now (seen g.F.Folder.nodes g.F.Folder.faults c.args.folder.now) c.requires.over c.requires.sound (λ s. on_handle s c.args.file (read s c.args.file c.args.offset c.args.length))
    access_denied (refl, refl)
    (λ nodes holds. lemma.read_denied c.args.self.now c.requires.sound c.args.file c.args.offset c.args.length (c.in-Some.handle).now (c.in-Some.opened).now c.in-Some.ensures.some.0 c.in-Some.ensures.some.1 nodes holds c.if-opened.false (sym c.if-not-reads.ensures))

-- src/read_write.rt:57:13
pub returns-then-length-eq0-clause-serves : goal.returns-then-length-eq0-clause-serves
returns-then-length-eq0-clause-serves g c =
    done_at_once_quietly c.args.self.now (seen g.F.Folder.nodes g.F.Folder.faults c.args.folder.now) c.requires.over c.requires.sound (λ s. on_handle s c.args.file (read s c.args.file c.args.offset c.args.length))
    _ c.none.result c.none.ensures
    (λ nodes holds. lemma.read_nothing c.args.self.now c.requires.sound c.args.file c.args.offset c.args.length (c.in-Some.handle).now (c.in-Some.opened).now c.in-Some.ensures.some.0 c.in-Some.ensures.some.1 nodes holds c.if-opened.false (sym c.if-not-reads.ensures) c.min-length.result c.min-length.ensures (eq-eqb c.min-length.result 0 c.if-length-eq0.true)
    ∙ ap (λ (bytes : List ℕ). succeeded (drive_of c.args.self.now nodes) (Buffer bytes) no_news) (sym (c.of.ensures ∙ c.requires.room)))

-- src/read_write.rt:64:13
pub returns-then-not-may_read-clause-serves : goal.returns-then-not-may_read-clause-serves
returns-then-not-may_read-clause-serves g c =
    refused_at_once c.args.self.now (seen g.F.Folder.nodes g.F.Folder.faults c.args.folder.now) c.requires.over c.requires.sound (λ s. on_handle s c.args.file (read s c.args.file c.args.offset c.args.length))
    file_lock_conflict (refl, refl)
    (λ nodes holds. lemma.read_locked c.args.self.now c.requires.sound c.args.file c.args.offset c.args.length (c.in-Some.handle).now (c.in-Some.opened).now c.in-Some.ensures.some.0 c.in-Some.ensures.some.1 nodes holds c.if-opened.false (sym c.if-not-reads.ensures) c.min-length.result c.min-length.ensures (ne_eqb c.min-length.result 0 c.if-length-eq0.false)
    (ap (λ (n : ℕ). may_read (c.args.self.now).locks.locks (c.in-Some.handle).now.node c.args.file (record { offset = c.args.offset; length = n })) (sym c.from.ensures) ∙ sym c.if-not-may_read.ensures))

-- src/read_write.rt:32:5
pub returns-in-Ok-clause-serves : goal.returns-in-Ok-clause-serves
returns-in-Ok-clause-serves g c =
    let before : Seen = seen g.F.Folder.nodes g.F.Folder.faults c.args.folder.now in
    let after : Seen = seen g.F.Folder.nodes g.F.Folder.faults c.read.new.self in
    let free : may_read (c.args.self.now).locks.locks (c.in-Some.handle).now.node c.args.file (record { offset = c.args.offset; length = c.min-length.result }) ≡ true = (ap (λ (n : ℕ). may_read (c.args.self.now).locks.locks (c.in-Some.handle).now.node c.args.file (record { offset = c.args.offset; length = n })) (sym c.from.ensures) ∙ sym c.if-not-may_read.ensures) in
    let none : c.in-Ok.bytes ≡ [] = none_left c.in-Ok.bytes (ap (λ (l : List ℕ). length l == 0) (sym c.as_slice.ensures) ∙ sym c.if-is_empty.ensures) in
    refused_so c.args.self.now before after c.requires.over (asks_same before after _ (λ nodes bytes left is. reads_only _ _ _ nodes bytes left is) c.in-Ok.bytes c.in-Ok.ensures.does) c.requires.sound (λ s. on_handle s c.args.file (read s c.args.file c.args.offset c.args.length))
    (calm_by before after c.in-Ok.ensures.counted) end_of_file (refl, refl)
    (λ nodes told holds.
    let came : (left : List Node) × (folder_read c.names.result.now c.args.offset c.min-length.result nodes ≡ Some (c.in-Ok.bytes, left)) × (after.told ≡ Some left) = answer_is before after _ c.in-Ok.bytes c.in-Ok.ensures.does nodes told in
    lemma.read_past c.args.self.now c.requires.sound c.args.file c.args.offset c.args.length (c.in-Some.handle).now (c.in-Some.opened).now c.in-Some.ensures.some.0 c.in-Some.ensures.some.1 nodes holds c.if-opened.false (sym c.if-not-reads.ensures) c.min-length.result c.min-length.ensures (ne_eqb c.min-length.result 0 c.if-length-eq0.false) free (lemma.answered c.args.self.now c.requires.sound c.args.file c.args.offset c.args.length (c.in-Some.handle).now (c.in-Some.opened).now c.in-Some.ensures.some.0 c.in-Some.ensures.some.1 nodes holds c.if-opened.false (sym c.if-not-reads.ensures) c.min-length.result c.min-length.ensures (ne_eqb c.min-length.result 0 c.if-length-eq0.false) free c.in-Ok.bytes came.0 (ap (λ (p : Names). folder_read p c.args.offset c.min-length.result nodes) (sym c.names.ensures.names) ∙ came.1) ∙ none))

-- src/read_write.rt:32:5
pub returns-in-Ok-2-clause-serves : goal.returns-in-Ok-2-clause-serves
returns-in-Ok-2-clause-serves g c =
    let before : Seen = seen g.F.Folder.nodes g.F.Folder.faults c.args.folder.now in
    let after : Seen = seen g.F.Folder.nodes g.F.Folder.faults c.read.new.self in
    let free : may_read (c.args.self.now).locks.locks (c.in-Some.handle).now.node c.args.file (record { offset = c.args.offset; length = c.min-length.result }) ≡ true = (ap (λ (n : ℕ). may_read (c.args.self.now).locks.locks (c.in-Some.handle).now.node c.args.file (record { offset = c.args.offset; length = n })) (sym c.from.ensures) ∙ sym c.if-not-may_read.ensures) in
    let some : (c.in-Ok.bytes ≡ []) → ⊥ = λ none. some_left c.in-Ok.bytes (ap (λ (l : List ℕ). length l == 0) (sym c.as_slice.ensures) ∙ sym c.if-is_empty.ensures) (none) in
    done_quietly c.args.self.now before after c.requires.over (asks_same before after _ (λ nodes bytes left is. reads_only _ _ _ nodes bytes left is) c.in-Ok.bytes c.in-Ok.ensures.does) c.requires.sound (λ s. on_handle s c.args.file (read s c.args.file c.args.offset c.args.length))
    (calm_by before after c.in-Ok.ensures.counted) _ c.none-in-Ok-2.result c.none-in-Ok-2.ensures
    (λ nodes told holds.
    let came : (left : List Node) × (folder_read c.names.result.now c.args.offset c.min-length.result nodes ≡ Some (c.in-Ok.bytes, left)) × (after.told ≡ Some left) = answer_is before after _ c.in-Ok.bytes c.in-Ok.ensures.does nodes told in
    let part_is : part (bytes_of (lemma.node c.args.self.now c.requires.sound c.args.file c.args.offset c.args.length (c.in-Some.handle).now (c.in-Some.opened).now c.in-Some.ensures.some.0 c.in-Some.ensures.some.1 nodes holds)) c.args.offset c.min-length.result ≡ c.in-Ok.bytes = lemma.answered c.args.self.now c.requires.sound c.args.file c.args.offset c.args.length (c.in-Some.handle).now (c.in-Some.opened).now c.in-Some.ensures.some.0 c.in-Some.ensures.some.1 nodes holds c.if-opened.false (sym c.if-not-reads.ensures) c.min-length.result c.min-length.ensures (ne_eqb c.min-length.result 0 c.if-length-eq0.false) free c.in-Ok.bytes came.0 (ap (λ (p : Names). folder_read p c.args.offset c.min-length.result nodes) (sym c.names.ensures.names) ∙ came.1) in
    lemma.read_given c.args.self.now c.requires.sound c.args.file c.args.offset c.args.length (c.in-Some.handle).now (c.in-Some.opened).now c.in-Some.ensures.some.0 c.in-Some.ensures.some.1 nodes holds c.if-opened.false (sym c.if-not-reads.ensures) c.min-length.result c.min-length.ensures (ne_eqb c.min-length.result 0 c.if-length-eq0.false) free (λ none. some (sym part_is ∙ none)) ∙ ap (λ (bytes : List ℕ). succeeded (drive_of c.args.self.now nodes) (Buffer bytes) no_news) part_is)
