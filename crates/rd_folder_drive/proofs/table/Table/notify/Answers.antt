use Rattle.std.proofs.Common.{refl, sym, ap, arith, add-zero}
use Rattle.std.specs.Option.{is_some}
use Rattle.rd_base.specs.Statuses.{insufficient_resources, invalid_handle, invalid_parameter}
use Rattle.rd_drive.specs.Notify.{notify}
use Rattle.rd_drive.specs.Outcome.{on_handle}
use Rattle.rd_folder_drive.specs.Table.{drive_of}
use Rattle.rd_folder_drive.proofs.AloneLemmas.{alone_refused}
use Rattle.rd_folder_drive.proofs.NotifyLemmas.{notify_file, notify_full, notify_waits}
use Rattle.rd_folder_drive.proofs.ParkLemmas.{alone_parked, waits_last}
use Rattle.rd_folder_drive.proofs.TableLemmas.{unopened}
use Rattle.rd_folder_drive.specs.declared.table.Table.{Table}
use Rattle.rd_folder_drive.specs.Files.{files_in}
use Rattle.rd_folder_drive.proofs.table.Table.notify.Goals as goal

pub returns-in_default-clause-serves : goal.returns-in_default-clause-serves
returns-in_default-clause-serves c =
    let t = c.args.self.now in
    alone_refused t (λ s. on_handle s c.args.file (notify s c.args.key c.args.file c.args.deep c.args.filter)) c.requires.sound t refl invalid_handle (refl, refl)
    (λ nodes holds. unopened t nodes c.args.file (notify (drive_of t nodes) c.args.key c.args.file c.args.deep c.args.filter) (c.in_default.ensures.none refl))

pub returns-then-not-open-clause-serves : goal.returns-then-not-open-clause-serves
returns-then-not-open-clause-serves c =
    let t = c.args.self.now in
    let there = c.in-Some.ensures.some in
    alone_refused t (λ s. on_handle s c.args.file (notify s c.args.key c.args.file c.args.deep c.args.filter)) c.requires.sound t refl invalid_parameter (refl, refl)
    (λ nodes holds. notify_file t c.requires.sound c.args.file c.in-Some.field-0-0.now c.in-Some.open.now there.0 there.1 c.args.key c.args.deep c.args.filter nodes holds c.if-not-open.true)

pub returns-then-len-ge-MAX_WAITING-clause-serves : goal.returns-then-len-ge-MAX_WAITING-clause-serves
returns-then-len-ge-MAX_WAITING-clause-serves c =
    let t = c.args.self.now in
    let there = c.in-Some.ensures.some in
    alone_refused t (λ s. on_handle s c.args.file (notify s c.args.key c.args.file c.args.deep c.args.filter)) c.requires.sound t refl insufficient_resources (refl, refl)
    (λ nodes holds. notify_full t c.requires.sound c.args.file c.in-Some.field-0-0.now c.in-Some.open.now there.0 there.1 c.args.key c.args.deep c.args.filter nodes holds c.if-not-open.false (omega arith))

pub returns-clause-serves : goal.returns-clause-serves
returns-clause-serves c =
    let t = c.args.self.now in
    let there = c.in-Some.ensures.some in
    alone_parked t t _ c.requires.sound t.locks _ _ refl c.park.ensures refl (sym (add-zero t.locks.reserved)) (omega arith) (ap is_some there.0) (c.in-Ok.ensures.items, c.in-Ok.ensures.capacity)
    (λ s. on_handle s c.args.file (notify s c.args.key c.args.file c.args.deep c.args.filter))
    (λ nodes holds. notify_waits t c.requires.sound c.args.file c.in-Some.field-0-0.now c.in-Some.open.now there.0 there.1 c.args.key c.args.deep c.args.filter nodes holds c.if-not-open.false (omega arith))

pub returns-clause-waits : goal.returns-clause-waits
returns-clause-waits c = waits_last c.args.self.now c.args.self.now _ _ _ c.park.ensures refl

pub returns-clause-files : goal.returns-clause-files
returns-clause-files c = ap (λ (t : Table). files_in t) c.park.ensures.same
