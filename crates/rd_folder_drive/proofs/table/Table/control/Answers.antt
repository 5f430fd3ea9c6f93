use Rattle.std.proofs.Common.{refl}
use Rattle.rd_base.specs.Statuses.{invalid_handle, not_supported}
use Rattle.rd_drive.specs.Outcome.{on_handle, refused}
use Rattle.rd_folder_drive.specs.Table.{drive_of}
use Rattle.rd_folder_drive.proofs.AloneLemmas.{alone_refused}
use Rattle.rd_folder_drive.proofs.TableLemmas.{on_open, unopened}
use Rattle.rd_folder_drive.proofs.table.Table.control.Goals as goal

pub returns-in-Some-clause-serves : goal.returns-in-Some-clause-serves
returns-in-Some-clause-serves c =
    let t = c.args.self.now in
    let h = c.in-Some.field-0.0.now in
    let o = c.in-Some.field-0.1.now in
    let there = c.in-Some.ensures.some in
    alone_refused t (λ s. on_handle s c.args.file (λ handle node. refused s not_supported)) c.requires.sound t refl not_supported (refl, refl)
    (λ nodes holds. on_open t c.requires.sound nodes holds c.args.file h o there.0 there.1 (λ handle node. refused (drive_of t nodes) not_supported))

pub returns-in-None-clause-serves : goal.returns-in-None-clause-serves
returns-in-None-clause-serves c =
    let t = c.args.self.now in
    alone_refused t (λ s. on_handle s c.args.file (λ handle node. refused s not_supported)) c.requires.sound t refl invalid_handle (refl, refl)
    (λ nodes holds. unopened t nodes c.args.file (λ handle node. refused (drive_of t nodes) not_supported) (c.in-None.ensures.none refl))
