use Rattle.std.proofs.Common.{sym, inl}
use Rattle.rd_drive.specs.Outcome.{refused}
use Rattle.rd_base.specs.Statuses.{not_supported}
use Rattle.rd_drive.specs.Store.{drive_of}
use Rattle.rd_drive.proofs.HandleLemmas.{on_open, opened_place, unopened}
use Rattle.rd_drive.proofs.store.Store.control.Goals as goal

pub returns-in-Some : goal.returns-in-Some
returns-in-Some c =
    let s = c.args.self.now in
    let h = c.in-Some.field-0.now in
    let there = sym c.in-Some.ensures in
    let x = opened_place s c.requires.sound c.args.file h there in
    (c.requires.sound, inl (on_open s c.requires.sound c.args.file h there x.0 x.1 (λ handle node. refused (drive_of s) not_supported)))

pub returns-in-None : goal.returns-in-None
returns-in-None c =
    let s = c.args.self.now in
    (c.requires.sound, inl (unopened s c.args.file (λ handle node. refused (drive_of s) not_supported) (sym c.in-None.ensures)))
