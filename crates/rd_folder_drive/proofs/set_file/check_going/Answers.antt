use Rattle.std.proofs.Common.{◌∙◌, refl, sym, ap, inl, inr}
use Rattle.rd_dirinfo.specs.Paths.{Names}
use Rattle.rd_drive.specs.DriveState.{has_children}
use Rattle.rd_folder.specs.Told.{drive_over}
use Rattle.rd_folder_drive.proofs.PendingLemmas.{folder_going}
use Rattle.rd_folder_drive.proofs.set_file.check_going.Goals as goal

pub returns-in-Ok-true-clause-err : goal.returns-in-Ok-true-clause-err
returns-in-Ok-true-clause-err g c =
    inl (
      c.in-Ok-true.ensures.ok.0,
      (refl, refl),
      λ nodes told node there.
          let has = c.requires.there nodes told in
          let going = folder_going nodes c.args.opened.now has.0 node has.1 there (has.2 ∙ c.if-opened.true) c.in-Ok-true.field-0 (ap (λ (p : Names). has_children (drive_over nodes) p) (sym c.names.ensures.names) ∙ c.in-Ok-true.ensures.ok.1 nodes told) in
          inr (refl, going.0, going.1 ∙ c.in-Ok-true.field-0-test),
    )

pub returns-in-Ok-false-clause-ok : goal.returns-in-Ok-false-clause-ok
returns-in-Ok-false-clause-ok g c = (
  c.in-Ok-false.ensures.ok.0,
  λ nodes told node there.
      let has = c.requires.there nodes told in
      let going = folder_going nodes c.args.opened.now has.0 node has.1 there (has.2 ∙ c.if-opened.true) c.in-Ok-false.field-0 (ap (λ (p : Names). has_children (drive_over nodes) p) (sym c.names.ensures.names) ∙ c.in-Ok-false.ensures.ok.1 nodes told) in
      (going.0, going.1 ∙ c.in-Ok-false.field-0-test),
)
