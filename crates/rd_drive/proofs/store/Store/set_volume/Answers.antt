use Rattle.std.proofs.Common.{◌≡◌, sym, subst, ℕ, ◌==◌, true, false, inl, arith}
use Rattle.std.proofs.lemmas.Bool.Decides.{nat_tests}
use Rattle.rd_base.specs.Reading.{ForBad}
use Rattle.rd_fileinfo.specs.Label.{FirstFaultOfLabel}
use Rattle.rd_drive.specs.SetVolume.{set_volume}
use Rattle.rd_drive.specs.Store.{drive_of}
use Rattle.rd_drive.proofs.HandleLemmas.{unopened}
use Rattle.rd_drive.proofs.ServesLemmas.{serves_quiet}
use Rattle.rd_drive.proofs.LabelLemmas.{label_limit, label_spelled, label_faulty, label_refused, label_none, label_some, sound_label}
use Rattle.rd_drive.proofs.store.Store.set_volume.Goals as goal

pub returns-in_default : goal.returns-in_default
returns-in_default c = (c.requires, inl (unopened c.args.self.now c.args.file (set_volume (drive_of c.args.self.now) c.args.class c.args.bytes.now) (sym c.in_default.ensures)))

pub returns-then-class-ne-LABEL : goal.returns-then-class-ne-LABEL
returns-then-class-ne-LABEL c =
    let s = c.args.self.now in
    (c.requires, inl (label_refused s c.requires c.args.file c.in-Some.field-0.now (sym c.in-Some.ensures) c.args.class c.args.bytes.now (other_class c.args.class c.if-class-ne-LABEL.true)))
  where
    other_class : (n : ℕ) → (n ≡ 2 → ⊥) → (n == 2) ≡ false
    other_class n e = grind (arith, nat_tests)

same_class : (n : ℕ) → n ≡ 2 → (n == 2) ≡ true
same_class n e = grind (arith, nat_tests)

pub returns-in-Ok : goal.returns-in-Ok
returns-in-Ok c =
    let s = c.args.self.now in
    let spelled = c.in-Ok.ensures.spelled in
    serves_quiet s (record s { label = c.in-Ok.label }) _ _ _ (sound_label s c.requires c.in-Ok.label (label_limit c.in-Ok.label spelled.0 c.args.bytes.now spelled.1)) c.none.ensures
    (label_some s c.requires c.args.file c.in-Some.field-0.now (sym c.in-Some.ensures) c.args.class c.args.bytes.now (same_class c.args.class c.if-class-ne-LABEL.false) c.in-Ok.label
    (label_spelled c.in-Ok.label spelled.0 c.args.bytes.now spelled.1))

pub returns-in-Err-Bad : goal.returns-in-Err-Bad
returns-in-Err-Bad c =
    let s = c.args.self.now in
    let faulty = subst (ForBad (FirstFaultOfLabel c.args.bytes.now)) c.in-Err-Bad.field-0-is c.in-Err-Bad.ensures.refused in (
      c.requires,
      inl (label_none s c.requires c.args.file c.in-Some.field-0.now (sym c.in-Some.ensures) c.args.class c.args.bytes.now (same_class c.args.class c.if-class-ne-LABEL.false)
          (label_faulty c.args.bytes.now c.in-Err-Bad.field-0-0 faulty)),
    )
