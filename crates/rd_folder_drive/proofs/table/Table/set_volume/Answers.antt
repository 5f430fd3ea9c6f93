use Rattle.std.proofs.Common.{refl, subst}
use Rattle.std.proofs.lemmas.Bool.{eq-eqb, ne_eqb}
use Rattle.rd_base.specs.Reading.{ForBad}
use Rattle.rd_base.specs.Statuses.{invalid_handle, invalid_info_class, invalid_parameter}
use Rattle.rd_fileinfo.specs.Label.{FirstFaultOfLabel}
use Rattle.rd_drive.proofs.LabelLemmas.{label_faulty, label_limit, label_spelled}
use Rattle.rd_drive.specs.Outcome.{on_handle}
use Rattle.rd_drive.specs.SetVolume.{set_volume}
use Rattle.rd_folder_drive.proofs.AloneLemmas.{alone_quiet, alone_refused}
use Rattle.rd_folder_drive.proofs.QueryLemmas as lemma
use Rattle.rd_folder_drive.proofs.QueryLemmas.{holds_label, sound_label}
use Rattle.rd_folder_drive.proofs.TableLemmas.{unopened}
use Rattle.rd_folder_drive.proofs.table.Table.set_volume.Goals as goal

pub returns-in_default-clause-serves : goal.returns-in_default-clause-serves
returns-in_default-clause-serves c =
    alone_refused c.args.self.now (λ s. on_handle s c.args.file (set_volume s c.args.class (c.args.bytes).now)) c.requires.sound c.args.self.now refl invalid_handle (refl, refl)
    (λ nodes holds. unopened c.args.self.now nodes c.args.file _ (c.held.ensures.none c.in_default.is))

pub returns-then-class-ne-LABEL-clause-serves : goal.returns-then-class-ne-LABEL-clause-serves
returns-then-class-ne-LABEL-clause-serves c =
    alone_refused c.args.self.now (λ s. on_handle s c.args.file (set_volume s c.args.class (c.args.bytes).now)) c.requires.sound c.args.self.now refl invalid_info_class (refl, refl)
    (λ nodes holds. lemma.label_refused c.args.self.now c.requires.sound c.args.file (c.in-Some.field-0-0).now (c.in-Some.field-0-1).now c.in-Some.ensures.some.0 c.in-Some.ensures.some.1 c.args.class nodes holds (c.args.bytes).now (ne_eqb c.args.class 2 c.if-class-ne-LABEL.true))

pub returns-in-Ok-clause-serves : goal.returns-in-Ok-clause-serves
returns-in-Ok-clause-serves c =
    let spelled = c.in-Ok.ensures.spelled in
    alone_quiet c.args.self.now _ (λ s. on_handle s c.args.file (set_volume s c.args.class (c.args.bytes).now)) _ c.none.result
    (sound_label c.args.self.now c.requires.sound c.in-Ok.label (label_limit c.in-Ok.label spelled.0 (c.args.bytes).now spelled.1)) c.none.ensures
    (λ nodes holds. (
      holds_label c.args.self.now nodes holds c.in-Ok.label,
      lemma.label_some c.args.self.now c.requires.sound c.args.file (c.in-Some.field-0-0).now (c.in-Some.field-0-1).now c.in-Some.ensures.some.0 c.in-Some.ensures.some.1 c.args.class nodes holds (c.args.bytes).now (eq-eqb c.args.class 2 c.if-class-ne-LABEL.false) c.in-Ok.label (label_spelled c.in-Ok.label spelled.0 (c.args.bytes).now spelled.1),
    ))

pub returns-in-Err-Bad-clause-serves : goal.returns-in-Err-Bad-clause-serves
returns-in-Err-Bad-clause-serves c =
    let faulty = subst (ForBad (FirstFaultOfLabel (c.args.bytes).now)) c.in-Err-Bad.field-0-is c.in-Err-Bad.ensures.refused in
    alone_refused c.args.self.now (λ s. on_handle s c.args.file (set_volume s c.args.class (c.args.bytes).now)) c.requires.sound c.args.self.now refl invalid_parameter (refl, refl)
    (λ nodes holds. lemma.label_none c.args.self.now c.requires.sound c.args.file (c.in-Some.field-0-0).now (c.in-Some.field-0-1).now c.in-Some.ensures.some.0 c.in-Some.ensures.some.1 c.args.class nodes holds (c.args.bytes).now (eq-eqb c.args.class 2 c.if-class-ne-LABEL.false) (label_faulty (c.args.bytes).now c.in-Err-Bad.field-0-0 faulty))
