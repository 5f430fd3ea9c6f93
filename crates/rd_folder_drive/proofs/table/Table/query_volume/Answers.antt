use Rattle.std.proofs.Common.{◌∙◌, refl, sym, ap, subst, ◌≤◌, length, ℕ, List, ◌++◌}
use Rattle.rd_base.specs.Statuses.{invalid_handle}
use Rattle.rd_fileinfo.specs.VolumeInfo.{volume_info_bytes}
use Rattle.rd_irp.specs.Fits.{max_buffer}
use Rattle.rd_irp.specs.declared.completion.Body.TheVariants.{Buffer}
use Rattle.rd_drive.proofs.LengthLemmas.{can_count}
use Rattle.rd_drive.specs.Outcome.{no_news, on_handle, succeeded}
use Rattle.rd_drive.specs.Query.{query_volume}
use Rattle.rd_folder_drive.specs.Table.{drive_of}
use Rattle.rd_folder_drive.proofs.AloneLemmas.{alone_quiet, alone_refused}
use Rattle.rd_folder_drive.proofs.QueryLemmas as lemma
use Rattle.rd_folder_drive.proofs.QueryLemmas.{untold_alone, volume_short}
use Rattle.rd_folder_drive.proofs.TableLemmas.{unopened}
use Rattle.rd_folder_drive.proofs.table.Table.query_volume.Goals as goal

pub returns-in_default-clause-serves : goal.returns-in_default-clause-serves
returns-in_default-clause-serves c =
    alone_refused c.args.self.now (λ s. on_handle s c.args.file (query_volume s c.args.class)) c.requires.sound c.args.self.now refl invalid_handle (refl, refl)
    (λ nodes holds. unopened c.args.self.now nodes c.args.file _ (c.held.ensures.none c.in_default.is))

pub returns-in-Err-clause-serves : goal.returns-in-Err-clause-serves
returns-in-Err-clause-serves c =
    untold_alone c.args.self.now c.requires.sound (λ s. on_handle s c.args.file (query_volume s c.args.class)) _ c.in-Err.status c.in-Err.ensures.err
    (λ none nodes holds. lemma.volume_untold c.args.self.now c.requires.sound c.args.file (c.in-Some.field-0-0).now (c.in-Some.field-0-1).now c.in-Some.ensures.some.0 c.in-Some.ensures.some.1 c.args.class nodes holds none)

pub returns-in-Ok-put_volume-clause-serves : goal.returns-in-Ok-put_volume-clause-serves
returns-in-Ok-put_volume-clause-serves c =
    alone_quiet c.args.self.now c.args.self.now (λ s. on_handle s c.args.file (query_volume s c.args.class)) _ c.none.result c.requires.sound c.none.ensures
    (λ nodes holds. (
      holds,
      lemma.volume_told c.args.self.now c.requires.sound c.args.file (c.in-Some.field-0-0).now (c.in-Some.field-0-1).now c.in-Some.ensures.some.0 c.in-Some.ensures.some.1 c.args.class nodes holds c.in-Ok.info c.in-Ok.ensures.ok
          ∙ ap (λ (bytes : List ℕ). succeeded (drive_of c.args.self.now nodes) (Buffer bytes) no_news) (sym (c.of.ensures ∙ c.in-Ok-put_volume.ensures.bytes ∙ ap (λ (l : List ℕ). l ++ volume_info_bytes c.in-Ok.info) c.requires.room)),
    ))

pub returns-in-Ok-put_volume-clause-fits : goal.returns-in-Ok-put_volume-clause-fits
returns-in-Ok-put_volume-clause-fits c =
    let few : length c.of.result ≤ max_buffer =
    subst (λ (l : List ℕ). length l ≤ max_buffer) (sym (c.of.ensures ∙ c.in-Ok-put_volume.ensures.bytes ∙ ap (λ (l : List ℕ). l ++ volume_info_bytes c.in-Ok.info) c.requires.room))
    (volume_short (c.args.self.now).label c.requires.sound.label c.args.class c.in-Ok.info c.in-Ok.ensures.ok) in
    ((tt, can_count c.of.result few), few)
