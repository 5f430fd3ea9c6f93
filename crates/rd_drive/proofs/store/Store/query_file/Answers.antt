use Rattle.std.proofs.Common.{◌∙◌, sym, ap, ◌++◌, inl, List, ℕ}
use Rattle.rd_irp.specs.declared.completion.Body.TheVariants.{Buffer}
use Rattle.rd_fileinfo.specs.FileInfo.{file_info_bytes}
use Rattle.rd_drive.specs.Outcome.{no_news, succeeded}
use Rattle.rd_drive.specs.Query.{query_file}
use Rattle.rd_drive.specs.Store.{drive_of}
use Rattle.rd_drive.proofs.HandleLemmas.{unopened}
use Rattle.rd_drive.proofs.ServesLemmas.{serves_quiet}
use Rattle.rd_drive.proofs.QueryLemmas.{file_told, file_untold, untold}
use Rattle.rd_drive.proofs.store.Store.query_file.Goals as goal

pub returns-in_default : goal.returns-in_default
returns-in_default c = (c.requires.sound, inl (unopened c.args.self.now c.args.file (query_file (drive_of c.args.self.now) c.args.class) (sym c.in_default.ensures)))

pub returns-in-Err : goal.returns-in-Err
returns-in-Err c =
    let s = c.args.self.now in
    untold s c.requires.sound _ _ c.in-Err.status c.in-Err.ensures.err (file_untold s c.requires.sound c.args.file c.in-Some.handle.now (sym c.in-Some.ensures) c.args.class)

pub returns-in-Ok-put_file_info : goal.returns-in-Ok-put_file_info
returns-in-Ok-put_file_info c =
    let s = c.args.self.now in
    let bytes = c.of.ensures ∙ c.in-Ok-put_file_info.ensures.bytes ∙ ap (λ (l : List ℕ). l ++ file_info_bytes c.in-Ok.info) c.requires.room in
    serves_quiet s s _ _ _ c.requires.sound c.none.ensures
    (file_told s c.requires.sound c.args.file c.in-Some.handle.now (sym c.in-Some.ensures) c.args.class c.in-Ok.info c.in-Ok.ensures.ok
    ∙ ap (λ (l : List ℕ). succeeded (drive_of s) (Buffer l) no_news) (sym bytes))
